-- The lines that are written of events.
use Rattle.std.specs.Prelude.{ℕ, Bool, true, false, List, [], ◌++◌, length, filter, codes, decimal}
use Rattle.ns_base.specs.declared.answers.Event.{Event}
use Rattle.ns_base.specs.declared.answers.Event.TheVariants.{Read, Held, Ended}

-- an event as compact JSON, its keys in the order of their bytes
abbrev pub json_text : Event → List ℕ
json_text (Read file bytes) = codes "{\"bytes\":" ++ decimal bytes ++ codes ",\"event\":\"read\",\"file\":" ++ decimal file ++ codes "}"
json_text (Held component callback lock status) = codes "{\"callback\":" ++ decimal callback ++ codes ",\"component\":" ++ decimal component ++ codes ",\"event\":\"held\",\"lock\":" ++ decimal lock ++ codes ",\"status\":" ++ decimal status ++ codes "}"
json_text (Ended exit) = codes "{\"event\":\"ended\",\"exit\":" ++ decimal exit ++ codes "}"

-- the same as a line
abbrev pub json_line : Event → List ℕ
json_line event = json_text event ++ codes "\n"

abbrev pub is_read : Event → Bool
is_read (Read file bytes) = true
is_read (Held component callback lock status) = false
is_read (Ended exit) = false

abbrev pub is_held : Event → Bool
is_held (Read file bytes) = false
is_held (Held component callback lock status) = true
is_held (Ended exit) = false

-- the line of counts that is written at an event, after the earlier ones: none but at the end
abbrev pub count_line : List Event → Event → List ℕ
count_line told (Read file bytes) = []
count_line told (Held component callback lock status) = []
count_line told (Ended exit) = codes "reads " ++ decimal (length (filter is_read told)) ++ codes " helds " ++ decimal (length (filter is_held told)) ++ codes " exit " ++ decimal exit ++ codes "\n"
