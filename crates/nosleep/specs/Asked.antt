-- What words ask for.
use Rattle.std.specs.Prelude.{map, string_bytes}
use Rattle.nosleep.specs.Words.{Form, Receiver, Verify, Check, Request, Rest}
use Rattle.nosleep.specs.declared.words.Asked.{Asked}
use Rattle.nosleep.specs.declared.words.Asked.TheVariants as asked
use Rattle.nosleep.specs.declared.words.Behind.{Behind}
use Rattle.nosleep.specs.declared.words.Order.{Order}

abbrev pub form_by : Asked → Form
form_by (asked.Receiver dex class) = Receiver dex.now class.now
form_by (asked.Verify list files) = Verify list.now (map string_bytes files.now)
form_by (asked.Check cert list files) = Check cert.now list.now (map string_bytes files.now)

-- the words behind options
abbrev pub rest_by : Behind → Rest
rest_by behind = record { options = behind.options; names = map string_bytes behind.names.now }

abbrev pub request_by : Order → Request
request_by order = record { options = order.options; form = form_by order.form }
