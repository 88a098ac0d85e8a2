-- The registers at the start of a method. The argument words fill the last `ins` registers in order; one that is left
-- over is dropped, and a register for which none is left is zero, as are all others and the result cell.
use Rattle.std.specs.Prelude.{ℕ, zero, suc, ◌-◌, List, [], ◌∷◌, ◌++◌, map, drop, replicate, Option, Some, None}
use Rattle.dalvik.specs.declared.ins.Args.{Args}
use Rattle.dalvik.specs.Registers.{args_of}
use Rattle.app_model.specs.declared.rows.MethodRow.{MethodRow}
use Rattle.app_model.specs.declared.tag.Tag.{Tag}
use Rattle.app_model.specs.declared.tag.Tag.TheVariants.{Bot, Zero, Solid, Held, Any, Field, New, Mixed}
use Rattle.app_model.specs.Parts.{AppParts}
use Rattle.app_model.specs.Sound.{params_len}
use Rattle.std.specs.Prelude.{slice_get}
use Rattle.app_model.specs.declared.calls.By.{By}
use Rattle.app_model.specs.declared.calls.By.TheVariants.{Virtual, Super, Direct, Static}
use Rattle.act_model.specs.Changes.{tag_in}

-- so many words
abbrev pub fitted : {A : Type 0} → (empty : A) → (count : ℕ) → List A → List A
fitted empty zero words = []
fitted empty (suc n) [] = empty ∷ fitted empty n []
fitted empty (suc n) (word ∷ words) = word ∷ fitted empty n words

abbrev pub entry_row : {A : Type 0} → (empty : A) → (registers ins : ℕ) → (words : List A) → List A
entry_row empty registers ins words = replicate (registers - ins) empty ++ fitted empty ins words ++ empty ∷ []

-- ---- the tags of a callback's words: its object is solid, its other arguments are no locks
abbrev pub callback_words : AppParts → MethodRow → List Tag
callback_words app method = Solid ∷ replicate (params_len app (slice_get app.protos method.proto.0)) Any

abbrev pub callback_row : AppParts → Option MethodRow → List Tag
callback_row app None = []
callback_row app (Some method) = entry_row Zero method.registers method.ins (callback_words app method)

-- ---- the tags of a call's words: the receiver is solid, and whether a lock is held is not handed on
abbrev pub entering : Tag → Tag
entering (Held l) = Any
entering Bot = Bot
entering Zero = Zero
entering Solid = Solid
entering Any = Any
entering (Field l) = Field l
entering (New s) = New s
entering Mixed = Mixed

abbrev pub entering_words : List Tag → List ℕ → List Tag
entering_words row registers = map (λ r. entering (tag_in row r)) registers

abbrev pub call_words : By → List Tag → Args → List Tag
call_words Static row arguments = entering_words row (args_of arguments)
call_words Virtual row arguments = Solid ∷ entering_words row (drop 1 (args_of arguments))
call_words Super row arguments = Solid ∷ entering_words row (drop 1 (args_of arguments))
call_words Direct row arguments = Solid ∷ entering_words row (drop 1 (args_of arguments))
