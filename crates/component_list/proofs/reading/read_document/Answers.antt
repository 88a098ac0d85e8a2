use Rattle.std.proofs.Common.{refl, inl, inr, rules}
use Rattle.std.proofs.lemmas.Bool.{cases_Bool}
use Rattle.std.proofs.lemmas.Str.{IsUtf8-from_is_utf8, is_utf8-from_IsUtf8}
use Rattle.std.specs.Str.{is_utf8}
use Rattle.component_list.proofs.reading.read_document.Goals as goal

pub returns-in-Ok : goal.returns-in-Ok
returns-in-Ok c = rw (is_utf8-from_IsUtf8 c.args.bytes.now c.in-Ok.ensures.ok.0, c.in-Ok.ensures.ok.1) refl

pub returns-in-Err-2 : goal.returns-in-Err-2
returns-in-Err-2 c =
    elim (cases_Bool (is_utf8 c.args.bytes.now)) [
      | inl good ↦ rw (good, c.in-Err-2.ensures.refused (search rules) (IsUtf8-from_is_utf8 c.args.bytes.now good)) refl
      | inr bad ↦ rw bad refl
    ]
