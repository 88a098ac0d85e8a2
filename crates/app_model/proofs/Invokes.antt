-- An instruction names a method where it is an invoke, and nowhere else.
use Rattle.std.proofs.Common.{◌≡◌, ℕ, ◌<◌, List, [], length, Some, is_some, slice_get, slice_index_or, refl, ap, ⊎_elim, arith}
use Rattle.std.proofs.lemmas.Option.{slice_get_cases}
use Rattle.dalvik.specs.declared.ins.Ins.{Ins}
use Rattle.dalvik.specs.declared.ins.Ins.TheVariants as ins
use Rattle.app_model.specs.declared.rows.Operand.{Operand}
use Rattle.app_model.specs.declared.rows.Operand.TheVariants.{Plain, Invoke, Access}
use Rattle.app_model.specs.LockUse.{invoke_of}
use Rattle.app_model.specs.Parts.{AppParts}
use Rattle.app_model.specs.Sound.{FitsOperand, IsSoundApp}
use Rattle.app_model.specs.Words.{code_len, ins_at, ins_of, named_at, named_of, operand_at, place_at, places_of}

there : {X : Type 0} (xs : List X) (i : ℕ) → i < length xs → (x : X) × (slice_get xs i ≡ Some x)
there xs i below = ⊎_elim (λ at. (at.0, at.2)) (λ past. absurd (omega (arith, below, past.0))) (slice_get_cases xs i).1

by_operand : (app : AppParts) (own : Ins) (operand : Operand) → FitsOperand app own operand → is_some (named_of (Some operand)) ≡ is_some (invoke_of (Some own))
by_operand app (ins.Invoke op method arguments) (Invoke named) fits = refl
by_operand app (ins.Invoke op method arguments) Plain fits = absurd fits
by_operand app (ins.Invoke op method arguments) (Access field) fits = absurd fits
by_operand app own Plain fits = refl
by_operand app own (Access field) fits = refl
by_operand app own (Invoke named) fits = absurd fits

pub named_exact : (app : AppParts) (m i : ℕ) → IsSoundApp app → m < length app.methods → i < code_len app m
    → is_some (named_at app m i) ≡ is_some (invoke_of (ins_at app m i))
unfolding operand_at place_at
named_exact app m i sound there_m below =
    let method = there app.methods m there_m in
    let place = there (places_of app m) i below in
    let operand = there (slice_index_or app.operands m []) i (omega (arith, below, sound.sizes.each m there_m)) in
    let own : ins_at app m i ≡ Some place.0.ins = ap ins_of place.1 in
    let fits = (sound.methods m method.0 method.1).operands i place.0.ins operand.0 own operand.1 in
    rw (own, operand.1) (by_operand app place.0.ins operand.0 fits)
