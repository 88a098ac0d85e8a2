-- Sets, made one by one.
use Rattle.std.proofs.Common.{◌≡◌, ℕ, zero, suc, ◌+◌, ◌*◌, ◌<◌, ◌≤◌, Bool, true, false, List, [], ◌∷◌, length, refl, sym, ap, ap₂, ◌∙◌, ⊎_elim, arith, get_or, Some, slice_get, slice_set, replicate, subst}
use Rattle.std.specs.Prelude.{if◌then◌else◌}
use Rattle.std.proofs.lemmas.List.{get_or-set_same, length-replicate}
use Rattle.std.proofs.lemmas.Option.{same_Some, slice_get-get_or, slice_get_cases}
use Rattle.ns_base.specs.Answers.{limit_of}
use Rattle.ns_base.specs.declared.answers.Counted.TheVariants.{Targets}
use Rattle.app_model.specs.CallGraph.{TargetParts, no_targets}
use Rattle.app_model.specs.Parts.{AppParts}
use Rattle.call_targets.specs.Made.{AreMade, AreMadeBelow, AreSets, Fills, Grows, HasPlaces, IsToMake, SetsParts, all_rows, none, more, weigh_sets}
use Rattle.call_targets.specs.Numbered.{weigh}
use Rattle.call_targets.specs.Sources.{row_from}
use Rattle.call_targets.specs.declared.numbers.SetRow.{SetRow}

-- no set that is to be made weighs anything
no_weight : (k n : ℕ) → k * 0 + n ≡ n
no_weight k n = grind arith

module _ (app : AppParts) where
  pub made_none : (plan : List SetRow) → AreMade app plan (replicate (length plan) no_targets) (replicate (length plan) false)
  made_none [] = none
  made_none (set ∷ plan) = more refl (made_none plan)

  pub weigh_none : (plan : List SetRow) → weigh_sets plan (replicate (length plan) no_targets) ≡ 0
  weigh_none [] = refl
  weigh_none (set ∷ plan) = no_weight set.keys (weigh_sets plan (replicate (length plan) no_targets)) ∙ weigh_none plan

  pub made_put : {plan : List SetRow} {rows : List TargetParts} {made : List Bool} → AreMade app plan rows made → (s : ℕ) (set : SetRow) (row : TargetParts)
      → slice_get made s ≡ Some false → slice_get plan s ≡ Some set → row ≡ row_from app set.source → AreMade app plan (slice_set rows s row) (slice_set made s true)
  made_put none s set row m e r = absurd (cc)
  made_put (more {set = own} is rest) zero set row m e r = more (r ∙ ap (λ (k : SetRow). row_from app k.source) (sym (same_Some own set e))) rest
  made_put (more is rest) (suc s) set row m e r = more is (made_put rest s set row m e r)

  pub weigh_put : {plan : List SetRow} {rows : List TargetParts} {made : List Bool} → AreMade app plan rows made → (s : ℕ) (set : SetRow) (row : TargetParts)
      → slice_get made s ≡ Some false → slice_get plan s ≡ Some set → weigh_sets plan (slice_set rows s row) ≡ weigh_sets plan rows + set.keys * length row.callees
  weigh_put none s set row m e = absurd (cc)
  weigh_put (more {set = own} {plan = plan} {row = old} {rows = rows} {flag = flag} is rest) zero set row m e =
      let empty : old ≡ no_targets = is ∙ ap (λ (b : Bool). if b then row_from app own.source else no_targets) (same_Some flag false m) in
      let same : own ≡ set = same_Some own set e in
      let w = ap (λ (t : TargetParts). own.keys * length t.callees + weigh_sets plan rows) empty ∙ no_weight own.keys (weigh_sets plan rows) in
      let k = ap (λ (x : SetRow). x.keys * length row.callees) same in
      omega (arith, w, k)
  weigh_put (more is rest) (suc s) set row m e = omega (arith, weigh_put rest s set row m e)

  pub made_less : {plan : List SetRow} {rows : List TargetParts} {made : List Bool} → AreMade app plan rows made → weigh_sets plan rows ≤ weigh app plan
  made_less none = omega arith
  made_less (more {set = set} {row = row} {flag = true} is rest) =
      omega (arith, ap (λ (t : TargetParts). set.keys * length t.callees) is, made_less rest)
  made_less (more {set = set} {plan = plan} {row = row} {rows = rows} {flag = false} is rest) =
      omega (arith, ap (λ (t : TargetParts). set.keys * length t.callees + weigh_sets plan rows) is ∙ no_weight set.keys (weigh_sets plan rows), made_less rest)

  -- the weight of a set that is not made yet comes on top
  pub over_put : {plan : List SetRow} {rows : List TargetParts} {made : List Bool} → AreMade app plan rows made → (s : ℕ) (set : SetRow) (row : TargetParts)
      → slice_get made s ≡ Some false → slice_get plan s ≡ Some set → row ≡ row_from app set.source → weigh_sets plan rows + set.keys * length row.callees ≤ weigh app plan
  over_put made s set row m e r = omega (arith, weigh_put made s set row m e, made_less (made_put made s set row m e r))

  pub made_all : {plan : List SetRow} {rows : List TargetParts} {made : List Bool} → AreMade app plan rows made → ((s : ℕ) → s < length plan → get_or made s false ≡ true) → rows ≡ all_rows app plan
  made_all none all = refl
  made_all (more {set = set} {flag = flag} is rest) all =
      ap₂ (λ (t : TargetParts) (ts : List TargetParts). t ∷ ts) (is ∙ ap (λ (b : Bool). if b then row_from app set.source else no_targets) (all 0 (omega arith)))
      (made_all rest (λ s lt. all (suc s) (omega (arith, lt))))

  pub weigh_all : (plan : List SetRow) → weigh_sets plan (all_rows app plan) ≡ weigh app plan
  weigh_all [] = refl
  weigh_all (set ∷ plan) = ap (λ n. set.keys * length (row_from app set.source).callees + n) (weigh_all plan)

  -- ---- sets
  set_kept : (bs : List Bool) (s k : ℕ) → get_or bs k false ≡ true → get_or (slice_set bs s true) k false ≡ true
  set_kept [] s k e = e
  set_kept (b ∷ bs) zero zero e = refl
  set_kept (b ∷ bs) zero (suc k) e = e
  set_kept (b ∷ bs) (suc s) zero e = e
  set_kept (b ∷ bs) (suc s) (suc k) e = set_kept bs s k e

  pub grows_none : (sets : SetsParts) → AreSets app sets → Grows app sets sets
  grows_none sets are = record { sets = are; plan = refl; kept = λ k e. e }

  pub grows_more : (old mid new : SetsParts) → Grows app old mid → Grows app mid new → Grows app old new
  grows_more old mid new a b = record { sets = b.sets; plan = b.plan ∙ a.plan; kept = λ k e. b.kept k (a.kept k e) }

  module _ (old : SetsParts) (s : ℕ) (row : TargetParts) (lt : s < length old.plan) (len : length old.made ≡ length old.plan) (to : IsToMake app old s row) where
    own : (set : SetRow) × (slice_get old.plan s ≡ Some set)
    own = ⊎_elim (λ at. (at.0, at.2)) (λ past. absurd (omega (arith, past.0, lt))) (slice_get_cases old.plan s).1

    unmade : slice_get old.made s ≡ Some false
    unmade = slice_get-get_or old.made s false (omega (arith, lt, len)) ∙ ap Some to.unmade

    pub fills : (new : SetsParts) (keys : ℕ) → ((set : SetRow) → slice_get old.plan s ≡ Some set → keys ≡ set.keys) → new.plan ≡ old.plan → new.rows ≡ slice_set old.rows s row → new.made ≡ slice_set old.made s true
        → new.total ≡ old.total + keys * length row.callees → new.total ≤ limit_of Targets → Fills app s old new
    fills new keys k plan rows made total few = record {
      grows = record {
        sets = record {
          made = subst (λ (p : List SetRow). AreMade app p new.rows new.made) (sym plan) (subst (λ (r : List TargetParts). AreMade app old.plan r new.made) (sym rows)
              (subst (AreMade app old.plan (slice_set old.rows s row)) (sym made) (made_put to.sets.made s own.0 row unmade own.1 (to.is own.0 own.1))));
          total = total ∙ ap₂ (λ (n m : ℕ). n + m * length row.callees) to.sets.total (k own.0 own.1) ∙ sym (weigh_put to.sets.made s own.0 row unmade own.1) ∙ sym (ap₂ weigh_sets plan rows);
          few = few;
        };
        plan = plan;
        kept = λ j e. subst (λ (bs : List Bool). get_or bs j false ≡ true) (sym made) (set_kept old.made s j e);
      };
      there = subst (λ (bs : List Bool). get_or bs s false ≡ true) (sym made) (get_or-set_same old.made s true false (omega (arith, lt, len)));
    }

    pub over : (keys : ℕ) → ((set : SetRow) → slice_get old.plan s ≡ Some set → keys ≡ set.keys) → limit_of Targets < old.total + keys * length row.callees → limit_of Targets < weigh app old.plan
    over keys k lim =
        let e = ap₂ (λ (n m : ℕ). n + m * length row.callees) to.sets.total (k own.0 own.1) in
        omega (arith, lim, e, over_put to.sets.made s own.0 row unmade own.1 (to.is own.0 own.1))

  -- all sets are made
  pub finished : (sets : SetsParts) → AreSets app sets → AreMadeBelow sets (length sets.plan) → sets.rows ≡ all_rows app sets.plan
  finished sets are all = made_all are.made all

  pub within_limit : (sets : SetsParts) → AreSets app sets → AreMadeBelow sets (length sets.plan) → weigh app sets.plan ≤ limit_of Targets
  within_limit sets are all = omega (arith, are.few, are.total, ap (weigh_sets sets.plan) (made_all are.made all), weigh_all sets.plan)

-- ---- sets of a plan before any is made
module _ (plan : List SetRow) (rows : List TargetParts) (made : List Bool) (n : ℕ) (all : n ≡ length plan) (are_rows : rows ≡ replicate n no_targets) (are_made : made ≡ replicate n false) where
  abbrev pub begun : SetsParts
  begun = record { plan = plan; rows = rows; made = made; total = 0 }

  pub places_begun : HasPlaces begun
  places_begun = record {
    rows = ap length are_rows ∙ length-replicate n no_targets ∙ all;
    made = ap length are_made ∙ length-replicate n false ∙ all;
  }

  pub sets_begun : (app : AppParts) → AreSets app begun
  sets_begun app = record {
    made = rw (are_rows, are_made, all) (made_none app plan);
    total = sym (ap (weigh_sets plan) (are_rows ∙ ap (λ k. replicate k no_targets) all) ∙ weigh_none app plan);
    few = omega arith;
  }
