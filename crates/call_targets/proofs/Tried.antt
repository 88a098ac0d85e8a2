-- What the candidates find, class by class.
use Rattle.std.proofs.Common.{◌≡◌, ℕ, ◌+◌, ◌<◌, true, false, List, [], ◌∷◌, ◌++◌, length, map, refl, sym, ap, ap₂, ◌∙◌, inl, inr, arith, get_or, take, Contains, Option, Some, IfSome, slice_get, subst, append_assoc}
use Rattle.std.specs.Prelude.{is_none}
use Rattle.std.specs.List.{All}
use Rattle.std.proofs.lemmas.List.{map-append, map_push, take_all, take_more}
use Rattle.std.proofs.lemmas.List.Elements.{All-nil, All-push, Contains-append_left, Contains-append_right, Contains-get_or}
use Rattle.std.proofs.lemmas.Option.{slice_get_within}
use Rattle.ns_base.specs.declared.rows.ClassNo.{ClassNo}
use Rattle.app_model.specs.Hierarchy.{class_of_type, lookup_of}
use Rattle.app_model.specs.Parts.{AppParts, ClassParts}
use Rattle.app_model.specs.Sound.{IsSoundApp}
use Rattle.app_model.specs.Targets.{found_virtually, row_of}
use Rattle.class_graph.specs.Answers.{found_number}
use Rattle.class_graph.specs.declared.graph.Found.{Found}
use Rattle.class_graph.specs.declared.graph.Found.TheVariants as variant
use Rattle.call_targets.specs.Looking.{AreCandidates, AreEnough, AreFound, EndsOutside, IsAsked, MakerParts, begins, look_at, look_in, tried_of}
use Rattle.call_targets.specs.Sources.{named_parts}
use Rattle.call_targets.proofs.Climb.{candidates_tell}
use Rattle.call_targets.proofs.Downward.{read_at, take_has}
use Rattle.call_targets.proofs.Members.{is_nothing, row_same}
use Rattle.call_targets.proofs.Receivers.{look_within}
use Rattle.call_targets.proofs.Roots.{candidates_in}

abbrev pub IsWithin : AppParts → Found → Type 0
IsWithin app f = IfSome (found_number f) (λ n. n < length app.methods)

pub found_nothing : (app : AppParts) (kind : ℕ) → is_none (class_of_type app.classes kind) ≡ false → AreFound app (begins app kind) []
found_nothing app kind e = record { is = rw e refl; each = All-nil (IsWithin app) }

pub found_outside : (app : AppParts) (kind : ℕ) → is_none (class_of_type app.classes kind) ≡ true → AreFound app (begins app kind) (variant.Outside ∷ [])
found_outside app kind e = record { is = rw e refl; each = All-push (IsWithin app) [] variant.Outside (All-nil (IsWithin app)) tt }

-- one more class
module _ (app : AppParts) (name proto : ℕ) (f : Found) (c : ClassNo) (within : c.0 < length app.classes) (told : (row : ClassParts) → slice_get app.classes c.0 ≡ Some row → found_number f ≡ lookup_of app row.name.0 name proto) where
  pub found_at : found_number f ≡ look_at app name proto c
  found_at = let row = read_at app.classes c.0 within in told row.0 row.1 ∙ sym (ap (look_in app name proto) row.1)

  pub found_next : (numbers : List (Option ℕ)) (found : List Found) → AreFound app numbers found → AreFound app (numbers ++ look_at app name proto c ∷ []) (found ++ f ∷ [])
  found_next numbers found before = record {
    is = map_push found_number found f ∙ ap₂ (λ (ns : List (Option ℕ)) (n : Option ℕ). ns ++ n ∷ []) before.is found_at;
    each = All-push (IsWithin app) found f before.each (let row = read_at app.classes c.0 within in rw (told row.0 row.1) (look_within app row.0.name.0 name proto));
  }

pub found_more : (app : AppParts) (name proto : ℕ) (numbers : List (Option ℕ)) (tried : List ClassNo) (i : ℕ) (found : List Found) (d : ClassNo) → i < length tried
    → AreFound app ((numbers ++ map (look_at app name proto) (take i tried)) ++ look_at app name proto (get_or tried i d) ∷ []) found → AreFound app (numbers ++ map (look_at app name proto) (take (i + 1) tried)) found
found_more app name proto numbers tried i found d lt are = subst (λ ns. AreFound app ns found)
    (append_assoc numbers (map (look_at app name proto) (take i tried)) (look_at app name proto (get_or tried i d) ∷ [])
    ∙ ap (λ ns. numbers ++ ns) (sym (map_push (look_at app name proto) (take i tried) (get_or tried i d)) ∙ ap (map (look_at app name proto)) (sym (take_more tried i d lt)))) are

pub ends_outside : (app : AppParts) (name proto : ℕ) (tops : List ClassNo) (i : ℕ) (d : ClassNo) → i < length tops → is_none (look_at app name proto (get_or tops i d)) ≡ true → EndsOutside app name proto (take (i + 1) tops)
ends_outside app name proto tops i d lt e = record { class = get_or tops i d; there = (take_has tops i d (get_or tops i d) lt).1 (inr refl); finds = is_nothing (look_at app name proto (get_or tops i d)) e }

-- ---- the classes that are tried
module _ (app : AppParts) (sound : IsSoundApp app) (kind : ℕ) (asked : MakerParts) (ready : IsAsked app kind asked) (name proto : ℕ) where
  candidates : (n : ℕ) → AreEnough app name proto asked.below.tops n → AreCandidates app kind name proto (tried_of app asked name proto ++ take n asked.below.tops)
  candidates n enough = candidates_in app sound kind asked.below ready.below name proto asked.index.declared ready.maker.index.declared n enough

  within : (d : ClassNo) → Contains (tried_of app asked name proto ++ take (length asked.below.tops) asked.below.tops) d → d.0 < length app.classes
  within d h = let b = (candidates (length asked.below.tops) (inl refl)).each d h in slice_get_within app.classes d.0 b.class b.there

  pub tried_within : All (λ (k : ClassNo). k.0 < length app.classes) (tried_of app asked name proto)
  tried_within k d lt = within _ (Contains-append_left (tried_of app asked name proto) (take (length asked.below.tops) asked.below.tops) _ (Contains-get_or (tried_of app asked name proto) k d lt))

  pub tops_within : All (λ (k : ClassNo). k.0 < length app.classes) asked.below.tops
  tops_within k d lt = within _ (Contains-append_right (tried_of app asked name proto) _ _ (rw (take_all (length asked.below.tops) asked.below.tops (omega arith)) (Contains-get_or asked.below.tops k d lt)))

  -- their look-ups tell what a call can call
  pub tried_row : (m n : ℕ) (tried tops : List ClassNo) → tried ≡ tried_of app asked name proto → tops ≡ asked.below.tops → AreEnough app name proto tops n
      → row_of (length app.methods) ((begins app kind ++ map (look_at app name proto) tried) ++ map (look_at app name proto) (take n tops)) ≡ row_of (length app.methods) (found_virtually app m (named_parts kind name proto))
  tried_row m n tried tops same equal enough =
      ap₂ (λ (cs ts : List ClassNo). row_of (length app.methods) ((begins app kind ++ map (look_at app name proto) cs) ++ map (look_at app name proto) (take n ts))) same equal
      ∙ ap (row_of (length app.methods)) (append_assoc (begins app kind) (map (look_at app name proto) (tried_of app asked name proto)) (map (look_at app name proto) (take n asked.below.tops)) ∙ ap (λ ns. begins app kind ++ ns) (sym (map-append (look_at app name proto) (tried_of app asked name proto) (take n asked.below.tops))))
      ∙ row_same (length app.methods) _ _ (candidates_tell app sound kind name proto _ (candidates n (subst (λ ts. AreEnough app name proto ts n) equal enough)) m)
