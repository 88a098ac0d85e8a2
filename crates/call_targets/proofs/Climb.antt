-- What a look-up finds in any class that a receiver may have, it finds in one of the candidates.
use Rattle.std.proofs.Common.{◌≡◌, ℕ, zero, suc, ◌≤◌, List, ◌++◌, length, map, refl, sym, ap, ap₂, ◌∙◌, inl, inr, ⊎_elim, arith, Contains, Option, Some, None, slice_get, subst}
use Rattle.std.specs.Prelude.{◌⊎◌}
use Rattle.std.proofs.lemmas.Bool.{cases_Bool, false≢true}
use Rattle.std.proofs.lemmas.List.Elements.{Contains-append_cases, Contains-append_left, Contains-append_right}
use Rattle.std.proofs.lemmas.Option.{slice_get_within}
use Rattle.ns_base.specs.declared.rows.ClassNo.{ClassNo}
use Rattle.app_model.specs.Hierarchy.{class_of_type, line, line_of, lookup_of, method_in, nearest, or_else, superclass_at}
use Rattle.app_model.specs.Parts.{AppParts, ClassParts}
use Rattle.app_model.specs.Sound.{IsSoundApp}
use Rattle.app_model.specs.Targets.{found_virtually}
use Rattle.class_graph.proofs.Climbs.{enough, no_line, step_up}
use Rattle.class_graph.proofs.Lists.{class_found, class_known, read_of, there_at}
use Rattle.call_targets.specs.Below.{IsBelow, class_no, may_be}
use Rattle.call_targets.specs.Looking.{AreCandidates, begins, look_at, look_in}
use Rattle.call_targets.specs.Sources.{named_parts}
use Rattle.call_targets.proofs.Receivers.{begun, found_told}
use Rattle.call_targets.proofs.Members.{HaveSame, from_map, in_map}

short_line : (classes : List ClassParts) (n : ℕ) (o : Option ℕ) → length (line classes n o) ≤ n
short_line classes zero o = omega arith
short_line classes (suc n) None = omega arith
short_line classes (suc n) (Some c) = omega (arith, short_line classes n (superclass_at classes c))

module _ (app : AppParts) (sound : IsSoundApp app) (kind name proto : ℕ) (cs : List ClassNo) (all : AreCandidates app kind name proto cs) where
  abbrev classes : List ClassParts
  classes = app.classes

  abbrev Below : ℕ → Type 0
  Below c = IsBelow app kind c

  abbrev finds : Option ℕ → Option ℕ
  finds o = nearest (method_in app name proto) (line classes (length classes) o)

  finds_step : (c : ℕ) → Below c → finds (Some c) ≡ or_else (method_in app name proto c) (finds (superclass_at classes c))
  finds_step c b = ap (nearest (method_in app name proto)) (sym (enough app sound (Some c) (λ d e. let f : c ≡ d = cc in rw (← f) (slice_get_within classes c b.class b.there))))

  look_finds : (c : ℕ) (class : ClassParts) → slice_get classes c ≡ Some class → lookup_of app class.name.0 name proto ≡ finds (Some c)
  unfolding lookup_of line_of
  look_finds c class e = ap finds (class_known app sound c class e)

  look_is : (c : ℕ) → Below c → look_at app name proto (class_no c) ≡ finds (Some c)
  look_is c b = ap (look_in app name proto) b.there ∙ look_finds c b.class b.there

  -- a candidate finds what class c finds, or c leads outside as the named class does
  abbrev IsAnswered : ℕ → Type 0
  IsAnswered c = ((r : ClassNo) × Contains cs r × (look_at app name proto r ≡ finds (Some c))) ⊎ ((finds (Some c) ≡ None) × (class_of_type classes kind ≡ None))

  itself : (c : ℕ) → Below c → Contains cs (class_no c) → IsAnswered c
  itself c b i = inl (class_no c, i, look_is c b)

  pass : (c d : ℕ) → finds (Some c) ≡ finds (Some d) → IsAnswered d → IsAnswered c
  pass c d e (inl a) = inl (a.0, a.1, a.2 ∙ sym e)
  pass c d e (inr a) = inr (e ∙ a.0, a.1)

  is_below : (c d : ℕ) → superclass_at classes c ≡ Some d → Below d ⊎ (Below d → ⊥)
  is_below c d e =
      let s = step_up app sound c d e in
      let found = class_found classes s.2.0 d s.4 in
      ⊎_elim (λ on. inl (record { class = found.0; there = found.1; may = on }))
      (λ off. inr (λ b. let same : b.class ≡ found.0 = (let f = b.there in let g = found.1 in cc) in false≢true (sym off ∙ rw (← same) b.may)))
      (cases_Bool (may_be app kind found.0))

  climb : (n c : ℕ) → Below c → IsAnswered c ⊎ (length (line classes n (Some c)) ≡ n)
  climb zero c b = inr refl
  climb (suc n) c b = by (method_in app name proto c) refl (superclass_at classes c) refl (climb n)
    where
      by : (m : Option ℕ) → method_in app name proto c ≡ m → (o : Option ℕ) → superclass_at classes c ≡ o
          → ((d : ℕ) → Below d → IsAnswered d ⊎ (length (line classes n (Some d)) ≡ n)) → IsAnswered c ⊎ (length (line classes (suc n) (Some c)) ≡ suc n)
      by (Some m) e o f up = inl (itself c b (all.declared c m b e))
      by None e None f up =
          let none : finds (Some c) ≡ None = finds_step c b ∙ ap₂ (λ (x y : Option ℕ). or_else x (finds y)) e f ∙ ap (nearest (method_in app name proto)) (no_line app sound (length classes)) in
          inl (⊎_elim (λ out. inr (none, out)) (λ r. inl (r.class, r.there, r.finds ∙ sym none)) (all.tops c b f (look_is c b ∙ none)))
      by None e (Some d) f up = ⊎_elim
          (λ on. ⊎_elim
          (λ a. inl (pass c d (finds_step c b ∙ ap₂ (λ (x y : Option ℕ). or_else x (finds y)) e f) a))
          (λ k. inr (ap (λ o. suc (length (line classes n o))) f ∙ ap suc k))
          (up d on))
          (λ off. inl (itself c b (all.roots c d b f off)))
          (is_below c d f)

  climbed : (c : ℕ) → Below c → IsAnswered c
  climbed c b = ⊎_elim (λ a. a)
      (λ k. let e = ap length (enough app sound (Some c) (λ d e. let f : c ≡ d = cc in rw (← f) (slice_get_within classes c b.class b.there))) in
      absurd (omega (arith, k, e, short_line classes (length classes) (Some c))))
      (climb (suc (length classes)) c b)

  -- ---- so their look-ups say what those of all these classes say
  pub candidates_tell : (m : ℕ) → HaveSame (begins app kind ++ map (look_at app name proto) cs) (found_virtually app m (named_parts kind name proto))
  candidates_tell m o = (forth, back)
    where
      forth : Contains (begins app kind ++ map (look_at app name proto) cs) o → Contains (found_virtually app m (named_parts kind name proto)) o
      forth h = (found_told app m (named_parts kind name proto) o).1 (⊎_elim
          (λ l. inl ((begun (class_of_type classes kind) o).0 l))
          (λ r. let t = from_map (look_at app name proto) cs o r in
          let b = all.each t.0 t.1 in
          inr (record { class = b.class; there = there_at classes t.0.0 b.class b.there; may = b.may; finds = sym (ap (look_in app name proto) b.there) ∙ t.2 }))
          (Contains-append_cases (begins app kind) (map (look_at app name proto) cs) o h))

      at_class : (c : ℕ) → finds (Some c) ≡ o → IsAnswered c → Contains (begins app kind ++ map (look_at app name proto) cs) o
      at_class c e (inl a) = Contains-append_right (begins app kind) _ o (subst (Contains (map (look_at app name proto) cs)) (a.2 ∙ e) (in_map (look_at app name proto) cs a.0 a.1))
      at_class c e (inr a) = Contains-append_left (begins app kind) _ o ((begun (class_of_type classes kind) o).1 (a.1, sym e ∙ a.0))

      back : Contains (found_virtually app m (named_parts kind name proto)) o → Contains (begins app kind ++ map (look_at app name proto) cs) o
      back h = ⊎_elim
          (λ l. Contains-append_left (begins app kind) _ o ((begun (class_of_type classes kind) o).1 l))
          (λ r. let at = read_of classes r.class r.there in
          at_class at.0 (sym (look_finds at.0 r.class at.1) ∙ r.finds) (climbed at.0 (record { class = r.class; there = at.1; may = r.may })))
          ((found_told app m (named_parts kind name proto) o).0 h)
