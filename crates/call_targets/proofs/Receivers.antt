-- What a virtual call finds, in the words of the subject.
use Rattle.std.proofs.Common.{◌≡◌, ℕ, ◌<◌, Bool, true, List, [], ◌∷◌, length, map, refl, sym, ap, inl, inr, ⊎_elim, arith, Contains, Option, Some, None, IfSome, subst}
use Rattle.std.specs.Prelude.{◌⊎◌, ◌↔◌, is_none}
use Rattle.std.specs.List.{filter, list_any, range_with_len}
use Rattle.std.proofs.lemmas.List.Elements.{Contains-append_cases, Contains-append_left, Contains-append_right}
use Rattle.std.proofs.lemmas.List.Quantifiers.{position-Some}
use Rattle.ns_base.specs.declared.rows.MethodNo.{MethodNo}
use Rattle.app_model.specs.declared.rows.Named.{Named}
use Rattle.app_model.specs.Hierarchy.{class_of_type, line_of, lookup_of, method_in, nearest, or_else}
use Rattle.app_model.specs.Parts.{AppParts, ClassParts}
use Rattle.app_model.specs.Targets.{found_of, found_virtually, finds, may_receive, method_no, row_of, targets_of_call}
use Rattle.class_graph.proofs.Lists.{any_found, any_there}
use Rattle.call_targets.specs.Laws.{CallLaw, Receives, TellsCalls}
use Rattle.call_targets.specs.Looking.{begins, begins_at}
use Rattle.call_targets.proofs.Members.{finds_in, from_filter, from_map, in_filter, in_first, in_map, in_range, is_nothing}

pub begun : (k o : Option ℕ) → Contains (begins_at k) o ↔ ((k ≡ None) × (o ≡ None))
begun None o = (λ c. (refl, one c), λ e. rw e.1 (in_first None []))
  where
    one : Contains (None ∷ []) o → o ≡ None
    one (k, lt, e) = let f : k ≡ 0 = omega (arith, lt) in rw f at (sym e)
begun (Some n) o = (λ c. absurd (omega (arith, c.1)), λ e. absurd (cc e.0))

-- ---- a look-up finds methods of the application
nearest_within : (bound : ℕ) (f : ℕ → Option ℕ) → ((c : ℕ) → IfSome (f c) (λ n. n < bound)) → (cs : List ℕ) → IfSome (nearest f cs) (λ n. n < bound)
nearest_within bound f h [] = tt
nearest_within bound f h (c ∷ cs) = by (f c) (h c) (nearest_within bound f h cs)
  where
    by : (o : Option ℕ) → IfSome o (λ n. n < bound) → IfSome (nearest f cs) (λ n. n < bound) → IfSome (or_else o (nearest f cs)) (λ n. n < bound)
    by None one rest = rest
    by (Some n) one rest = one

method_within : (app : AppParts) (name proto c : ℕ) → IfSome (method_in app name proto c) (λ n. n < length app.methods)
unfolding method_in
method_within app name proto c = by _ (λ n e. (position-Some _ app.methods n (record { class = record { 0 = 0 }; name = record { 0 = 0 }; proto = record { 0 = 0 }; flags = 0; registers = 0; ins = 0 }) e).0)
  where
    by : (o : Option ℕ) → ((n : ℕ) → o ≡ Some n → n < length app.methods) → IfSome o (λ n. n < length app.methods)
    by None h = tt
    by (Some n) h = h n refl

pub look_within : (app : AppParts) (t name proto : ℕ) → IfSome (lookup_of app t name proto) (λ n. n < length app.methods)
unfolding lookup_of
look_within app t name proto = nearest_within (length app.methods) (method_in app name proto) (method_within app name proto) (line_of app.classes t)

module _ (app : AppParts) (m : ℕ) (named : Named) where
  abbrev found : List (Option ℕ)
  found = found_virtually app m named

  abbrev own : ClassParts → Option ℕ
  own class = lookup_of app class.name.0 named.name.0 named.proto.0

  -- the outside at once, or what a class finds that the receiver may have
  pub found_told : (o : Option ℕ) → Contains found o ↔ (((class_of_type app.classes named.class.0 ≡ None) × (o ≡ None)) ⊎ Receives app named o)
  found_told o = (forth, back)
    where
      forth : Contains found o → ((class_of_type app.classes named.class.0 ≡ None) × (o ≡ None)) ⊎ Receives app named o
      forth c = ⊎_elim (λ l. inl ((begun (class_of_type app.classes named.class.0) o).0 l))
          (λ r. let t = from_map own (filter (may_receive app named) app.classes) o r in
          let k = from_filter (may_receive app named) app.classes t.0 t.1 in
          inr (record { class = t.0; there = k.0; may = k.1; finds = t.2 }))
          (Contains-append_cases (begins app named.class.0) (map own (filter (may_receive app named) app.classes)) o c)

      back : ((class_of_type app.classes named.class.0 ≡ None) × (o ≡ None)) ⊎ Receives app named o → Contains found o
      back (inl e) = Contains-append_left (begins app named.class.0) _ o ((begun (class_of_type app.classes named.class.0) o).1 e)
      back (inr r) = Contains-append_right (begins app named.class.0) _ o
          (subst (Contains (map own (filter (may_receive app named) app.classes))) r.finds (in_map own _ r.class (in_filter (may_receive app named) app.classes r.class r.there r.may)))

  -- ---- the outside, and a method
  outside_told : (list_any is_none found ≡ true) ↔ ((class_of_type app.classes named.class.0 ≡ None) ⊎ Receives app named None)
  outside_told = (
    λ e. let f = any_found is_none found e in
        ⊎_elim (λ l. inl l.0) (λ r. inr r) ((found_told None).0 (subst (Contains found) (is_nothing f.0 f.2) f.1)),
    λ h. any_there is_none found None ((found_told None).1 (⊎_elim (λ l. inl (l, refl)) (λ r. inr r) h)) refl,
  )

  finds_told : (n : ℕ) → (finds found n ≡ true) ↔ Receives app named (Some n)
  finds_told n = (λ e. ⊎_elim (λ l. absurd (cc l.1)) (λ r. r) ((found_told (Some n)).0 ((finds_in found n).0 e)), λ r. (finds_in found n).1 ((found_told (Some n)).1 (inr r)))

  abbrev numbers : List ℕ
  numbers = range_with_len 0 (length app.methods)

  kept_told : (n : ℕ) → Contains (map method_no (filter (finds found) numbers)) (method_no n) ↔ Receives app named (Some n)
  kept_told n = (forth, back)
    where
      forth : Contains (map method_no (filter (finds found) numbers)) (method_no n) → Receives app named (Some n)
      forth c =
          let t = from_map method_no (filter (finds found) numbers) (method_no n) c in
          (finds_told n).0 (subst (λ k. finds found k ≡ true) (ap (λ (x : MethodNo). x.0) t.2) (from_filter (finds found) numbers t.0 t.1).1)

      back : Receives app named (Some n) → Contains (map method_no (filter (finds found) numbers)) (method_no n)
      back r =
          let lt : n < length app.methods = subst (λ (o : Option ℕ). IfSome o (λ k. k < length app.methods)) r.finds (look_within app r.class.name.0 named.name.0 named.proto.0) in
          in_map method_no _ n (in_filter (finds found) numbers n (in_range (length app.methods) n lt) ((finds_told n).1 r))

  row_told : (op : ℕ) → targets_of_call app m op named ≡ row_of (length app.methods) found → TellsCalls app m op named
  unfolding row_of
  row_told op e = record {
    callees = λ n. subst (λ ms. Contains ms (method_no n) ↔ Receives app named (Some n)) (ap (λ t. t.callees) (sym e)) (kept_told n);
    outside = subst (λ (b : Bool). (b ≡ true) ↔ ((class_of_type app.classes named.class.0 ≡ None) ⊎ Receives app named None)) (ap (λ t. t.outside) (sym e)) outside_told;
  }

pub tells_calls : CallLaw
unfolding targets_of_call found_of
tells_calls app m op named by plain = row_told app m named op (rw (plain, by) refl)
