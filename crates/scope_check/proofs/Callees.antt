-- What calls find is not abstract.
use Rattle.std.proofs.Common.{◌≡◌, ℕ, ◌&&◌, ◌==◌, ◌∷◌, ◌++◌, [], Bool, true, false, if◌then◌else◌, not, List, length, get_or, map, refl, sym, ap, ◌∙◌, subst, ⊎_elim, arith, Contains, Option, Some, None, is_none, slice_get, bit_and, bit_or, eqb-true, eq-eqb}
use Rattle.std.specs.Prelude.{filter}
use Rattle.std.specs.Int.{bit_at}
use Rattle.std.specs.List.{range_with_len}
use Rattle.std.proofs.lemmas.Bool.{true≢false}
use Rattle.std.proofs.lemmas.List.Elements.{Contains-append_cases}
use Rattle.std.proofs.lemmas.List.Quantifiers.{position-Some}
use Rattle.std.proofs.lemmas.Nat.Bits.{bit_at-zero, bit_at_and, bit_at_or, same_from_bits}
use Rattle.std.proofs.lemmas.Option.{slice_get-get_or}
use Rattle.ns_base.specs.declared.rows.MethodNo.{MethodNo}
use Rattle.ns_base.specs.declared.rows.TypeNo.{TypeNo}
use Rattle.dalvik.specs.Access.{is_bodiless}
use Rattle.dalvik.specs.declared.access.TheConstants.{ABSTRACT, NATIVE}
use Rattle.app_model.specs.declared.calls.By.{By}
use Rattle.app_model.specs.declared.calls.By.TheVariants.{Virtual, Super, Direct, Static}
use Rattle.app_model.specs.declared.rows.MethodRow.{MethodRow}
use Rattle.app_model.specs.declared.rows.Named.{Named}
use Rattle.app_model.specs.CallGraph.{GraphParts, callees_at}
use Rattle.app_model.specs.Components.{BelongsTo, ComponentParts, IsListed, callback_at, callback_method, callbacks_of, method_of, name_number, proto_number, prototypes_of}
use Rattle.app_model.specs.Components as components
use Rattle.app_model.specs.Hierarchy.{class_of_type, is_abstract, line_of, lookup_of, method_in, nearest, or_else}
use Rattle.app_model.specs.LockUse.{invoke_of}
use Rattle.app_model.specs.Parts.{AppParts, ClassParts}
use Rattle.app_model.specs.Targets.{IsCallGraph, call_by, finds, found_above, found_by, found_of, found_on, is_foreign, is_method, may_receive, method_no, row_of, super_of, targets_by, targets_in, targets_of_call}
use Rattle.app_model.specs.Words.{ins_at, named_at}
use Rattle.class_graph.proofs.Lists.{any_found, there_at}
use Rattle.std.specs.Option.{option_and_then}
use Rattle.std.proofs.lemmas.List.Elements.{All-contains}
use Rattle.scope_check.proofs.Steps.{not_false}
use Rattle.scope_facts.proofs.ThreadLaws.{both}

-- method n is not abstract
pub record IsConcrete (app : AppParts) (n : ℕ) : Type 0 where
  pub row : MethodRow
  pub there : slice_get app.methods n ≡ Some row
  pub concrete : is_abstract row.flags ≡ false

nearest_found : (found : ℕ → Option ℕ) (above : List ℕ) (n : ℕ) → nearest found above ≡ Some n → (c : ℕ) × (found c ≡ Some n)
nearest_found found [] n is = cc
nearest_found found (c ∷ above) n is = go (nearest_found found above n) (found c) refl is
  where
    go : (nearest found above ≡ Some n → (c : ℕ) × (found c ≡ Some n)) → (o : Option ℕ) → found c ≡ o → or_else o (nearest found above) ≡ Some n → (c : ℕ) × (found c ≡ Some n)
    go rest None here more = rest more
    go rest (Some k) here one = (c, here ∙ one)

blank : MethodRow
blank = record { class = record { 0 = 0 }; name = record { 0 = 0 }; proto = record { 0 = 0 }; flags = 0; registers = 0; ins = 0 }

last : (a b c d : Bool) → (a && (b && (c && d))) ≡ true → d ≡ true
last a b c d is = (both c d (both b (c && d) (both a (b && (c && d)) is).1).1).1

lookup_concrete : (app : AppParts) (t name proto n : ℕ) → lookup_of app t name proto ≡ Some n → IsConcrete app n
unfolding lookup_of method_in
lookup_concrete app t name proto n is =
    let in_class = nearest_found (method_in app name proto) (line_of app.classes t) n is in
    let p = position-Some _ app.methods n blank in_class.1 in
    let row : MethodRow = get_or app.methods n blank in
    record {
      row = row;
      there = slice_get-get_or app.methods n blank p.0;
      concrete = not_false (is_abstract row.flags) (last (row.class.0 == in_class.0) (row.name.0 == name) (row.proto.0 == proto) (not (is_abstract row.flags)) p.1);
    }

-- ---- what a call finds
abbrev AllConcrete : AppParts → List (Option ℕ) → Type 0
AllConcrete app found = (n : ℕ) → Contains found (Some n) → IsConcrete app n

one_concrete : (app : AppParts) (o : Option ℕ) → ((n : ℕ) → o ≡ Some n → IsConcrete app n) → AllConcrete app (o ∷ [])
one_concrete app o why n among = why n (let at : among.0 ≡ 0 = omega (arith, among.1) in sym (ap (λ (j : ℕ). get_or (o ∷ []) j (Some n)) at) ∙ among.2)

none_concrete : (app : AppParts) → AllConcrete app []
none_concrete app n among = absurd (omega (arith, among.1))

above_concrete : (app : AppParts) (t : Option TypeNo) (named : Named) (n : ℕ) → found_above app t named ≡ Some n → IsConcrete app n
above_concrete app None named n is = cc
above_concrete app (Some t) named n is = lookup_concrete app t.0 named.name.0 named.proto.0 n is

map_concrete : (app : AppParts) (m : ℕ) (named : Named) (classes : List ClassParts) → AllConcrete app (map (λ (class : ClassParts). found_on app m Virtual named class.name.0) classes)
map_concrete app m named [] n among = absurd (omega (arith, among.1))
map_concrete app m named (class ∷ classes) n among = ⊎_elim
    (λ here. one_concrete app (found_on app m Virtual named class.name.0) (λ k is. lookup_concrete app class.name.0 named.name.0 named.proto.0 k is) n here)
    (λ more. map_concrete app m named classes n more)
    (Contains-append_cases (found_on app m Virtual named class.name.0 ∷ []) (map (λ (class : ClassParts). found_on app m Virtual named class.name.0) classes) (Some n) among)

outside_concrete : (app : AppParts) → AllConcrete app (None ∷ [])
outside_concrete app = one_concrete app None (λ n is. cc)

if_concrete : (app : AppParts) (b : Bool) (xs ys : List (Option ℕ)) → AllConcrete app xs → AllConcrete app ys → AllConcrete app (if b then xs else ys)
if_concrete app true xs ys one two = one
if_concrete app false xs ys one two = two

both_concrete : (app : AppParts) (xs ys : List (Option ℕ)) → AllConcrete app xs → AllConcrete app ys → AllConcrete app (xs ++ ys)
both_concrete app xs ys one two n among = ⊎_elim (one n) (two n) (Contains-append_cases xs ys (Some n) among)

by_concrete : (app : AppParts) (m : ℕ) (by : By) (named : Named) → AllConcrete app (found_by app m by named)
by_concrete app m Virtual named =
    both_concrete app _ _ (if_concrete app (is_none (class_of_type app.classes named.class.0)) (None ∷ []) [] (outside_concrete app) (none_concrete app))
    (map_concrete app m named (filter (may_receive app named) app.classes))
by_concrete app m Super named = one_concrete app _ (λ n is. above_concrete app (super_of app m) named n is)
by_concrete app m Direct named = one_concrete app _ (λ n is. lookup_concrete app named.class.0 named.name.0 named.proto.0 n is)
by_concrete app m Static named = one_concrete app _ (λ n is. lookup_concrete app named.class.0 named.name.0 named.proto.0 n is)

found_concrete : (app : AppParts) (m op : ℕ) (named : Named) → AllConcrete app (found_of app m op named)
unfolding found_of
found_concrete app m op named = if_concrete app (is_foreign app op named) (None ∷ []) (found_by app m (call_by op) named) (outside_concrete app) (by_concrete app m (call_by op) named)

-- ---- the callees of a row
passing : (p : ℕ → Bool) (ns : List ℕ) (n : MethodNo) → Contains (map method_no (filter p ns)) n → p n.0 ≡ true
passing p [] n among = absurd (omega (arith, among.1))
passing p (k ∷ ns) n among = go (passing p ns n) (p k) refl among
  where
    go : (Contains (map method_no (filter p ns)) n → p n.0 ≡ true) → (b : Bool) → p k ≡ b → Contains (map method_no (if b then k ∷ filter p ns else filter p ns)) n → p n.0 ≡ true
    go rest_of false is more = rest_of more
    go rest_of true is more = ⊎_elim
        (λ here. (let at : here.0 ≡ 0 = omega (arith, here.1) in
        let same : method_no k ≡ n = sym (ap (λ (j : ℕ). get_or (method_no k ∷ []) j n) at) ∙ here.2 in subst (λ (q : MethodNo). p q.0 ≡ true) same is))
        rest_of
        (Contains-append_cases (method_no k ∷ []) (map method_no (filter p ns)) n more)

is_that : (n : ℕ) (o : Option ℕ) → is_method n o ≡ true → o ≡ Some n
is_that n None is = absurd (true≢false (sym is))
is_that n (Some m) is = ap Some (eqb-true m n is)

row_concrete : (app : AppParts) (found : List (Option ℕ)) → AllConcrete app found → (n : MethodNo) → Contains (row_of (length app.methods) found).callees n → IsConcrete app n.0
unfolding row_of
row_concrete app found all n among =
    let one = any_found (is_method n.0) found (passing (finds found) (range_with_len 0 (length app.methods)) n among) in
    all n.0 (subst (Contains found) (is_that n.0 one.0 one.2) one.1)

call_concrete : (app : AppParts) (m : ℕ) (op : Option ℕ) (named : Option Named) (n : MethodNo) → Contains (targets_by app m op named).callees n → IsConcrete app n.0
unfolding targets_of_call
call_concrete app m (Some op) (Some named) n among = row_concrete app (found_of app m op named) (found_concrete app m op named) n among
call_concrete app m (Some op) None n among = absurd (omega (arith, among.1))
call_concrete app m None named n among = absurd (omega (arith, among.1))

pub callee_concrete : (app : AppParts) (graph : GraphParts) → IsCallGraph app graph → (m i : ℕ) (n : MethodNo) → Contains (callees_at graph m i) n → IsConcrete app n.0
unfolding targets_in
callee_concrete app graph is m i n among =
    call_concrete app m (invoke_of (ins_at app m i)) (named_at app m i) n (subst (λ (row : _). Contains row.callees n) (is.rows m i) among)

-- ---- callbacks
found_on_concrete : (app : AppParts) (class : Option ClassParts) (name proto : Option ℕ) (m : ℕ) → components.found_on app class name proto ≡ Some m → IsConcrete app m
found_on_concrete app (Some class) (Some name) (Some proto) m is = lookup_concrete app class.name.0 name proto m is
found_on_concrete app None name proto m is = cc
found_on_concrete app (Some class) None proto m is = cc
found_on_concrete app (Some class) (Some name) None m is = cc

pub callback_concrete : (app : AppParts) (list : List ComponentParts) (c k m : ℕ) → BelongsTo app list → callback_at list c k ≡ Some m → IsConcrete app m
unfolding callback_at callback_method
callback_concrete app list c k m belongs is = go (slice_get list c) refl is
  where
    go : (row : Option ComponentParts) → slice_get list c ≡ row → method_of row k ≡ Some m → IsConcrete app m
    go None at none = cc
    go (Some component) at some =
        let listed = All-contains (IsListed app) list component belongs.each (there_at list c component at) in
        found_on_concrete app (slice_get app.classes component.class.0) (option_and_then (name_number app) (slice_get (callbacks_of component.kind) k)) (option_and_then (proto_number app) (slice_get (prototypes_of component.kind) k)) m (sym (listed.methods k) ∙ some)

-- ---- neither abstract nor native
no_bits : (f a b : ℕ) → bit_and f a ≡ 0 → bit_and f b ≡ 0 → bit_and f (bit_or a b) ≡ 0
no_bits f a b one two = same_from_bits (bit_and f (bit_or a b)) 0 (λ i. (
    let x = bit_at_and f (bit_or a b) i in
    let y = bit_at_or a b i in
    let z = bit_at_and f a i in
    let u = bit_at_and f b i in
    let v = ap (λ (n : ℕ). bit_at n i) one in
    let w = ap (λ (n : ℕ). bit_at n i) two in
    let o = bit_at-zero i in
    omega arith))

not_not_true : (b : Bool) → not b ≡ false → b ≡ true
not_not_true true is = refl
not_not_true false is = sym is

pub has_body : (flags : ℕ) → is_abstract flags ≡ false → not (bit_and flags NATIVE == 0) ≡ false → is_bodiless flags ≡ false
has_body flags concrete own =
    let a = eqb-true (bit_and flags ABSTRACT) 0 (not_not_true _ concrete) in
    let n = eqb-true (bit_and flags NATIVE) 0 (not_not_true _ own) in
    ap not (eq-eqb (bit_and flags (bit_or ABSTRACT NATIVE)) 0 (no_bits flags ABSTRACT NATIVE a n))
