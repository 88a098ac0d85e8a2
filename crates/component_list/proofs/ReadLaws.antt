-- What holds of every list that was read.
use Rattle.std.proofs.Common.{◌≡◌, ◌==◌, ◌+◌, ◌≢◌, ◌<◌, ◌≤◌, ◌^◌, ℕ, zero, suc, Bool, true, false, cond, List, [], ◌∷◌, ◌++◌, length, length-append, get_or, Option, Some, None, Result, Ok, Err, is_ok, bytes_eq, codes, arith, refl, sym, ap, ◌∙◌}
use Rattle.std.proofs.lemmas.Bool.{false≢true, or_parts}
use Rattle.std.proofs.lemmas.List.Elements.{All-push}
use Rattle.std.proofs.lemmas.List.Quantifiers.{all_pairs_push, position-Some}
use Rattle.std.proofs.lemmas.Nat.{or_lt, pow_pos}
use Rattle.std.proofs.lemmas.Slice.Eq.{bytes_eq-Decides}
use Rattle.std.proofs.Math.Pow.{pow-lt}
use Rattle.std.specs.List.{All, AllPairs}
use Rattle.ns_base.specs.Steps.{◌>>=◌, reached}
use Rattle.app_model.specs.Components.{callbacks_of}
use Rattle.app_model.specs.declared.component.Kind.{Kind}
use Rattle.app_model.specs.declared.component.Kind.TheVariants.{Activity, Service, Receiver, Runnable}
use Rattle.toml.specs.Data.{Items, Members}
use Rattle.component_list.specs.Listed.{HasExits, IsReadList, ListedParts}
use Rattle.component_list.specs.Reading.{array_at, keys_are_right, kind_named, kind_of, text_at, add_exit, add_row, default_exits, exits_in, has_class, item_count, row_of, with_exit, with_row}
use Rattle.component_list.specs.Keys.{wrong_key}
use Rattle.component_list.specs.declared.fault.ListFault.{ListFault}
use Rattle.component_list.specs.declared.fault.ListFault.TheVariants as fault

-- ---- what came of a step
abbrev value_or : {A E : Type 0} → A → Result A E → A
value_or x (Ok y) = y
value_or x (Err e) = x

pub same_ok : {A E : Type 0} (x y : A) → ◌≡◌ {A = Result A E} (Ok x) (Ok y) → x ≡ y
same_ok x y same = ap (value_or x) same

pub no_ok : {A E : Type 0} (e : E) (y : A) → ◌≡◌ {A = Result A E} (Err e) (Ok y) → ⊥
no_ok e y same = false≢true (ap is_ok same)

pub bind_ok : {A B E : Type 0} (r : Result A E) (f : A → Result B E) (y : B) → (r >>= f) ≡ Ok y → (x : A) × (r ≡ Ok x) × (f x ≡ Ok y)
bind_ok (Ok x) f y come = (x, refl, come)
bind_ok (Err e) f y come = absurd (no_ok e y come)

-- the branch that was taken, where the other one is a fault
pub else_ok : {A E : Type 0} (b : Bool) (e : E) (r : Result A E) (y : A) → cond b (Err e) r ≡ Ok y → (b ≡ false) × (r ≡ Ok y)
else_ok true e r y come = absurd (no_ok e y come)
else_ok false e r y come = (refl, come)

-- ---- exits are callbacks of the kind
default_exits_fit : (kind : Kind) → default_exits kind < 2 ^ length (callbacks_of kind)
default_exits_fit Activity = omega arith
default_exits_fit Service = omega arith
default_exits_fit Receiver = omega arith
default_exits_fit Runnable = omega arith

exit_fits : (i j mask n : ℕ) (callback : Option ℕ) (next : ℕ) → mask < 2 ^ n → ((k : ℕ) → callback ≡ Some k → k < n) → with_exit i j mask callback ≡ Ok next → next < 2 ^ n
exit_fits i j mask n None next fits low come = absurd (no_ok _ next come)
exit_fits i j mask n (Some k) next fits low come = rw (← same_ok _ next come) (or_lt n mask (2 ^ k) fits (pow-lt (low k refl)))

exits_fit : (i : ℕ) (kind : Kind) (names : Items) (n mask : ℕ) → reached (add_exit i kind names) 0 n ≡ Ok mask → mask < 2 ^ length (callbacks_of kind)
exits_fit i kind names zero mask come = rw (← same_ok 0 mask come) (pow_pos _)
exits_fit i kind names (suc n) mask come =
    let (before, steps, last) = bind_ok (reached (add_exit i kind names) 0 n) (add_exit i kind names n) mask come in
    exit_fits i n before _ _ mask (exits_fit i kind names n before steps) (λ k found. (position-Some _ _ k [] found).0) last

exits_in_fit : (i : ℕ) (kind : Kind) (names : Option Items) (mask : ℕ) → exits_in i kind names ≡ Ok mask → mask < 2 ^ length (callbacks_of kind)
exits_in_fit i kind None mask come = rw (← same_ok _ mask come) (default_exits_fit kind)
exits_in_fit i kind (Some names) mask come =
    exits_fit i kind names (item_count names) mask
    (else_ok (item_count names == 0) (fault.EmptyExits i) (reached (add_exit i kind names) 0 (item_count names)) mask come).1

row_steps : (keys : Result (Unit {0}) ListFault) (kind : Result Kind ListFault) (exits : Kind → Result ℕ ListFault) (put : Kind → ℕ → ListedParts) (row : ListedParts)
    → (keys >>= (λ right. kind >>= (λ k. exits k >>= (λ mask. Ok (put k mask))))) ≡ Ok row → (k : Kind) × (mask : ℕ) × (exits k ≡ Ok mask) × (put k mask ≡ row)
row_steps (Err e) kind exits put row come = absurd (no_ok e row come)
row_steps (Ok right) (Err e) exits put row come = absurd (no_ok e row come)
row_steps (Ok right) (Ok k) exits put row come =
    let (mask, masked, last) = bind_ok (exits k) (λ mask. Ok (put k mask)) row come in
    (k, mask, masked, same_ok (put k mask) row last)

row_fits : (i : ℕ) (ms : Members) (row : ListedParts) → row_of i ms ≡ Ok row → HasExits row
unfolding row_of
row_fits i ms row come =
    let (kind, exits, masked, same) = row_steps (keys_are_right (i + 1) (wrong_key ms)) (kind_of i (kind_named (text_at (codes "kind") ms)))
    (λ k. exits_in i k (array_at (codes "exits") ms)) (λ k mask. record { kind = k; class = text_at (codes "class") ms; exits = mask }) row come in
    rw (← same) (exits_in_fit i kind (array_at (codes "exits") ms) exits masked)

-- ---- no class comes twice
has_not : (class : List ℕ) (rows : List ListedParts) → has_class class rows ≡ false → (k : ℕ) (d : ListedParts) → k < length rows → (get_or rows k d).class ≢ class
has_not class [] new k d low = absurd (omega arith)
has_not class (r ∷ rows) new zero d low = λ same. false≢true (sym (or_parts (bytes_eq r.class class) (has_class class rows) new).0 ∙ (bytes_eq-Decides r.class class).1 same)
has_not class (r ∷ rows) new (suc k) d low = has_not class rows (or_parts (bytes_eq r.class class) (has_class class rows) new).1 k d (omega arith)

-- ---- the rows so far
record AreRead (n : ℕ) (rows : List ListedParts) : Type 0 where
  len : length rows ≡ n
  distinct : AllPairs (λ (a b : ListedParts). a.class ≢ b.class) rows
  exits : All HasExits rows

one_more : (n : ℕ) (rows : List ListedParts) (row : ListedParts) → AreRead n rows → HasExits row → has_class row.class rows ≡ false → AreRead (suc n) (rows ++ row ∷ [])
one_more n rows row before fits new = record {
  len = omega (arith, before.len, length-append rows (row ∷ []));
  distinct = all_pairs_push (λ (a b : ListedParts). a.class ≢ b.class) rows row before.distinct (has_not row.class rows new);
  exits = All-push HasExits rows row before.exits fits;
}

are_read : (components : Items) (n : ℕ) (rows : List ListedParts) → reached (add_row components) [] n ≡ Ok rows → AreRead n rows
are_read components zero rows come = rw (← same_ok [] rows come) (record { len = refl; distinct = λ i j d low high. absurd (omega arith); exits = λ k d low. absurd (omega arith) })
are_read components (suc n) rows come =
    let (before, steps, last) = bind_ok (reached (add_row components) [] n) (add_row components n) rows come in
    let (row, read, put) = bind_ok _ (with_row n before) rows last in
    let (new, same) = else_ok (has_class row.class before) _ _ rows put in
    rw (← same_ok _ rows same) (one_more n before row (are_read components n before steps) (row_fits n _ row read) new)

-- what is read is a list that was read
pub rows_are_read : (components : Items) (n : ℕ) (rows : List ListedParts) → n ≤ 256 → reached (add_row components) [] n ≡ Ok rows → IsReadList rows
rows_are_read components n rows few come =
    let all = are_read components n rows come in
    record { limit = omega (arith, few, all.len); distinct = all.distinct; exits = all.exits }
