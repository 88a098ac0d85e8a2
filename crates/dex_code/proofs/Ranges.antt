-- What holds of all numbers in a range, what chains of steps with a first fault say, and lists by index.
use Rattle.std.proofs.Common.{◌≡◌, ℕ, zero, suc, ◌+◌, ◌-◌, ◌<◌, ◌≤◌, inl, inr, List, [], ◌∷◌, length, get_or, Bool, true, false, cond, Result, Ok, Err, refl, subst, arith, length-append}
use Rattle.std.proofs.lemmas.Bool.{cases_lt}
use Rattle.std.proofs.lemmas.List.{get_or_append_left, get_or-append_right, ext_get_or}
use Rattle.dex_bytes.specs.declared.fault.DexFault.{DexFault}
use Rattle.dex_tables.specs.Content.{AreRows}
use Rattle.dex_tables.specs.Reading.{◌>>=◌, list_below}

-- two ranges make one
pub range_join : (P : ℕ → Type 0) (a b c : ℕ) → ((k : ℕ) → a ≤ k → k < b → P k) → ((k : ℕ) → b ≤ k → k < c → P k) → (k : ℕ) → a ≤ k → k < c → P k
range_join P a b c low high k from to =
    elim (cases_lt k b) [ inl h ↦ low k from h | inr h ↦ high k h to ]

one_at : (P : ℕ → Type 0) (a d : ℕ) → P a → d < 1 → P (a + d)
one_at P a zero here low = let e : a ≡ a + 0 = omega arith in subst P e here
one_at P a (suc d) here low = absurd (omega arith)

-- a range of one
pub range_one : (P : ℕ → Type 0) (a : ℕ) → P a → (k : ℕ) → a ≤ k → k < a + 1 → P k
range_one P a here k from to =
    let e : a + (k - a) ≡ k = omega arith in
    subst P e (one_at P a (k - a) here (omega arith))

-- one more below
pub below_next : (P : ℕ → Type 0) (n : ℕ) → ((k : ℕ) → k < n → P k) → P n → (k : ℕ) → k < suc n → P k
below_next P n below here k low =
    elim (cases_lt k n) [ inl h ↦ below k h | inr h ↦ (let e : n ≡ k = omega arith in subst P e here) ]

-- a chain is well where each of its parts is
pub bind_ok : {A B : Type 0} (m : Result A DexFault) (f : A → Result B DexFault) (r : B) → (m >>= f) ≡ Ok r → (x : A) × (m ≡ Ok x) × (f x ≡ Ok r)
bind_ok (Ok x) f r e = (x, refl, e)
bind_ok (Err e) f r h = absurd (let no : ⊥ = cc in no)

pub bind_by : {A B : Type 0} (m : Result A DexFault) (f : A → Result B DexFault) (x : A) (r : Result B DexFault) → m ≡ Ok x → f x ≡ r → (m >>= f) ≡ r
bind_by m f x r one two = rw one two

-- a test is well where it lets through
pub else_ok : {A : Type 0} (b : Bool) (e : DexFault) (m : Result A DexFault) (r : A) → cond b (Err e) m ≡ Ok r → (b ≡ false) × (m ≡ Ok r)
else_ok true e m r h = absurd (let no : ⊥ = cc in no)
else_ok false e m r h = (refl, h)

pub then_ok : {A : Type 0} (b : Bool) (e : DexFault) (m : Result A DexFault) (r : A) → cond b m (Err e) ≡ Ok r → (b ≡ true) × (m ≡ Ok r)
then_ok true e m r h = (refl, h)
then_ok false e m r h = absurd (let no : ⊥ = cc in no)

pub ok_same : {A : Type 0} (x y : A) → ◌≡◌ {A = Result A DexFault} (Ok x) (Ok y) → x ≡ y
ok_same x y h = cc

-- lists by index
pub length-list_below : {T : Type 0} (f : ℕ → T) (n : ℕ) → length (list_below f n) ≡ n
length-list_below f zero = refl
length-list_below f (suc n) = omega (arith, length-append (list_below f n) (f n ∷ []), length-list_below f n)

pub get_list_below : {T : Type 0} (f : ℕ → T) (n i : ℕ) (d : T) → i < n → get_or (list_below f n) i d ≡ f i
get_list_below f zero i d low = absurd (omega arith)
get_list_below f (suc n) i d low =
    elim (cases_lt i n) [
      | inl h ↦ (let in_front : i < length (list_below f n) = omega (arith, length-list_below f n) in
          rw (get_or_append_left (list_below f n) (f n ∷ []) d i in_front) (get_list_below f n i d h))
      | inr h ↦ (let last : i ≡ n = omega arith in
          let at_end : i - n ≡ 0 = omega arith in
          rw (get_or-append_right (list_below f n) (f n ∷ []) n i d (length-list_below f n) h, at_end, last) refl)
    ]

pub rows_from : {T : Type 0} (rows : List T) (n : ℕ) (f : ℕ → T) → rows ≡ list_below f n → AreRows rows n f
rows_from rows n f e = rw e (record { count = length-list_below f n; each = λ i d low. get_list_below f n i d low })

pub rows_are : {T : Type 0} (d : T) (rows : List T) (n : ℕ) (f : ℕ → T) → AreRows rows n f → rows ≡ list_below f n
rows_are d rows n f are =
    let lengths : length rows ≡ length (list_below f n) = omega (arith, are.count, length-list_below f n) in
    ext_get_or d rows (list_below f n) lengths (λ i low.
    let below : i < n = omega (arith, are.count) in
    rw (are.each i d below, get_list_below f n i d below) refl)
