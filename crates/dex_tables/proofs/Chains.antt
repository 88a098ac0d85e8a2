-- What a chain of readings gives.
use Rattle.std.proofs.Common.{◌≡◌, ℕ, ◌<◌, ◌≤◌, Bool, true, false, nat_lt, cond, Result, Ok, Err, refl, arith}
use Rattle.std.proofs.lemmas.Bool.Decides.{nat_tests}
use Rattle.dex_bytes.specs.declared.fault.DexFault.{DexFault}
use Rattle.dex_bytes.specs.declared.fault.DexFault.TheVariants.{Index}
use Rattle.dex_tables.specs.Reading.{◌>>=◌, named}

abbrev done : {A : Type 0} → A → Result A DexFault
done x = Ok x

pub ok_is : {A : Type 0} (x y : A) → done x ≡ done y → x ≡ y
ok_is x y e = cc

-- a step that did not fail
pub bind_ok : {A B : Type 0} (r : Result A DexFault) (f : A → Result B DexFault) (y : B) → (r >>= f) ≡ Ok y → (x : A) × (r ≡ Ok x) × (f x ≡ Ok y)
bind_ok (Ok x) f y e = (x, refl, e)
bind_ok (Err d) f y e = absurd cc

-- a test that did not fail
pub test_ok : {A : Type 0} (b : Bool) (d : DexFault) (r : Result A DexFault) (y : A) → cond b (Err d) r ≡ Ok y → (b ≡ false) × (r ≡ Ok y)
test_ok true d r y e = absurd cc
test_ok false d r y e = (refl, e)

pub not_lt : (a b : ℕ) → nat_lt a b ≡ false → b ≤ a
not_lt a b h = grind (arith, nat_tests)

pub lt_not : (a b : ℕ) → b ≤ a → nat_lt a b ≡ false
lt_not a b h = grind (arith, nat_tests)

is_named : (b : Bool) (n : ℕ) (d : DexFault) (x : ℕ) → cond b (Ok n) (Err d) ≡ Ok x → (b ≡ true) × (x ≡ n)
is_named true n d x e = (refl, cc)
is_named false n d x e = absurd cc

lt_of : (a b : ℕ) → nat_lt a b ≡ true → a < b
lt_of a b h = grind (arith, nat_tests)

pub named_ok : (table row rows n x : ℕ) → named table row rows n ≡ Ok x → (x ≡ n) × (n < rows)
named_ok table row rows n x e =
    let is = is_named (nat_lt n rows) n (Index table row n) x e in
    (is.1, lt_of n rows is.0)

pub named_again : (table row rows n : ℕ) → n < rows → named table row rows n ≡ Ok n
named_again table row rows n low = grind (arith, nat_tests)

-- three steps that do not look at each other
pub record Three {A B C R : Type 0} (a : Result A DexFault) (b : Result B DexFault) (c : Result C DexFault) (make : A → B → C → R) (x : R) : Type 0 where
  pub u : A
  pub v : B
  pub w : C
  pub is_u : a ≡ Ok u
  pub is_v : b ≡ Ok v
  pub is_w : c ≡ Ok w
  pub makes : make u v w ≡ x

pub three_ok : {A B C R : Type 0} (a : Result A DexFault) (b : Result B DexFault) (c : Result C DexFault) (make : A → B → C → R) (x : R) → (a >>= λ u. b >>= λ v. c >>= λ w. Ok (make u v w)) ≡ Ok x → Three a b c make x
three_ok (Ok u) (Ok v) (Ok w) make x e = record { u = u; v = v; w = w; is_u = refl; is_v = refl; is_w = refl; makes = ok_is (make u v w) x e }
three_ok (Err d) b c make x e = absurd cc
three_ok (Ok u) (Err d) c make x e = absurd cc
three_ok (Ok u) (Ok v) (Err d) make x e = absurd cc

-- six of them
pub record Six {A B C D E F R : Type 0} (a : Result A DexFault) (b : Result B DexFault) (c : Result C DexFault) (d : Result D DexFault) (e : Result E DexFault) (f : Result F DexFault) (make : A → B → C → D → E → F → R) (x : R) : Type 0 where
  pub u : A
  pub v : B
  pub w : C
  pub p : D
  pub q : E
  pub r : F
  pub is_u : a ≡ Ok u
  pub is_v : b ≡ Ok v
  pub is_w : c ≡ Ok w
  pub is_p : d ≡ Ok p
  pub is_q : e ≡ Ok q
  pub is_r : f ≡ Ok r
  pub makes : make u v w p q r ≡ x

pub six_ok : {A B C D E F R : Type 0} (a : Result A DexFault) (b : Result B DexFault) (c : Result C DexFault) (d : Result D DexFault) (e : Result E DexFault) (f : Result F DexFault) (make : A → B → C → D → E → F → R) (x : R) → (a >>= λ u. b >>= λ v. c >>= λ w. d >>= λ p. e >>= λ q. f >>= λ r. Ok (make u v w p q r)) ≡ Ok x → Six a b c d e f make x
six_ok (Ok u) (Ok v) (Ok w) (Ok p) (Ok q) (Ok r) make x h = record { u = u; v = v; w = w; p = p; q = q; r = r; is_u = refl; is_v = refl; is_w = refl; is_p = refl; is_q = refl; is_r = refl; makes = ok_is (make u v w p q r) x h }
six_ok (Err z) b c d e f make x h = absurd cc
six_ok (Ok u) (Err z) c d e f make x h = absurd cc
six_ok (Ok u) (Ok v) (Err z) d e f make x h = absurd cc
six_ok (Ok u) (Ok v) (Ok w) (Err z) e f make x h = absurd cc
six_ok (Ok u) (Ok v) (Ok w) (Ok p) (Err z) f make x h = absurd cc
six_ok (Ok u) (Ok v) (Ok w) (Ok p) (Ok q) (Err z) make x h = absurd cc
