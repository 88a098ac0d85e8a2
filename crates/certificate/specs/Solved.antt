-- The part of a certificate that the facts of a lock field give.
use Rattle.std.specs.Prelude.{ℕ, zero, suc, ◌≡◌, ◌+◌, ◌*◌, ◌^◌, ◌<◌, ◌≤◌, ◌⊎◌, Bool, true, false, List, [], map, length, nat_lt, if◌then◌else◌, flat_map}
use Rattle.std.specs.List.{filter, range_with_len}
use Rattle.app_model.specs.Facts.{Fact, View, At, Ret, Exc}
use Rattle.app_model.specs.Shown.{lock_text}
use Rattle.app_model.specs.Subject.{SubjectParts, is_reached}
use Rattle.app_model.specs.Words.{code_len}
use Rattle.solution.specs.Facts.{Facts}
use Rattle.solution.specs.Table.{row_len}
use Rattle.solution.specs.Words.{has}
use Rattle.cert_line.specs.Lines.{has_fact}
use Rattle.cert_line.specs.Parts.{BodyParts}
use Rattle.cert_line.specs.declared.rows.ViewRow.{ViewRow}
use Rattle.certificate.specs.Parts.{LockRows}

abbrev pub bit_of : Bool → ℕ
bit_of true = 1
bit_of false = 0

abbrev pub mask_below : ℕ → (ℕ → Bool) → ℕ
mask_below zero f = 0
mask_below (suc n) f = bit_of (f n) * 2 ^ n + mask_below n f

-- the statuses that pass a test, as a mask
unfoldable pub mask_of : (ℕ → Bool) → ℕ
mask_of f = mask_below 8 f

abbrev pub numbers_below : ℕ → List ℕ
numbers_below n = range_with_len 0 n

-- ---- a component in a state
abbrev pub view_row : (Fact → Bool) → ℕ → ℕ → ViewRow
view_row set c q = record { component = c; state = q; mask = mask_of (λ s. set (View c q s)) }

abbrev pub has_status : ViewRow → Bool
has_status v = nat_lt 0 v.mask

-- a row for each state in which some status can be
unfoldable pub component_views : (Fact → Bool) → ℕ → List ViewRow
component_views set c = filter has_status (map (view_row set c) (numbers_below 8))

-- ---- a method of n instructions, entered at a status
abbrev pub masks_of : (Fact → Bool) → (m n e : ℕ) → List ℕ
masks_of set m n e = map (λ i. mask_of (λ s. set (At m e i s))) (numbers_below n)

abbrev pub body_row : (Fact → Bool) → (m n e : ℕ) → BodyParts
body_row set m n e = record {
  method = m;
  entry = e;
  ret = mask_of (λ s. set (Ret m e s));
  exc = mask_of (λ s. set (Exc m e s));
  masks = masks_of set m n e;
}

-- a row for each entry status with some fact
unfoldable pub code_bodies : (Fact → Bool) → (m n : ℕ) → List BodyParts
code_bodies set m n = filter has_fact (map (body_row set m n) (numbers_below 8))

-- none of a method that is not reached
unfoldable pub method_bodies : SubjectParts → (Fact → Bool) → ℕ → List BodyParts
method_bodies x set m = if is_reached x m then code_bodies set m (code_len x.app m) else []

-- ---- the rows of a lock field, under its name as it is shown
abbrev pub part_of : SubjectParts → ℕ → (Fact → Bool) → LockRows
part_of x l set = record {
  name = lock_text x.app l;
  views = flat_map (component_views set) (numbers_below (length x.list));
  bodies = flat_map (method_bodies x set) (numbers_below (length x.app.methods));
}

-- ---- some fact of a method of n instructions
abbrev pub BodyFact : (Fact → Bool) → (m n e s : ℕ) → Type 0
BodyFact set m n e s =
    (set (Ret m e s) ≡ true) ⊎ ((set (Exc m e s) ≡ true) ⊎ ((i : ℕ) × (i < n) × (set (At m e i s) ≡ true)))

abbrev pub HasRow : ℕ → ℕ → Type 0
HasRow word e = (s : ℕ) × (has word e s ≡ true)

-- ---- a table of facts has room for a method of n instructions
pub record HasCode (t : Facts) (m n : ℕ) : Type 0 where
  pub len : n ≤ row_len t.code m
  pub ret : m < row_len t.ends 0
  pub exc : m < row_len t.ends 1
