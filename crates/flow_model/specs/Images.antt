-- Where a column of the status table leads from the statuses of a mask.
use Rattle.std.specs.Prelude.{◌<◌, ℕ}
use Rattle.app_model.specs.Masks.{IsIn}

-- the statuses to which a column of the status table leads from those of a mask
pub record IsImage (column : ℕ → ℕ) (mask image : ℕ) : Type 0 where
  pub there : (s t : ℕ) → IsIn mask s → IsIn (column s) t → IsIn image t
  pub only : (t : ℕ) → IsIn image t → (s : ℕ) × IsIn mask s × IsIn (column s) t

-- the statuses of a mask that are in another
pub record IsCut (mask kept cut : ℕ) : Type 0 where
  pub there : (s : ℕ) → IsIn mask s → IsIn kept s → IsIn cut s
  pub only : (s : ℕ) → IsIn cut s → IsIn mask s × IsIn kept s

-- the same from the statuses of a mask that are below n
pub record IsImageBelow (column : ℕ → ℕ) (mask n image : ℕ) : Type 0 where
  pub there : (s t : ℕ) → s < n → IsIn mask s → IsIn (column s) t → IsIn image t
  pub only : (t : ℕ) → IsIn image t → (s : ℕ) × (s < n) × IsIn mask s × IsIn (column s) t
