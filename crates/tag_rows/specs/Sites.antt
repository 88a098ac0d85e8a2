-- The calls that make a lock, numbered in order of method and instruction.
use Rattle.std.specs.Prelude.{ℕ, ◌≡◌, ◌<◌, true, List, Contains, length, Some, slice_get}
use Rattle.app_model.specs.LockUse.{lock_use_at}
use Rattle.app_model.specs.Parts.{AppParts}
use Rattle.app_model.specs.Sites.{is_make, site_at}
use Rattle.app_model.specs.Words.{code_len}
use Rattle.tag_rows.specs.declared.sites.Site.{Site}

-- the calls that make a lock, each at the place of its site
pub record AreSites (app : AppParts) (sites : List Site) : Type 0 where
  pub all : (m i : ℕ) → m < length app.methods → i < code_len app m → is_make (lock_use_at app m i) ≡ true → Contains sites (record { method = record { 0 = m }; index = i })
  pub only : (n : ℕ) (site : Site) → slice_get sites n ≡ Some site → n ≡ site_at app site.method.0 site.index

-- the calls of the methods before m, and of the instructions of m before i
pub record AreSitesBefore (app : AppParts) (m i : ℕ) (sites : List Site) : Type 0 where
  pub earlier : (n j : ℕ) → n < m → j < code_len app n → is_make (lock_use_at app n j) ≡ true → Contains sites (record { method = record { 0 = n }; index = j })
  pub here : (j : ℕ) → j < i → is_make (lock_use_at app m j) ≡ true → Contains sites (record { method = record { 0 = m }; index = j })
  pub only : (n : ℕ) (site : Site) → slice_get sites n ≡ Some site → n ≡ site_at app site.method.0 site.index
  pub len : length sites ≡ site_at app m i
