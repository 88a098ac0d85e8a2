-- Digests of files, by number.
use Rattle.std.specs.Prelude.{ℕ, ◌≡◌, ◌<◌, List, Option, Some, None, slice_get}

-- the first number at which they differ
abbrev pub IsFirstDigest : (own dex : List (List ℕ)) → Option ℕ → Type 0
IsFirstDigest own dex None = own ≡ dex
IsFirstDigest own dex (Some i) = ¬ (slice_get own i ≡ slice_get dex i) × ((k : ℕ) → k < i → slice_get own k ≡ slice_get dex k)
