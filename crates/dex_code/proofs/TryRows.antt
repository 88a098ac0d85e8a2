-- The rows of tries, one behind the other.
use Rattle.std.proofs.Common.{◌≡◌, ℕ, suc, ◌+◌, ◌-◌, ◌<◌, ◌≤◌, List, ap, arith}
use Rattle.dex_code.specs.CodeItem.{try_place, try_start, try_count, covered_before}

pub try_place_next : (bs : List ℕ) (p t : ℕ) → try_place bs p (t + 1) ≡ try_place bs p t + 8
unfolding try_place
try_place_next bs p t = omega arith

pub try_place_before : (bs : List ℕ) (p t : ℕ) → 0 < t → try_place bs p (t - 1) + 8 ≡ try_place bs p t
unfolding try_place
try_place_before bs p t some = omega arith

pub try_place_below : (bs : List ℕ) (p t n : ℕ) → t < n → try_place bs p t + 8 ≤ try_place bs p n
unfolding try_place
try_place_below bs p t n low = omega arith

pub covered_next : (bs : List ℕ) (p t : ℕ) → 0 < t → covered_before bs p t ≡ try_start bs p (t - 1) + try_count bs p (t - 1)
covered_next bs p t some = let e : t ≡ suc (t - 1) = omega arith in ap (covered_before bs p) e
