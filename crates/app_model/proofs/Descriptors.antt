-- Lists of types against lists of descriptors, element by element.
use Rattle.std.proofs.Common.{◌≡◌, ◌≢◌, ℕ, ◌+◌, ◌<◌, false, ◌&&◌, List, [], ◌∷◌, length, map, drop, get_or, refl, bytes_eq, Bor, drop-cons, add-one, arith}
use Rattle.ns_base.specs.declared.rows.TypeNo.{TypeNo}
use Rattle.app_model.specs.Parts.{AppParts}
use Rattle.app_model.specs.Names.{are_types, type_text}

-- lists of two lengths
pub are_types-unequal : (app : AppParts) (ts : List TypeNo) (ds : List (List ℕ)) → length ts ≢ length ds → are_types app ts ds ≡ false
are_types-unequal app [] [] differ = absurd (differ refl)
are_types-unequal app [] (d ∷ ds) differ = refl
are_types-unequal app (t ∷ ts) [] differ = refl
are_types-unequal app (t ∷ ts) (d ∷ ds) differ =
    rw (are_types-unequal app ts ds (λ same. differ (omega (arith, same)))) (grind arith)

-- the first of what is left of both, and the rest
pub are_types-step : (app : AppParts) (ts : List TypeNo) (ds : List (Bor (List ℕ))) (i : ℕ) (t : TypeNo) (d : Bor (List ℕ)) → i < length ts → i < length ds
    → are_types app (drop i ts) (map (λ d. d.now) (drop i ds))
    ≡ bytes_eq (type_text app (get_or ts i t).0) (get_or ds i d).now && are_types app (drop (i + 1) ts) (map (λ d. d.now) (drop (i + 1) ds))
are_types-step app ts ds i t d in_ts in_ds = rw (drop-cons ts i t, drop-cons ds i d, add-one) refl
