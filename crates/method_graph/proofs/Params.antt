-- The types of parameters are types.
use Rattle.std.proofs.Common.{◌≡◌, ◌≢◌, ℕ, ◌<◌, List, arith, refl}
use Rattle.dex_tables.specs.Rows.{list_size, list_entry, proto_params, proto_count, type_count}
use Rattle.dex_tables.specs.Sound.{AreSoundTables}

size_zero : (bs : List ℕ) → list_size bs 0 ≡ 0
unfolding list_size
size_zero bs = refl

listed : (bs : List ℕ) (off k : ℕ) → k < list_size bs off → off ≢ 0
listed bs off k h e = let none = size_zero bs in let here = rw e at h in absurd (omega arith)

pub param_is_type : (bs : List ℕ) (p k : ℕ) → AreSoundTables bs → p < proto_count bs → k < list_size bs (proto_params bs p)
    → list_entry bs (proto_params bs p) k < type_count bs
param_is_type bs p k sound row h = ((sound.protos p row).params (listed bs (proto_params bs p) k h)).entries k h
