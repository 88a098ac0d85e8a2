-- The refusal of a DEX file.
use Rattle.std.specs.Prelude.{ℕ, List, [], ◌∷◌, ◌++◌, codes, decimal}
use Rattle.dex_bytes.specs.declared.fault.DexFault.{DexFault}
use Rattle.dex_bytes.specs.declared.fault.DexFault.TheVariants.{Short, Magic, Version, HeaderSize, Endian, FileSize, Checksum, Signature, Leb, Mutf8, TableRange, Index, MemberIndex, Registers, TryRange, HandlerOffset, HandlerAddress, Limit, Memory}
use Rattle.report_text.specs.Numbers.{numbers_text}
use Rattle.report_text.specs.Texts.{line}

abbrev pub dex_fault_name : DexFault → List ℕ
dex_fault_name (Short place) = codes "Short"
dex_fault_name Magic = codes "Magic"
dex_fault_name Version = codes "Version"
dex_fault_name HeaderSize = codes "HeaderSize"
dex_fault_name Endian = codes "Endian"
dex_fault_name FileSize = codes "FileSize"
dex_fault_name Checksum = codes "Checksum"
dex_fault_name Signature = codes "Signature"
dex_fault_name (Leb place) = codes "Leb"
dex_fault_name (Mutf8 place) = codes "Mutf8"
dex_fault_name (TableRange table) = codes "TableRange"
dex_fault_name (Index table row number) = codes "Index"
dex_fault_name (MemberIndex place) = codes "MemberIndex"
dex_fault_name (Registers place) = codes "Registers"
dex_fault_name (TryRange place) = codes "TryRange"
dex_fault_name (HandlerOffset place) = codes "HandlerOffset"
dex_fault_name (HandlerAddress place) = codes "HandlerAddress"
dex_fault_name (Limit which) = codes "Limit"
dex_fault_name Memory = codes "Memory"

abbrev pub dex_fault_numbers : DexFault → List ℕ
dex_fault_numbers (Short place) = place ∷ []
dex_fault_numbers (Leb place) = place ∷ []
dex_fault_numbers (Mutf8 place) = place ∷ []
dex_fault_numbers (TableRange table) = table ∷ []
dex_fault_numbers (Index table row number) = table ∷ row ∷ number ∷ []
dex_fault_numbers (MemberIndex place) = place ∷ []
dex_fault_numbers (Registers place) = place ∷ []
dex_fault_numbers (TryRange place) = place ∷ []
dex_fault_numbers (HandlerOffset place) = place ∷ []
dex_fault_numbers (HandlerAddress place) = place ∷ []
dex_fault_numbers _ = []

abbrev pub bad_dex_text : (file : ℕ) → DexFault → List ℕ
bad_dex_text file fault =
    line (codes "bad dex " ++ decimal file ++ codes " " ++ dex_fault_name fault ++ numbers_text (dex_fault_numbers fault))
