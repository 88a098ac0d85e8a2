-- What the program writes. Each line ends with a line feed.
use Rattle.std.specs.Prelude.{ℕ, List, [], ◌∷◌, ◌++◌, codes}
use Rattle.app_model.specs.Shown.{shown}

abbrev pub line : List ℕ → List ℕ
line text = text ++ 10 ∷ []

abbrev pub usage_text : List ℕ
usage_text =
    line (codes "usage: nosleep receiver [--json] [--count] DEX CLASS")
    ++ line (codes "       nosleep verify [--json] [--count] LIST DEX...")
    ++ line (codes "       nosleep check [--json] [--count] CERT LIST DEX...")
    ++ line (codes "       nosleep demo N")

abbrev pub accept_text : List ℕ
accept_text = line (codes "accept")

abbrev pub cannot_read_text : List ℕ → List ℕ
cannot_read_text name = line (codes "cannot read " ++ shown name)
