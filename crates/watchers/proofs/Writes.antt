-- What writes one after another make together.
use Rattle.std.proofs.Common.{ℕ, ◌+◌, List, [], ◌++◌, take, drop, Option, Some, sym, ap, ◌∙◌, append_assoc, append-nil}
use Rattle.std.proofs.Math.Seq.{take-add}
use Rattle.watchers.specs.Writing.{WroteAll}

-- what was written first and what was written next
pub WroteAll-next : (before between now : Option (List ℕ)) (text : List ℕ) (done n : ℕ) → WroteAll before between (take done text) → WroteAll between now (take n (drop done text)) → WroteAll before now (take (done + n) text)
WroteAll-next before between now text done n first next bs told =
    next (bs ++ take done text) (first bs told)
    ∙ ap (λ (xs : List ℕ). Some xs) (append_assoc bs (take done text) (take n (drop done text)) ∙ ap (λ (xs : List ℕ). bs ++ xs) (sym (take-add done n text)))

pub WroteAll-nothing : (before between now : Option (List ℕ)) (text : List ℕ) → WroteAll before between text → WroteAll between now [] → WroteAll before now text
WroteAll-nothing before between now text first none bs told =
    none (bs ++ text) (first bs told) ∙ ap (λ (xs : List ℕ). Some xs) (append-nil (bs ++ text))

-- nothing was written
pub WroteAll-none : (taken : Option (List ℕ)) → WroteAll taken taken []
WroteAll-none taken bs told = told ∙ ap (λ (xs : List ℕ). Some xs) (sym (append-nil bs))
