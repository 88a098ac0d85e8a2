-- What pieces of a list that are read or written one after another make together.
use Rattle.std.proofs.Common.{◌≡◌, ℕ, ◌+◌, ◌≤◌, List, [], ◌++◌, length, take, drop, Option, Some, sym, ap, subst, ◌∙◌, arith, append_assoc, append-nil, length-append}
use Rattle.std.proofs.lemmas.List.{length-take}
use Rattle.std.proofs.Math.Seq.{take-add}
use Rattle.ns_base.specs.Answers.{limit_of}
use Rattle.ns_base.specs.Outside.{IsRead}
use Rattle.ns_base.specs.declared.answers.Counted.{Counted}
use Rattle.nosleep.specs.Reading.{IsFront, WhereTold, HasTurn, HasEnding}
use Rattle.nosleep.specs.declared.reading.Ending.{Ending}
use Rattle.nosleep.specs.declared.reading.Ending.TheVariants.{Whole, TooLong, Fault}
use Rattle.nosleep.specs.declared.reading.Turn.TheVariants.{Last}
use Rattle.watchers.specs.Writing.{WroteAll}

-- a read right behind a front of the file, added to it, makes a longer front
pub IsFront-read : (file : Option (List ℕ)) (bs old new buffer : List ℕ) (at n : ℕ) → file ≡ Some bs → IsRead file at buffer n → at ≡ length old → new ≡ old ++ take n buffer → IsFront old bs → IsFront new bs
IsFront-read file bs old new buffer at n told read place made front =
    let whole : length (take n buffer) ≡ n = length-take n buffer ∙ omega (arith, read.within) in
    let long : length new ≡ length old + n = ap length made ∙ length-append old (take n buffer) ∙ ap (λ (k : ℕ). length old + k) whole in
    let read_bytes : take n buffer ≡ take n (drop (length old) bs) = read.bytes bs told ∙ ap (λ (k : ℕ). take n (drop k bs)) place in
    let both : new ≡ take (length old) bs ++ take n (drop (length old) bs) = made ∙ ap (λ (xs : List ℕ). xs ++ take n buffer) front ∙ ap (λ (xs : List ℕ). take (length old) bs ++ xs) read_bytes in
    both ∙ sym (take-add (length old) n bs) ∙ ap (λ (k : ℕ). take k bs) (sym long)

pub IsFront-length : (front bs : List ℕ) → IsFront front bs → length front ≤ length bs
IsFront-length front bs is = omega (arith, ap length is, length-take (length front) bs)

pub length-read : (old new buffer : List ℕ) (n : ℕ) → n ≤ length buffer → new ≡ old ++ take n buffer → length new ≡ length old + n
length-read old new buffer n within made =
    ap length made ∙ length-append old (take n buffer) ∙ ap (λ (k : ℕ). length old + k) (length-take n buffer ∙ omega arith)

-- what was written first and what was written next
pub WroteAll-next : (before between now : Option (List ℕ)) (text : List ℕ) (done n : ℕ) → WroteAll before between (take done text) → WroteAll between now (take n (drop done text)) → WroteAll before now (take (done + n) text)
WroteAll-next before between now text done n first next bs told =
    next (bs ++ take done text) (first bs told)
    ∙ ap (λ (xs : List ℕ). Some xs) (append_assoc bs (take done text) (take n (drop done text)) ∙ ap (λ (xs : List ℕ). bs ++ xs) (sym (take-add done n text)))

pub WroteAll-nothing : (before between now : Option (List ℕ)) (text : List ℕ) → WroteAll before between text → WroteAll between now [] → WroteAll before now text
WroteAll-nothing before between now text first none bs told =
    none (bs ++ text) (first bs told) ∙ ap (λ (xs : List ℕ). Some xs) (append-nil (bs ++ text))

-- how reading ends, from its last read: earlier reads left the same file and no lower count of faults
pub HasEnding-last : (which : Counted) (file same : Option (List ℕ)) (old new : List ℕ) (before between now : ℕ) (ending : Ending) → same ≡ file → WhereTold file (λ bs. IsFront old bs) → length old ≤ limit_of which → before ≤ between → HasTurn which same old new between now (Last ending) → HasEnding which file new before now ending
HasEnding-last which file same old new before between now Whole e front below later turn =
    (λ bs told. turn.1 ∙ turn.0 bs (e ∙ told) (front bs told), subst (λ (xs : List ℕ). length xs ≤ limit_of which) (sym turn.1) below)
HasEnding-last which file same old new before between now TooLong e front below later turn = λ bs told. turn bs (e ∙ told) (front bs told)
HasEnding-last which file same old new before between now Fault e front below later turn = omega arith

-- nothing was written
pub WroteAll-none : (taken : Option (List ℕ)) → WroteAll taken taken []
WroteAll-none taken bs told = told ∙ ap (λ (xs : List ℕ). Some xs) (sym (append-nil bs))
