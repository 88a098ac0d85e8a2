-- The text of a certificate has each of its names.
use Rattle.std.proofs.Common.{◌≡◌, ℕ, suc, ◌+◌, ◌≤◌, List, [], ◌∷◌, ◌++◌, length, map, ap, ◌∙◌, arith, length-append}
use Rattle.std.specs.Prelude.{codes, decimal}
use Rattle.std.specs.List.{AllByRecursion, flat_map, join_with_byte}
use Rattle.std.proofs.lemmas.Grind.{flat_map-append}
use Rattle.cert_line.specs.Lines.{name_line, spelled, with_feed}
use Rattle.cert_line.specs.declared.rows.Line.{Line}
use Rattle.cert_line.specs.declared.rows.Line.TheVariants.{Version, ListDigest, DexDigest, View, Body, End}
use Rattle.certificate.specs.Parts.{CertParts, LockRows}
use Rattle.certificate.specs.Texts.{certificate_text, lock_lines}

abbrev size : List Line → ℕ
size lines = length (flat_map with_feed lines)

size_first : (line : Line) (lines : List Line) → size (line ∷ lines) ≡ length (with_feed line) + size lines
size_first line lines = length-append (with_feed line) (flat_map with_feed lines)

size_both : (one other : List Line) → size (one ++ other) ≡ size one + size other
size_both one other = ap length (flat_map-append with_feed one other) ∙ length-append (flat_map with_feed one) (flat_map with_feed other)

third : (a b c : List ℕ) → length c ≤ length (join_with_byte 32 (a ∷ b ∷ c ∷ []))
third a b c = omega (arith, length-append a (32 ∷ (b ++ 32 ∷ c)), length-append b (32 ∷ c))

name_size : (k : ℕ) (name : List ℕ) → length name ≤ length (with_feed (name_line k name))
unfolding spelled
name_size k name = omega (arith, third (codes "lock") (decimal k) name, length-append (spelled (name_line k name)) (10 ∷ []))

names_low : (most k : ℕ) (ps : List LockRows) → size (lock_lines k ps) ≤ most → AllByRecursion (λ p. length p.name ≤ most) ps
names_low most k [] le = tt
names_low most k (p ∷ ps) le =
    let first = size_first (name_line k p.name) (map View p.views ++ (map Body p.bodies ++ lock_lines (suc k) ps)) in
    let views = size_both (map View p.views) (map Body p.bodies ++ lock_lines (suc k) ps) in
    let bodies = size_both (map Body p.bodies) (lock_lines (suc k) ps) in
    let own = name_size k p.name in
    (omega arith, names_low most (suc k) ps (omega arith))

pub text_names : (c : CertParts) → AllByRecursion (λ p. length p.name ≤ length (certificate_text c)) c.locks
unfolding certificate_text
text_names c =
    let locks = lock_lines 0 c.locks in
    let version = size_first Version (ListDigest c.list ∷ (map DexDigest c.dex ++ (locks ++ End ∷ []))) in
    let list = size_first (ListDigest c.list) (map DexDigest c.dex ++ (locks ++ End ∷ [])) in
    let dex = size_both (map DexDigest c.dex) (locks ++ End ∷ []) in
    let end = size_both locks (End ∷ []) in
    names_low _ 0 c.locks (omega arith)
