-- Pieces of a text, grouped to the right or to the left.
use Rattle.std.proofs.Common.{◌≡◌, ℕ, List, ◌++◌, sym, ◌∙◌, append_assoc, Result, Ok, Err, IfOk}

pub left_3 : (a b c : List ℕ) → a ++ (b ++ c) ≡ a ++ b ++ c
left_3 a b c = sym (append_assoc a b c)

pub left_5 : (a b c d e : List ℕ) → a ++ (b ++ (c ++ (d ++ e))) ≡ a ++ b ++ c ++ d ++ e
left_5 a b c d e = left_3 a b (c ++ (d ++ e)) ∙ left_3 (a ++ b) c (d ++ e) ∙ left_3 (a ++ b ++ c) d e

pub left_7 : (a b c d e f g : List ℕ) → a ++ (b ++ (c ++ (d ++ (e ++ (f ++ g))))) ≡ a ++ b ++ c ++ d ++ e ++ f ++ g
left_7 a b c d e f g = left_5 a b c d (e ++ (f ++ g)) ∙ left_3 (a ++ b ++ c ++ d) e (f ++ g) ∙ left_3 (a ++ b ++ c ++ d ++ e) f g

pub left_9 : (a b c d e f g h i : List ℕ) → a ++ (b ++ (c ++ (d ++ (e ++ (f ++ (g ++ (h ++ i))))))) ≡ a ++ b ++ c ++ d ++ e ++ f ++ g ++ h ++ i
left_9 a b c d e f g h i = left_7 a b c d e f (g ++ (h ++ i)) ∙ left_3 (a ++ b ++ c ++ d ++ e ++ f) g (h ++ i) ∙ left_3 (a ++ b ++ c ++ d ++ e ++ f ++ g) h i

-- an answer that is one text is another that is the same
pub same_text : {T E : Type 0} (r : Result T E) (f : T → List ℕ) (x y : List ℕ) → x ≡ y → IfOk r (λ s. f s ≡ x) → IfOk r (λ s. f s ≡ y)
same_text (Ok s) f x y same is = is ∙ same
same_text (Err e) f x y same is = is
