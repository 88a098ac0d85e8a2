-- Strings that are numbered by the first row with their text.
use Rattle.std.proofs.Common.{◌≡◌, ℕ, List, slice_index, Option, Some, Bor, sym, ap, subst, ◌∙◌}
use Rattle.std.specs.BTreeMap.{BTreeMap}
use Rattle.dex_tables.specs.Rows.{string_count, string_text}
use Rattle.dex_code.specs.Alike.{AreTextNumbers, AreFirsts, first_in}

some_is : (a b : ℕ) → ◌≡◌ {A = Option ℕ} (Some a) (Some b) → a ≡ b
some_is a b e = cc

-- at the end the numbers tell the texts
pub numbers_tell : (bs : List ℕ) (firsts : BTreeMap (Bor (List ℕ)) ℕ) (numbers : List ℕ) (n : ℕ) → AreFirsts bs firsts numbers n → n ≡ string_count bs → AreTextNumbers bs numbers
numbers_tell bs firsts numbers n some end =
    let all : AreFirsts bs firsts numbers (string_count bs) = subst (AreFirsts bs firsts numbers) end some in
    record {
      count = all.count;
      same = λ s t s_in t_in e. sym (all.theirs (string_text bs s) (slice_index numbers s) (all.kept s s_in))
          ∙ ap (string_text bs) e
          ∙ all.theirs (string_text bs t) (slice_index numbers t) (all.kept t t_in);
      alike = λ s t s_in t_in e. some_is _ _ (sym (all.kept s s_in) ∙ ap (first_in firsts) e ∙ all.kept t t_in);
    }
