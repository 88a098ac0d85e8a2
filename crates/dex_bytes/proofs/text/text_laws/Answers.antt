use Rattle.dex_bytes.proofs.Texts.{text_found, found_text, bad_is_first, cut_begins, no_zero_before}
use Rattle.dex_bytes.proofs.text.text_laws.Goals as goal

pub returns : goal.returns
returns c = record {
  text = λ bs p units e. (text_found bs p units e, found_text bs p units e);
  ends = no_zero_before;
  bad = bad_is_first;
  cut = cut_begins;
}
