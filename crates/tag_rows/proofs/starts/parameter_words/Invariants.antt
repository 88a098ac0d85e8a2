use Rattle.std.proofs.Common.{◌≡◌, min, take}
use Rattle.std.specs.List.{sum_by}
use Rattle.ns_base.specs.declared.rows.TypeNo.{TypeNo}
use Rattle.dalvik.specs.Descriptors.{words_of}
use Rattle.app_model.specs.Names.{type_text}
use Rattle.tag_rows.proofs.starts.parameter_words.Given as goal

abbrev pub invariant-loop-i : goal.invariant-loop-i
invariant-loop-i l = l.words ≡ min (sum_by (λ (t : TypeNo). words_of (type_text l.app t.0)) (take l.i l.params)) l.most
