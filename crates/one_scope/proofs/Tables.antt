-- Tables of tags of one application have the same rows, whichever call graph each was made by.
use Rattle.std.proofs.Common.{◌≡◌, ℕ, ◌+◌, Bool, List, length, slice_index, refl, sym, ap, ◌∙◌, subst}
use Rattle.std.proofs.lemmas.List.{ext_get_or}
use Rattle.app_model.specs.declared.tag.Tag.{Tag}
use Rattle.app_model.specs.declared.tag.Tag.TheVariants.{Bot, Mixed}
use Rattle.app_model.specs.CallGraph.{GraphParts}
use Rattle.app_model.specs.Components.{ComponentParts}
use Rattle.app_model.specs.Parts.{AppParts}
use Rattle.app_model.specs.TagTable.{TagParts, row_at}
use Rattle.app_model.proofs.Cells.{length-row_at}
use Rattle.act_model.specs.Tags.{Under, itself, bot_all, zero_any, solid_any, held_any, all_mixed}
use Rattle.flow_model.specs.TagFlow.{Flow, IsClosedTable, IsTagTableOf, TableUnder, back_from_outside, begins, comes_back, enters, goes_on, passes_call, throws, throws_out}
use Rattle.one_scope.proofs.Graphs.{HasSameTargets, callee_over, outside_over, same_stores, turned}

-- ---- tags that are under each other
below_bot : (t : Tag) → Under t Bot → Bot ≡ t
below_bot _ itself = refl
below_bot _ bot_all = refl

above_mixed : (t : Tag) → Under Mixed t → t ≡ Mixed
above_mixed _ itself = refl
above_mixed _ all_mixed = refl

pub same_tag : (a b : Tag) → Under a b → Under b a → a ≡ b
same_tag _ _ itself back = refl
same_tag _ b bot_all back = below_bot b back
same_tag _ _ zero_any back = absurd (elim back [ ])
same_tag _ _ solid_any back = absurd (elim back [ ])
same_tag _ _ held_any back = absurd (elim back [ ])
same_tag a _ all_mixed back = above_mixed a back

-- ---- flows by the one call graph are flows by the other
module _ (app : AppParts) (one other : GraphParts) (same : HasSameTargets one other) (list : List ComponentParts) (gone : (n l : ℕ) → Bool) (table : TagParts) where
  pub flow_over : {m j : ℕ} {row : List Tag} → Flow app one list gone table m j row → Flow app other list gone table m j row
  flow_over (begins c k there) = begins c k there
  flow_over (goes_on i k a is leads plain to live) = goes_on i k a is leads plain to live
  flow_over (back_from_outside {m = m} i k a is call outside to live) = back_from_outside i k a is call (outside_over one other same m i outside) to live
  flow_over (throws i k a is can to live) = throws i k a is can to live
  flow_over (enters m i n by usage arguments gives is callee live) = enters m i n by usage arguments gives is (callee_over one other same m i n callee) live
  flow_over (passes_call {m = m} i k n callee to live) = passes_call i k n (callee_over one other same m i n callee) to live
  flow_over (comes_back {m = m} i k e n answer callee to live is handed) = comes_back i k e n answer (callee_over one other same m i n callee) to live is handed
  flow_over (throws_out {m = m} i k n callee to live) = throws_out i k n (callee_over one other same m i n callee) to live

-- so what is closed for the one is closed for the other
closed_over : (app : AppParts) (one other : GraphParts) → HasSameTargets one other → (list : List ComponentParts) (gone : (n l : ℕ) → Bool) (table : TagParts) → IsClosedTable app one list gone table → IsClosedTable app other list gone table
closed_over app one other same list gone table closed = record { by = λ flow there r below. closed.by (flow_over app other one (turned one other same) list gone table flow) there r below }

same_width : (low high : TagParts) → low.registers ≡ high.registers → (m i : ℕ) → length (row_at low m i) ≡ length (row_at high m i)
same_width low high same m i = length-row_at low m i ∙ ap (λ (registers : List ℕ). slice_index registers m + 1) same ∙ sym (length-row_at high m i)

-- ---- the least tables, which are under each other
module _ (app : AppParts) (list : List ComponentParts) where
  least_under : (one other : GraphParts) (low high : TagParts) → HasSameTargets one other → IsTagTableOf app one list low → IsTagTableOf app other list high → TableUnder low high
  least_under one other low high same left right =
      left.least.least high (right.fits.registers ∙ sym left.fits.registers)
      (subst (λ (gone : (n l : ℕ) → Bool). IsClosedTable app one list gone high) (sym (same_stores one other same app left.gone right.gone left.stores right.stores))
      (closed_over app other one (turned one other same) list right.gone high right.least.closed))

  pub same_rows : (one other : GraphParts) (low high : TagParts) → HasSameTargets one other → IsTagTableOf app one list low → IsTagTableOf app other list high → (m i : ℕ) → row_at low m i ≡ row_at high m i
  same_rows one other low high same left right m i =
      ext_get_or Bot (row_at low m i) (row_at high m i) (same_width low high (left.fits.registers ∙ sym right.fits.registers) m i)
      (λ r below. same_tag _ _ (least_under one other low high same left right m i r) (least_under other one high low (turned one other same) right left m i r))
