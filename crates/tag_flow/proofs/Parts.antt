-- What parts of one instruction's work come to.
use Rattle.std.proofs.Common.{◌≡◌, ℕ, Bool, true, false, Option, Some, None, [], length, refl, sym, ap, ◌∙◌, subst, arith}
use Rattle.std.specs.Prelude.{◌&&◌, ◌||◌, not}
use Rattle.std.proofs.lemmas.Bool.{false≢true}
use Rattle.ns_base.specs.declared.rows.MethodNo.{MethodNo}
use Rattle.dalvik.specs.declared.ins.Args.{Args}
use Rattle.dalvik.specs.declared.ins.Ins.{Ins}
use Rattle.dalvik.specs.declared.ins.Ins.TheVariants as ins
use Rattle.app_model.specs.CallGraph.{TargetParts}
use Rattle.app_model.specs.LockUse.{invoke_of}
use Rattle.app_model.specs.Parts.{AppParts}
use Rattle.app_model.specs.TagTable.{row_at, tag_at}
use Rattle.app_model.specs.Targets.{targets_by, targets_in}
use Rattle.app_model.specs.Words.{ins_at, named_at}
use Rattle.act_model.specs.Acts.{act_at, act_by, act_of}
use Rattle.app_model.specs.declared.calls.By.{By}
use Rattle.app_model.specs.declared.lock_use.LockUse.{LockUse}
use Rattle.act_model.specs.Changes.{tag_in}
use Rattle.act_model.specs.Tags.{Under}
use Rattle.act_model.specs.declared.act.Act.{Act}
use Rattle.act_model.specs.declared.act.Act.TheVariants.{Call, Return}
use Rattle.act_model.specs.declared.act.Gives.{Gives}
use Rattle.act_model.specs.declared.act.Returned.{Returned}
use Rattle.flow_model.specs.TagFlow.{is_call, leads_on}
use Rattle.tag_flow.specs.declared.calling.Handing.{Handing}
use Rattle.tag_rows.specs.declared.change.Change.TheVariants.{After}
use Rattle.tag_flow.specs.Known.{IsKnown, KnownParts}
use Rattle.tag_flow.specs.State.{StateParts}
use Rattle.tag_flow.specs.Turns.{IsSite, Turn, goes_by_itself, handing_of, returned_of}
use Rattle.tag_flow.specs.Goals.{AllSucceeded, Called, Entered, RowPassed, WentOn, entering_row}
use Rattle.tag_flow.proofs.Turns.{turn_as}

pub goes_not : (a : Act) (outside : Bool) → false ≡ goes_by_itself a outside → leads_on a ≡ true → (is_call a ≡ true → outside ≡ true) → ⊥
goes_not a outside = go (leads_on a) (is_call a) outside
  where
    go : (l c o : Bool) → false ≡ (l && (not c || o)) → l ≡ true → (c ≡ true → o ≡ true) → ⊥
    go true true true e on out = false≢true e
    go true true false e on out = false≢true (out refl)
    go true false o e on out = false≢true e
    go false c o e on out = false≢true on

pub goes_yes : (a : Act) (outside : Bool) → true ≡ goes_by_itself a outside → (leads_on a ≡ true) × (is_call a ≡ true → outside ≡ true)
goes_yes a outside = go (leads_on a) (is_call a) outside
  where
    go : (l c o : Bool) → true ≡ (l && (not c || o)) → (l ≡ true) × (c ≡ true → o ≡ true)
    go true true true e = (refl, λ _. refl)
    go true true false e = absurd (false≢true (sym e))
    go true false o e = (refl, λ c. absurd (false≢true c))
    go false c o e = absurd (false≢true (sym e))

pub went_on : (k : KnownParts) (m i : ℕ) (a : Act) (site : ℕ) (old new : StateParts) (x : Bool) → IsSite k m i a site → Turn k (AllSucceeded k m i (After site a)) old new x → Turn k (WentOn k m i a) old new x
went_on k m i a site old new x is = turn_as k (AllSucceeded k m i (After site a)) (WentOn k m i a) old new x
    (λ s h leads outside y j to r lt. subst (λ row. Under (tag_in row r) (tag_at s.table m j r)) (is (row_at s.table m i)) (h y j to r lt))

-- ---- calls and returns by what they hand on
pub no_handing : (a : Act) → None ≡ handing_of a → (how : By) (usage : LockUse) (arguments : Args) (gives : Gives) → a ≡ Call how usage arguments gives → ⊥
no_handing a none how usage arguments gives is = (let both : ◌≡◌ {A = Option Handing} None (Some (record { by = how; args = arguments })) = none ∙ ap handing_of is in cc)

pub handing_call : (a : Act) (handing : Handing) → Some handing ≡ handing_of a → (usage : LockUse) × (gives : Gives) × (a ≡ Call handing.by usage handing.args gives)
handing_call (Call how usage arguments gives) handing e =
    (usage, gives, (let both : record { by = how; args = arguments } ≡ handing = cc in ap (λ (h : Handing). Call h.by usage h.args gives) both))
handing_call _ handing e = absurd (cc)

pub entered : (k : KnownParts) (m i : ℕ) (a : Act) (n : MethodNo) (handing : Handing) (old new : StateParts) (x : Bool) → Some handing ≡ handing_of a
    → Turn k (RowPassed k n.0 0 (entering_row k m i n.0 handing.by handing.args)) old new x → Turn k (Entered k m i a n) old new x
entered k m i a n handing old new x e = turn_as k (RowPassed k n.0 0 (entering_row k m i n.0 handing.by handing.args)) (Entered k m i a n) old new x
    (λ s h how usage arguments gives is lt. (let both : Some handing ≡ Some (record { by = how; args = arguments }) = e ∙ ap handing_of is in
    let same : handing ≡ record { by = how; args = arguments } = cc in
    subst (λ (one : Handing). RowPassed k n.0 0 (entering_row k m i n.0 one.by one.args) s) same h))

pub no_answer : (a : Act) → None ≡ returned_of a → (answer : Returned) → a ≡ Return answer → ⊥
no_answer a none answer is = (let both : None ≡ Some answer = none ∙ ap returned_of is in cc)

pub answer_return : (a : Act) (answer : Returned) → Some answer ≡ returned_of a → a ≡ Return answer
answer_return (Return other) answer e = (let same : other ≡ answer = cc in ap Return same)
answer_return _ answer e = absurd (cc)

-- ---- an act that is no call calls nothing, one that is no return gives nothing back, and a return does nothing else
no_invoke : (app : AppParts) (m i : ℕ) (own : Ins) → is_call (act_of app m i own) ≡ false → invoke_of (Some own) ≡ None
no_invoke app m i (ins.Invoke op method arguments) off = absurd (cc)
no_invoke app m i _ off = refl

pub calls_nothing : (k : KnownParts) → IsKnown k → (m i : ℕ) (a : Act) → act_at k.app m i ≡ Some a → is_call a ≡ false → (s : StateParts) → Called k m i a s
unfolding act_at targets_in
calls_nothing k known m i a is off s n there = absurd (let none = ap (λ (t : TargetParts). t.callees) (known.graph.rows m i) ∙ go (ins_at k.app m i) is in omega (arith, there.1, ap length none))
  where
    go : (own : Option Ins) → act_by k.app m i own ≡ Some a → (targets_by k.app m (invoke_of own) (named_at k.app m i)).callees ≡ []
    go None e = absurd (cc)
    go (Some own) e = (let same : act_of k.app m i own ≡ a = cc in rw (no_invoke k.app m i own (ap is_call same ∙ off)) refl)

pub not_call : (a : Act) → ((how : By) (usage : LockUse) (arguments : Args) (gives : Gives) → a ≡ Call how usage arguments gives → ⊥) → is_call a ≡ false
not_call (Call how usage arguments gives) differs = absurd (differs how usage arguments gives refl)
not_call _ differs = refl
