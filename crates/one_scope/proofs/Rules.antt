-- Subjects in scope of one application and list have the same flow rules, so that they have the same violations.
use Rattle.std.proofs.Common.{◌≡◌, ℕ, ◌<◌, ◌&&◌, Bool, true, if◌then◌else◌, List, [], ◌∷◌, length, Option, Some, None, refl, sym, ap, ◌∙◌, subst, inl, inr, ⊎_elim}
use Rattle.std.proofs.lemmas.Option.{slice_get_within}
use Rattle.std.proofs.Math.Path.{fun_ext}
use Rattle.std.specs.Prelude.{Contains, slice_get}
use Rattle.ns_base.specs.declared.rows.MethodNo.{MethodNo}
use Rattle.app_model.specs.declared.component.Edge.{Edge}
use Rattle.app_model.specs.declared.tag.Tag.{Tag}
use Rattle.app_model.specs.CallGraph.{TargetParts, outside_at}
use Rattle.app_model.specs.Components.{ComponentParts, edge_at, edge_of}
use Rattle.app_model.specs.Facts.{Fact, At, Ret, View}
use Rattle.app_model.specs.Subject.{SubjectParts, callees_at, slot_count}
use Rattle.app_model.specs.TagTable.{row_at}
use Rattle.act_model.specs.Acts.{act_at}
use Rattle.flow_model.specs.Derived.{Derived, HasAll, IsClosed, IsLeast, Set}
use Rattle.flow_model.specs.InScope.{IsInScope}
use Rattle.flow_model.specs.Policy.{IsDerivableViolation, IsViolation, MeetsPolicy, none_given}
use Rattle.flow_model.specs.Rules.{Between, C1, C2, C3, C3_leaves, Carries, I1, I1_return, I2, I3, I3_leaves, Inside, Rules, Starts, V1, V2, V3, V4, V5, by_method, entered, is_owner, outside}
use Rattle.flow_model.specs.Status.{reset}
use Rattle.flow_model.specs.Subject.{Masks, is_open, mask_passes, mask_throws, open_by, own_by, own_operation, status_masks}
use Rattle.flow_model.proofs.Laws.{wider}
use Rattle.one_scope.specs.Alike.{AreAlike}
use Rattle.one_scope.proofs.Graphs.{callee_over}
use Rattle.one_scope.proofs.Owners.{answers_over, beside, in_scope, is_second, rows, same_owner, targets}

-- an edge is of a component of the list
component_in : (list : List ComponentParts) (c e : ℕ) (edge : Edge) (row : Option ComponentParts) → slice_get list c ≡ row → edge_of row e ≡ Some edge → c < length list
component_in list c e edge None at is = cc
component_in list c e edge (Some component) at is = slice_get_within list c component at

pub component_there : (list : List ComponentParts) (c e : ℕ) (edge : Edge) → edge_at list c e ≡ Some edge → c < length list
unfolding edge_at
component_there list c e edge is = component_in list c e edge (slice_get list c) refl is

module _ (x y : SubjectParts) (left : IsInScope x) (right : IsInScope (beside x y)) (l : ℕ) where
  abbrev z : SubjectParts
  z = beside x y

  -- ---- what the rules ask of an instruction and of an edge
  pub own_over : (m i : ℕ) (b : Bool) → own_operation x l m i ≡ b → own_operation z l m i ≡ b
  own_over m i b is = ap (own_by l (act_at x.app m i)) (sym (rows x y left right m i)) ∙ is

  pub open_over : (m i s : ℕ) → is_open x l m i s ≡ true → is_open z l m i s ≡ true
  open_over m i s is = ap (λ (row : List Tag). open_by l (act_at x.app m i) row s) (sym (rows x y left right m i)) ∙ is

  pub among_over : (m i : ℕ) (n : MethodNo) → Contains (callees_at x m i) n → Contains (callees_at z m i) n
  among_over = callee_over x.graph y.graph (targets x y left right)

  abbrev masks_by : ((m i : ℕ) → List Tag) → ((m i : ℕ) → Bool) → Masks
  masks_by tags leads = record {
    passes = λ m i k s. mask_passes l (act_at x.app m i) (tags m i) (leads m i) k s;
    throws = λ m i s. mask_throws l (act_at x.app m i) (tags m i) (leads m i) s;
  }

  pub same_masks : status_masks x l ≡ status_masks z l
  same_masks =
      ap (λ (tags : (m i : ℕ) → List Tag). masks_by tags (outside_at x.graph)) (fun_ext (λ m. fun_ext (λ i. rows x y left right m i)))
      ∙ ap (masks_by (row_at y.tags)) (fun_ext (λ m. fun_ext (λ i. ap (λ (set : TargetParts). set.outside) ((targets x y left right).at m i))))

  pub same_entered : (c : ℕ) (edge : Edge) (s : ℕ) → entered x l c edge s ≡ entered z l c edge s
  same_entered c edge s = ap (λ (owner : Option ℕ). if edge.creates && is_owner owner c then reset s else s) (same_owner x y left right l)

  -- ---- each rule of the one is a rule of the other
  unfoldable pub inside_over : {masks : Masks} {needs : List Fact} {f : Fact} → Inside x l masks needs f → Inside z l masks needs f
  inside_over (I1 {m = m} {i = i} k own to may) = I1 k (own_over m i _ own) to may
  inside_over (I1_return back) = I1_return back
  inside_over (I2 {m = m} {i = i} k own to may) = I2 k (own_over m i _ own) to may
  inside_over (I3 k to may) = I3 k to may
  inside_over (I3_leaves out may) = I3_leaves out may
  inside_over (C1 {m = m} {i = i} {s = s} n among passes) = C1 n (among_over m i n among) (open_over m i s passes)
  inside_over (C2 {m = m} {i = i} {s = s} n among passes to) = C2 n (among_over m i n among) (open_over m i s passes) to
  inside_over (C3 {m = m} {i = i} {s = s} n k among passes to) = C3 n k (among_over m i n among) (open_over m i s passes) to
  inside_over (C3_leaves {m = m} {i = i} {s = s} n among passes out) = C3_leaves n (among_over m i n among) (open_over m i s passes) out

  starts_over : {needs : List Fact} {f : Fact} → Starts x l needs f → Starts z l needs f
  starts_over (V3 {c = c} {q = q} {s = s} {m = m} {edge = edge} e there from callback) =
      subst (λ (n : ℕ). Starts z l (View c q s ∷ []) (At m n 0 n)) (sym (same_entered c edge s)) (V3 e there from callback)

  pub carries_over : {c s t : ℕ} {edge : Edge} {needs : List Fact} → Carries x l c edge s t needs → Carries z l c edge s t needs
  carries_over {c = c} {s = s} {edge = edge} (outside none is) = outside none (is ∙ same_entered c edge s)
  carries_over {c = c} {s = s} {t = t} {edge = edge} (by_method m there) =
      subst (λ (n : ℕ). Carries z l c edge s t (Ret m n t ∷ [])) (sym (same_entered c edge s)) (by_method m there)

  unfoldable pub between_over : {needs : List Fact} {f : Fact} → Between x (Carries x l) needs f → Between z (Carries z l) needs f
  between_over (V1 below) = V1 below
  between_over (V2 e there from to none carried) = V2 e there from to none (carries_over carried)
  between_over (V4 e m there from to callback carried) = V4 e m there from to callback (carries_over carried)
  between_over (V5 e other there from carried) = V5 e other there from (carries_over carried)

  rules_over : (needs : List Fact) (f : Fact) → Rules x l needs f → Rules z l needs f
  rules_over needs f r =
      ⊎_elim (λ inner. inl (⊎_elim (λ i. inl (subst (λ (masks : Masks). Inside z l masks needs f) same_masks (inside_over i))) (λ s. inr (starts_over s)) inner))
      (λ b. inr (between_over b)) r

  derived_over : (given : Set) (fs : List Fact) → Derived (Rules x l) given fs → Derived (Rules z l) given fs
  derived_over given fs d = wider (Rules x l) (Rules z l) rules_over given d

  unfoldable pub violation_over : (P Q : List Fact → Type 0) → ((fs : List Fact) → P fs → Q fs) → (c k s : ℕ) → IsViolation x (Carries x l) l P c k s → IsViolation z (Carries z l) l Q c k s
  unfolding slot_count
  violation_over P Q hold c k s v = record {
    state = v.state;
    before = v.before;
    number = v.number;
    edge = v.edge;
    needs = v.needs;
    slot = v.slot;
    there = v.there;
    from = v.from;
    callback = v.callback;
    carried = carries_over v.carried;
    holds = hold (View c v.state v.before ∷ v.needs) v.holds;
    exit = v.exit;
    held = v.held;
    answers = answers_over x y left right c l (component_there x.list c v.number v.edge v.there) v.slot v.answers;
  }

least_over : (x y : SubjectParts) → IsInScope x → IsInScope (beside x y) → (l : ℕ) (given set : Set) → IsLeast (Rules x l) given set → IsLeast (Rules (beside x y) l) given set
least_over x y left right l given set is = record {
  sound = λ f has. derived_over x y left right l given (f ∷ []) (is.sound f has);
  complete = λ f d. is.complete f (derived_over (beside x y) x right left l given (f ∷ []) d);
}

closed_over : (x y : SubjectParts) → IsInScope x → IsInScope (beside x y) → (l : ℕ) (set : Set) → IsClosed (Rules x l) set → IsClosed (Rules (beside x y) l) set
closed_over x y left right l set closed = record { by = λ needs f r has. closed.by needs f (rules_over (beside x y) x right left l needs f r) has }

policy_over : (x y : SubjectParts) → IsInScope x → IsInScope (beside x y) → (l : ℕ) (set : Set) → MeetsPolicy x l set → MeetsPolicy (beside x y) l set
policy_over x y left right l set meets c k s v = meets c k s (violation_over (beside x y) x right left l (HasAll set) (HasAll set) (λ fs has. has) c k s v)

-- ---- of subjects that are alike
pub same_violations : (x y : SubjectParts) → AreAlike x y → (l c k s : ℕ) → IsDerivableViolation x l c k s → IsDerivableViolation y l c k s
same_violations x y alike l c k s v =
    subst (λ (z : SubjectParts). IsDerivableViolation z l c k s) (is_second x y alike)
    (violation_over x y alike.first (in_scope x y alike) l (Derived (Rules x l) none_given) (Derived (Rules (beside x y) l) none_given) (derived_over x y alike.first (in_scope x y alike) l none_given) c k s v)

pub same_least : (x y : SubjectParts) → AreAlike x y → (l : ℕ) (given set : Set) → IsLeast (Rules x l) given set → IsLeast (Rules y l) given set
same_least x y alike l given set is =
    subst (λ (z : SubjectParts). IsLeast (Rules z l) given set) (is_second x y alike) (least_over x y alike.first (in_scope x y alike) l given set is)

pub same_closed : (x y : SubjectParts) → AreAlike x y → (l : ℕ) (set : Set) → IsClosed (Rules x l) set → IsClosed (Rules y l) set
same_closed x y alike l set closed =
    subst (λ (z : SubjectParts). IsClosed (Rules z l) set) (is_second x y alike) (closed_over x y alike.first (in_scope x y alike) l set closed)

pub same_policy : (x y : SubjectParts) → AreAlike x y → (l : ℕ) (set : Set) → MeetsPolicy x l set → MeetsPolicy y l set
same_policy x y alike l set meets =
    subst (λ (z : SubjectParts). MeetsPolicy z l set) (is_second x y alike) (policy_over x y alike.first (in_scope x y alike) l set meets)
