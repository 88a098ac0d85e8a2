-- Subjects in scope of one application and list have the same owners, and the same components answer for a lock field.
use Rattle.std.proofs.Common.{◌≡◌, ℕ, ◌<◌, true, length, Option, Some, None, refl, sym, subst}
use Rattle.app_model.specs.Subject.{SubjectParts, answers_at, owner_at, slot_count}
use Rattle.app_model.specs.TagTable.{row_at}
use Rattle.flow_model.specs.InScope.{AnswersFor, IsInScope, Owns, candidate_of}
use Rattle.flow_model.specs.Policy.{acquires}
use Rattle.one_scope.specs.Alike.{AreAlike}
use Rattle.one_scope.proofs.Breaks.{access_over, below_over, test_over}
use Rattle.one_scope.proofs.Graphs.{HasSameTargets, same_targets}
use Rattle.one_scope.proofs.Tables.{same_rows}

-- the second subject as one of the first one's application and list; the first one beside it is itself
abbrev pub beside : SubjectParts → SubjectParts → SubjectParts
beside x y =
    record { app = x.app; graph = y.graph; list = x.list; tags = y.tags; reached = y.reached; answers = y.answers; owners = y.owners }

pub is_second : (x y : SubjectParts) → AreAlike x y → beside x y ≡ y
is_second x y alike = rw (alike.app, alike.list) refl

pub in_scope : (x y : SubjectParts) → AreAlike x y → IsInScope (beside x y)
in_scope x y alike = subst IsInScope (sym (is_second x y alike)) alike.second

module _ (x y : SubjectParts) (left : IsInScope x) (right : IsInScope (beside x y)) where
  pub targets : HasSameTargets x.graph y.graph
  targets = same_targets x.app x.graph y.graph left.graph right.graph

  pub rows : (m i : ℕ) → row_at x.tags m i ≡ row_at y.tags m i
  rows = same_rows x.app x.list x.graph y.graph x.tags y.tags targets left.tags right.tags

  pub owns_over : (l c : ℕ) → Owns (candidate_of x) l c → Owns (candidate_of (beside x y)) l c
  owns_over l c o = record {
    method = o.method;
    index = o.index;
    field = o.field;
    component = o.component;
    access = access_over x.app x.list x.graph y.graph targets x.tags y.tags rows o.access;
    instance = o.instance;
    there = o.there;
    owner = o.owner;
  }

  owner_over : (l c : ℕ) → owner_at x l ≡ Some c → owner_at (beside x y) l ≡ Some c
  owner_over l c is = (right.owners l c).1 (owns_over l c ((left.owners l c).0 is))

  pub answers_for_over : (c l : ℕ) → AnswersFor (candidate_of x) c l → AnswersFor (candidate_of (beside x y)) c l
  answers_for_over c l a = record {
    callback = a.callback;
    entry = a.entry;
    method = a.method;
    index = a.index;
    there = a.there;
    reached = below_over x.app x.list x.graph y.graph targets x.tags y.tags rows a.entry a.method a.reached;
    acquires = test_over x.app x.list x.graph y.graph targets x.tags y.tags rows a.method a.index (acquires l) a.acquires;
  }

  pub answers_over : (c l : ℕ) → c < length x.list → l < slot_count x → answers_at x c l ≡ true → answers_at (beside x y) c l ≡ true
  unfolding slot_count
  answers_over c l there slot is = (right.answers c l there slot).1 (answers_for_over c l ((left.answers c l there slot).0 is))

option_same : (a b : Option ℕ) → ((n : ℕ) → a ≡ Some n → b ≡ Some n) → ((n : ℕ) → b ≡ Some n → a ≡ Some n) → a ≡ b
option_same None None to back = refl
option_same None (Some n) to back = back n refl
option_same (Some n) b to back = sym (to n refl)

pub same_owner : (x y : SubjectParts) → IsInScope x → IsInScope (beside x y) → (l : ℕ) → owner_at x l ≡ owner_at (beside x y) l
same_owner x y left right l = option_same _ _ (owner_over x y left right l) (owner_over (beside x y) x right left l)
