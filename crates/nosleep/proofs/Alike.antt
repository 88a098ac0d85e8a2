-- What holds of a subject in scope holds of each that is alike: its violations, and what soundness asks of its tags.
use Rattle.std.proofs.Common.{◌≡◌, ℕ, zero, suc, ◌<◌, ◌*◌, Bool, true, List, [], ◌∷◌, ◌++◌, length, map, get_or, Some, slice_get, if◌then◌else◌, sym, ap, ap₂, refl, ◌∙◌, subst, arith}
use Rattle.std.specs.List.{flat_map}
use Rattle.app_model.specs.Parts.{AppParts}
use Rattle.app_model.specs.Subject.{AreReached, IsSubject, SubjectParts, answers_at, is_reached, owner_at, slot_count}
use Rattle.app_model.specs.TagTable.{FitsReached, width_at}
use Rattle.app_model.specs.Words.{code_len}
use Rattle.app_model.specs.Shown.{lock_text}
use Rattle.cert_laws.specs.Solved.{AreSolved}
use Rattle.cert_line.specs.Parts.{BodyParts}
use Rattle.certificate.specs.Parts.{CertParts, LockRows}
use Rattle.certificate.specs.Solved.{code_bodies, component_views, method_bodies, numbers_below, part_of}
use Rattle.derivation.specs.AllReports.{AreAllReports}
use Rattle.flow_model.specs.Derived.{Set}
use Rattle.flow_model.specs.declared.policy.Violation.{Violation}
use Rattle.flow_model.specs.InScope.{IsInScope}
use Rattle.flow_model.specs.Policy.{AreViolations, none_given}
use Rattle.flow_model.specs.TagFlow.{TellsReached}
use Rattle.flow_model.proofs.TestLaws.{bool_same}
use Rattle.one_scope.specs.Alike.{AreAlike}
use Rattle.one_scope.proofs.Graphs.{HasSameTargets, callee_over, same_reach, turned}
use Rattle.one_scope.proofs.Owners.{answers_for_over, beside, in_scope, is_second, owns_over, targets}
use Rattle.one_scope.proofs.Rules.{same_least, same_violations}
use Rattle.report_path.specs.declared.report.Report.{Report}
use Rattle.report_path.specs.Reports.{IsValidReport, violation_of}
use Rattle.run_model.specs.Tagged.{IsFollowed, IsTagged}
use Rattle.run_model.proofs.Scope.{scope_tagged}
use Rattle.solution.specs.Facts.{holds}
use Rattle.view_solver.specs.Reported.{HasLeast}
use Rattle.nosleep.specs.Certified.{IsCertificateOf}

-- ---- violations
back : (x y : SubjectParts) → AreAlike x y → AreAlike y x
back x y alike = record { app = sym alike.app; list = sym alike.list; first = alike.second; second = alike.first }

pub violations_over : (x y : SubjectParts) → AreAlike x y → (violations : List Violation) → AreViolations x violations → AreViolations y violations
violations_over x y alike violations are = record {
  ordered = are.ordered;
  exact = λ v. (
    λ has. same_violations x y alike v.lock v.component v.callback v.status ((are.exact v).0 has),
    λ bad. (are.exact v).1 (same_violations y x (back x y alike) v.lock v.component v.callback v.status bad),
  );
}

pub reports_over : (x y : SubjectParts) → AreAlike x y → ((r : Report) → IsValidReport x r → IsValidReport y r) → (reports : List Report) → AreAllReports x reports → AreAllReports y reports
reports_over x y alike over reports are = record {
  valid = λ k d lt. over (get_or reports k d) (are.valid k d lt);
  names = violations_over x y alike (map violation_of reports) are.names;
}

-- the parts of a certificate have the least solutions
solved_in : (parts : List LockRows) (l : ℕ) → l < length parts → (part : LockRows) × (slice_get parts l ≡ Some part)
solved_in [] l lt = absurd (omega (arith, lt))
solved_in (part ∷ parts) zero lt = (part, refl)
solved_in (part ∷ parts) (suc l) lt = solved_in parts l (omega (arith, lt))

pub solved_least : (x : SubjectParts) (n : ℕ) (parts : List LockRows) → AreSolved x n parts → (l : ℕ) → l < n → HasLeast x l
solved_least x n parts solved l below =
    let part = solved_in parts l (let len = solved.len in omega (arith, below, len)) in
    let is = solved.each l part.0 part.1 in
    (holds is.facts, is.least)

pub least_over : (x y : SubjectParts) → AreAlike x y → ((l : ℕ) → l < slot_count x → HasLeast x l) → (l : ℕ) → l < slot_count y → HasLeast y l
unfolding slot_count
least_over x y alike least l below =
    let has = least l (subst (λ (app : AppParts). l < length app.locks) (sym alike.app) below) in
    (has.0, same_least x y alike l none_given has.0 has.1)

-- ---- tags: those of the second subject are of a subject that keeps the lists of the first
module _ (x y : SubjectParts) (sound : IsSubject x) (left : IsInScope x) (right : IsInScope (beside x y)) where
  abbrev kept : SubjectParts
  kept = record { app = x.app; graph = y.graph; list = x.list; tags = y.tags; reached = x.reached; answers = x.answers; owners = x.owners }

  same : HasSameTargets x.graph y.graph
  same = targets x y left right

  same_reached : (m : ℕ) → is_reached x m ≡ is_reached (beside x y) m
  same_reached = same_reach x.graph y.graph same x.list (is_reached x) (is_reached (beside x y)) left.reached right.reached

  to_second : (m : ℕ) → is_reached kept m ≡ true → is_reached (beside x y) m ≡ true
  unfolding is_reached
  to_second m is = sym (same_reached m) ∙ is

  to_kept : (m : ℕ) → is_reached (beside x y) m ≡ true → is_reached kept m ≡ true
  unfolding is_reached
  to_kept m is = same_reached m ∙ is

  told : TellsReached y.graph x.list (is_reached kept)
  told m = (λ is. (right.reached m).0 (to_second m is), λ entered. to_kept m ((right.reached m).1 entered))

  fits : FitsReached x.app (is_reached kept) y.tags
  fits = record {
    registers = right.tags.fits.registers;
    rows = λ m. right.tags.fits.rows m
        ∙ ap (λ (b : Bool). if b then code_len x.app m * width_at y.tags m else 0)
        (bool_same (right.tags.reached m) (is_reached kept m) (λ is. (told m).1 ((right.tags.reaches m).0 is)) (λ is. (right.tags.reaches m).1 ((told m).0 is)));
    held = right.tags.fits.held;
    fields = right.tags.fits.fields;
  }

  reaches : AreReached kept
  unfolding is_reached
  reaches = record {
    methods = sound.reaches.methods;
    begins = sound.reaches.begins;
    callbacks = sound.reaches.callbacks;
    callees = λ m i n is among. sound.reaches.callees m i n is (callee_over y.graph x.graph (turned x.graph y.graph same) m i n among);
  }

  kept_subject : IsSubject kept
  unfolding owner_at slot_count
  kept_subject = record {
    sound = sound.sound;
    list = sound.list;
    fits_graph = right.graph.fits;
    fits_tags = fits;
    reaches = reaches;
    slots = sound.slots;
    answers = sound.answers;
    owners = sound.owners;
    owned = sound.owned;
  }

  kept_scope : IsInScope kept
  unfolding answers_at owner_at slot_count
  kept_scope = record {
    list = left.list;
    graph = right.graph;
    tags = right.tags;
    reached = told;
    answers = λ c l there slot. (
      λ is. answers_for_over x y left right c l ((left.answers c l there slot).0 is),
      λ a. (left.answers c l there slot).1 (answers_for_over (beside x y) x right left c l a),
    );
    owners = λ l c. (λ is. owns_over x y left right l c ((left.owners l c).0 is), λ o. (left.owners l c).1 (owns_over (beside x y) x right left l c o));
    unbroken = right.unbroken;
  }

  followed : (m i n : ℕ) → IsFollowed kept m i n → IsFollowed (beside x y) m i n
  followed m i n f = record { reached = to_second n f.reached; gone = f.gone; assigns = f.assigns; enters = f.enters; returns = f.returns; throws = f.throws }

  tagged : IsTagged (beside x y)
  tagged = by (scope_tagged kept kept_subject kept_scope)
    where
      by : IsTagged kept → IsTagged (beside x y)
      by t = record {
        callbacks = λ c k m there. to_second m (t.callbacks c k m there);
        entries = t.entries;
        flows = λ m i k j a is. t.flows m i k j a (to_kept m is);
        throws = λ m i k j a is. t.throws m i k j a (to_kept m is);
        calls = λ m i n is live callee. followed m i n (t.calls m i n (to_kept m is) live callee);
        no_escape = λ m i is. t.no_escape m i (to_kept m is);
        no_wrong_call = λ m i is. t.no_wrong_call m i (to_kept m is);
        graph = λ m i is. t.graph m i (to_kept m is);
      }

pub tagged_over : (x y : SubjectParts) → IsSubject x → AreAlike x y → IsTagged y
tagged_over x y sound alike = subst IsTagged (is_second x y alike) (tagged x y sound alike.first (in_scope x y alike))

-- ---- the certificate of a subject is that of each that is alike
flat_same : {A B : Type 0} (f g : A → List B) → ((a : A) → f a ≡ g a) → (xs : List A) → flat_map f xs ≡ flat_map g xs
flat_same {B = B} f g each [] = refl
flat_same {B = B} f g each (x ∷ xs) = ap₂ (λ (ys zs : List B). ys ++ zs) (each x) (flat_same f g each xs)

module _ (x y : SubjectParts) (alike : AreAlike x y) where
  same_bodies : (set : Set) (m : ℕ) → method_bodies x set m ≡ method_bodies (beside x y) set m
  unfolding method_bodies
  same_bodies set m =
      ap (λ (b : Bool). if b then code_bodies set m (code_len x.app m) else [])
      (same_reach x.graph y.graph (targets x y alike.first (in_scope x y alike)) x.list (is_reached x) (is_reached (beside x y)) alike.first.reached (in_scope x y alike).reached m)

  same_part : (l : ℕ) (set : Set) → part_of x l set ≡ part_of y l set
  same_part l set =
      ap (λ (bodies : List BodyParts). record { name = lock_text x.app l; views = flat_map (component_views set) (numbers_below (length x.list)); bodies = bodies })
      (flat_same (method_bodies x set) (method_bodies (beside x y) set) (same_bodies set) (numbers_below (length x.app.methods)))
      ∙ ap (λ (z : SubjectParts). part_of z l set) (is_second x y alike)

  pub certificate_over : (list : List ℕ) (dex : List (List ℕ)) (cert : CertParts) → cert.list ≡ list → cert.dex ≡ dex → AreSolved x (slot_count x) cert.locks → IsCertificateOf y list dex cert
  unfolding slot_count
  certificate_over list dex cert one all solved = record {
    list_digest = one;
    dex_digests = all;
    parts = record {
      len = solved.len ∙ ap (λ (app : AppParts). length app.locks) alike.app;
      each = λ l part there.
          let has = solved.each l part there in
          record { set = holds has.facts; least = same_least x y alike l none_given (holds has.facts) has.least; rows = has.rows ∙ same_part l (holds has.facts) };
    };
  }
