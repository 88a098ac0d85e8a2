-- From what the files of a form come to, and its judgement, to their outcome.
use Rattle.std.proofs.Common.{◌≡◌, ℕ, List, [], ◌∷◌, map, Vec, Global, Result, Ok, Err, IfOk, ◌⊎◌, inl, inr, sym, ap, subst, ◌∙◌}
use Rattle.ns_base.specs.declared.answers.Exit.{Exit}
use Rattle.ns_base.specs.declared.answers.Exit.TheVariants as exits
use Rattle.app_model.specs.Subject.{SubjectParts}
use Rattle.one_scope.specs.Alike.{AreAlike}
use Rattle.nosleep.specs.declared.refusing.Answer.{Answer}
use Rattle.nosleep.specs.declared.judging.Judged.{Judged}
use Rattle.nosleep.specs.Answer.{BytesComeTo}
use Rattle.nosleep.specs.Events.{AreHelds}
use Rattle.nosleep.specs.Judged.{IsChecked, IsJudgement}
use Rattle.nosleep.specs.Outcome.{FormHasOutcome}
use Rattle.nosleep.specs.Refusals.{IsRefused, Refusal}
use Rattle.nosleep.specs.Words.{Form, Verify, Check}
use Rattle.nosleep.proofs.Judgements.{judgement_exit}

pub judged_form : {E : Type 0} (form : Form) (all : List (List ℕ)) (x : SubjectParts) (r : Result Judged E) → BytesComeTo form all (Ok x)
    → IfOk r (λ j. (y : SubjectParts) → AreAlike x y → IsJudgement form all y j.answer.text.items j.answer.exit) → IfOk r (λ j. AreHelds (Ok x) j.answer.exit j.found.items)
    → IfOk r (λ j. FormHasOutcome form all j.answer.text.items j.answer.exit j.found.items)
judged_form form all x (Ok j) comes is helds = (Ok x, comes, is, helds)
judged_form form all x (Err e) comes is helds = tt

-- an answer with no violations
module _ (form : Form) (all : List (List ℕ)) (j : Judged) (a : Answer) (same : j.answer ≡ a) (none : j.found.items ≡ []) where
  pub refused_form : (refusal : Refusal) → BytesComeTo form all (Err refusal) → IsRefused refusal a.text.items a.exit → FormHasOutcome form all j.answer.text.items j.answer.exit j.found.items
  refused_form refusal comes is = (Err refusal, comes, subst (λ (b : Answer). IsRefused refusal b.text.items b.exit) (sym same) is, none)

  pub checked_form : (x : SubjectParts) → BytesComeTo form all (Ok x) → ((y : SubjectParts) → AreAlike x y → IsJudgement form all y a.text.items a.exit)
      → ((y : SubjectParts) → AreAlike x y → a.exit ≡ exits.Reports → ⊥) → FormHasOutcome form all j.answer.text.items j.answer.exit j.found.items
  checked_form x comes is never = (
    Ok x,
    comes,
    subst (λ (b : Answer). (y : SubjectParts) → AreAlike x y → IsJudgement form all y b.text.items b.exit) (sym same) is,
    (λ y alike here. absurd (never y alike (ap (λ (b : Answer). b.exit) (sym same) ∙ here)), λ no. none),
  )

-- a certificate has no reports
pub no_report : (cert list : List ℕ) (dex : List (List ℕ)) (x : SubjectParts) (text : List ℕ) (exit : Exit) → IsChecked cert list dex x text exit → exit ≡ exits.Reports → ⊥
no_report cert list dex x text exit is here = by (judgement_exit (Check [] [] []) (cert ∷ list ∷ dex) x text exit is) where
  by : (exit ≡ exits.Accept) ⊎ ((exit ≡ exits.Broken) ⊎ (exit ≡ exits.Bad)) → ⊥
  by (inl e) = let no : exits.Accept ≡ exits.Reports = sym e ∙ here in cc
  by (inr (inl e)) = let no : exits.Broken ≡ exits.Reports = sym e ∙ here in cc
  by (inr (inr e)) = let no : exits.Bad ≡ exits.Reports = sym e ∙ here in cc

-- ---- the form of the words, and its files by the first ones and the rest
abbrev bytes_of : List (Vec ℕ Global) → List (List ℕ)
bytes_of files = map (λ (v : Vec ℕ Global). v.items) files

abbrev Has : {E : Type 0} → Result Judged E → Form → List (List ℕ) → Type 0
Has r form all = IfOk r (λ j. FormHasOutcome form all j.answer.text.items j.answer.exit j.found.items)

pub verify_form : {E : Type 0} (form : Form) (all : List (Vec ℕ Global)) (first : Vec ℕ Global) (rest : List (Vec ℕ Global)) (bytes list : List ℕ) (dex : List (List ℕ)) (r : Result Judged E)
    → form ≡ Verify list dex → all ≡ first ∷ rest → bytes ≡ first.items → Has r (Verify list dex) (bytes ∷ bytes_of rest) → Has r form (bytes_of all)
verify_form form all first rest bytes list dex r asked same here is =
    let own : Has r (Verify list dex) (bytes_of (first ∷ rest)) = subst (λ (b : List ℕ). Has r (Verify list dex) (b ∷ bytes_of rest)) here is in
    subst (λ (f : Form). Has r f (bytes_of all)) (sym asked) (subst (λ (xs : List (Vec ℕ Global)). Has r (Verify list dex) (bytes_of xs)) (sym same) own)

pub check_form : {E : Type 0} (form : Form) (all : List (Vec ℕ Global)) (first second : Vec ℕ Global) (files rest : List (Vec ℕ Global)) (one two cert list : List ℕ) (dex : List (List ℕ)) (r : Result Judged E)
    → form ≡ Check cert list dex → all ≡ first ∷ files → files ≡ second ∷ rest → one ≡ first.items → two ≡ second.items → Has r (Check cert list dex) (one ∷ two ∷ bytes_of rest) → Has r form (bytes_of all)
check_form form all first second files rest one two cert list dex r asked same more here there is =
    let own : Has r (Check cert list dex) (bytes_of (first ∷ second ∷ rest)) =
    subst (λ (b : List ℕ). Has r (Check cert list dex) (b ∷ bytes_of (second ∷ rest))) here (subst (λ (b : List ℕ). Has r (Check cert list dex) (one ∷ b ∷ bytes_of rest)) there is) in
    let both : all ≡ first ∷ second ∷ rest = same ∙ ap (λ (xs : List (Vec ℕ Global)). first ∷ xs) more in
    subst (λ (f : Form). Has r f (bytes_of all)) (sym asked) (subst (λ (xs : List (Vec ℕ Global)). Has r (Check cert list dex) (bytes_of xs)) (sym both) own)
