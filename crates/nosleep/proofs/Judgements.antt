-- From the answer to why it comes.
use Rattle.std.proofs.Common.{◌≡◌, ◌≢◌, IfOk, ℕ, ◌<◌, Bool, true, false, List, [], ◌∷◌, length, Option, Some, None, option_map, Result, Ok, Err, ◌⊎◌, inl, inr, ⊎_elim, refl, ◌∙◌, ap, sym, subst, arith, slice_get, get_or}
use Rattle.std.proofs.lemmas.Bool.{false≢true}
use Rattle.std.proofs.lemmas.Option.{slice_get-get_or, slice_get_within}
use Rattle.ns_base.specs.Answers.{limit_of}
use Rattle.ns_base.specs.Outside.{Rose}
use Rattle.ns_base.specs.declared.answers.Counted.{Counted}
use Rattle.ns_base.specs.declared.answers.Counted.TheVariants.{Files}
use Rattle.ns_base.specs.declared.answers.Exit.{Exit}
use Rattle.ns_base.specs.declared.answers.Exit.TheVariants as exits
use Rattle.app_model.specs.Subject.{SubjectParts}
use Rattle.cert_check.specs.declared.verdict.Checked.{Checked}
use Rattle.cert_check.specs.declared.verdict.Checked.TheVariants.{Valid, ListDigest, DexDigest, Shape, Broken, Unmet}
use Rattle.ns_base.specs.declared.answers.Event.{Event}
use Rattle.nosleep.specs.declared.judging.Judged.{Judged}
use Rattle.nosleep.specs.Outcome.{FormHasOutcome}
use Rattle.nosleep.specs.Answer.{AreJudged, AreTold, BytesComeTo, AreTakenTo, IsAnswer, IsOutcome, IsUnjudged, Judges, usage, many_files, unread, too_long, read, starved}
use Rattle.nosleep.specs.Judged.{IsChecked, IsJudgement, IsReceived, IsSafe, IsVerified, accepts, certified, exit_of, overlong}
use Rattle.nosleep.specs.Refusals.{Exceeds, IsRefused, IsRefusedAs, InFile, InLink, InList, OutOfScope, Refusal, refusal_exit, refusal_limit, refusal_text}
use Rattle.nosleep.specs.Reading.{WhereTold}
use Rattle.nosleep.specs.Words.{FileName, Form, Receiver, Verify, Check, Request, dex_names, files_of, form_of, kinds_in, kinds_of, request_of}
use Rattle.nosleep.proofs.Same.{outcome_of_judged}
use Rattle.nosleep.proofs.Taking.{told_taken}

-- ---- a refusal is neither an acceptance nor want of memory
abbrev pub AsRefused : Exit → Type 0
AsRefused exit = (exit ≡ exits.Bad) ⊎ ((exit ≡ exits.Limit) ⊎ (exit ≡ exits.Scope))

refused_with : (refusal : Refusal) → AsRefused (refusal_exit refusal)
refused_with (InList fault) = inl refl
refused_with (InFile number fault) = inl refl
refused_with (InLink name fault) = inl refl
refused_with (Exceeds which) = inr (inl refl)
refused_with (OutOfScope fault) = inr (inr refl)

refused_by : (limit : Option Counted) (by : Exit) (wanted text : List ℕ) (exit : Exit) → AsRefused by → IsRefusedAs limit by wanted text exit → AsRefused exit
refused_by None by wanted text exit ok is = subst AsRefused (sym is.0) ok
refused_by (Some which) by wanted text exit ok is = inr (inl is.0)

refused_exit : (refusal : Refusal) (text : List ℕ) (exit : Exit) → IsRefused refusal text exit → AsRefused exit
refused_exit refusal text exit is = refused_by (refusal_limit refusal) (refusal_exit refusal) (refusal_text refusal) text exit (refused_with refusal) is.1

not_accepted : AsRefused exits.Accept → ⊥
not_accepted (inl e) = cc
not_accepted (inr (inl e)) = cc
not_accepted (inr (inr e)) = cc

form_outcome : (form : Form) (all : List (List ℕ)) (r : Result SubjectParts Refusal) (x : SubjectParts) (text : List ℕ) (exit : Exit) → BytesComeTo form all (Ok x) → BytesComeTo form all r → IsOutcome form all r text exit → IsJudgement form all x text exit
form_outcome (Receiver dex class) files r x text exit p c o = outcome_of_judged _ files (IsJudgement (Receiver dex class) files) (Ok x) r x text exit refl p c o
form_outcome (Verify list dex) [] r x text exit p c o = absurd p
form_outcome (Verify list dex) (bytes ∷ files) r x text exit p c o = outcome_of_judged _ files (IsJudgement (Verify list dex) (bytes ∷ files)) (Ok x) r x text exit refl p c o
form_outcome (Check cert list dex) [] r x text exit p c o = absurd p
form_outcome (Check cert list dex) (one ∷ []) r x text exit p c o = absurd p
form_outcome (Check cert list dex) (one ∷ bytes ∷ files) r x text exit p c o = outcome_of_judged _ files (IsJudgement (Check cert list dex) (one ∷ bytes ∷ files)) (Ok x) r x text exit refl p c o

-- ---- the exits of a judgement
verdict_exit : (checked : Checked) → (exit_of checked ≡ exits.Accept) ⊎ (exit_of checked ≡ exits.Broken)
verdict_exit Valid = inl refl
verdict_exit ListDigest = inr refl
verdict_exit (DexDigest i) = inr refl
verdict_exit (Shape l) = inr refl
verdict_exit (Broken rule l a b c) = inr refl
verdict_exit (Unmet c k l s) = inr refl

pub judgement_exit : (form : Form) (all : List (List ℕ)) (x : SubjectParts) (text : List ℕ) (exit : Exit) → IsJudgement form all x text exit → Judges form exit
judgement_exit (Receiver dex class) all x text exit (IsReceived.reports has e) = inr e
judgement_exit (Receiver dex class) all x text exit (accepts t is e) = inl e
judgement_exit (Verify list dex) [] x text exit never = absurd never
judgement_exit (Verify list dex) (bytes ∷ files) x text exit (IsVerified.reports has e) = inr (inl e)
judgement_exit (Verify list dex) (bytes ∷ files) x text exit (certified is e) = inl e
judgement_exit (Verify list dex) (bytes ∷ files) x text exit (overlong is e) = inr (inr e)
judgement_exit (Check cert list dex) [] x text exit never = absurd never
judgement_exit (Check cert list dex) (one ∷ []) x text exit never = absurd never
judgement_exit (Check cert list dex) (one ∷ bytes ∷ files) x text exit (IsChecked.unread n wrong t e) = inr (inr e)
judgement_exit (Check cert list dex) (one ∷ bytes ∷ files) x text exit (IsChecked.read c is t on) = ⊎_elim (λ e. inl (on.ends ∙ e)) (λ e. inr (inl (on.ends ∙ e))) (verdict_exit on.checked)

is_valid : (checked : Checked) → exit_of checked ≡ exits.Accept → checked ≡ Valid
is_valid Valid e = refl
is_valid ListDigest e = cc
is_valid (DexDigest i) e = cc
is_valid (Shape l) e = cc
is_valid (Broken rule l a b c) e = cc
is_valid (Unmet c k l s) e = cc

judgement_safe : (form : Form) (all : List (List ℕ)) (x : SubjectParts) (text : List ℕ) (exit : Exit) → exit ≡ exits.Accept → IsJudgement form all x text exit → IsSafe x
judgement_safe (Receiver dex class) all x text exit here (IsReceived.reports has e) = absurd (let no : exits.Accept ≡ exits.Reports = sym here ∙ e in cc)
judgement_safe (Receiver dex class) all x text exit here (accepts t is e) = is.1
judgement_safe (Verify list dex) [] x text exit here never = absurd never
judgement_safe (Verify list dex) (bytes ∷ files) x text exit here (IsVerified.reports has e) = absurd (let no : exits.Accept ≡ exits.Reports = sym here ∙ e in cc)
judgement_safe (Verify list dex) (bytes ∷ files) x text exit here (certified is e) = is.accepted.1
judgement_safe (Verify list dex) (bytes ∷ files) x text exit here (overlong is e) = absurd (let no : exits.Accept ≡ exits.Limit = sym here ∙ e in cc)
judgement_safe (Check cert list dex) [] x text exit here never = absurd never
judgement_safe (Check cert list dex) (one ∷ []) x text exit here never = absurd never
judgement_safe (Check cert list dex) (one ∷ bytes ∷ files) x text exit here (IsChecked.unread n wrong t e) = absurd (let no : exits.Accept ≡ exits.Bad = sym here ∙ e in cc)
judgement_safe (Check cert list dex) (one ∷ bytes ∷ files) x text exit here (IsChecked.read c is t on) = on.safe (is_valid on.checked (sym on.ends ∙ here))

-- an accepted subject is safe
accepted_safe : (form : Form) (all : List (List ℕ)) (r : Result SubjectParts Refusal) (text : List ℕ) → BytesComeTo form all r → IsOutcome form all r text exits.Accept → (x : SubjectParts) × (r ≡ Ok x) × IsSafe x
accepted_safe form all (Ok x) text comes is = (x, refl, judgement_safe form all x text exits.Accept refl (form_outcome form all (Ok x) x text exits.Accept comes comes is))
accepted_safe form all (Err refusal) text comes is = absurd (not_accepted (refused_exit refusal text exits.Accept is))

-- words with no form choose no kind
formless_kinds : (o : Option Request) → ◌≡◌ {A = Option Form} (option_map (λ (request : Request). request.form) o) None → kinds_in o ≡ []
formless_kinds None none = refl
formless_kinds (Some request) none = absurd (let no : ⊥ = cc in no)

-- ---- what bytes come to is neither a fault of the outside nor want of memory
abbrev pub is_told : Exit → Bool
is_told exits.Accept = true
is_told exits.Reports = true
is_told exits.Bad = true
is_told exits.Scope = true
is_told exits.Limit = true
is_told exits.Usage = false
is_told exits.ReadFault = false
is_told exits.WriteFault = false
is_told exits.WatcherFault = false
is_told exits.Memory = false
is_told exits.Broken = true
is_told exits.Partly = false

told_judged : (form : Form) (exit : Exit) → Judges form exit → is_told exit ≡ true
told_judged (Receiver dex class) exit (inl e) = ap is_told e
told_judged (Receiver dex class) exit (inr e) = ap is_told e
told_judged (Verify list dex) exit (inl e) = ap is_told e
told_judged (Verify list dex) exit (inr (inl e)) = ap is_told e
told_judged (Verify list dex) exit (inr (inr e)) = ap is_told e
told_judged (Check cert list dex) exit (inl e) = ap is_told e
told_judged (Check cert list dex) exit (inr (inl e)) = ap is_told e
told_judged (Check cert list dex) exit (inr (inr e)) = ap is_told e

told_refused : (exit : Exit) → AsRefused exit → is_told exit ≡ true
told_refused exit (inl e) = ap is_told e
told_refused exit (inr (inl e)) = ap is_told e
told_refused exit (inr (inr e)) = ap is_told e

outcome_exit : (form : Form) (all : List (List ℕ)) (r : Result SubjectParts Refusal) (text : List ℕ) (exit : Exit) → BytesComeTo form all r → IsOutcome form all r text exit → is_told exit ≡ true
outcome_exit form all (Ok x) text exit comes is = told_judged form exit (judgement_exit form all x text exit (form_outcome form all (Ok x) x text exit comes comes is))
outcome_exit form all (Err refusal) text exit comes is = told_refused exit (refused_exit refusal text exit is)

pub untold : (other : Exit) → is_told other ≡ false → (form : Form) (all : List (List ℕ)) (r : Result SubjectParts Refusal) (text : List ℕ) (exit : Exit) → BytesComeTo form all r → IsOutcome form all r text exit → exit ≡ other → ⊥
untold other none form all r text exit comes is e = false≢true (sym none ∙ ap is_told (sym e) ∙ outcome_exit form all r text exit comes is)

pub all_judged : {E : Type 0} (form : Form) (all : List (List ℕ)) (r : Result Judged E) → IfOk r (λ j. FormHasOutcome form all j.answer.text.items j.answer.exit j.found.items) → IfOk r (λ j. j.answer.exit ≢ exits.Memory)
all_judged form all (Ok j) o = λ e. untold exits.Memory refl form all o.0 j.answer.text.items j.answer.exit o.1 o.2 e
all_judged form all (Err e) o = tt

-- nor what comes after the text is written
abbrev pub is_answered : Exit → Bool
is_answered exits.Accept = true
is_answered exits.Reports = true
is_answered exits.Bad = true
is_answered exits.Scope = true
is_answered exits.Limit = true
is_answered exits.Usage = true
is_answered exits.ReadFault = true
is_answered exits.WriteFault = false
is_answered exits.WatcherFault = false
is_answered exits.Memory = true
is_answered exits.Broken = true
is_answered exits.Partly = false

untold_after : (exit : Exit) → is_answered exit ≡ false → is_told exit ≡ false
untold_after exits.Accept off = absurd (false≢true (sym off))
untold_after exits.Reports off = absurd (false≢true (sym off))
untold_after exits.Bad off = absurd (false≢true (sym off))
untold_after exits.Scope off = absurd (false≢true (sym off))
untold_after exits.Limit off = absurd (false≢true (sym off))
untold_after exits.Usage off = refl
untold_after exits.ReadFault off = refl
untold_after exits.WriteFault off = refl
untold_after exits.WatcherFault off = refl
untold_after exits.Memory off = refl
untold_after exits.Broken off = absurd (false≢true (sym off))
untold_after exits.Partly off = refl

-- ---- from the answer to words and files to why it comes
module _ (words : List (List ℕ)) (content : List ℕ → Option (List ℕ)) (before now : ℕ) where
  pub read_cause : (text : List ℕ) (exit : Exit) (all : List Event) → IsAnswer words content before now text exit all → exit ≡ exits.ReadFault → Rose before now
  read_cause _ _ _ (usage none) e = absurd (let no : ⊥ = cc in no)
  read_cause _ _ _ (many_files form is many) e = absurd (let no : ⊥ = cc in no)
  read_cause _ _ _ (unread form i file bytes is few there taken rose) e = rose
  read_cause _ _ _ (too_long form i file bytes is few there taken long) e = absurd (let no : ⊥ = cc in no)
  read_cause _ _ _ (read form bytes r text exit found is few taken c o h) e = absurd (untold exits.ReadFault refl form bytes r text exit c o e)
  read_cause _ _ _ starved e = absurd (let no : ⊥ = cc in no)

  -- words with no form choose no watcher
  pub none_chosen : (text : List ℕ) (exit : Exit) (all : List Event) → IsAnswer words content before now text exit all → exit ≡ exits.Usage → kinds_of words ≡ []
  none_chosen _ _ _ (usage none) e = formless_kinds (request_of words) none
  none_chosen _ _ _ (many_files form is many) e = absurd (let no : ⊥ = cc in no)
  none_chosen _ _ _ (unread form i file bytes is few there taken rose) e = absurd (let no : ⊥ = cc in no)
  none_chosen _ _ _ (too_long form i file bytes is few there taken long) e = absurd (let no : ⊥ = cc in no)
  none_chosen _ _ _ (read form bytes r text exit found is few taken c o h) e = absurd (untold exits.Usage refl form bytes r text exit c o e)
  none_chosen _ _ _ starved e = absurd (let no : ⊥ = cc in no)

  answered : (text : List ℕ) (exit : Exit) (all : List Event) (other : Exit) → is_answered other ≡ false → IsAnswer words content before now text exit all → exit ≡ other → is_answered exit ≡ true
  answered _ _ _ other off (usage none) e = refl
  answered _ _ _ other off (many_files form is many) e = refl
  answered _ _ _ other off (unread form i file bytes is few there taken rose) e = refl
  answered _ _ _ other off (too_long form i file bytes is few there taken long) e = refl
  answered _ _ _ other off (read form bytes r text exit found is few taken c o h) e = absurd (untold other (untold_after other off) form bytes r text exit c o e)
  answered _ _ _ other off starved e = refl

  pub not_after : (other : Exit) → is_answered other ≡ false → (text : List ℕ) (exit : Exit) (all : List Event) → IsAnswer words content before now text exit all → exit ≡ other → ⊥
  not_after other off text exit all is e = false≢true (sym off ∙ ap is_answered (sym e) ∙ answered text exit all other off is e)

abbrev pub AreTakenOf : (List ℕ → Option (List ℕ)) → Form → List (List ℕ) → Type 0
AreTakenOf content form bytes = AreTakenTo content (files_of form) (length (files_of form)) bytes

module _ (words : List (List ℕ)) (content : List ℕ → Option (List ℕ)) (before now : ℕ) (form : Form) (all : List (List ℕ))
    (is : form_of words ≡ Some form) (told : AreTold content form all) where
  same_form : (other : Form) → form_of words ≡ Some other → other ≡ form
  same_form other e = let both : Some other ≡ Some form = sym e ∙ is in cc

  -- the bytes that an answer is about are those that are told
  answered_bytes : (other : Form) (bytes : List (List ℕ)) (r : Result SubjectParts Refusal) → other ≡ form → AreTakenOf content other bytes → BytesComeTo other bytes r → BytesComeTo form all r
  answered_bytes other bytes r same taken c =
      let t = subst (λ (f : Form). AreTakenOf content f bytes) same taken in
      subst (λ (b : List (List ℕ)). BytesComeTo form b r) (told_taken content form bytes all t told) (subst (λ (f : Form). BytesComeTo f bytes r) same c)

  -- what is accepted is safe
  pub accepted : (text : List ℕ) (exit : Exit) (events : List Event) → exit ≡ exits.Accept → IsAnswer words content before now text exit events → (x : SubjectParts) × AreJudged form all x × IsSafe x
  accepted _ _ _ same (usage none) = absurd (let no : ⊥ = cc in no)
  accepted _ _ _ same (many_files other e many) = absurd (let no : ⊥ = cc in no)
  accepted _ _ _ same (unread other i file bytes e few there taken rose) = absurd (let no : ⊥ = cc in no)
  accepted _ _ _ same (too_long other i file bytes e few there taken long) = absurd (let no : ⊥ = cc in no)
  accepted _ _ _ same (read other bytes r text exit found e few taken c o h) =
      let safe = accepted_safe other bytes r text c (subst (λ (k : Exit). IsOutcome other bytes r text k) same o) in
      (safe.0, answered_bytes other bytes (Ok safe.0) (same_form other e) taken (subst (λ (s : Result SubjectParts Refusal). BytesComeTo other bytes s) safe.1 c), safe.2)
  accepted _ _ _ same starved = absurd (let no : ⊥ = cc in no)

  -- no file is too long
  no_long : (i : ℕ) (file : FileName) → slice_get (files_of form) i ≡ Some file → WhereTold (content file.name) (λ bs. limit_of file.limit < length bs) → ⊥
  no_long i file there long =
      let lt = slice_get_within (files_of form) i file there in
      let at = slice_get-get_or all i [] (omega (arith, lt, told.len)) in
      let tells = told.each i file (get_or all i []) there at in
      let more = long (get_or all i []) tells.0 in
      let less = tells.1 in
      omega (arith, more, less)

  module _ (x : SubjectParts) (judges : AreJudged form all x) where
    -- the answer is the judgement of each subject that they come to
    judged_so : (other : Form) (bytes : List (List ℕ)) (r : Result SubjectParts Refusal) (text : List ℕ) (exit : Exit) → form_of words ≡ Some other → AreTakenOf content other bytes → BytesComeTo other bytes r → IsOutcome other bytes r text exit → IsJudgement form all x text exit
    judged_so other bytes r text exit e taken c o =
        let here = same_form other e in
        let these : bytes ≡ all = told_taken content form bytes all (subst (λ (f : Form). AreTakenOf content f bytes) here taken) told in
        let outcome = subst (λ (b : List (List ℕ)). IsOutcome form b r text exit) these (subst (λ (f : Form). IsOutcome f bytes r text exit) here o) in
        form_outcome form all r x text exit judges (answered_bytes other bytes r here taken c) outcome

    pub exact_of : (text : List ℕ) (exit : Exit) (events : List Event) → IsAnswer words content before now text exit events → IsUnjudged exit ⊎ IsJudgement form all x text exit
    exact_of _ _ _ (usage none) = absurd (let no : ⊥ = cc in no)
    exact_of _ _ _ (many_files other e many) = absurd (let less = told.few in let more = subst (λ (f : Form). limit_of Files < length (dex_names f)) (same_form other e) many in omega (arith, less, more))
    exact_of _ _ _ (unread other i file bytes e few there taken rose) = inl (inl refl)
    exact_of _ _ _ (too_long other i file bytes e few there taken long) =
        let at = subst (λ (f : Form). slice_get (files_of f) i ≡ Some file) (same_form other e) there in
        absurd (no_long i file at long)
    exact_of _ _ _ (read other bytes r text exit found e few taken c o h) = inr (judged_so other bytes r text exit e taken c o)
    exact_of _ _ _ starved = inl (inr refl)

    pub judged_exit : ¬ Rose before now → (text : List ℕ) (exit : Exit) (events : List Event) → IsAnswer words content before now text exit events → Judges form exit ⊎ (exit ≡ exits.Memory)
    judged_exit quiet text exit events answer = by (exact_of text exit events answer) where
      by : IsUnjudged exit ⊎ IsJudgement form all x text exit → Judges form exit ⊎ (exit ≡ exits.Memory)
      by (inr j) = inl (judgement_exit form all x text exit j)
      by (inl (inl e)) = absurd (quiet (read_cause words content before now text exit events answer e))
      by (inl (inr e)) = inr e
