-- From what came of reading the files of a form to the answer.
use Rattle.std.proofs.Common.{◌≡◌, ◌<◌, ◌≤◌, ℕ, zero, suc, Bool, true, false, if◌then◌else◌, List, [], ◌∷◌, length, map, Vec, Global, Option, Some, None, option_and_then, option_map, Result, Ok, Err, IfOk, slice_get, get_or, sym, ap, subst, refl, ◌∙◌, arith}
use Rattle.std.proofs.lemmas.List.{length-map}
use Rattle.std.proofs.lemmas.Option.{get_or_from_slice_get, slice_get-get_or, slice_get-map}
use Rattle.ns_base.specs.Answers.{limit_of}
use Rattle.ns_base.specs.Outside.{Rose}
use Rattle.ns_base.specs.declared.answers.Counted.TheVariants.{Files}
use Rattle.ns_base.specs.declared.answers.Event.{Event}
use Rattle.ns_base.specs.declared.answers.Exit.{Exit}
use Rattle.ns_base.specs.declared.answers.Exit.TheVariants as exits
use Rattle.flow_model.specs.declared.policy.Violation.{Violation}
use Rattle.report_text.specs.Limits.{over_limit_text}
use Rattle.report_text.specs.Texts.{cannot_read_text, usage_text}
use Rattle.nosleep.specs.declared.judging.Judged.{Judged}
use Rattle.nosleep.specs.declared.refusing.Answer.{Answer}
use Rattle.nosleep.specs.declared.words.Options.{Options}
use Rattle.nosleep.specs.Answer.{AreTakenTo, IsAnswer, many_files, read, too_long, unread, usage}
use Rattle.nosleep.specs.Events.{ended_by, reads_from}
use Rattle.nosleep.specs.Files.{AreSmall}
use Rattle.nosleep.specs.Outcome.{FormHasOutcome, judged_files}
use Rattle.nosleep.specs.Refusals.{IsOver}
use Rattle.nosleep.specs.Taking.{IsTooLong, StopsAt}
use Rattle.nosleep.specs.Words.{FileName, Form, Receiver, Verify, Check, Request, Rest, check_of, dex_file, list_file, dex_names, files_of, form_of, named_form, receiver_of, request_of, rest_of, verify_of, with_options}

-- no list and no DEX file of a form may be longer than a DEX file may
in_files : (names : List (List ℕ)) (i : ℕ) → i < length (map dex_file names) → (d : FileName) → limit_of (get_or (map dex_file names) i d).limit ≤ 33554432
in_files [] i less d = absurd (omega (arith, less))
in_files (name ∷ names) zero less d = omega arith
in_files (name ∷ names) (suc i) less d = in_files names i (omega (arith, less)) d

small_limits : (form : Form) (k : ℕ) (d : FileName) → k < length (judged_files form (files_of form)) → limit_of (get_or (judged_files form (files_of form)) k d).limit ≤ 33554432
small_limits (Receiver dex class) zero d lt = omega arith
small_limits (Receiver dex class) (suc k) d lt = absurd (omega (arith, lt))
small_limits (Verify list files) zero d lt = omega arith
small_limits (Verify list files) (suc k) d lt = in_files files k (omega (arith, lt)) d
small_limits (Check cert list files) zero d lt = omega arith
small_limits (Check cert list files) (suc k) d lt = in_files files k (omega (arith, lt)) d

-- files of these names have no more bytes than their limits
small_files : (files : List FileName) (all : List (Vec ℕ Global)) → ((k : ℕ) (d : FileName) → k < length files → limit_of (get_or files k d).limit ≤ 33554432) → length all ≡ length files
    → ((k : ℕ) (file : FileName) (bytes : Vec ℕ Global) → slice_get files k ≡ Some file → slice_get all k ≡ Some bytes → length bytes.items ≤ limit_of file.limit) → AreSmall all
small_files files all small len each k d lt =
    let at = slice_get-get_or files k (dex_file []) (omega (arith, lt, len)) in
    let short = each k (get_or files k (dex_file [])) (get_or all k d) at (slice_get-get_or all k d lt) in
    let low = small k (dex_file []) (omega (arith, lt, len)) in
    let kept = (get_or all k d).ok in
    omega (arith, short, low, kept)

pub short_taken : (content : List ℕ → Option (List ℕ)) (form : Form) (files : List FileName) (all : List (Vec ℕ Global)) → files ≡ files_of form
    → AreTakenTo content files (length files) (map (λ v. v.items) all) → AreSmall (judged_files form all)
short_taken content form files all same taken = by_form form all (omega (arith, length-map all (λ (v : Vec ℕ Global). v.items), taken.len, ap length same))
    (λ k file bytes there at. (taken.each k file bytes.items (rw same there) (slice_get-map (λ (v : Vec ℕ Global). v.items) all k ∙ ap (λ (o : Option (Vec ℕ Global)). option_map (λ v. v.items) o) at)).limit)
  where
    by_form : (form : Form) (all : List (Vec ℕ Global)) → length all ≡ length (files_of form)
        → ((k : ℕ) (file : FileName) (bytes : Vec ℕ Global) → slice_get (files_of form) k ≡ Some file → slice_get all k ≡ Some bytes → length bytes.items ≤ limit_of file.limit) → AreSmall (judged_files form all)
    by_form (Receiver dex class) all len each = small_files (files_of (Receiver dex class)) all (small_limits (Receiver dex class)) len each
    by_form (Verify list dex) all len each = small_files (files_of (Verify list dex)) all (small_limits (Verify list dex)) len each
    by_form (Check cert list dex) [] len each = absurd (omega (arith, len))
    by_form (Check cert list dex) (one ∷ rest) len each = small_files (list_file list ∷ map dex_file dex) rest (small_limits (Check cert list dex)) (omega (arith, len)) (λ k file bytes there at. each (suc k) file bytes there at)

pub small_rest : (x : Vec ℕ Global) (rest all : List (Vec ℕ Global)) → all ≡ x ∷ rest → AreSmall all → AreSmall rest
small_rest x rest all same small k d less = let whole = subst AreSmall same small in whole (suc k) d (omega (arith, less))

pub small_beside : (cert list : List ℕ) (dex : List (List ℕ)) (x : Vec ℕ Global) (rest all : List (Vec ℕ Global)) → all ≡ x ∷ rest → AreSmall (judged_files (Check cert list dex) all) → AreSmall rest
small_beside cert list dex x rest all same small = subst (λ (xs : List (Vec ℕ Global)). AreSmall (judged_files (Check cert list dex) xs)) same small

-- a form names at least one DEX file
abbrev NamesSome : Option Form → Type 0
NamesSome o = (form : Form) → Some form ≡ o → 0 < length (dex_names form)

in_either : (b : Bool) (one other : Option Form) → NamesSome one → NamesSome other → NamesSome (if b then one else other)
in_either true one other first second = first
in_either false one other first second = second

in_none : NamesSome None
in_none form e = absurd (let no : ⊥ = cc in no)

in_one : (other : Form) → 0 < length (dex_names other) → NamesSome (Some other)
in_one other some form e = let same : other ≡ form = cc in subst (λ (f : Form). 0 < length (dex_names f)) same some

in_verify : (list : List ℕ) (files : List (List ℕ)) → NamesSome (verify_of list files)
in_verify list [] = in_none
in_verify list (file ∷ files) = in_one (Verify list (file ∷ files)) (omega arith)

in_check : (cert : List ℕ) (words : List (List ℕ)) → NamesSome (check_of cert words)
in_check cert [] = in_none
in_check cert (list ∷ []) = in_none
in_check cert (list ∷ file ∷ files) = in_one (Check cert list (file ∷ files)) (omega arith)

in_receiver : (dex : List ℕ) (words : List (List ℕ)) → NamesSome (receiver_of dex words)
in_receiver dex [] = in_none
in_receiver dex (class ∷ []) = in_one (Receiver dex class) (omega arith)
in_receiver dex (class ∷ word ∷ words) = in_none

in_named : (form : List ℕ) (names : List (List ℕ)) → NamesSome (named_form form names)
in_named form [] = in_none
in_named form (first ∷ rest) = in_either _ _ _ (in_verify first rest) (in_either _ _ _ (in_check first rest) (in_either _ _ _ (in_receiver first rest) in_none))

pub names_some : (words : List (List ℕ)) (request : Request) → Some request ≡ request_of words → 0 < length (dex_names request.form)
names_some [] request is = absurd (let no : ⊥ = cc in no)
names_some (form ∷ words) request is = by_rest (rest_of false false words) is where
  by_form : (options : Options) (o : Option Form) → NamesSome o → Some request ≡ option_map (with_options options) o → 0 < length (dex_names request.form)
  by_form options None some e = absurd (let no : ⊥ = cc in no)
  by_form options (Some other) some e = let same : with_options options other ≡ request = cc in subst (λ (r : Request). 0 < length (dex_names r.form)) same (some other refl)

  by_rest : (o : Option Rest) → Some request ≡ option_and_then (λ rest. option_map (with_options rest.options) (named_form form rest.names)) o → 0 < length (dex_names request.form)
  by_rest None e = absurd (let no : ⊥ = cc in no)
  by_rest (Some rest) e = by_form rest.options (named_form form rest.names) (in_named form rest.names) e

-- a form has at most two files more than DEX files
pub few_names : (form : Form) → length (dex_names form) ≤ limit_of Files → length (files_of form) ≤ 18
few_names (Receiver dex class) few = omega arith
few_names (Verify list files) few = omega (arith, few, length-map files dex_file)
few_names (Check cert list files) few = omega (arith, few, length-map files dex_file)

module _ (words : List (List ℕ)) (content : List ℕ → Option (List ℕ)) (before now : ℕ) where
  pub formless : (text : List ℕ) (events : List Event) → None ≡ request_of words → text ≡ usage_text → events ≡ [] → IsAnswer words content before now text exits.Usage events
  formless text events none is quiet =
      subst (λ (t : List ℕ). IsAnswer words content before now t exits.Usage events) (sym is)
      (subst (λ (es : List Event). IsAnswer words content before now usage_text exits.Usage es) (sym quiet) (usage (ap (λ (o : Option Request). option_map (λ (r : Request). r.form) o) (sym none))))

  -- an answer after these events of reading
  abbrev IsAfter : List Event → Answer → List Violation → Type 0
  IsAfter reads a found = IsAnswer words content before now a.text.items a.exit (ended_by reads found a.exit)

  as_is : (text wanted : List ℕ) (exit by : Exit) (reads : List Event) → text ≡ wanted → exit ≡ by → IsAnswer words content before now wanted by (ended_by reads [] by) → IsAnswer words content before now text exit (ended_by reads [] exit)
  as_is text wanted exit by reads same_text same_exit is =
      subst (λ (t : List ℕ). IsAnswer words content before now t exit (ended_by reads [] exit)) (sym same_text) (subst (λ (k : Exit). IsAnswer words content before now wanted k (ended_by reads [] k)) (sym same_exit) is)

  module _ (form : Form) (asked : form_of words ≡ Some form) (j : Judged) (a : Answer) (same_answer : j.answer ≡ a) (none : j.found.items ≡ []) where
    with_none : (reads : List Event) → IsAfter reads a [] → IsAfter reads j.answer j.found.items
    with_none reads is = subst (λ (found : List Violation). IsAfter reads j.answer found) (sym none) (subst (λ (b : Answer). IsAfter reads b []) (sym same_answer) is)

    pub too_many : (reads : List Event) → limit_of Files < length (dex_names form) → IsOver Files a.text.items a.exit → reads ≡ [] → IsAfter reads j.answer j.found.items
    too_many reads many over quiet =
        with_none reads (as_is _ _ _ _ reads over.1 over.0 (subst (λ (es : List Event). IsAnswer words content before now (over_limit_text Files) exits.Limit (ended_by es [] exits.Limit)) (sym quiet) (many_files form asked many)))

    module _ (few : length (dex_names form) ≤ limit_of Files) (files : List FileName) (same : files ≡ files_of form) where
      named : (i : ℕ) (file other : FileName) → slice_get files i ≡ Some file → other ≡ get_or files i other → other ≡ file
      named i file other there is = is ∙ get_or_from_slice_get files i file other there

      of_form : (i : ℕ) (file : FileName) → slice_get files i ≡ Some file → slice_get (files_of form) i ≡ Some file
      of_form i file there = subst (λ (fs : List FileName). slice_get fs i ≡ Some file) same there

      taken_of : (i : ℕ) (all : List (List ℕ)) → AreTakenTo content files i all → AreTakenTo content (files_of form) i all
      taken_of i all taken = subst (λ (fs : List FileName). AreTakenTo content fs i all) same taken

      pub stopped_failed : (i : ℕ) (other : FileName) (reads : List Event) → StopsAt content files i reads (λ file. Rose before now) → other ≡ get_or files i other → a.text.items ≡ cannot_read_text other.name → a.exit ≡ exits.ReadFault
          → IsAfter reads j.answer j.found.items
      stopped_failed i other reads stops is wrote ends =
          let text = wrote ∙ ap (λ (f : FileName). cannot_read_text f.name) (named i stops.file other stops.there is) in
          let own = unread form i stops.file stops.all asked few (of_form i stops.file stops.there) (taken_of i stops.all stops.taken) stops.why in
          with_none reads
          (as_is _ _ _ _ reads text ends (subst (λ (es : List Event). IsAnswer words content before now (cannot_read_text stops.file.name) exits.ReadFault (ended_by es [] exits.ReadFault)) (sym stops.told) own))

      pub stopped_long : (i : ℕ) (other : FileName) (reads : List Event) → StopsAt content files i reads (IsTooLong content) → other ≡ get_or files i other → IsOver other.limit a.text.items a.exit
          → IsAfter reads j.answer j.found.items
      stopped_long i other reads stops is over =
          let o = subst (λ (f : FileName). IsOver f.limit a.text.items a.exit) (named i stops.file other stops.there is) over in
          let own = too_long form i stops.file stops.all asked few (of_form i stops.file stops.there) (taken_of i stops.all stops.taken) stops.why in
          with_none reads
          (as_is _ _ _ _ reads o.1 o.0 (subst (λ (es : List Event). IsAnswer words content before now (over_limit_text stops.file.limit) exits.Limit (ended_by es [] exits.Limit)) (sym stops.told) own))

  pub all_read : {E : Type 0} (form : Form) (files : List FileName) (all : List (List ℕ)) (r : Result Judged E) (reads : List Event) → form_of words ≡ Some form → length (dex_names form) ≤ limit_of Files → files ≡ files_of form
      → AreTakenTo content files (length files) all → reads ≡ reads_from 0 all → IfOk r (λ j. FormHasOutcome form all j.answer.text.items j.answer.exit j.found.items)
      → IfOk r (λ j. IsAfter reads j.answer j.found.items)
  all_read form files all (Ok j) reads asked few same taken told outcome =
      subst (λ (es : List Event). IsAfter es j.answer j.found.items) (sym told)
      (read form all outcome.0 j.answer.text.items j.answer.exit j.found.items asked few (subst (λ (fs : List FileName). AreTakenTo content fs (length fs) all) same taken) outcome.1 outcome.2 outcome.3)
  all_read form files all (Err e) reads asked few same taken told outcome = tt
