-- What holds of an application that was linked.
use Rattle.std.proofs.Common.{◌≡◌, ◌≢◌, ◌<◌, ◌≤◌, ◌+◌, ◌⊎◌, inl, inr, nat_eq, nat_lt, bytes_eq, ℕ, zero, suc, true, false, List, [], ◌∷◌, ◌++◌, length, get_or, slice_get, slice_index_or, position, cond, ltb, sum_by, Option, Some, None, option_map, Ok, All, AllPairs, Contains, refl, sym, ap, subst, ◌∙◌, ⊎_elim, arith, true≢false, length-append}
use Rattle.std.specs.List.{position_or_len}
use Rattle.std.proofs.lemmas.Bool.{cases_Bool, ltb-false}
use Rattle.std.proofs.lemmas.Bool.Decides.{nat_tests}
use Rattle.std.proofs.lemmas.List.{get_or_append_left, get_or_at}
use Rattle.std.proofs.lemmas.List.Elements.{All-cons}
use Rattle.std.proofs.lemmas.List.Kept.{AllPairs-cons}
use Rattle.std.proofs.lemmas.Slice.Eq.{bytes_eq-Decides}
use Rattle.ns_base.specs.declared.rows.FieldNo.{FieldNo}
use Rattle.ns_base.specs.declared.answers.Counted.TheVariants.{Locks, Units}
use Rattle.app_model.specs.declared.rows.FieldRow.{FieldRow}
use Rattle.app_model.specs.Names.{type_text, wake_lock_name}
use Rattle.app_model.specs.Parts.{AppParts}
use Rattle.app_model.specs.Words.{IsApp}
use Rattle.app_model.specs.Sound.{AreDistinct, AreLocks, IsSoundApp}
use Rattle.dex_file.specs.declared.parts.FileMethod.{FileMethod}
use Rattle.dex_file.specs.Content.{ClassContent, FileContent}
use Rattle.dex_file.specs.Reading.{IsContent}
use Rattle.dex_file.specs.Sound.{IsSoundFile}
use Rattle.dex_file.proofs.SoundFile.{content_sound}
use Rattle.app_rows.specs.Linked.{app_of, linked, locks_from, members_in}
use Rattle.app_rows.specs.Numbers.{seen_in}
use Rattle.app_rows.proofs.Fitting.{IsCoded, AreCoded, methods_sound, bodies_sound, instructions_few}
use Rattle.app_rows.proofs.Once.{spelled_once}
use Rattle.app_rows.proofs.Ranges.{in_range}
use Rattle.app_rows.proofs.SeenLengths.{small_app}
use Rattle.app_rows.specs.Small.{AreSmall}
use Rattle.app_link.specs.declared.link_fault.LinkFault.TheVariants.{Limit}
use Rattle.app_link.specs.declared.class_checks.Repeat.{Repeat}
use Rattle.app_link.specs.declared.code_checks.CodeWrong.TheVariants.{Missing, Unwanted}
use Rattle.app_link.specs.LinkFaults.{◌or◌, above, class_counts, class_names, duplicate_fault, locks_fault, sites_fault, units_fault, code_fault, code_fault_from, duplicate_of, is_wrong, repeat_at, repeat_from, wrong_in, wrong_in_class, wrong_in_classes}
use Rattle.app_link.specs.Linking.{IsAcyclic, IsChecked, IsLinked, early_fault}
use Rattle.app_link.proofs.Ancestry.{at_get}

none_both : {A : Type 0} (a b : Option A) → (a or b) ≡ None → (a ≡ None) × (b ≡ None)
none_both None b h = (refl, h)
none_both (Some x) b h = absurd (let no : ⊥ = cc in no)

-- ---- names of classes that no earlier class has
same_not : (x y : ℕ) → nat_eq x y ≡ false → x ≢ y
same_not x y h = grind (arith, nat_tests)

all_past : (x : ℕ) (xs : List ℕ) → length xs ≤ position_or_len (nat_eq x) xs → All (λ y. x ≢ y) xs
all_past x [] h = λ k d below. absurd (omega arith)
all_past x (y ∷ ys) h =
    ⊎_elim (λ (yes : nat_eq x y ≡ true). let low : length (y ∷ ys) ≤ 0 = rw yes at h in absurd (omega (arith, low)))
    (λ (no : nat_eq x y ≡ false). let low : length (y ∷ ys) ≤ 1 + position_or_len (nat_eq x) ys = rw no at h in All-cons (λ z. x ≢ z) y ys (same_not x y no) (all_past x ys (omega (arith, low))))
    (cases_Bool (nat_eq x y))

not_below : (n m : ℕ) → cond (ltb n m) (Some n) None ≡ None → m ≤ n
not_below n m h = ⊎_elim (λ (yes : ltb n m ≡ true). absurd (let some : Some n ≡ None = rw yes at h in let no : ⊥ = cc in no)) (λ (no : ltb n m ≡ false). ltb-false n m no) (cases_Bool (ltb n m))

not_there : (x : ℕ) (xs : List ℕ) → position (nat_eq x) xs ≡ None → All (λ y. x ≢ y) xs
not_there x xs h = all_past x xs (not_below (position_or_len (nat_eq x) xs) (length xs) h)

repeat_none : (n : ℕ) (o : Option ℕ) (later : Option Repeat) → repeat_at n o later ≡ None → (o ≡ None) × (later ≡ None)
repeat_none n None later h = (refl, h)
repeat_none n (Some first) later h = absurd (let no : ⊥ = cc in no)

-- ---- methods that have code
none_wrong : (method : FileMethod) (more : List FileMethod) → wrong_in Missing (method ∷ more) ≡ None → (is_wrong Missing method ≡ false) × (wrong_in Missing more ≡ None)
none_wrong method more h =
    ⊎_elim (λ (yes : is_wrong Missing method ≡ true). absurd (let some : Some method.id ≡ None = rw yes at h in let no : ⊥ = cc in no))
    (λ (no : is_wrong Missing method ≡ false). let rest : wrong_in Missing more ≡ None = rw no at h in (no, rest))
    (cases_Bool (is_wrong Missing method))

coded_by : (method : FileMethod) → is_wrong Missing method ≡ false → IsCoded method
coded_by method h has none = true≢false (let all : is_wrong Missing method ≡ true = rw (has, none) refl in sym all ∙ h)

coded_in : (methods : List FileMethod) → wrong_in Missing methods ≡ None → All IsCoded methods
coded_in [] h = λ k d below. absurd (omega arith)
coded_in (method ∷ more) h = let both = none_wrong method more h in All-cons IsCoded method more (coded_by method both.0) (coded_in more both.1)

coded_classes : (classes : List ClassContent) → wrong_in_classes Missing classes ≡ None → All (λ (class : ClassContent). All IsCoded class.directs × All IsCoded class.virtuals) classes
coded_classes [] h = λ k d below. absurd (omega arith)
coded_classes (class ∷ more) h =
    let both = none_both (wrong_in_class Missing class) (wrong_in_classes Missing more) h in
    let here = none_both (wrong_in Missing class.directs) (wrong_in Missing class.virtuals) both.0 in
    All-cons (λ (class : ClassContent). All IsCoded class.directs × All IsCoded class.virtuals) class more (coded_in class.directs here.0, coded_in class.virtuals here.1) (coded_classes more both.1)

no_fault : (n : ℕ) (o : Option ℕ) → option_map (code_fault Missing n) o ≡ None → o ≡ None
no_fault n None h = refl
no_fault n (Some id) h = absurd (let no : ⊥ = cc in no)

coded_files : (n : ℕ) (files : List FileContent) → code_fault_from Missing n files ≡ None → All AreCoded files
coded_files n [] h = λ k d below. absurd (omega arith)
coded_files n (file ∷ more) h =
    let both = none_both (option_map (code_fault Missing n) (wrong_in_classes Missing file.classes)) (code_fault_from Missing (suc n) more) h in
    All-cons AreCoded file more (coded_classes file.classes (no_fault n (wrong_in_classes Missing file.classes) both.0)) (coded_files (suc n) more both.1)

-- ---- distinct names
-- what is none of some numbers and one more
neither : (x name : ℕ) (before : List ℕ) → All (λ y. x ≢ y) (before ++ name ∷ []) → All (λ y. x ≢ y) before × (x ≢ name)
neither x name before all = (
  λ k d below. let there = all k d (omega (arith, length-append before (name ∷ []), below)) in rw (get_or_append_left before (name ∷ []) d k below) at there,
  let last = all (length before) 0 (omega (arith, length-append before (name ∷ []))) in rw (get_or_at before name [] 0 (length before) refl) at last,
)

seen_none : (before names : List ℕ) → repeat_from before names ≡ None → All (λ x. All (λ y. x ≢ y) before) names × AreDistinct names
seen_none before [] h = (λ k d below. absurd (omega arith), λ i j d lt below. absurd (omega arith))
seen_none before (name ∷ more) h =
    let both = repeat_none (length before) (position (nat_eq name) before) (repeat_from (before ++ name ∷ []) more) h in
    let rest = seen_none (before ++ name ∷ []) more both.1 in (
      All-cons (λ x. All (λ y. x ≢ y) before) name more (not_there name before both.0) (λ k d below. (neither (get_or more k d) name before (rest.0 k d below)).0),
      AllPairs-cons (λ a b. a ≢ b) name more (λ k d below same. (neither (get_or more k d) name before (rest.0 k d below)).1 (sym same)) rest.1,
    )

no_repeat : (counts : List ℕ) (o : Option Repeat) → duplicate_of counts o ≡ None → o ≡ None
no_repeat counts None h = refl
no_repeat counts (Some repeat) h = absurd (let no : ⊥ = cc in no)

-- ---- lock fields
-- their places, from n on
locks_between : (types : List (List ℕ)) (n : ℕ) (fields : List FieldRow) → All (λ (f : FieldNo). (n ≤ f.0) × (f.0 < n + length fields)) (locks_from types n fields)
locks_between types n [] = λ k d below. absurd (omega arith)
locks_between types n (field ∷ more) =
    let rest : All (λ (f : FieldNo). (n ≤ f.0) × (f.0 < n + length (field ∷ more))) (locks_from types (suc n) more) =
    λ k d below. let at = locks_between types (suc n) more k d below in (omega (arith, at.0), omega (arith, at.1)) in
    ⊎_elim (λ (yes : bytes_eq (slice_index_or types field.kind.0 []) wake_lock_name ≡ true). rw yes (All-cons (λ (f : FieldNo). (n ≤ f.0) × (f.0 < n + length (field ∷ more))) (record { 0 = n }) (locks_from types (suc n) more) (omega arith, omega arith) rest))
    (λ (no : bytes_eq (slice_index_or types field.kind.0 []) wake_lock_name ≡ false). rw no rest)
    (cases_Bool (bytes_eq (slice_index_or types field.kind.0 []) wake_lock_name))

locks_rise : (types : List (List ℕ)) (n : ℕ) (fields : List FieldRow) → AllPairs (λ (a b : FieldNo). a.0 < b.0) (locks_from types n fields)
locks_rise types n [] = λ i j d lt below. absurd (omega arith)
locks_rise types n (field ∷ more) =
    let rest = locks_rise types (suc n) more in
    ⊎_elim (λ (yes : bytes_eq (slice_index_or types field.kind.0 []) wake_lock_name ≡ true). rw yes (AllPairs-cons (λ (a b : FieldNo). a.0 < b.0) (record { 0 = n }) (locks_from types (suc n) more)
    (λ k d below. let at = locks_between types (suc n) more k d below in omega (arith, at.0)) rest))
    (λ (no : bytes_eq (slice_index_or types field.kind.0 []) wake_lock_name ≡ false). rw no rest)
    (cases_Bool (bytes_eq (slice_index_or types field.kind.0 []) wake_lock_name))

field_no : (n m : ℕ) → n ≡ m → ◌≡◌ {A = FieldNo} (record { 0 = n }) (record { 0 = m })
field_no n m same = rw same refl

drop_at : (x y : FieldNo) (xs : List FieldNo) (k : ℕ) → k < length (y ∷ xs) → slice_index_or (y ∷ xs) k x ≡ x → (y ≡ x) ⊎ Contains xs x
drop_at x y xs zero lt is = inl is
drop_at x y xs (suc k) lt is = inr (k, omega arith, is)

-- the field at place k is among them where it is of that type
is_among : (types : List (List ℕ)) (n : ℕ) (fields : List FieldRow) (k m : ℕ) (field : FieldRow) → slice_get fields k ≡ Some field → m ≡ n + k
    → bytes_eq (slice_index_or types field.kind.0 []) wake_lock_name ≡ true → Contains (locks_from types n fields) (record { 0 = m })
is_among types n [] k m field here at is = absurd (let no : ⊥ = cc in no)
is_among types n (first ∷ more) zero m field here at is =
    let same : first ≡ field = cc in
    let yes : bytes_eq (slice_index_or types first.kind.0 []) wake_lock_name ≡ true = rw same is in
    let place : n ≡ m = omega arith in
    rw yes (0, omega arith, field_no n m place)
is_among types n (first ∷ more) (suc k) m field here at is =
    let rest = is_among types (suc n) more k m field here (omega arith) is in
    ⊎_elim (λ (yes : bytes_eq (slice_index_or types first.kind.0 []) wake_lock_name ≡ true). rw yes (suc rest.0, omega (arith, rest.1), rest.2))
    (λ (no : bytes_eq (slice_index_or types first.kind.0 []) wake_lock_name ≡ false). rw no rest)
    (cases_Bool (bytes_eq (slice_index_or types first.kind.0 []) wake_lock_name))

-- one of them is at least n
is_behind : (types : List (List ℕ)) (n : ℕ) (fields : List FieldRow) (m : ℕ) → Contains (locks_from types n fields) (record { 0 = m }) → n ≤ m
is_behind types n fields m c =
    let low = (locks_between types n fields c.0 (record { 0 = m }) c.1).0 in
    let same = ap (λ (f : FieldNo). f.0) c.2 in omega (arith, low, same)

among_is : (types : List (List ℕ)) (n : ℕ) (fields : List FieldRow) (k m : ℕ) (field : FieldRow) → slice_get fields k ≡ Some field → m ≡ n + k
    → Contains (locks_from types n fields) (record { 0 = m }) → bytes_eq (slice_index_or types field.kind.0 []) wake_lock_name ≡ true
among_is types n [] k m field here at c = absurd (let no : ⊥ = cc in no)
among_is types n (first ∷ more) zero m field here at c =
    let same : first ≡ field = cc in
    ⊎_elim (λ (yes : bytes_eq (slice_index_or types first.kind.0 []) wake_lock_name ≡ true). rw (sym same) yes)
    (λ (no : bytes_eq (slice_index_or types first.kind.0 []) wake_lock_name ≡ false). let rest : Contains (locks_from types (suc n) more) (record { 0 = m }) = rw no at c in
    absurd (let low = is_behind types (suc n) more m rest in omega arith))
    (cases_Bool (bytes_eq (slice_index_or types first.kind.0 []) wake_lock_name))
among_is types n (first ∷ more) (suc k) m field here at c =
    ⊎_elim (λ (yes : bytes_eq (slice_index_or types first.kind.0 []) wake_lock_name ≡ true).
    let all : Contains (record { 0 = n } ∷ locks_from types (suc n) more) (record { 0 = m }) = rw yes at c in
    ⊎_elim (λ same. absurd (let place = ap (λ (f : FieldNo). f.0) same in omega arith)) (λ rest. among_is types (suc n) more k m field here (omega arith) rest)
    (drop_at (record { 0 = m }) (record { 0 = n }) (locks_from types (suc n) more) all.0 all.1 all.2))
    (λ (no : bytes_eq (slice_index_or types first.kind.0 []) wake_lock_name ≡ false). among_is types (suc n) more k m field here (omega arith) (rw no at c))
    (cases_Bool (bytes_eq (slice_index_or types first.kind.0 []) wake_lock_name))

are_locks : (app : AppParts) → app.locks ≡ locks_from app.types 0 app.fields → AreLocks app
unfolding type_text
are_locks app is = rw is (record {
  rising = locks_rise app.types 0 app.fields;
  each = λ f field here. (λ c. (bytes_eq-Decides _ _).0 (among_is app.types 0 app.fields f f field here (omega arith) c), λ same. is_among app.types 0 app.fields f f field here (omega arith) ((bytes_eq-Decides _ _).1 same));
  fields = λ k d below. let at = locks_between app.types 0 app.fields k d below in omega (arith, at.1);
})

-- ---- all of it
not_more : (m n : ℕ) → nat_lt m n ≡ false → n ≤ m
not_more m n h = grind (arith, nat_tests)

linked_locks : (files : List FileContent) → AreLocks (linked files)
unfolding linked
linked_locks files = are_locks (app_of (seen_in files) (members_in (seen_in files) files)) refl

units_few : (n : ℕ) → above Units n ≡ None → n ≤ 4194304
units_few n h = ⊎_elim (λ (yes : nat_lt 4194304 n ≡ true). absurd (let some : Some (Limit Units) ≡ None = rw yes at h in let no : ⊥ = cc in no)) (λ (no : nat_lt 4194304 n ≡ false). not_more 4194304 n no) (cases_Bool (nat_lt 4194304 n))

linked_sound : (files : List FileContent) → All IsSoundFile files → IsApp (linked files) → early_fault files ≡ None → IsAcyclic files → units_fault files ≡ None → IsSoundApp (linked files)
linked_sound files are sizes early acyclic few =
    let first = none_both (duplicate_fault files) (code_fault_from Missing 0 files or code_fault_from Unwanted 0 files) early in
    let coded = coded_files 0 files (none_both (code_fault_from Missing 0 files) (code_fault_from Unwanted 0 files) first.1).0 in
    let once = spelled_once files in
    record {
      sizes = sizes;
      ranges = in_range files are;
      once = record {
        types = once.0;
        names = once.1;
        protos = once.2;
        classes = (seen_none [] (class_names (linked files).classes) (no_repeat (class_counts files) (repeat_from [] (class_names (linked files).classes)) first.0)).1;
      };
      acyclic = λ c class there. acyclic c class (at_get (linked files).classes c class there).0 there;
      locks = linked_locks files;
      methods = methods_sound files are coded;
      bodies = bodies_sound files are coded;
      instructions = let most = units_few (sum_by (λ (file : FileContent). file.units) files) few in let less = instructions_few files are in omega arith;
    }

contents_sound : (files : List FileContent) (app : AppParts) → All IsContent files → IsApp app → app ≡ linked files → early_fault files ≡ None → IsAcyclic files → units_fault files ≡ None → IsSoundApp app
contents_sound files app are sizes is early acyclic few =
    subst IsSoundApp (sym is) (linked_sound files (λ k d below. content_sound (get_or files k d) (are k d below)) (subst IsApp is sizes) early acyclic few)

few_locks : (app : AppParts) → locks_fault app ≡ None → length app.locks ≤ 64
few_locks app h =
    ⊎_elim (λ (yes : nat_lt 64 (length app.locks) ≡ true). absurd (let some : Some (Limit Locks) ≡ None = rw yes at h in let no : ⊥ = cc in no)) (λ (no : nat_lt 64 (length app.locks) ≡ false). not_more 64 (length app.locks) no) (cases_Bool (nat_lt 64 (length app.locks)))

pub app_sound : (files : List FileContent) (app : AppParts) → AreSmall files → All IsContent files → IsLinked files (Ok app) → IsSoundApp app
app_sound files app small are is =
    let late = none_both (units_fault files) (locks_fault (linked files) or sites_fault (linked files)) is.3 in
    let locks = none_both (locks_fault (linked files)) (sites_fault (linked files)) late.1 in
    contents_sound files app are (subst IsApp (sym is.0) (small_app files small (few_locks (linked files) locks.0))) is.0 is.1 is.2 late.0

pub rows_sound : (files : List FileContent) (rows : AppParts) → All IsContent files → IsApp rows → IsChecked files (Ok rows) → IsSoundApp rows
rows_sound files rows are sizes is = contents_sound files rows are sizes is.0 is.1 is.2 is.3
