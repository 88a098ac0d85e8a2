-- Files whose bytes were taken, one by one, and those whose bytes are told.
use Rattle.std.proofs.Common.{◌≡◌, ℕ, suc, ◌+◌, List, [], ◌∷◌, ◌++◌, length, map, Vec, vec_len, Global, Option, Some, ⊎_elim, sym, ap, subst, refl, ◌∙◌, arith, length-append, slice_get, get_or}
use Rattle.std.proofs.lemmas.Option.{slice_get-get_or, slice_get_within}
use Rattle.ns_base.specs.Outside.{Rose}
use Rattle.ns_base.specs.declared.answers.Event.{Event}
use Rattle.ns_base.specs.declared.answers.Event.TheVariants.{Read}
use Rattle.nosleep.specs.Answer.{AreTakenTo, AreTold, IsTaken}
use Rattle.nosleep.specs.Events.{reads_from}
use Rattle.nosleep.specs.Reading.{HasEnding, KeepsShelf}
use Rattle.nosleep.specs.Taking.{IsTooLong, StopsAt}
use Rattle.nosleep.specs.declared.reading.Ending.TheVariants.{Whole, TooLong}
use Rattle.nosleep.specs.Words.{FileName, Form, files_of}
use Rattle.nosleep.proofs.Places.{pushed, same_places}

same_some : {X : Type 0} (x y : X) → Some x ≡ Some y → x ≡ y
same_some x y e = cc

-- none is taken yet
pub none_taken : (content : List ℕ → Option (List ℕ)) (files : List FileName) → AreTakenTo content files 0 []
none_taken content files = record { len = refl; each = λ i file bytes there none. cc }

-- one more is
pub one_more_taken : (content : List ℕ → Option (List ℕ)) (files : List FileName) (n : ℕ) (all : List (List ℕ)) (file : FileName) (bytes : List ℕ)
    → AreTakenTo content files n all → slice_get files n ≡ Some file → IsTaken content file bytes → AreTakenTo content files (n + 1) (all ++ bytes ∷ [])
one_more_taken content files n all file bytes are there is = record {
  len = omega (arith, length-append all (bytes ∷ []), are.len);
  each = λ i other bs at has. ⊎_elim (λ old. are.each i other bs at old)
      (λ new. let same : other ≡ file = same_some other file (sym at ∙ ap (λ k. slice_get files k) (new.0 ∙ are.len) ∙ there) in
      subst (λ f. IsTaken content f bs) (sym same) (subst (λ b. IsTaken content file b) (sym new.1) is)) (pushed all bytes i bs has);
}

-- told bytes are the ones that were taken
pub told_taken : (content : List ℕ → Option (List ℕ)) (form : Form) (all told : List (List ℕ)) → AreTakenTo content (files_of form) (length (files_of form)) all → AreTold content form told → all ≡ told
told_taken content form all told are tells = same_places all told (are.len ∙ sym tells.len)
    (λ i x y ex ey. by_file i x y ex ey (files_of form) refl)
  where
    by_file : (i : ℕ) (x y : List ℕ) → slice_get all i ≡ Some x → slice_get told i ≡ Some y → (files : List FileName) → files ≡ files_of form → x ≡ y
    by_file i x y ex ey [] same = absurd (omega (arith, slice_get_within all i x ex, are.len, ap length same))
    by_file i x y ex ey (file ∷ files) same =
        let at = slice_get-get_or (files_of form) i file (omega (arith, slice_get_within all i x ex, are.len)) in
        (are.each i (get_or (files_of form) i file) x at ex).told y ((tells.each i (get_or (files_of form) i file) y at ey).0)

-- one reading after another
pub keeps_next : {F : Type 0} (content : F → List ℕ → Option (List ℕ)) (faults : F → ℕ) (old between new : F) → KeepsShelf content faults old between → KeepsShelf content faults between new
    → KeepsShelf content faults old new
keeps_next content faults old between new first next = record { same = λ n. next.same n ∙ first.same n; later = omega (arith, first.later, next.later) }

-- nothing is read yet
pub none_read : (events : Vec Event Global) (all : List (Vec ℕ Global)) → vec_len events ≡ 0 → all ≡ [] → events.items ≡ reads_from 0 (map (λ bytes. bytes.items) all)
none_read events all empty none = by events.items (omega (arith, events.ok, empty)) ∙ ap (λ (xs : List (Vec ℕ Global)). reads_from 0 (map (λ bytes. bytes.items) xs)) (sym none) where
  by : (xs : List Event) → length xs ≡ 0 → xs ≡ []
  by [] e = refl
  by (x ∷ xs) e = absurd (omega (arith, e))

-- one more event of reading
reads_more : (n : ℕ) (files : List (List ℕ)) (bytes : List ℕ) → reads_from n (files ++ bytes ∷ []) ≡ reads_from n files ++ Read (n + length files) (length bytes) ∷ []
reads_more n [] bytes = ap (λ (k : ℕ). Read k (length bytes) ∷ []) (let e : n ≡ n + 0 = omega arith in e)
reads_more n (file ∷ files) bytes =
    let next : suc n + length files ≡ n + suc (length files) = omega arith in
    ap (λ (es : List Event). Read n (length file) ∷ es) (reads_more (suc n) files bytes ∙ ap (λ (k : ℕ). reads_from (suc n) files ++ Read k (length bytes) ∷ []) next)

pub next_read : (events : List Event) (files : List (List ℕ)) (bytes : List ℕ) (k m : ℕ) → events ≡ reads_from 0 files → k ≡ length files → m ≡ length bytes → events ++ Read k m ∷ [] ≡ reads_from 0 (files ++ bytes ∷ [])
next_read events files bytes k m told same len =
    ap (λ (es : List Event). es ++ Read k m ∷ []) told ∙ ap (λ (j : ℕ). reads_from 0 files ++ Read j m ∷ []) same ∙ ap (λ (j : ℕ). reads_from 0 files ++ Read (length files) j ∷ []) len
    ∙ ap (λ (j : ℕ). reads_from 0 files ++ Read j (length bytes) ∷ []) (let e : length files ≡ 0 + length files = omega arith in e)
    ∙ sym (reads_more 0 files bytes)

-- a file whose reading stops
module _ {F : Type 0} (content : F → List ℕ → Option (List ℕ)) (faults : F → ℕ) (old between new : F) (files : List FileName) (i : ℕ) (all : List (List ℕ)) (file : FileName)
    (keeps : KeepsShelf content faults old between) (taken : AreTakenTo (content old) files i all) (there : slice_get files i ≡ Some file) where
  pub stops_long : (events : List Event) → events ≡ reads_from 0 all → HasEnding file.limit (content between file.name) [] (faults between) (faults new) TooLong
      → StopsAt (content old) files i events (IsTooLong (content old))
  stops_long events told long = record { file = file; there = there; all = all; taken = taken; told = told; why = λ bs is. long bs (keeps.same file.name ∙ is) }

  pub stops_failed : (events : List Event) → events ≡ reads_from 0 all → Rose (faults between) (faults new) → StopsAt (content old) files i events (λ f. Rose (faults old) (faults new))
  stops_failed events told rose = record { file = file; there = there; all = all; taken = taken; told = told; why = omega (arith, keeps.later, rose) }

  pub takes_on : (bytes : List ℕ) → HasEnding file.limit (content between file.name) bytes (faults between) (faults new) Whole → AreTakenTo (content old) files (i + 1) (all ++ bytes ∷ [])
  takes_on bytes whole = one_more_taken (content old) files i all file bytes taken there (record { told = λ bs told. whole.0 bs (keeps.same file.name ∙ told); limit = whole.1 })
