-- Files whose contents are read, one by one.
use Rattle.std.proofs.Common.{◌≡◌, ℕ, ◌<◌, ◌+◌, List, [], ◌∷◌, ◌++◌, length, Option, Some, None, Result, Ok, ⊎_elim, refl, sym, ap, subst, ◌∙◌, arith, length-append, slice_get, get_or}
use Rattle.std.proofs.lemmas.Option.{slice_get-get_or, slice_get_past, slice_get_within}
use Rattle.std.proofs.lemmas.Bool.{cases_lt}
use Rattle.dex_file.specs.Content.{FileContent, class_text}
use Rattle.dex_file.specs.Reading.{content_of}
use Rattle.dex_file.specs.declared.fault.FileFault.{FileFault}
use Rattle.nosleep.specs.Files.{AreContents, AreReadTo, Reads, class_in}
use Rattle.nosleep.proofs.Places.{pushed, same_places}

same_some : {X : Type 0} (x y : X) → Some x ≡ Some y → x ≡ y
same_some x y e = cc

same_ok : {X E : Type 0} (x y : X) → ◌≡◌ {A = Result X E} (Ok x) (Ok y) → x ≡ y
same_ok x y e = cc

-- no file is read yet
pub none_read : (files : List (List ℕ)) → AreReadTo files 0 []
none_read files = (refl, λ i content there. cc)

-- one more is
pub one_more_read : (files : List (List ℕ)) (n : ℕ) (contents : List FileContent) (content : FileContent) → AreReadTo files n contents → Reads files n (Ok content)
    → AreReadTo files (n + 1) (contents ++ content ∷ [])
one_more_read files n contents content are is = (
  omega (arith, length-append contents (content ∷ []), are.0),
  λ i other has. ⊎_elim (λ old. are.1 i other old)
      (λ new. subst (λ k. Reads files k (Ok other)) (sym (new.0 ∙ are.0)) (subst (λ c. Reads files n (Ok c)) (sym new.1) is)) (pushed contents content i other has),
)

-- a file comes to one thing
pub read_once : (files : List (List ℕ)) (i : ℕ) (r s : Result FileContent FileFault) → Reads files i r → Reads files i s → r ≡ s
read_once files i r s p q = sym p.read ∙ ap content_of (same_some p.bytes q.bytes (sym p.there ∙ q.there)) ∙ q.read

pub contents_once : (files : List (List ℕ)) (a b : List FileContent) → AreContents files a → AreContents files b → a ≡ b
contents_once files a b p q = same_places a b (p.0 ∙ sym q.0) (λ i x y ex ey. same_ok x y (read_once files i (Ok x) (Ok y) (p.1 i x ex) (q.1 i y ey)))

-- each file has a content
pub has_content : (files : List (List ℕ)) (contents : List FileContent) (i : ℕ) (bytes : List ℕ) → AreContents files contents → slice_get files i ≡ Some bytes
    → (content : FileContent) × (content_of bytes ≡ Ok content)
has_content [] contents i bytes are there = cc
has_content (file ∷ files) contents i bytes are there =
    let lt = slice_get_within (file ∷ files) i bytes there in
    has_nonempty (file ∷ files) contents i bytes are there (omega (arith, lt, are.0))
  where
    has_nonempty : (files : List (List ℕ)) (contents : List FileContent) (i : ℕ) (bytes : List ℕ) → AreContents files contents → slice_get files i ≡ Some bytes → i < length contents
        → (content : FileContent) × (content_of bytes ≡ Ok content)
    has_nonempty files [] i bytes are there lt = absurd (omega (arith, lt))
    has_nonempty files (c ∷ cs) i bytes are there lt =
        let r = are.1 i (get_or (c ∷ cs) i c) (slice_get-get_or (c ∷ cs) i c lt) in
        (_, ap content_of (same_some bytes r.bytes (sym there ∙ r.there)) ∙ r.read)

-- the class that is named in a file that is there, and in one that is not
pub class_there : (files : List (List ℕ)) (contents : List FileContent) (i : ℕ) (bytes : List ℕ) (row : ℕ) (name : List ℕ) → AreContents files contents → slice_get files i ≡ Some bytes
    → ((content : FileContent) → content_of bytes ≡ Ok content → name ≡ class_text content row) → name ≡ class_in (slice_get contents i) row
class_there files contents i bytes row name are there is =
    let has = has_content files contents i bytes are there in
    let lt = slice_get_within files i bytes there in
    let at = slice_get-get_or contents i has.0 (omega (arith, lt, are.0)) in
    let r = are.1 i (get_or contents i has.0) at in
    let read = ap content_of (same_some bytes r.bytes (sym there ∙ r.there)) ∙ r.read in
    is (get_or contents i has.0) read ∙ sym (ap (λ (o : Option FileContent). class_in o row) at)

pub class_absent : (files : List (List ℕ)) (contents : List FileContent) (i row : ℕ) → AreContents files contents → slice_get files i ≡ None → [] ≡ class_in (slice_get contents i) row
class_absent files contents i row are none =
    ⊎_elim (λ lt. let at = slice_get-get_or files i [] lt in absurd (let no : ⊥ = cc in no))
    (λ ge. sym (ap (λ (o : Option FileContent). class_in o row) (slice_get_past contents i (omega (arith, ge, are.0))))) (cases_lt i (length files))
