-- What a shelf in memory holds, and how a call leaves it.
use Rattle.std.specs.Prelude.{◌≡◌, ◌⊎◌, ℕ, Bool, List, [], Option, None, Contains, unwrap_or, if◌then◌else◌}
use Rattle.ns_memory.specs.declared.shelves.MemoryShelf.{MemoryShelf}
use Rattle.ns_memory.specs.declared.shelves.CleanShelf.{CleanShelf}
use Rattle.ns_memory.specs.Counts.{next_count}
use Rattle.ns_memory.specs.Files.{file_in}

-- the bytes of a name, None where it is absent
abbrev pub file_of : MemoryShelf → List ℕ → Option (List ℕ)
file_of s name = file_in s.files name

-- the bytes of a name, none where it is absent
abbrev pub bytes_of : MemoryShelf → List ℕ → List ℕ
bytes_of s name = unwrap_or (file_of s name) []

-- the most bytes that a read gives
abbrev pub piece_of : MemoryShelf → ℕ
piece_of s = s.piece

-- the numbers of the calls that fail
abbrev pub fails_of : MemoryShelf → List ℕ
fails_of s = s.fail.items

-- how many calls were made: the number of the next one
abbrev pub calls_of : MemoryShelf → ℕ
calls_of s = s.calls

-- how many calls failed
abbrev pub faults_of : MemoryShelf → ℕ
faults_of s = s.faults

-- a read of this name fails: its call is named, or the name is absent
abbrev pub IsFaulty : MemoryShelf → List ℕ → Type 0
IsFaulty s name = Contains (fails_of s) (calls_of s) ⊎ (file_of s name ≡ None)

-- a shelf with no file, on which no call was made
pub record IsEmptyShelf (s : MemoryShelf) (most : ℕ) (named : List ℕ) : Type 0 where
  pub files : (name : List ℕ) → file_of s name ≡ None
  pub piece : piece_of s ≡ most
  pub fails : fails_of s ≡ named
  pub calls : calls_of s ≡ 0
  pub faults : faults_of s ≡ 0

-- all but the files is as before
pub record ChangesOnlyFiles (old new : MemoryShelf) : Type 0 where
  pub piece : piece_of new ≡ piece_of old
  pub fails : fails_of new ≡ fails_of old
  pub calls : calls_of new ≡ calls_of old
  pub faults : faults_of new ≡ faults_of old

-- one more call was made, which failed or did not; all but the two counts is as before
pub record HasCalled (old new : MemoryShelf) (failed : Bool) : Type 0 where
  pub files : (name : List ℕ) → file_of new name ≡ file_of old name
  pub piece : piece_of new ≡ piece_of old
  pub fails : fails_of new ≡ fails_of old
  pub calls : calls_of new ≡ next_count (calls_of old)
  pub faults : faults_of new ≡ (if failed then next_count (faults_of old) else faults_of old)

-- the bytes of a name, none where it is absent
abbrev pub clean_bytes_of : CleanShelf → List ℕ → List ℕ
clean_bytes_of s name = unwrap_or (file_in s.files name) []
