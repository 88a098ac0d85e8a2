-- The forms of the command line, and the files that they name.
use Rattle.std.specs.Prelude.{ℕ, Bool, true, false, not, ◌&&◌, List, [], ◌∷◌, map, Option, Some, None, option_map, option_and_then, if◌then◌else◌, nat_eq, codes}
use Rattle.std.specs.List.{starts_with}
use Rattle.std.specs.Str.{bytes_eq}
use Rattle.ns_base.specs.declared.answers.Counted.{Counted}
use Rattle.ns_base.specs.declared.answers.Counted.TheVariants.{CertBytes, FileBytes, ListBytes}
use Rattle.nosleep.specs.declared.words.Options.{Options}

-- what a command line asks for, its names as they stand there
pub data Form : Type 0 where
  -- a DEX file, for a list of the one receiver of this class
  Receiver : (dex class : List ℕ) → Form
  -- a component list, and at least one DEX file
  Verify : (list : List ℕ) (files : List (List ℕ)) → Form
  -- a certificate, and the same
  Check : (cert list : List ℕ) (files : List (List ℕ)) → Form

abbrev pub verify_of : (list : List ℕ) → (files : List (List ℕ)) → Option Form
verify_of list [] = None
verify_of list (file ∷ files) = Some (Verify list (file ∷ files))

abbrev pub check_of : (cert : List ℕ) → List (List ℕ) → Option Form
check_of cert [] = None
check_of cert (list ∷ []) = None
check_of cert (list ∷ file ∷ files) = Some (Check cert list (file ∷ files))

abbrev pub receiver_of : (dex : List ℕ) → List (List ℕ) → Option Form
receiver_of dex [] = None
receiver_of dex (class ∷ []) = Some (Receiver dex class)
receiver_of dex (class ∷ word ∷ words) = None

-- the form that this word begins, with the names behind its options
abbrev pub named_form : (form : List ℕ) → List (List ℕ) → Option Form
named_form form [] = None
named_form form (first ∷ rest) =
    if bytes_eq form (codes "verify") then verify_of first rest
    else (if bytes_eq form (codes "check") then check_of first rest
    else (if bytes_eq form (codes "receiver") then receiver_of first rest else None))

-- ---- options
-- no option
abbrev pub no_options : Options
no_options = record { json = false; count = false }

-- words behind options
pub record Rest : Type 0 where
  pub options : Options
  pub names : List (List ℕ)

-- options end at the first word that does not begin with --; each comes at most once, and these came before
abbrev pub rest_of : (json count : Bool) → List (List ℕ) → Option Rest
rest_of json count [] = Some (record { options = record { json = json; count = count }; names = [] })
rest_of json count (word ∷ words) =
    if starts_with nat_eq word (codes "--")
    then (if bytes_eq word (codes "--json") && not json then rest_of true count words
    else (if bytes_eq word (codes "--count") && not count then rest_of json true words else None))
    else Some (record { options = record { json = json; count = count }; names = word ∷ words })

-- ---- the words, the program's own name not among them
pub record Request : Type 0 where
  pub options : Options
  pub form : Form

abbrev pub with_options : Options → Form → Request
with_options options form = record { options = options; form = form }

abbrev pub request_of : List (List ℕ) → Option Request
request_of [] = None
request_of (form ∷ words) = option_and_then (λ rest. option_map (with_options rest.options) (named_form form rest.names)) (rest_of false false words)

abbrev pub form_of : List (List ℕ) → Option Form
form_of words = option_map (λ request. request.form) (request_of words)

-- the kinds of the watchers that the options choose: 1 writes JSON lines, 2 counts
abbrev pub kinds_by : (json count : Bool) → List ℕ
kinds_by false false = []
kinds_by true false = 1 ∷ []
kinds_by false true = 2 ∷ []
kinds_by true true = 1 ∷ 2 ∷ []

abbrev pub kinds_in : Option Request → List ℕ
kinds_in None = []
kinds_in (Some request) = kinds_by request.options.json request.options.count

abbrev pub kinds_of : List (List ℕ) → List ℕ
kinds_of words = kinds_in (request_of words)

-- a file that is read: its name, and the limit of its bytes
pub record FileName : Type 0 where
  pub name : List ℕ
  pub limit : Counted

abbrev pub dex_file : List ℕ → FileName
dex_file name = record { name = name; limit = FileBytes }

abbrev pub list_file : List ℕ → FileName
list_file name = record { name = name; limit = ListBytes }

abbrev pub cert_file : List ℕ → FileName
cert_file name = record { name = name; limit = CertBytes }

abbrev pub dex_names : Form → List (List ℕ)
dex_names (Receiver dex class) = dex ∷ []
dex_names (Verify list files) = files
dex_names (Check cert list files) = files

-- the files of a form, in the order in which they are read
abbrev pub files_of : Form → List FileName
files_of (Receiver dex class) = dex_file dex ∷ []
files_of (Verify list files) = list_file list ∷ map dex_file files
files_of (Check cert list files) = cert_file cert ∷ list_file list ∷ map dex_file files
