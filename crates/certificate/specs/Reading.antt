-- How the text of a certificate is read, line by line.
use Rattle.std.specs.Prelude.{ℕ, ◌+◌, Bool, true, false, List, [], ◌∷◌, ◌++◌, length, Option, Some, None, Result, Ok, Err, nat_lt, ◌==◌, ◌&&◌, if◌then◌else◌, replicate}
use Rattle.cert_line.specs.Parts.{BodyParts}
use Rattle.cert_line.specs.Reading.{◌>>=◌, pieces, line_at}
use Rattle.cert_line.specs.declared.rows.ViewRow.{ViewRow}
use Rattle.cert_line.specs.declared.rows.Line.{Line}
use Rattle.cert_line.specs.declared.rows.Line.TheVariants.{Version, ListDigest, DexDigest, Lock, View, Body, End}
use Rattle.certificate.specs.Parts.{LockRows, CertParts}
use Rattle.certificate.specs.Texts.{view_rank, body_rank}
use Rattle.certificate.specs.declared.reading.Place.{Place}
use Rattle.certificate.specs.declared.reading.Place.TheVariants as places

-- the place behind a line that may stand at a place, where so many locks have begun
unfoldable pub follow : ℕ → Place → Line → Option Place
follow n places.Start Version = Some places.Version
follow n places.Version (ListDigest d) = Some places.List
follow n places.List (DexDigest d) = Some places.Dex
follow n places.Dex (DexDigest d) = Some places.Dex
follow n places.Dex (Lock name) = if name.number == n then Some (places.Lock 0) else None
follow n places.Dex End = Some places.End
follow n (places.Lock rank) (View v) = if nat_lt rank (view_rank v) then Some (places.Lock (view_rank v)) else None
follow n (places.Lock rank) (Body b) = if nat_lt rank (body_rank b) then Some (places.Lock (body_rank b)) else None
follow n (places.Lock rank) (Lock name) = if name.number == n then Some (places.Lock 0) else None
follow n (places.Lock rank) End = Some places.End
follow n _ _ = None

abbrev pub in_last : (LockRows → LockRows) → List LockRows → List LockRows
in_last f [] = []
in_last f (p ∷ []) = f p ∷ []
in_last f (p ∷ q ∷ ps) = p ∷ in_last f (q ∷ ps)

abbrev pub fresh : List ℕ → LockRows
fresh name = record { name = name; views = []; bodies = [] }

abbrev pub add_view : ViewRow → LockRows → LockRows
add_view v p = record p { views = p.views ++ v ∷ [] }

abbrev pub add_body : BodyParts → LockRows → LockRows
add_body b p = record p { bodies = p.bodies ++ b ∷ [] }

-- the certificate with one more line
unfoldable pub pushed : CertParts → Line → CertParts
pushed c Version = c
pushed c (ListDigest d) = record c { list = d }
pushed c (DexDigest d) = record c { dex = c.dex ++ d ∷ [] }
pushed c (Lock name) = record c { locks = c.locks ++ fresh name.shown ∷ [] }
pushed c (View v) = record c { locks = in_last (add_view v) c.locks }
pushed c (Body b) = record c { locks = in_last (add_body b) c.locks }
pushed c End = c

unfoldable pub step : CertParts → Place → List ℕ → Option (CertParts × Place)
step c at bytes = line_at bytes >>= λ l. follow (length c.locks) at l >>= λ next. Some (pushed c l, next)

abbrev pub is_end : Place → Bool
is_end places.End = true
is_end _ = false

abbrev pub or_wrong : ℕ → Option (CertParts × Place) → (CertParts × Place → Result CertParts ℕ) → Result CertParts ℕ
or_wrong n None go = Err n
or_wrong n (Some x) go = go x

-- Line n is the first of the pieces; the last piece has no line feed.
unfoldable pub read : CertParts → Place → ℕ → List (List ℕ) → Result CertParts ℕ
read c at n [] = Err n
read c at n (last ∷ []) = if is_end at && (length last == 0) then Ok c else Err n
read c at n (line ∷ next ∷ more) = or_wrong n (step c at line) (λ x. read x.0 x.1 (n + 1) (next ∷ more))

abbrev pub empty : CertParts
empty = record { list = replicate 20 0; dex = []; locks = [] }

-- the certificate that bytes spell, or the number of the first wrong line
unfoldable pub reading : List ℕ → Result CertParts ℕ
reading bytes = read empty places.Start 1 (pieces 10 bytes)

abbrev pub outcome : CertParts → Option ℕ → Result CertParts ℕ
outcome c None = Ok c
outcome c (Some n) = Err n
