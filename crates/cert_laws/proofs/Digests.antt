-- SHA-1 digests have 20 bytes.
use Rattle.std.proofs.Common.{◌≡◌, ◌<◌, ◌*◌, ◌/◌, ◌^◌, ℕ, zero, suc, List, [], ◌∷◌, ◌++◌, length, refl, arith, length-append, lit<}
use Rattle.std.proofs.Math.Nat.{mod-lt}
use Rattle.std.specs.Prelude.{slice_index}
use Rattle.std.specs.Int.{w32, to_be_bytes, bytes_high_first, byte_at}
use Rattle.sha1.specs.Sha1.{digest_bytes, sha1}
use Rattle.cert_line.specs.Lines.{AreBytes, IsDigest}

both : (xs ys : List ℕ) → AreBytes xs → AreBytes ys → AreBytes (xs ++ ys)
both [] ys one other = other
both (x ∷ xs) ys one other = (one.0, both xs ys one.1 other)

byte_low : (k n : ℕ) → byte_at k n < 256
byte_low zero n = mod-lt n (lit< tt)
byte_low (suc k) n = mod-lt (n / 256 ^ suc k) (lit< tt)

word_bytes : (k n : ℕ) → AreBytes (bytes_high_first k n)
word_bytes zero n = tt
word_bytes (suc k) n = (byte_low k n, word_bytes k n)

word_len : (k n : ℕ) → length (bytes_high_first k n) ≡ k
word_len zero n = refl
word_len (suc k) n = (let rest = word_len k n in omega arith)

digest_len : (h : List ℕ) (n : ℕ) → length (digest_bytes h n) ≡ 4 * n
unfolding digest_bytes
digest_len h zero = refl
digest_len h (suc n) =
    let more = length-append (digest_bytes h n) (to_be_bytes w32 (slice_index h n)) in
    let word = word_len 4 (slice_index h n) in
    let rest = digest_len h n in
    omega arith

digest_all : (h : List ℕ) (n : ℕ) → AreBytes (digest_bytes h n)
unfolding digest_bytes
digest_all h zero = tt
digest_all h (suc n) = both (digest_bytes h n) (to_be_bytes w32 (slice_index h n)) (digest_all h n) (word_bytes 4 (slice_index h n))

pub is_digest : (m : List ℕ) → IsDigest (sha1 m)
unfolding sha1
is_digest m = (digest_len _ 5, digest_all _ 5)
