-- Digests and tags consist of bytes.
use Rattle.std.proofs.Common.{◌<◌, ℕ, zero, suc, List, arith}
use Rattle.std.proofs.lemmas.List.Elements.{All-append, All-from_recursion, All-nil, All-take}
use Rattle.std.specs.Int.{to_be_bytes, w32, w64}
use Rattle.std.specs.List.{All}
use Rattle.tink_base.specs.declared.hash.Hash.{Hash}
use Rattle.tink_base.specs.declared.hash.Hash.TheVariants.{Sha1, Sha224, Sha256, Sha384, Sha512}
use Rattle.sha1.specs.Sha1 as s1
use Rattle.sha2.specs.Sha256 as s256
use Rattle.sha2.specs.Sha512 as s512
use Rattle.mac_prf.specs.Hmac.{digest, hmac}

abbrev pub IsByte : ℕ → Type 0
IsByte byte = byte < 256

bytes-word32 : (n : ℕ) → All IsByte (to_be_bytes w32 n)
bytes-word32 n = All-from_recursion IsByte (to_be_bytes w32 n)
    (omega arith, (omega arith, (omega arith, (omega arith, tt))))

bytes-word64 : (n : ℕ) → All IsByte (to_be_bytes w64 n)
bytes-word64 n = All-from_recursion IsByte (to_be_bytes w64 n) (
  omega arith,
  (
    omega arith,
    (
      omega arith,
      (
        omega arith,
        (omega arith, (omega arith, (omega arith, (omega arith, tt)))),
      ),
    ),
  ),
)

bytes-words1 : (h : List ℕ) (n : ℕ) → All IsByte (s1.digest_bytes h n)
unfolding s1.digest_bytes
bytes-words1 h zero = All-nil IsByte
bytes-words1 h (suc n) = All-append IsByte _ _ (bytes-words1 h n) (bytes-word32 _)

bytes-words256 : (h : List ℕ) (n : ℕ) → All IsByte (s256.digest_bytes h n)
unfolding s256.digest_bytes
bytes-words256 h zero = All-nil IsByte
bytes-words256 h (suc n) = All-append IsByte _ _ (bytes-words256 h n) (bytes-word32 _)

bytes-words512 : (h : List ℕ) (n : ℕ) → All IsByte (s512.digest_bytes h n)
unfolding s512.digest_bytes
bytes-words512 h zero = All-nil IsByte
bytes-words512 h (suc n) = All-append IsByte _ _ (bytes-words512 h n) (bytes-word64 _)

pub bytes-digest : (hash : Hash) (m : List ℕ) → All IsByte (digest hash m)
unfolding s1.sha1 s256.sha224 s256.sha256 s512.sha384 s512.sha512
bytes-digest Sha1 m = bytes-words1 _ 5
bytes-digest Sha224 m = All-take IsByte 28 _ (bytes-words256 _ 8)
bytes-digest Sha256 m = bytes-words256 _ 8
bytes-digest Sha384 m = All-take IsByte 48 _ (bytes-words512 _ 8)
bytes-digest Sha512 m = bytes-words512 _ 8

pub bytes-hmac : (hash : Hash) (key m : List ℕ) → All IsByte (hmac hash key m)
unfolding hmac
bytes-hmac hash key m = bytes-digest hash _
