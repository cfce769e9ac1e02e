-- AES-CTR-HMAC seals and opens by a cipher that undoes itself, and its tag has its size where it isn't
-- longer than a digest.
use Rattle.std.proofs.Common.{◌≡◌, ℕ, ◌≤◌, Some, List, length, take, arith}
use Rattle.std.proofs.lemmas.List.{length-take-le}
use Rattle.aes_core.specs.declared.counter.CtrKind.TheVariants.{All128}
use Rattle.aes_core.proofs.CounterMode.{ctr-ctr, length-ctr}
use Rattle.mac_prf.specs.Hmac.{hmac}
use Rattle.mac_prf.proofs.HmacLemmas.{length-hmac}
use Rattle.tink_base.specs.declared.hash.Hash.{Hash}
use Rattle.tink_base.specs.Hash.{hash_size}
use Rattle.aead_kinds.specs.CtrHmac.{authenticated, ctr_hmac_open, ctr_hmac_seal, ctr_hmac_tag, ctr_hmac_text, first_counter}
use Rattle.aead_kinds.proofs.EncryptThenTagLemmas.{IsScheme, opened-sealed_by, sealed_by_first-opens}

pub length-ctr_hmac_tag : (hash : Hash) (mac : List ℕ) (size : ℕ) (iv ad text : List ℕ)
    → size ≤ hash_size hash → length (ctr_hmac_tag hash mac size iv ad text) ≡ size
unfolding ctr_hmac_tag
length-ctr_hmac_tag hash mac size iv ad text h =
    let all : List ℕ = authenticated iv ad text in
    length-take-le size (hmac hash mac all) (omega (arith, h, length-hmac hash mac all))

pub ctr_hmac-is_scheme : (aes : List ℕ) (hash : Hash) (mac : List ℕ) (size : ℕ) → 1 ≤ size
    → size ≤ hash_size hash → IsScheme (ctr_hmac_text aes) (ctr_hmac_tag hash mac size) size
unfolding ctr_hmac_text
ctr_hmac-is_scheme aes hash mac size some within = record {
  some = some;
  back = λ iv text. ctr-ctr aes (first_counter iv) All128 text;
  size = λ iv ad text. length-ctr_hmac_tag hash mac size iv ad text within;
  long = λ iv text. length-ctr aes (first_counter iv) All128 text;
}

pub ctr_hmac-opened : (aes : List ℕ) (v : ℕ) (hash : Hash) (mac : List ℕ) (t : ℕ)
    (bytes plain ad : List ℕ) → 1 ≤ t → t ≤ hash_size hash
    → ctr_hmac_open aes v hash mac t bytes ad ≡ Some plain
    → bytes ≡ ctr_hmac_seal aes hash mac t (take v bytes) plain ad
unfolding ctr_hmac_open ctr_hmac_seal
ctr_hmac-opened aes v hash mac t bytes plain ad some within e =
    opened-sealed_by (ctr_hmac_text aes) (ctr_hmac_tag hash mac t) v t bytes plain ad
    (ctr_hmac-is_scheme aes hash mac t some within) e

pub ctr_hmac-opens : (aes : List ℕ) (v : ℕ) (hash : Hash) (mac : List ℕ) (t : ℕ)
    (bytes plain ad : List ℕ) → 1 ≤ t → t ≤ hash_size hash
    → bytes ≡ ctr_hmac_seal aes hash mac t (take v bytes) plain ad
    → ctr_hmac_open aes v hash mac t bytes ad ≡ Some plain
unfolding ctr_hmac_open ctr_hmac_seal
ctr_hmac-opens aes v hash mac t bytes plain ad some within e =
    sealed_by_first-opens (ctr_hmac_text aes) (ctr_hmac_tag hash mac t) v t bytes plain ad
    (ctr_hmac-is_scheme aes hash mac t some within) e
