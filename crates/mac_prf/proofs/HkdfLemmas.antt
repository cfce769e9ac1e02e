-- HKDF's blocks: their lengths and bytes, and what stands in the output after each.
use Rattle.std.proofs.Common.{◌≡◌, ◌+◌, ◌*◌, ◌-◌, ◌<◌, ◌≤◌, ◌∷◌, ◌++◌, ◌∙◌, ◌==◌, true, false, [], ℕ, zero, suc, List, ap, append_assoc, arith, drop, length, length-append, refl, replicate, sym, take}
use Rattle.std.proofs.Math.Seq.{drop-append_seam, take-append-add}
use Rattle.std.proofs.lemmas.List.{drop-drop, drop_all, length-take-le, take-append-le, take-replicate}
use Rattle.std.proofs.lemmas.Bool.{cond-true, cond-false}
use Rattle.std.proofs.lemmas.List.Elements.{All-append, All-nil, All-take}
use Rattle.std.specs.List.{All}
use Rattle.aes_core.specs.Bytes.{IsBytes}
use Rattle.tink_base.specs.declared.hash.Hash.{Hash}
use Rattle.tink_base.specs.declared.hash.Hash.TheVariants.{Sha1, Sha224, Sha256, Sha384, Sha512}
use Rattle.tink_base.specs.Hash.{hash_size}
use Rattle.mac_prf.specs.Hmac.{hmac}
use Rattle.mac_prf.specs.Hkdf.{block, block_count, blocks, expand, used_salt}
use Rattle.mac_prf.proofs.ByteLemmas.{IsByte, bytes-hmac}
use Rattle.mac_prf.proofs.HmacLemmas.{length-hmac, size_bounds}

pub length-block : (hash : Hash) (prk info : List ℕ) (i : ℕ) →
    length (block hash prk info (suc i)) ≡ hash_size hash
unfolding block
length-block hash prk info i = length-hmac hash prk _

pub length-blocks : (hash : Hash) (prk info : List ℕ) (n : ℕ) →
    length (blocks hash prk info n) ≡ n * hash_size hash
unfolding blocks
length-blocks hash prk info zero = omega arith
length-blocks hash prk info (suc n) =
    let front = length-blocks hash prk info n in
    let last = length-block hash prk info n in
    let both = length-append (blocks hash prk info n) (block hash prk info (suc n)) in
    omega (arith, front, last, both)

-- the last digest's bytes of the first i blocks are T i
pub last_block : (hash : Hash) (prk info : List ℕ) (i : ℕ) →
    drop (length (blocks hash prk info i) - hash_size hash) (blocks hash prk info i)
    ≡ block hash prk info i
unfolding block blocks
last_block hash prk info zero = drop_all _ [] (omega arith)
last_block hash prk info (suc i) =
    let front = blocks hash prk info i in
    let last = block hash prk info (suc i) in
    let both = length-append front last in
    let at : length (front ++ last) - hash_size hash ≡ length front
    = omega (arith, both, length-block hash prk info i) in
    ap (λ n. drop n (front ++ last)) at ∙ drop-append_seam front last

-- a front that lies in the first a blocks stays as it is when more blocks follow
take-blocks_more : (hash : Hash) (prk info : List ℕ) (n a k : ℕ) →
    n ≤ length (blocks hash prk info a) →
    take n (blocks hash prk info (a + k)) ≡ take n (blocks hash prk info a)
unfolding blocks
take-blocks_more hash prk info n a zero fits =
    let same : a + 0 ≡ a = omega arith in
    ap (λ i. take n (blocks hash prk info i)) same
take-blocks_more hash prk info n a (suc k) fits =
    let next : a + suc k ≡ suc (a + k) = omega arith in
    let within : n ≤ length (blocks hash prk info (a + k))
    = omega (
      arith,
      fits,
      length-blocks hash prk info a,
      length-blocks hash prk info (a + k),
    ) in
    ap (λ i. take n (blocks hash prk info i)) next
    ∙ take-append-le n (blocks hash prk info (a + k)) _ within
    ∙ take-blocks_more hash prk info n a k fits

-- as many blocks as the standard takes, or any more
pub take-blocks : (hash : Hash) (prk info : List ℕ) (n a b : ℕ) →
    n ≤ length (blocks hash prk info a) → n ≤ length (blocks hash prk info b) →
    take n (blocks hash prk info a) ≡ take n (blocks hash prk info b)
take-blocks hash prk info n a b fits_a fits_b =
    let to_a : a + ((a + b) - a) ≡ a + b = omega arith in
    let to_b : b + ((a + b) - b) ≡ a + b = omega arith in
    sym (take-blocks_more hash prk info n a ((a + b) - a) fits_a)
    ∙ ap (λ i. take n (blocks hash prk info i)) (to_a ∙ sym to_b)
    ∙ take-blocks_more hash prk info n b ((a + b) - b) fits_b

count_covers : (hash : Hash) (n : ℕ) → n ≤ block_count hash n * hash_size hash
count_covers Sha1 n = omega arith
count_covers Sha224 n = omega arith
count_covers Sha256 n = omega arith
count_covers Sha384 n = omega arith
count_covers Sha512 n = omega arith

count_fits : (hash : Hash) (prk info : List ℕ) (n : ℕ) →
    n ≤ length (blocks hash prk info (block_count hash n))
count_fits hash prk info n =
    rw (length-blocks hash prk info (block_count hash n)) (count_covers hash n)

-- the first bytes of any blocks that are enough are those of `expand`
pub take-blocks-expand : (hash : Hash) (prk info : List ℕ) (n a : ℕ) →
    n ≤ length (blocks hash prk info a) → take n (blocks hash prk info a) ≡ expand hash prk info n
unfolding expand
take-blocks-expand hash prk info n a fits =
    take-blocks hash prk info n a (block_count hash n) fits (count_fits hash prk info n)

pub length-expand : (hash : Hash) (prk info : List ℕ) (n : ℕ) →
    length (expand hash prk info n) ≡ n
unfolding expand
length-expand hash prk info n = length-take-le n _ (count_fits hash prk info n)

bytes-blocks : (hash : Hash) (prk info : List ℕ) (n : ℕ) → All IsByte (blocks hash prk info n)
unfolding block blocks
bytes-blocks hash prk info zero = All-nil IsByte
bytes-blocks hash prk info (suc n) =
    All-append IsByte _ _ (bytes-blocks hash prk info n) (bytes-hmac hash prk _)

pub bytes-expand : (hash : Hash) (prk info : List ℕ) (n : ℕ) → IsBytes (expand hash prk info n)
unfolding expand
bytes-expand hash prk info n = All-take IsByte n _ (bytes-blocks hash prk info _)

-- where the blocks so far have fewer bytes than 255 digests, they are fewer than 255
pub count_below : (hash : Hash) (i : ℕ) → i * hash_size hash < 255 * hash_size hash → i < 255
count_below Sha1 i below = omega arith
count_below Sha224 i below = omega arith
count_below Sha256 i below = omega arith
count_below Sha384 i below = omega arith
count_below Sha512 i below = omega arith

blocks-next : (hash : Hash) (prk info : List ℕ) (i : ℕ) →
    blocks hash prk info (i + 1) ≡ blocks hash prk info i ++ block hash prk info (i + 1)
unfolding blocks
blocks-next hash prk info i =
    let next : i + 1 ≡ suc i = omega arith in
    rw next refl

pub block-next : (hash : Hash) (prk info : List ℕ) (i : ℕ) →
    hmac hash prk (block hash prk info i ++ info ++ (i + 1) ∷ []) ≡ block hash prk info (i + 1)
unfolding block
block-next hash prk info i =
    let next : i + 1 ≡ suc i = omega arith in
    rw next refl

-- after the first i blocks, the front of the next one
pub next_part : (hash : Hash) (prk info old : List ℕ) (i part : ℕ) →
    blocks hash prk info i
    ++ (take part (block hash prk info (i + 1))
    ++ drop part (drop (length (blocks hash prk info i)) old))
    ≡ take (length (blocks hash prk info i) + part) (blocks hash prk info (i + 1))
    ++ drop (length (blocks hash prk info i) + part) old
next_part hash prk info old i part =
    let front = blocks hash prk info i in
    let next = block hash prk info (i + 1) in
    sym (append_assoc front (take part next) (drop part (drop (length front) old)))
    ∙ ap (λ (u : List ℕ). u ++ drop part (drop (length front) old))
    (sym (take-append-add front next part))
    ∙ ap (λ (u : List ℕ). take (length front + part) (front ++ next) ++ u)
    (drop-drop part (length front) old)
    ∙ ap (λ (u : List ℕ). take (length front + part) u ++ drop (length front + part) old)
    (sym (blocks-next hash prk info i))

pub used_salt-empty : (hash : Hash) (salt : List ℕ) (n : ℕ) → n ≡ hash_size hash →
    true ≡ (length salt == 0) → take n (replicate {A = ℕ} 64 0) ≡ used_salt hash salt
used_salt-empty hash salt n size none =
    let zeros = take-replicate {X = ℕ} n 64 0 (omega (arith, size, (size_bounds hash).1)) in
    zeros ∙ ap (λ i. replicate {A = ℕ} i 0) size ∙ sym (cond-true _ _ _ (sym none))

pub used_salt-given : (hash : Hash) (salt : List ℕ) →
    false ≡ (length salt == 0) → salt ≡ used_salt hash salt
used_salt-given hash salt some = sym (cond-false _ _ _ (sym some))
