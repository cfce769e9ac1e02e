-- The ciphertext between IV and tag is decrypted where it stands, if the tag is that of the plaintext.
use Rattle.std.proofs.Common.{◌≡◌, ◌-◌, ◌≤◌, ◌∙◌, None, Some, List, Option, ℕ, ap, arith, length, refl, slice_range, sym, true≢false}
use Rattle.std.proofs.lemmas.Bool.{OnFalse_at, OnTrue_at}
use Rattle.std.proofs.lemmas.Slice.{between-put_mid, drop-put_mid, take-put_mid_below}
use Rattle.std.specs.declared.ops.Range.{Range}
use borrow.Rule.Slice.PartMut.{mid_len, mid_of, put_mid, put_same, same_len_mid}
use Rattle.tink_spec.specs.InPlace.{OpensTo}
use Rattle.aead_kinds.specs.GcmSiv.{gcm_siv_open, gcm_siv_text}
use Rattle.aead_kinds.proofs.GcmSivLemmas.{AreParts, closed-short, parts-closed, parts-open, tag_behind}
use Rattle.aead_kinds.proofs.gcm_siv.gcm_siv_open.Goals as goal
use Rattle.aead_kinds.proofs.gcm_siv.gcm_siv_open.Goals.{After-open_in_place}

short : (key bytes ad : List ℕ) (found : Option (Range ℕ)) → found ≡ None
    → gcm_siv_open key bytes ad ≡ None → OpensTo (gcm_siv_open key bytes ad) bytes bytes found
short key bytes ad found none closed = rw none (closed, refl)

pub returns-in_err-iv : goal.returns-in_err-iv
returns-in_err-iv c =
    short c.args.key.now c.args.bytes.now c.args.ad.now _ c.from_residual.ensures
    (closed-short c.args.key.now c.args.bytes.now c.args.ad.now
    (omega (arith, c.in_err-iv.ensures.cases)))

pub returns-in_err-tag : goal.returns-in_err-tag
returns-in_err-tag c =
    short c.args.key.now c.args.bytes.now c.args.ad.now _ c.from_residual-in_err-tag.ensures
    (closed-short c.args.key.now c.args.bytes.now c.args.ad.now
    (omega (arith, c.in_ok-iv.ensures.cases.2, c.in_err-tag.ensures.cases)))

-- what was cut off, and the text between
parts : (c : After-open_in_place) → AreParts c.args.bytes.now c.in_ok-iv.iv.now
    (mid_of 12 (length c.args.bytes.now - 16 - 12) c.args.bytes.now) c.in_ok-tag.tag.now
parts c =
    let bytes = c.args.bytes.now in
    let first = c.in_ok-iv.ensures.cases in
    let last = c.in_ok-tag.ensures.cases in
    let long : 28 ≤ length bytes = omega (arith, first.2, last.2) in
    let size : length bytes - 16 - 12 ≡ length bytes - 28 = omega arith in
    record {
      front = first.0;
      middle = ap (λ n. mid_of 12 n bytes) size;
      back = last.1 ∙ tag_behind bytes c.in_ok-iv.rest.now first.1 long;
      long = long;
    }

pub returns-then-open_in_place : goal.returns-then-open_in_place
returns-then-open_in_place c =
    let key = c.args.key.now in
    let bytes = c.args.bytes.now in
    let ad = c.args.ad.now in
    let iv = c.in_ok-iv.iv.now in
    let tag = c.in_ok-tag.tag.now in
    let end = length bytes - 16 in
    let text : List ℕ = mid_of 12 (end - 12) bytes in
    let body : List ℕ = c.open_in_place.new.body in
    let cut = parts (goal.at.returns-then-open_in_place c).After-open_in_place in
    let long = cut.long in
    let kept : length body ≡ length text = c.open_in_place.auto.body in
    let size : length body ≡ end - 12 = kept ∙ mid_len 12 end bytes (omega arith) in
    let plain : body ≡ gcm_siv_text key iv tag text
    = OnTrue_at c.if-open_in_place.true c.open_in_place.ensures.opened in
    let part : slice_range (put_mid 12 (end - 12) bytes body) 12 end ≡ body
    = between-put_mid 12 (end - 12) bytes body end (omega arith) size in (
      omega arith,
      omega (arith, same_len_mid 12 (end - 12) bytes body kept),
      parts-open key bytes ad iv text tag cut
          (c.open_in_place.ensures.authentic.0 c.if-open_in_place.true)
          ∙ ap (λ (l : List ℕ). Some l) (sym (part ∙ plain)),
      take-put_mid_below 12 (end - 12) bytes body 12 (omega arith) (omega arith),
      drop-put_mid 12 (end - 12) bytes body end (omega arith) (omega arith) size,
    )

pub returns-else-open_in_place : goal.returns-else-open_in_place
returns-else-open_in_place c =
    let bytes = c.args.bytes.now in
    let size = length bytes - 16 - 12 in
    let text : List ℕ = mid_of 12 size bytes in
    let cut = parts (goal.at.returns-else-open_in_place c).After-open_in_place in (
      parts-closed c.args.key.now bytes c.args.ad.now c.in_ok-iv.iv.now text c.in_ok-tag.tag.now cut (λ same.
          true≢false (sym (c.open_in_place.ensures.authentic.1 same) ∙ c.if-open_in_place.false)),
      ap (λ (l : List ℕ). put_mid 12 size bytes l)
          (OnFalse_at c.if-open_in_place.false c.open_in_place.ensures.kept)
          ∙ put_same 12 size bytes,
    )
