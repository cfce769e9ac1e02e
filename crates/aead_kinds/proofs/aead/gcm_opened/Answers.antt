-- The text between IV and tag is decrypted where it stands.
use Rattle.std.proofs.Common.{◌≡◌, ◌-◌, ℕ, List, Some, length, take, drop, refl, sym, ap, ◌∙◌, arith, subst}
use Rattle.std.proofs.lemmas.Bool.{false≢true}
use Rattle.std.proofs.lemmas.List.{length-drop, length-take-le}
use Rattle.std.proofs.lemmas.Slice.{between-put_mid, drop-put_mid, take-put_mid_below}
use borrow.Rule.Slice.PartMut.{put_mid, put_same, same_len_mid}
use Rattle.tink_spec.specs.InPlace.{OpensTo}
use Rattle.aead_kinds.specs.Gcm.{gcm_open}
use Rattle.aead_kinds.proofs.AeadLemmas.{AreParts, parts-closed, parts-open}
use Rattle.aead_kinds.proofs.GcmLemmas.{closed-short}
use Rattle.aead_kinds.proofs.aead.gcm_opened.Goals as goal
use Rattle.aead_kinds.proofs.aead.gcm_opened.Goals.{After-open_in_place}

-- the bytes are cut into IV, text and tag
parts_are : (c : After-open_in_place)
    → AreParts c.args.bytes.now c.in_ok-iv.iv.now c.in_ok-iv.rest.now
    (take (length c.args.bytes.now - 16 - 12) (drop 12 c.args.bytes.now)) c.in_ok-tag.tag.now
parts_are c =
    let first = c.in_ok-iv.ensures.cases in
    let last = c.in_ok-tag.ensures.cases in
    record {
      front = first.0;
      behind = first.1;
      middle = refl;
      back = last.1;
      long = omega (arith, first.2, last.2);
    }

pub returns-in_err-iv : goal.returns-in_err-iv
returns-in_err-iv c =
    let key = c.args.key.now in
    let bytes = c.args.bytes.now in
    let ad = c.args.ad.now in
    subst (λ found. OpensTo (gcm_open key bytes ad) bytes bytes found) (sym c.from_residual.ensures)
    (closed-short key bytes ad (omega (arith, c.in_err-iv.ensures.cases)), refl)

pub returns-in_err-tag : goal.returns-in_err-tag
returns-in_err-tag c =
    let key = c.args.key.now in
    let bytes = c.args.bytes.now in
    let ad = c.args.ad.now in
    subst (λ found. OpensTo (gcm_open key bytes ad) bytes bytes found)
    (sym c.from_residual-in_err-tag.ensures)
    (closed-short key bytes ad (omega (arith, c.in_ok-iv.ensures.cases.2, c.in_err-tag.ensures.cases)), refl)

pub returns-then-open_in_place : goal.returns-then-open_in_place
returns-then-open_in_place c =
    let key = c.args.key.now in
    let bytes = c.args.bytes.now in
    let ad = c.args.ad.now in
    let iv = c.in_ok-iv.iv.now in
    let rest = c.in_ok-iv.rest.now in
    let tag = c.in_ok-tag.tag.now in
    let end : ℕ = length bytes - 16 in
    let text : List ℕ = take (end - 12) (drop 12 bytes) in
    let parts = parts_are (goal.at.returns-then-open_in_place c).After-open_in_place in
    let new : List ℕ = c.open_in_place.new.body in
    let same_size : length new ≡ length text = c.open_in_place.auto.body in
    let long = parts.long in
    let size : length new ≡ end - 12
    = same_size ∙ length-take-le (end - 12) (drop 12 bytes) (omega (arith, length-drop 12 bytes)) in
    let there = between-put_mid 12 (end - 12) bytes new end (omega arith) size in
    let opened = c.if-open_in_place.ensures.opened in (
      omega arith,
      omega (arith, same_len_mid 12 (end - 12) bytes new same_size),
      parts-open key bytes ad iv rest text tag parts (c.if-open_in_place.ensures.authentic.0 refl)
          ∙ ap (λ p. Some p) (sym (there ∙ opened)),
      take-put_mid_below 12 (end - 12) bytes new 12 (omega arith) (omega arith),
      drop-put_mid 12 (end - 12) bytes new end (omega arith) (omega arith) size,
    )

pub returns-else-open_in_place : goal.returns-else-open_in_place
returns-else-open_in_place c =
    let key = c.args.key.now in
    let bytes = c.args.bytes.now in
    let ad = c.args.ad.now in
    let iv = c.in_ok-iv.iv.now in
    let rest = c.in_ok-iv.rest.now in
    let tag = c.in_ok-tag.tag.now in
    let size : ℕ = length bytes - 16 - 12 in
    let text : List ℕ = take size (drop 12 bytes) in
    let parts = parts_are (goal.at.returns-else-open_in_place c).After-open_in_place in (
      parts-closed key bytes ad iv rest text tag parts
          (λ e. false≢true (c.if-open_in_place.ensures.authentic.1 e)),
      ap (λ (l : List ℕ). put_mid 12 size bytes l) c.if-open_in_place.ensures.kept
          ∙ put_same 12 size bytes,
    )
