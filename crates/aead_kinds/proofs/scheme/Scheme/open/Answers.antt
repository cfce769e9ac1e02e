-- The text between IV and tag is decrypted where it stands.
use Rattle.std.proofs.Common.{◌≡◌, ◌+◌, ◌-◌, ◌++◌, ℕ, List, Some, length, take, drop, refl, sym, ap, ◌∙◌, arith}
use Rattle.std.proofs.lemmas.Bool.{false≢true}
use Rattle.std.proofs.lemmas.List.{drop_at, drop-drop, length-append, take_at}
use Rattle.std.specs.Prelude.{slice_range}
use Rattle.aead_kinds.specs.EncryptThenTag.{opened_by}
use Rattle.aead_kinds.specs.SchemeState.{crypt_under, tag_size_of, tag_under}
use Rattle.aead_kinds.proofs.EncryptThenTagLemmas.{AreCut, cut-closed, cut-opens, short-closed}
use Rattle.aead_kinds.proofs.scheme.Scheme.open.Goals as goal
use Rattle.aead_kinds.proofs.scheme.Scheme.open.Goals.{After-is_tag}

-- the bytes are cut into IV, text and tag
cut_is : (c : After-is_tag)
    → AreCut c.args.iv_size (length c.args.bytes.now - c.tag_size-tag_size.result - c.args.iv_size)
    c.tag_size-tag_size.result c.args.bytes.now c.split_at_mut-iv.result.0.now
    c.split_at_mut-iv.result.1.now c.split_at_mut-body.result.0.now c.split_at_mut-body.result.1.now
cut_is c = record {
  front = c.split_at_mut-iv.ensures.front;
  behind = c.split_at_mut-iv.ensures.back;
  middle = c.split_at_mut-body.ensures.front;
  back = c.split_at_mut-body.ensures.back;
  whole = omega (arith, c.if-len-iv_size.false);
}

-- the tag stands where it stood
kept_behind : (v n end : ℕ) (bytes iv rest new made : List ℕ) → end ≡ v + n → length iv ≡ v → rest ≡ drop v bytes
    → length new ≡ n → made ≡ drop n rest → drop end (iv ++ (new ++ made)) ≡ drop end bytes
kept_behind v n end bytes iv rest new made is front behind size back =
    ap (λ (k : ℕ). drop k (iv ++ (new ++ made))) is
    ∙ sym (drop-drop n v (iv ++ (new ++ made)))
    ∙ ap (λ (l : List ℕ). drop n l) (drop_at iv (new ++ made) v front)
    ∙ drop_at new made n size
    ∙ back
    ∙ ap (λ (l : List ℕ). drop n l) behind
    ∙ drop-drop n v bytes
    ∙ ap (λ (k : ℕ). drop k bytes) (sym is)

pub returns-then-len-iv_size : goal.returns-then-len-iv_size
returns-then-len-iv_size c = λ hash mac under.
    let scheme = c.args.self.now in (
      short-closed (crypt_under scheme) (tag_under scheme hash mac) c.args.iv_size (tag_size_of scheme)
          c.args.bytes.now c.args.ad.now
          (omega (arith, c.if-len-iv_size.true, c.tag_size-tag_size.ensures.size)),
      refl,
    )

pub returns-then-not-is_tag : goal.returns-then-not-is_tag
returns-then-not-is_tag c = λ hash mac under.
    let scheme = c.args.self.now in
    let v = c.args.iv_size in
    let t = c.tag_size-tag_size.result in
    let bytes = c.args.bytes.now in
    let ad = c.args.ad.now in
    let n : ℕ = length bytes - t - v in
    let iv = c.split_at_mut-iv.result.0.now in
    let rest = c.split_at_mut-iv.result.1.now in
    let text = c.split_at_mut-body.result.0.now in
    let made = c.split_at_mut-body.result.1.now in
    let cut = cut_is (goal.at.returns-then-not-is_tag c).After-is_tag in (
      sym (ap (λ m. opened_by (crypt_under scheme) (tag_under scheme hash mac) v m bytes ad)
          c.tag_size-tag_size.ensures.size)
          ∙ cut-closed (crypt_under scheme) (tag_under scheme hash mac) v n t bytes ad iv rest text made cut
          (λ e. false≢true ((c.if-not-is_tag.ensures hash mac under).1 e)),
      ap (λ (l : List ℕ). iv ++ l) (sym c.split_at_mut-body.ensures.value)
          ∙ sym c.split_at_mut-iv.ensures.value,
    )

pub returns : goal.returns
returns c = λ hash mac under.
    let scheme = c.args.self.now in
    let v = c.args.iv_size in
    let t = c.tag_size-tag_size.result in
    let bytes = c.args.bytes.now in
    let ad = c.args.ad.now in
    let n : ℕ = length bytes - t - v in
    let iv = c.split_at_mut-iv.result.0.now in
    let rest = c.split_at_mut-iv.result.1.now in
    let text = c.split_at_mut-body.result.0.now in
    let made = c.split_at_mut-body.result.1.now in
    let cut = cut_is (goal.at.returns c).After-is_tag in
    let new : List ℕ = c.crypt.new.body in
    let size : length new ≡ n = c.crypt.auto.body ∙ c.split_at_mut-body.ensures.front_len in
    let whole = cut.whole in
    let there : slice_range (iv ++ (new ++ made)) v (length bytes - t) ≡ new
    = ap (λ (l : List ℕ). take n l) (drop_at iv (new ++ made) v c.split_at_mut-iv.ensures.front_len)
    ∙ take_at new made n size in
    let plain : new ≡ crypt_under scheme iv text = c.crypt.ensures iv c.start-start.ensures in (
      omega arith,
      omega (
        arith,
        length-append iv (new ++ made),
        length-append new made,
        c.split_at_mut-iv.ensures.front_len,
        size,
      ),
      sym (ap (λ m. opened_by (crypt_under scheme) (tag_under scheme hash mac) v m bytes ad)
          c.tag_size-tag_size.ensures.size)
          ∙ cut-opens (crypt_under scheme) (tag_under scheme hash mac) v n t bytes ad iv rest text made cut
          ((c.if-not-is_tag.ensures hash mac under).0 refl)
          ∙ ap (λ p. Some p) (sym (there ∙ plain)),
      take_at iv (new ++ made) v c.split_at_mut-iv.ensures.front_len ∙ c.split_at_mut-iv.ensures.front,
      kept_behind v n (length bytes - t) bytes iv rest new made (omega (arith, whole)) c.split_at_mut-iv.ensures.front_len
          c.split_at_mut-iv.ensures.back size c.split_at_mut-body.ensures.back,
    )
