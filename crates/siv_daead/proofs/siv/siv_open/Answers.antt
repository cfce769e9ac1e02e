-- The ciphertext behind the SIV is decrypted where it stands, if the SIV is that of the plaintext.
use Rattle.std.proofs.Common.{◌≡◌, ◌∙◌, ◌++◌, List, Some, ℕ, ap, arith, length, length-append, refl, slice_range, sym, true≢false}
use Rattle.std.proofs.lemmas.Bool.{OnFalse_at, OnTrue_at}
use Rattle.std.proofs.lemmas.List.{drop_all, drop_at, take_at}
use Rattle.std.proofs.lemmas.Slice.{between_to_end}
use Rattle.siv_daead.specs.Siv.{mac_key, plain_of, s2v, siv_of, siv_text}
use Rattle.siv_daead.proofs.SivLemmas.{open-other, open-short, opens}
use Rattle.siv_daead.proofs.siv.siv_open.Goals as goal

pub returns-then-end-lt16 : goal.returns-then-end-lt16
returns-then-end-lt16 c =
    (open-short c.args.key.now c.args.bytes.now c.args.ad.now (omega arith), refl)

pub returns-then-open_in_place : goal.returns-then-open_in_place
returns-then-open_in_place c =
    let key = c.args.key.now in
    let bytes = c.args.bytes.now in
    let ad = c.args.ad.now in
    let cut = c.split_at_mut-front.ensures in
    let front : List ℕ = c.split_at_mut-front.result.0.now in
    let old : List ℕ = c.split_at_mut-front.result.1.now in
    let body : List ℕ = c.open_in_place.new.body in
    let siv : c.block_of.result ≡ siv_of bytes = c.block_of.ensures ∙ cut.front in
    let is_plain : siv_text key c.block_of.result old ≡ plain_of key bytes
    = λ i. siv_text key (siv i) (cut.back i) in
    let same : siv_of bytes ≡ s2v (mac_key key) ad (plain_of key bytes)
    = sym siv ∙ c.open_in_place.ensures.authentic.0 c.if-open_in_place.true
    ∙ ap (λ (p : List ℕ). s2v (mac_key key) ad p) is_plain in
    let plain : body ≡ plain_of key bytes
    = OnTrue_at c.if-open_in_place.true c.open_in_place.ensures.opened ∙ is_plain in
    let kept : length body ≡ length old = c.open_in_place.auto.body in
    let part : slice_range (front ++ body) 16 (length bytes) ≡ body
    = between_to_end (front ++ body) 16 (length bytes) (omega (
      arith,
      length-append front body,
      kept,
      cut.front_len,
      cut.back_len,
    ))
    ∙ drop_at front body 16 cut.front_len in (
      omega arith,
      omega (arith, length-append front body, kept, cut.front_len, cut.back_len),
      opens key bytes ad (omega arith) same
          ∙ ap (λ (l : List ℕ). Some l) (sym (part ∙ plain)),
      take_at front body 16 cut.front_len ∙ cut.front,
      drop_all (length bytes) (front ++ body)
          (omega (arith, length-append front body, kept, cut.front_len, cut.back_len))
          ∙ sym (drop_all (length bytes) bytes (omega arith)),
    )

pub returns-else-open_in_place : goal.returns-else-open_in_place
returns-else-open_in_place c =
    let key = c.args.key.now in
    let bytes = c.args.bytes.now in
    let ad = c.args.ad.now in
    let cut = c.split_at_mut-front.ensures in
    let front : List ℕ = c.split_at_mut-front.result.0.now in
    let old : List ℕ = c.split_at_mut-front.result.1.now in
    let siv : c.block_of.result ≡ siv_of bytes = c.block_of.ensures ∙ cut.front in
    let is_plain : siv_text key c.block_of.result old ≡ plain_of key bytes
    = λ i. siv_text key (siv i) (cut.back i) in (
      open-other key bytes ad (omega arith) (λ same.
          let yes = c.open_in_place.ensures.authentic.1 (siv ∙ same
          ∙ ap (λ (p : List ℕ). s2v (mac_key key) ad p) (sym is_plain)) in
          true≢false (sym yes ∙ c.if-open_in_place.false)),
      ap (λ (l : List ℕ). front ++ l) (OnFalse_at c.if-open_in_place.false c.open_in_place.ensures.kept)
          ∙ sym cut.value,
    )
