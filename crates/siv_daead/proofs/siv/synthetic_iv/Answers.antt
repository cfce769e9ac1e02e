-- D and the plaintext make T.
use Rattle.std.proofs.Common.{◌≡◌, ◌-◌, ◌++◌, ◌∙◌, List, ℕ, ap, arith, drop, length, sym, take}
use Rattle.aes_core.specs.Bytes.{xor_bytes}
use Rattle.mac_prf.specs.Cmac.{cmac, doubled_block}
use Rattle.siv_daead.specs.Siv.{datum_block, s2v}
use Rattle.siv_daead.proofs.BlockLemmas.{mac_text-long, mac_text-short}
use Rattle.siv_daead.proofs.SivLemmas.{length-datum_block}
use Rattle.siv_daead.proofs.siv.synthetic_iv.Goals as goal

pub returns-then-plain-lt16 : goal.returns-then-plain-lt16
unfolding s2v
returns-then-plain-lt16 c =
    let key = c.args.key.now in
    let plain = c.args.plain.now in
    let d : List ℕ = datum_block key c.args.ad.now in
    c.mac.ensures
    ∙ ap (λ (l : List ℕ). cmac key l) (c.xor.ensures
    ∙ ap (λ (l : List ℕ). xor_bytes l c.padded.result)
    (c.doubled.ensures ∙ ap (λ (l : List ℕ). doubled_block l) c.datum_block-datum.ensures)
    ∙ ap (λ (l : List ℕ). xor_bytes (doubled_block d) l) c.padded.ensures
    ∙ sym (mac_text-short d plain c.if-plain-lt16.true))

pub returns-else-plain-lt16 : goal.returns-else-plain-lt16
unfolding s2v
returns-else-plain-lt16 c =
    let key = c.args.key.now in
    let plain = c.args.plain.now in
    let d : List ℕ = datum_block key c.args.ad.now in
    let at = length plain - 16 in
    let back : c.xor-else-plain-lt16.result ≡ xor_bytes (drop at plain) d
    = c.xor-else-plain-lt16.ensures
    ∙ ap (λ (l : List ℕ). xor_bytes l c.datum_block-datum.result)
    (c.block_of.ensures ∙ c.split_at.ensures.back)
    ∙ ap (λ (l : List ℕ). xor_bytes (drop at plain) l) c.datum_block-datum.ensures in
    c.mac-else-plain-lt16.ensures
    ∙ ap (λ (l : List ℕ). cmac key l) (ap (λ (l : List ℕ). l ++ c.xor-else-plain-lt16.result)
    c.split_at.ensures.front
    ∙ ap (λ (l : List ℕ). take at plain ++ l) back
    ∙ sym (mac_text-long d plain (length-datum_block key c.args.ad.now) (omega arith)))
