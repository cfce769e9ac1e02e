-- D goes through counter mode to the end of the plaintext, where S2V has it, and is XORed out of it.
use Rattle.std.proofs.Common.{◌≡◌, ◌∙◌, List, [], ℕ, ap, arith, length, sym}
use Rattle.aes_core.specs.Counter.{ctr}
use Rattle.aes_core.specs.declared.counter.CtrKind.TheVariants.{All128}
use Rattle.mac_prf.specs.Cmac.{cmac}
use Rattle.siv_daead.specs.Siv.{datum_block, first_counter, mac_key, s2v, siv_text, xor_end}
use Rattle.siv_daead.proofs.BlockLemmas.{mac_text-block}
use Rattle.siv_daead.proofs.SivLemmas.{length-datum_block, length-siv_text, mac_key-joined, siv_text-joined}
use Rattle.siv_daead.proofs.XorEndLemmas.{ctr-xor_end, xor_end-xor_end}
use Rattle.siv_daead.proofs.siv.decrypt_and_mac.Goals as goal
use Rattle.siv_daead.proofs.siv.decrypt_and_mac.Goals.{After-crypt, After-update_encrypted, After-xor_end-2}

-- ---- fewer than 16 bytes

short_text : (c : After-crypt)
    → c.crypt.new.body ≡ siv_text c.args.key.now c.args.siv.now c.args.body.now
short_text c =
    let siv = c.args.siv.now in
    let body = c.args.body.now in
    c.crypt.ensures
    ∙ siv_text-joined c.key.inside.mac c.key.inside.ctr siv body c.key.invariant
    ∙ ap (λ (k : List ℕ). siv_text k siv body) c.key.view_is

pub returns-then-body-lt16-clause-text : goal.returns-then-body-lt16-clause-text
returns-then-body-lt16-clause-text c =
    short_text (goal.at.returns-then-body-lt16-clause-text c).After-crypt

pub returns-then-body-lt16-clause-mac : goal.returns-then-body-lt16-clause-mac
returns-then-body-lt16-clause-mac c =
    let first : List ℕ = c.key.inside.mac in
    c.synthetic_iv.ensures
    ∙ ap (λ (k : List ℕ). s2v k c.args.ad.now c.crypt.new.body)
    (sym (mac_key-joined first c.key.inside.ctr c.key.invariant) ∙ ap mac_key c.key.view_is)

-- ---- at least 16 bytes

-- what CMAC takes
mixed : (c : After-update_encrypted)
    → c.update_encrypted.new.body
    ≡ xor_end (siv_text c.args.key.now c.args.siv.now c.args.body.now) c.datum_block-datum.result
mixed c =
    let siv = c.args.siv.now in
    let body = c.args.body.now in
    let second : List ℕ = c.key.inside.ctr in
    let d : List ℕ = c.datum_block-datum.result in
    let size : length d ≡ 16 = ap length c.datum_block-datum.ensures
    ∙ length-datum_block c.key.inside.mac c.args.ad.now in
    c.update_encrypted.ensures.text
    ∙ (λ i. ctr second (c.first_counter.ensures i) All128 (c.xor_end.ensures i))
    ∙ ctr-xor_end second (first_counter siv) All128 body d (omega (arith, size))
    ∙ ap (λ (l : List ℕ). xor_end l d)
    (siv_text-joined c.key.inside.mac second siv body c.key.invariant
    ∙ ap (λ (k : List ℕ). siv_text k siv body) c.key.view_is)

long_text : (c : After-xor_end-2)
    → c.update_encrypted.new.body
    ≡ xor_end (siv_text c.args.key.now c.args.siv.now c.args.body.now) c.datum_block-datum.result
    → c.xor_end-2.new.bytes ≡ siv_text c.args.key.now c.args.siv.now c.args.body.now
long_text c taken =
    let key = c.args.key.now in
    let siv = c.args.siv.now in
    let body = c.args.body.now in
    let d : List ℕ = c.datum_block-datum.result in
    let size : length d ≡ 16 = ap length c.datum_block-datum.ensures
    ∙ length-datum_block c.key.inside.mac c.args.ad.now in
    c.xor_end-2.ensures
    ∙ ap (λ (l : List ℕ). xor_end l d) taken
    ∙ xor_end-xor_end (siv_text key siv body) d (omega (arith, size, length-siv_text key siv body))

pub returns-clause-text : goal.returns-clause-text
returns-clause-text c =
    let at = goal.at.returns-clause-text c in
    long_text at.After-xor_end-2 (mixed at.After-update_encrypted)

pub returns-clause-mac : goal.returns-clause-mac
unfolding s2v
returns-clause-mac c =
    let key = c.args.key.now in
    let ad = c.args.ad.now in
    let body = c.args.body.now in
    let first : List ℕ = c.key.inside.mac in
    let plain : List ℕ = siv_text key c.args.siv.now body in
    let at = goal.at.returns-clause-mac c in
    let taken = mixed at.After-update_encrypted in
    let m : List ℕ = c.update_encrypted.new.body in
    c.finish.ensures first m (c.update_encrypted.ensures.message first [] c.under-state.ensures)
    ∙ ap (λ (l : List ℕ). cmac first l) (taken
    ∙ ap (λ (d : List ℕ). xor_end plain d) c.datum_block-datum.ensures
    ∙ sym (mac_text-block (datum_block first ad) plain
    (omega (arith, length-siv_text key c.args.siv.now body))))
    ∙ ap (λ (k : List ℕ). s2v k ad plain)
    (sym (mac_key-joined first c.key.inside.ctr c.key.invariant) ∙ ap mac_key c.key.view_is)
    ∙ ap (λ (l : List ℕ). s2v (mac_key key) ad l) (sym (long_text at.After-xor_end-2 taken))
