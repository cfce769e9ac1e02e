-- A whole block goes with K1, and any other, padded, with K2.
use Rattle.std.proofs.Common.{◌≡◌, ◌≢◌, ◌≤◌, ◌∙◌, List, ℕ, ap, arith, length, sym, take}
use Rattle.std.proofs.lemmas.List.{length-take-le, take_all}
use Rattle.aes_core.specs.Aes.{cipher}
use Rattle.aes_core.specs.Bytes.{xor_bytes}
use Rattle.mac_prf.specs.Cmac.{doubled_block, subkey1, subkey2, zero_block}
use Rattle.mac_prf.proofs.CmacLemmas.{masked-part, masked-whole}
use Rattle.mac_prf.proofs.cmac.Cmac.masked_block.Goals as goal

pub returns-then-self-eq16 : goal.returns-then-self-eq16
returns-then-self-eq16 c = λ key m keeps.
    let held = c.args.self.now.held in
    let part : take c.args.self.now.size held ≡ held
    = ap (λ n. take n held) c.if-self-eq16.true ∙ take_all 16 held (omega (arith, keeps.room)) in
    let first : c.doubled-subkey1.result ≡ subkey1 key
    = c.doubled-subkey1.ensures ∙ ap doubled_block (c.encrypt_block.ensures
    ∙ ap (λ (u : List ℕ). cipher u zero_block) keeps.under) in
    c.xor.ensures ∙ ap (λ (u : List ℕ). xor_bytes u held) first
    ∙ ap (xor_bytes (subkey1 key)) (sym part)
    ∙ sym (masked-whole key (take c.args.self.now.size held) (ap length part ∙ keeps.room))

pub returns-else-self-eq16 : goal.returns-else-self-eq16
returns-else-self-eq16 c = λ key m keeps.
    let size = c.args.self.now.size in
    let held = c.args.self.now.held in
    let within : size ≤ length held = omega (arith, c.args.self.now.within, keeps.room) in
    let count = length-take-le size held within in
    let short : length (take size held) ≢ 16 = λ whole. c.if-self-eq16.false (sym count ∙ whole) in
    let first : c.doubled-subkey1.result ≡ subkey1 key
    = c.doubled-subkey1.ensures ∙ ap doubled_block (c.encrypt_block.ensures
    ∙ ap (λ (u : List ℕ). cipher u zero_block) keeps.under) in
    let second : c.doubled.result ≡ subkey2 key = c.doubled.ensures ∙ ap doubled_block first in
    c.xor-else-self-eq16.ensures ∙ ap (λ (u : List ℕ). xor_bytes u c.padded.result) second
    ∙ ap (xor_bytes (subkey2 key)) c.padded.ensures
    ∙ sym (masked-part key (take size held) short)
