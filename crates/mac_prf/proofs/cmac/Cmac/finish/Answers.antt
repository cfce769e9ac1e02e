-- What is held is the last block.
use Rattle.std.proofs.Common.{◌≡◌, ◌≤◌, ◌∙◌, List, ℕ, ap, arith, length, length-append, sym, take}
use Rattle.std.proofs.lemmas.List.{length-take-le}
use Rattle.aes_core.specs.Aes.{cipher}
use Rattle.aes_core.specs.Bytes.{xor_bytes}
use Rattle.aes_core.specs.Chain.{chained, whole_blocks}
use Rattle.mac_prf.specs.Cmac.{cmac, zero_block}
use Rattle.mac_prf.proofs.CmacLemmas.{cmac-parts}
use Rattle.mac_prf.proofs.cmac.Cmac.finish.Goals as goal

pub returns : goal.returns
returns c = λ key m holds.
    let keeps = holds.keeps in
    let state = c.args.self in
    let front = keeps.front in
    let part = take state.size state.held in
    let within : state.size ≤ length state.held = omega (arith, state.within, keeps.room) in
    let size = length-take-le state.size state.held within in
    let fits : length part ≤ 16 = omega (arith, size, state.within) in
    let some : length part ≡ 0 → length front ≡ 0
    = λ none.
    let zero : state.size ≡ 0 = omega (arith, size, none) in
    omega (
      arith,
      ap length (holds.some zero),
      ap length keeps.parts,
      length-append front part,
    ) in
    c.encrypt_block.ensures
    ∙ ap (λ (u : List ℕ). cipher u c.xor.result) keeps.under
    ∙ ap (cipher key) (c.xor.ensures
    ∙ ap (λ (u : List ℕ). xor_bytes u c.masked_block-last.result) keeps.value
    ∙ ap (xor_bytes (chained key zero_block (whole_blocks front))) (c.masked_block-last.ensures key m keeps))
    ∙ cmac-parts key front part keeps.whole fits some
    ∙ ap (cmac key) (sym keeps.parts)
