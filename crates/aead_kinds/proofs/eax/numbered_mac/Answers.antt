use Rattle.std.proofs.Common.{[], ◌++◌, ap, ◌∙◌}
use Rattle.std.specs.Int.{w128, to_be_bytes}
use Rattle.mac_prf.specs.Cmac.{cmac}
use Rattle.aead_kinds.specs.Eax.{omac}
use Rattle.aead_kinds.proofs.eax.numbered_mac.Goals as goal

pub returns : goal.returns
unfolding omac
returns c =
    let key = c.args.key.now in
    let message = c.args.message.now in
    let block = c.to_be_bytes.result in
    let first = c.update.ensures key [] c.under-cmac.ensures in
    let both = c.update-2.ensures key block first in
    c.finish.ensures key (block ++ message) both
    ∙ ap (λ b. cmac key (b ++ message))
    (c.to_be_bytes.ensures ∙ ap (λ n. to_be_bytes w128 n) c.from.ensures)
