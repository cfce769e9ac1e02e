use Rattle.std.proofs.Common.{[], ◌++◌, ap, ◌∙◌}
use Rattle.mac_prf.specs.Cmac.{cmac}
use Rattle.aead_kinds.specs.Eax.{omac}
use Rattle.aead_kinds.proofs.eax.encrypt_and_mac.Goals as goal

pub returns-clause-mac : goal.returns-clause-mac
unfolding omac
returns-clause-mac c =
    let key = c.args.key.now in
    let text = c.update_encrypted.new.body in
    let block = c.to_be_bytes.result in
    let first = c.update.ensures key [] c.under-cmac.ensures in
    let both = c.update_encrypted.ensures.message key block first in
    c.finish.ensures key (block ++ text) both
    ∙ ap (λ b. cmac key (b ++ text)) c.to_be_bytes.ensures
