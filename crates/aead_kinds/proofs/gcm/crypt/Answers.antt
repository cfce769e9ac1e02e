use Rattle.std.proofs.Common.{ap, sym, ◌∙◌}
use Rattle.aes_core.specs.Counter.{ctr}
use Rattle.aes_core.specs.declared.counter.CtrKind.TheVariants.{Low32}
use Rattle.aead_kinds.specs.Gcm.{gcm_text}
use Rattle.aead_kinds.proofs.InPlaceLemmas.{second_counter}
use Rattle.aead_kinds.proofs.gcm.crypt.Goals as goal

pub returns : goal.returns
unfolding gcm_text
returns c =
    c.ctr_xor.ensures
    ∙ ap (λ start. ctr c.args.aes.now start Low32 c.args.body.now)
    (c.counter_block.ensures ∙ sym (second_counter c.args.iv.now c.told-iv))
