-- Both kinds encrypt in counter mode from the block that is handed in.
use Rattle.std.proofs.Common.{ap, ◌∙◌}
use Rattle.aes_core.specs.Counter.{ctr}
use Rattle.aes_core.specs.declared.counter.CtrKind.TheVariants.{All128}
use Rattle.aead_kinds.specs.CtrHmac.{ctr_hmac_text}
use Rattle.aead_kinds.specs.Eax.{eax_text}
use Rattle.aead_kinds.specs.SchemeState.{start_under}
use Rattle.aead_kinds.proofs.scheme.Scheme.crypt.Goals as goal

pub returns-in-Eax : goal.returns-in-Eax
unfolding eax_text
returns-in-Eax c = λ iv is.
    rw c.in-Eax.is
    (c.ctr_xor.ensures
    ∙ ap (λ b. ctr c.in-Eax.key.now b All128 c.args.body.now)
    (is ∙ ap (λ s. start_under s iv) c.in-Eax.is))

pub returns-in-CtrHmac : goal.returns-in-CtrHmac
unfolding ctr_hmac_text
returns-in-CtrHmac c = λ iv is.
    rw c.in-CtrHmac.is
    (c.ctr_xor-in-CtrHmac.ensures
    ∙ ap (λ b. ctr c.in-CtrHmac.aes.now b All128 c.args.body.now)
    (is ∙ ap (λ s. start_under s iv) c.in-CtrHmac.is))
