-- EAX has no HMAC, so any hash function and key serve.
use Rattle.std.proofs.Common.{◌≡◌, ◌∙◌, ap, length}
use Rattle.aead_kinds.specs.Aead.{iv_size_of}
use Rattle.aead_kinds.specs.Eax.{eax_seal}
use Rattle.aead_kinds.proofs.aead.seal.Goals as goal

pub returns-in-Eax : goal.returns-in-Eax
unfolding eax_seal
returns-in-Eax c = λ hash mac under.
    let size : length c.args.iv.now ≡ c.in-Eax.iv_size = c.requires.iv_size ∙ ap iv_size_of c.in-Eax.is in
    rw c.in-Eax.is (rw size at (c.seal.ensures hash mac tt))
