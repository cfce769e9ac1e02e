-- EAX has no HMAC, so any hash function and key serve.
use Rattle.aead_kinds.specs.Eax.{eax_open}
use Rattle.aead_kinds.proofs.aead.open.Goals as goal

pub returns-in-Eax : goal.returns-in-Eax
unfolding eax_open
returns-in-Eax c = λ hash mac under. rw c.in-Eax.is (c.open.ensures hash mac tt)
