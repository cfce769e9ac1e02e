-- The key is the first words of the expansion.
use Rattle.std.proofs.Common.{length, sym, ap, ◌∙◌}
use Rattle.aes_core.proofs.KeyWords.{length-key_of}
use Rattle.aes_core.proofs.cipher.Aes.key_size.Goals as goal

pub returns-clause-size : goal.returns-clause-size
returns-clause-size c =
    sym (length-key_of c.self.inside.rounds c.self.inside.keys c.self.invariant.0)
    ∙ ap length c.self.view_is
