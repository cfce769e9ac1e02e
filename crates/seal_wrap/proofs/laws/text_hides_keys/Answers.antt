use Rattle.seal_wrap.proofs.WrapLemmas.{text_hides_keys}
use Rattle.seal_wrap.proofs.laws.text_hides_keys.Goals as goal

pub returns : goal.returns
returns c = text_hides_keys
