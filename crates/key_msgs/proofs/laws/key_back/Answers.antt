use Rattle.key_msgs.proofs.ReadingBack.{keys-back}
use Rattle.key_msgs.proofs.laws.key_back.Goals as goal

pub returns : goal.returns
returns c = λ key valid held short. keys-back key valid held short
