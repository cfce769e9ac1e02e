use Rattle.managers.specs.Schemes.{type_under}
use Rattle.managers.proofs.ReadingLemmas.{read_of_type}
use Rattle.managers.proofs.laws.reading_is_admitted.Goals as goal

pub returns : goal.returns
returns c = λ scheme value key same. read_of_type (type_under scheme) value key same
