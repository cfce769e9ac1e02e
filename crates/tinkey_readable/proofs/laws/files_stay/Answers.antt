use Rattle.tinkey_readable.proofs.FileLemmas.{files_stay}
use Rattle.tinkey_readable.proofs.laws.files_stay.Goals as goal

pub returns : goal.returns
returns c = files_stay
