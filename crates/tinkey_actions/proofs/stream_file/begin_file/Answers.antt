use Rattle.tinkey_actions.proofs.StreamFileLemmas.{begun_passes}
use Rattle.tinkey_actions.proofs.stream_file.begin_file.Goals as goal

pub returns-in-Ok-Empty-clause-passes : goal.returns-in-Ok-Empty-clause-passes
returns-in-Ok-Empty-clause-passes g c = λ w.
    let up = c.give_up.ensures in
    let begun = c.in-Ok-Empty.ensures in
    begun_passes c.args.name.now w _ _ _ up.kept up.no_fault up.given begun.kept (begun.no_fault (λ e. cc)) begun.given (rw c.in-Ok-Empty.field-0-is at begun.begins).0
