use Rattle.ready_keysets.proofs.perform.dopen_within.Goals as goal

pub put_found-requires : goal.put_found-requires
put_found-requires g c = record {
  opened = (_, _, c.dopen_within-found.ensures c.requires.over.0 (rw c.requires.table c.requires.over.1));
}

pub returns-clause-answered : goal.returns-clause-answered
returns-clause-answered g c = λ keys over.
    c.put_found.ensures.answered _ _ (rw c.requires.table at (c.dopen_within-found.ensures keys (rw c.requires.table over)))
