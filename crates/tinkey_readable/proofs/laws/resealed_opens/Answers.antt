use Rattle.tinkey_readable.proofs.ResealLemmas.{resealed_dopens, resealed_opens}
use Rattle.tinkey_readable.proofs.laws.resealed_opens.Goals as goal

pub returns : goal.returns
returns c = record {
  opens = resealed_opens c.sealings_fit.ensures.sealed c.read_keysets_fit.ensures c.kept_open.ensures;
  dopens = resealed_dopens c.sealings_fit.ensures.dsealed c.fit_keysets_answer.ensures c.read_keysets_fit.ensures c.kept_dopen.ensures;
}
