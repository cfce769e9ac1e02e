use Rattle.std.proofs.Common.{◌≡◌, ◌∙◌, ap}
use Rattle.tink_base.specs.Hash.{hash_size}
use Rattle.mac_prf.specs.HmacState.{hash_of, Holds}
use Rattle.mac_prf.specs.Hmac.{hmac, inner_digest}
use Rattle.mac_prf.proofs.HmacLemmas.{whole_digest}
use Rattle.mac_prf.proofs.hmac.Hmac.finish.Goals as goal

pub finish-requires-2 : goal.finish-requires-2
unfolding hash_of
finish-requires-2 c = rw (c.update.ensures.kept, ← c.args.self.alike) c.requires.fits

pub returns : goal.returns
unfolding Holds hmac
returns c = λ hash key m held.
    let size = c.size.ensures ∙ ap hash_size (c.hash.ensures ∙ held.0.0) in
    let inner : c.finish.new.out ≡ inner_digest hash key m =
    whole_digest hash _ _ _ size (c.finish.ensures hash _ held.0) in
    rw inner at (c.finish-2.ensures hash _ (c.update.ensures.taken hash _ held.1))
