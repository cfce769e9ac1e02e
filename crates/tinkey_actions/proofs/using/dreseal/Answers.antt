use Rattle.std.proofs.Common.{◌∙◌, arith}
use Rattle.tinkey_session.proofs.ResealLemmas.{dopened_within}
use Rattle.tinkey_words.specs.Words.{seen_datum}
use Rattle.tinkey_actions.proofs.UseLemmas.{dresealed_passes}
use Rattle.tinkey_actions.proofs.using.dreseal.Goals as goal

pub behind_room-requires-clause-plain_bound : goal.behind_room-requires-clause-plain_bound
behind_room-requires-clause-plain_bound g c =
    let short = dopened_within _ c.requires.serving.0 _ c.args.sealed.items c.as_slice.result.now _ c.requires.serving.1 (c.in-Some.ensures.opened c.requires.serving.0 c.requires.serving.1) in
    omega (arith, short, c.requires.bound)

pub dseal_plain-requires-clause-bound : goal.dseal_plain-requires-clause-bound
dseal_plain-requires-clause-bound g c =
    let short = dopened_within _ c.requires.serving.0 _ c.args.sealed.items c.as_slice.result.now _ c.requires.serving.1 (c.in-Some.ensures.opened c.requires.serving.0 c.requires.serving.1) in
    omega (arith, c.in_ok-plain.ensures.size, c.dseal_room.ensures.room, short, c.requires.bound)

pub returns : goal.returns
returns g c = λ w keys over same.
    let opened = rw (c.as_slice.ensures ∙ c.in_ok-ad.ensures.bytes) at (c.in-Some.ensures.opened keys over) in
    let plain = rw c.dseal_room.ensures.room at c.in_ok-plain.ensures.plain in
    let sealed = rw (plain, c.as_slice-2.ensures ∙ c.in_ok-ad.ensures.bytes) at (c.dseal_plain.ensures w keys over) in
    dresealed_passes _ keys _ c.in-Some.opened.items c.args.sealed.items (seen_datum c.args.ad) w w c.dseal_plain.result over opened sealed
