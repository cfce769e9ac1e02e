use Rattle.std.proofs.Common.{ap, length}
use Rattle.wrapped_prims.proofs.InPlaceLemmas.{opened_behind, same_keys}
use Rattle.wrapped_prims.proofs.trying.try_prefixed.Goals as goal

pub try_places-requires-clause-served : goal.try_places-requires-clause-served
try_places-requires-clause-served g c = rw c.as_slice-slots.ensures.value c.requires.served

pub returns-in-Some-clause-opened : goal.returns-in-Some-clause-opened
returns-in-Some-clause-opened g c =
    opened_behind c.args.primitive _ _ c.args.bytes.now c.try_places.new.part c.args.ad.now (length c.cut_prefix.result.0.now) c.in-Some.range
    (same_keys c.args.held.now _ _ _ c.args.bytes.now c.as_slice-slots.ensures.value c.places-places.ensures c.cut_prefix.ensures.head)
    (ap length c.cut_prefix.ensures.head) c.in-Some.ensures.opened
