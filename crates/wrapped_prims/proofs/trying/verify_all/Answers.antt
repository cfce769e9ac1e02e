use Rattle.std.proofs.Common.{sym, ◌∙◌, refl}
use Rattle.wrapped_prims.specs.Held.{kept_at}
use Rattle.wrapped_prims.proofs.TrialLemmas.{same_tag_tries, tag_tries_both, tag_tries_first}
use Rattle.wrapped_prims.proofs.trying.verify_all.Goals as goal

pub verify_places-requires-clause-served : goal.verify_places-requires-clause-served
verify_places-requires-clause-served g c = rw c.as_slice-slots.ensures.value c.requires.served

pub verify_places-requires-2-clause-served : goal.verify_places-requires-2-clause-served
verify_places-requires-2-clause-served g c = rw c.as_slice-slots.ensures.value c.requires.served

pub returns-then-verify_places-clause-tries : goal.returns-then-verify_places-clause-tries
returns-then-verify_places-clause-tries g c =
    tag_tries_first (kept_at c.as_slice-slots.result.now c.places-places.result.now) (kept_at c.args.held.now.slots.items c.args.held.now.raw.items) c.cut_prefix.result.1.now c.args.tag.now c.args.body.now c.args.trials.now c.verify_places.new.trials (sym c.verify_places.ensures.verified ∙ c.if-verify_places.true) c.verify_places.ensures.tries
    ∙ same_tag_tries c.args.held.now _ _ _ _ _ _ c.args.tag.now c.args.body.now c.args.trials.now c.as_slice-slots.ensures.value refl refl c.places-places.ensures c.cut_prefix.ensures.head c.cut_prefix.ensures.rest

pub returns-clause-tries : goal.returns-clause-tries
returns-clause-tries g c =
    tag_tries_both (kept_at c.as_slice-slots.result.now c.places-places.result.now) (kept_at c.as_slice-slots.result.now c.as_slice-raw.result.now) c.cut_prefix.result.1.now c.args.tag.now c.args.body.now c.args.trials.now c.verify_places.new.trials c.verify_places-2.new.trials (sym c.verify_places.ensures.verified ∙ c.if-verify_places.false) c.verify_places.ensures.tries c.verify_places-2.ensures.tries
    ∙ same_tag_tries c.args.held.now _ _ _ _ _ _ c.args.tag.now c.args.body.now c.args.trials.now c.as_slice-slots.ensures.value c.as_slice-slots.ensures.value c.as_slice-raw.ensures.value c.places-places.ensures c.cut_prefix.ensures.head c.cut_prefix.ensures.rest
