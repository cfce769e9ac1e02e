use Rattle.std.proofs.Common.{◌∙◌, sym}
use Rattle.tinkey_plans.specs.Sealers.{may_have_made}
use Rattle.tinkey_actions.proofs.KeyOfLemmas.{any_here, any_more}
use Rattle.tinkey_actions.proofs.key_of.has_key.Goals as goal

pub returns-then-may_have_made : goal.returns-then-may_have_made
returns-then-may_have_made c = sym (any_here (may_have_made c.args.front.now) c.args.keyset.now.records c.loop-i.i c.record_at.result.now c.record_at.ensures.record_there (sym c.may_have_made.ensures ∙ c.if-may_have_made.true))

pub loop-i-preserved : goal.loop-i-preserved
loop-i-preserved c =
    any_more (may_have_made c.args.front.now) c.args.keyset.now.records c.loop-i.i c.record_at.result.now c.record_at.ensures.record_there c.loop-i.invariant
    ∙ sym c.may_have_made.ensures ∙ c.if-may_have_made.false
