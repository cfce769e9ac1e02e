use Rattle.std.proofs.Common.{◌-◌, ◌∙◌, sym}
use Rattle.segment_stream.specs.StreamKeys.{largest_of}
use Rattle.tinkey_plans.specs.Ranging.{range_for}
use Rattle.tinkey_words.specs.Words.{seen_range}
use Rattle.tinkey_actions.proofs.RangingLemmas.{gave_rise, gives_rise, past_rise, same_kept}
use Rattle.tinkey_actions.proofs.ranging.open_file.Goals as goal

pub returns-clause-range : goal.returns-clause-range
returns-clause-range g c = rw (c.over-device.ensures.store, c.over-device.ensures.name, c.from.ensures) at c.open_range.ensures.range

-- the store that the device held comes back, under its name
pub returns-clause-kept : goal.returns-clause-kept
returns-clause-kept g c =
    let back = c.store-1.given.1 (sym (c.open_range.ensures.lent ∙ c.over-device.ensures.lends)) in
    let kept = rw c.over-device.ensures.store at c.open_range.ensures.kept in
    rw back (same_kept (g.D.Store.state c.args.store.now) (g.D.Store.state c.open_range.new.device.store.now) kept.files kept.faults)

pub returns-clause-gave : goal.returns-clause-gave
returns-clause-gave g c =
    let back = c.store-1.given.1 (sym (c.open_range.ensures.lent ∙ c.over-device.ensures.lends)) in
    let e = c.open_range.ensures in
    let x = range_for c.args.keys.now c.args.ad.now (seen_range c.args.range) in
    let old = g.D.Store.state c.args.store.now in
    let new = g.D.Store.state c.open_range.new.device.store.now in
    let told = rw (c.over-device.ensures.store, c.over-device.ensures.name, c.from.ensures) at e.given in
    let covered = rw (c.over-device.ensures.store, c.from.ensures) at e.given_untold in
    rw back (
      new.given - old.given,
      gives_rise old.files x old.given new.given told covered,
      λ is. past_rise old.given new.given (largest_of c.args.keys.now.keys) (rw c.over-device.ensures.store at e.given_past is),
      gave_rise old new,
    )

pub returns-clause-no_fault : goal.returns-clause-no_fault
returns-clause-no_fault g c = λ other.
    let back = c.store-1.given.1 (sym (c.open_range.ensures.lent ∙ c.over-device.ensures.lends)) in
    let stood = c.open_range.ensures.no_fault other in
    rw back (rw c.over-device.ensures.store at stood)

pub returns-clause-failed : goal.returns-clause-failed
returns-clause-failed g c = λ is.
    let back = c.store-1.given.1 (sym (c.open_range.ensures.lent ∙ c.over-device.ensures.lends)) in
    let rose = c.open_range.ensures.failed is in
    rw back (rw c.over-device.ensures.store at rose)
