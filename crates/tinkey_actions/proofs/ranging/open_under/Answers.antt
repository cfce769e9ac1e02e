use Rattle.std.proofs.Common.{◌≡◌, ◌∙◌, arith, Some}
use Rattle.tinkey_plans.specs.Ranging.{range_for}
use Rattle.tinkey_words.specs.Words.{seen_datum, seen_range}
use Rattle.tinkey_actions.proofs.RangingLemmas.{held_of, look_ends, range_passes}
use Rattle.tinkey_actions.proofs.ranging.open_under.Goals as goal

pub returns-in-Ok-Some : goal.returns-in-Ok-Some
returns-in-Ok-Some g c = λ w.
    let x = range_for c.args.keys.now (seen_datum c.args.ad) (seen_range c.args.range) in
    let looked = c.in-Ok-Some.ensures in
    let is = c.as_slice.ensures ∙ c.in-Ok.ensures.bytes in
    let range = rw is at c.open_file.ensures.range in
    let gave = rw is at c.open_file.ensures.gave in
    rw c.opened.ensures (range_passes x c.open_file.result w (g.D.Store.state c.args.store.now) (g.D.Store.state c.size.new.self) (g.D.Store.state c.open_file.new.store) (record {
      size = c.in-Ok-Some.size;
      held = held_of (g.D.Store.state c.args.store.now) c.args.range.file.now c.in-Ok-Some.field-0 c.in-Ok-Some.size (let is : c.in-Ok-Some.field-0 ≡ Some c.in-Ok-Some.size = cc in is) looked.tells;
      kept = looked.kept;
      stood = looked.no_fault;
      none = omega (arith, looked.given);
      range = range;
      kept' = c.open_file.ensures.kept;
      most = gave.0;
      least = gave.1;
      past = gave.2;
      gave = gave.3;
      no_fault = c.open_file.ensures.no_fault;
      failed = c.open_file.ensures.failed;
    }))

pub returns : goal.returns
returns g c = λ w next.
    let e = c.in-Err.ensures in
    look_ends (range_for c.args.keys.now (seen_datum c.args.ad) (seen_range c.args.range)) w (g.D.Store.state c.args.store.now) (g.D.Store.state c.size.new.self) e.kept e.failed e.given next
