use Rattle.std.proofs.Common.{◌≡◌, ◌∙◌, refl, sym, ap, ◌-◌, ◌++◌, [], take, drop, length, append-nil, arith}
use Rattle.std.proofs.Math.Seq.{take-add}
use Rattle.std.proofs.lemmas.List.{length-drop, take_all, take_rest, take-append-drop}
use Rattle.managers.specs.contracts.table.ManagersKeyTable.TheImpl.{ghosts}
use Rattle.tinkey_session.specs.Talking.{saving}
use Rattle.tinkey_talk.proofs.FeedLemmas.{all_settled, cut_behind, fed_all, fed_none, fed_piece, fed_written, stopped_piece}
use Rattle.tinkey_talk.proofs.talk.take_piece.Goals as goal

pub loop-i-init : goal.loop-i-init
loop-i-init g c = record {
  within = omega arith;
  kept = c.requires.kept;
  few = c.requires.few;
  table = refl;
  less = omega arith;
  fed = fed_none _ _ _;
}

pub loop-i-preserved : goal.loop-i-preserved
loop-i-preserved g c =
    let piece = c.args.piece.now in
    let i = c.loop-i.i in
    let taken = c.in-Ok.taken in
    let rest = take (length piece - i) (drop i piece) in
    let same : rest ≡ drop i piece = take_rest piece i in
    let less = c.loop-i.invariant.less in
    let step = c.in-Ok.ensures.less in
    record {
      within = omega (arith, c.in-Ok.ensures.within, ap length same, length-drop i piece);
      kept = c.in-Ok.ensures.kept;
      few = c.in-Ok.ensures.few;
      table = c.in-Ok.ensures.table ∙ c.loop-i.invariant.table;
      less = omega (arith, less, step);
      fed = fed_piece _ _ (all_settled ((ghosts g.dyn-1 g.dyn-2 g.dyn-3 g.dyn-4).table c.args.talk.now.session.managers.now) (g.W.Writer.form c.args.writer.now)) _ _ _ (take i piece) (take taken rest) _ _ _ _ (ap (λ t. saving t (g.W.Writer.form c.args.writer.now)) c.loop-i.invariant.table)
          (take-add i taken piece ∙ ap (λ l. take i piece ++ take taken l) (sym same)) c.loop-i.invariant.fed c.in-Ok.ensures.fed;
    }

pub returns-in-Err-clause-stopped : goal.returns-in-Err-clause-stopped
returns-in-Err-clause-stopped g c =
    let piece = c.args.piece.now in
    let i = c.loop-i.i in
    let rest = take (length piece - i) (drop i piece) in
    stopped_piece _ _ (all_settled ((ghosts g.dyn-1 g.dyn-2 g.dyn-3 g.dyn-4).table c.args.talk.now.session.managers.now) (g.W.Writer.form c.args.writer.now)) _ _ (take i piece) rest [] piece _ _ _ _ (ap (λ t. saving t (g.W.Writer.form c.args.writer.now)) c.loop-i.invariant.table)
    (sym (append-nil (take i piece ++ rest) ∙ ap (λ l. take i piece ++ l) (take_rest piece i) ∙ take-append-drop i piece))
    c.loop-i.invariant.fed c.in-Err.ensures.stopped

pub returns-in-Ok-flush-clause-fed : goal.returns-in-Ok-flush-clause-fed
returns-in-Ok-flush-clause-fed g c = fed_written _ _ _ _ _ _ _ _ _ _ _ _ _ _ c.flush.ensures.none
    (fed_all _ _ _ (take c.loop-i.i c.args.piece.now) _ _ _ (take_all c.loop-i.i c.args.piece.now c.loop-i-test.false) c.loop-i.invariant.fed) c.in-Ok-flush.ensures.all c.in-Ok-flush.ensures.no_fault

pub returns-in-Err-flush-clause-stopped : goal.returns-in-Err-flush-clause-stopped
returns-in-Err-flush-clause-stopped g c = cut_behind _ _ _ _ _ _ _ _ _ _ _ _ _ _
    (fed_all _ _ _ (take c.loop-i.i c.args.piece.now) _ _ _ (take_all c.loop-i.i c.args.piece.now c.loop-i-test.false) c.loop-i.invariant.fed) c.in-Err-flush.ensures.prefix c.in-Err-flush.ensures.failed
