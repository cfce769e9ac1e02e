use Rattle.std.proofs.Common.{take, arith, ap, refl, sym, ◌∙◌}
use Rattle.std.specs.Prelude.{slice_index}
use Rattle.std.proofs.lemmas.List.{length-take-le}
use Rattle.managers.specs.contracts.table.ManagersKeyTable.TheImpl.{ghosts}
use Rattle.tinkey_talk.proofs.FeedLemmas.{all_settled, fed_first, fed_in_line, full_byte, stopped_first, stopped_in_line, stopped_many, stopped_newline}
use Rattle.tinkey_talk.proofs.talk.take_part.Goals as goal

pub returns-then-talk-ge-COUNT_LIMIT-clause-stopped : goal.returns-then-talk-ge-COUNT_LIMIT-clause-stopped
returns-then-talk-ge-COUNT_LIMIT-clause-stopped g c =
    stopped_first _ (all_settled ((ghosts g.dyn-1 g.dyn-2 g.dyn-3 g.dyn-4).table c.args.talk.now.session.managers.now) (g.W.Writer.form c.args.writer.now)) _ _ _ _ _ c.requires.some (λ byte at. stopped_many _ _ byte _ _ _ _ _ _ (omega arith) c.end.ensures)

pub returns-in-Ok-clause-fed : goal.returns-in-Ok-clause-fed
returns-in-Ok-clause-fed g c =
    let first = ap (λ k. slice_index c.args.bytes.now k) (sym c.if-front-eq0.true)
    ∙ c.before_newline-front.ensures.newline (omega arith) in
    fed_first _ _ _ _ _ _ c.requires.some first (omega arith) c.in-Ok.ensures.fed

pub returns-in-Err-clause-stopped : goal.returns-in-Err-clause-stopped
returns-in-Err-clause-stopped g c =
    let first = ap (λ k. slice_index c.args.bytes.now k) (sym c.if-front-eq0.true)
    ∙ c.before_newline-front.ensures.newline (omega arith) in
    stopped_first _ (all_settled ((ghosts g.dyn-1 g.dyn-2 g.dyn-3 g.dyn-4).table c.args.talk.now.session.managers.now) (g.W.Writer.form c.args.writer.now)) _ _ _ _ _ c.requires.some (λ byte at. stopped_newline _ _ byte _ _ _ (sym at ∙ first) (omega arith) c.in-Err.ensures.stopped)

pub returns-then-front-len-clause-stopped : goal.returns-then-front-len-clause-stopped
returns-then-front-len-clause-stopped g c =
    stopped_in_line _ (all_settled ((ghosts g.dyn-1 g.dyn-2 g.dyn-3 g.dyn-4).table c.args.talk.now.session.managers.now) (g.W.Writer.form c.args.writer.now)) _ _ c.before_newline-front.result _ _ _ _ _ _ (omega arith) c.args.talk.now.fits
    c.before_newline-front.ensures.within c.before_newline-front.ensures.none (omega arith) c.end-then-front-len.ensures

pub returns-in-Ok-extend_from_slice-clause-fed : goal.returns-in-Ok-extend_from_slice-clause-fed
returns-in-Ok-extend_from_slice-clause-fed g c =
    let front = c.before_newline-front.result in
    let bytes = c.args.bytes.now in
    fed_in_line _ _ _ (take front bytes) _ (omega arith) c.before_newline-front.ensures.none
    (omega (arith, length-take-le front bytes c.before_newline-front.ensures.within, c.args.talk.now.fits)) refl refl refl
    c.in-Ok-extend_from_slice.ensures.items

pub returns-in-Err-extend_from_slice-clause-stopped : goal.returns-in-Err-extend_from_slice-clause-stopped
returns-in-Err-extend_from_slice-clause-stopped g c =
    stopped_first _ (all_settled ((ghosts g.dyn-1 g.dyn-2 g.dyn-3 g.dyn-4).table c.args.talk.now.session.managers.now) (g.W.Writer.form c.args.writer.now)) _ _ _ _ _ c.requires.some (λ byte at. full_byte _ _ byte _ _ _ _ _ _ c.end-in-Err-extend_from_slice.ensures)
