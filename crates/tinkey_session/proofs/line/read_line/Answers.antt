use Rattle.std.proofs.Common.{◌≡◌, subst, IfOk}
use Rattle.tinkey_session.proofs.ReadingLemmas.{other_line, text_line}
use Rattle.tinkey_session.proofs.WithinLemmas.{all_within}
use Rattle.tinkey_session.specs.Reading.{seen_line}
use Rattle.tinkey_session.proofs.line.read_line.Goals as goal

pub returns-in-Ok : goal.returns-in-Ok
returns-in-Ok c =
    let read = subst (λ line. IfOk c.read_words.result (λ read. seen_line read ≡ line)) (text_line _ _ c.in-Ok.ensures.cases.0 c.in-Ok.ensures.cases.1) c.read_words.ensures in
    record { read = read; within = all_within seen_line c.args.line.now c.read_words.result read }

pub returns-in-Err-clause-read : goal.returns-in-Err-clause-read
returns-in-Err-clause-read c = other_line _ c.in-Err.ensures.cases.0
