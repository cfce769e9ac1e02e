use Rattle.std.proofs.Common.{Some}
use Rattle.tinkey_plans.specs.Streaming.{begins_file, passes_stream}
use Rattle.tinkey_words.specs.Words.{seen_datum}
use Rattle.tinkey_actions.proofs.LockLemmas.{finished_there, finishes_then}
use Rattle.tinkey_actions.proofs.StreamFileLemmas.{filed_ends}
use Rattle.tinkey_actions.proofs.stream_file.put_into_file.Goals as goal

pub returns-in_err-begin_file : goal.returns-in_err-begin_file
returns-in_err-begin_file g c = λ w.
    let old = record w { source = g.S.Source.state c.args.source.now; entropy = g.E.Entropy.state c.args.entropy.now } in
    let out = Some c.args.name.now in
    finished_there {A = Unit {0}} (λ next. begins_file out (next tt)) (λ begun. passes_stream c.args.work c.args.keys.now (seen_datum c.args.ad) out) _ _ _ _ c.from_residual.ensures.1 (c.in_err-begin_file.ensures.passes old)

pub returns : goal.returns
returns g c = λ w.
    let behind = record w { source = g.S.Source.state c.args.source.now; entropy = g.E.Entropy.state c.args.entropy.now } in
    let old = record behind { store = g.D.Store.state c.args.store.now } in
    let mid = record behind { store = g.D.Store.state c.begin_file.new.store } in
    let source = g.S.Source.state c.pass_into_draft-passed.new.source in
    let entropy = g.E.Entropy.state c.pass_into_draft-passed.new.entropy in
    let new = record mid { source = source; store = g.D.Store.state c.close_file.new.store; entropy = entropy } in
    let out = Some c.args.name.now in
    let passed = c.pass_into_draft-passed.ensures in
    finishes_then {A = Unit {0}} (λ next. begins_file out (next tt)) (λ begun. passes_stream c.args.work c.args.keys.now (seen_datum c.args.ad) out) old mid new tt c.close_file.result (c.in_ok-begin_file.ensures.passes behind)
    (filed_ends c.args.work c.args.keys.now (seen_datum c.args.ad) mid source entropy (record {
      begun = c.in_ok-begin_file.ensures.begun;
      named = passed.name;
      files = passed.files;
      given = passed.given;
      undone = passed.undone;
      closed = c.close_file.ensures;
    }) (passed.finishes mid))
