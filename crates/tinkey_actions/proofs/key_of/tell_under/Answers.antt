use Rattle.std.proofs.Common.{List, ℕ, take, drop}
use Rattle.tinkey_plans.proofs.StepLemmas.{ends_there, passes_then}
use Rattle.tinkey_plans.specs.KeyOf.{key_of_answer, with_lines}
use Rattle.tinkey_plans.specs.Plan.{reads_front}
use Rattle.tinkey_actions.proofs.key_of.tell_under.Goals as goal

pub returns-in_err-n-in-Text : goal.returns-in_err-n-in-Text
returns-in_err-n-in-Text g c = λ w.
    rw c.in-Text.is (ends_there (reads_front 5) (λ (bytes : List ℕ). with_lines (key_of_answer c.args.keyset.now bytes)) _ _ _ _ c.from_residual.ensures.1 (c.in_err-n-in-Text.ensures.passes w))

pub returns-in_err-n-in-Envelope : goal.returns-in_err-n-in-Envelope
returns-in_err-n-in-Envelope g c = λ w.
    rw c.in-Envelope.is (ends_there (reads_front 9) (λ (bytes : List ℕ). with_lines (key_of_answer c.args.keyset.now (drop 4 bytes))) _ _ _ _ c.from_residual-in_err-n-in-Envelope.ensures.1 (c.in_err-n-in-Envelope.ensures.passes w))

pub returns-in_ok-n-in-Text : goal.returns-in_ok-n-in-Text
returns-in_ok-n-in-Text g c = λ w.
    let old = record w { source = g.S.Source.state c.args.source.now } in
    let new = record w { source = g.S.Source.state c.read_front.new.source } in
    rw c.in-Text.is (passes_then (reads_front 5) (λ (bytes : List ℕ). with_lines (key_of_answer c.args.keyset.now bytes)) old new new (take c.in_ok-n-in-Text.n c.read_front.new.front) c.lines_of.result
    (c.in_ok-n-in-Text.ensures.passes w) (c.lines_of.ensures new))

pub returns-in_ok-n-in-Envelope : goal.returns-in_ok-n-in-Envelope
returns-in_ok-n-in-Envelope g c = λ w.
    let old = record w { source = g.S.Source.state c.args.source.now } in
    let new = record w { source = g.S.Source.state c.read_front-in-Envelope.new.source } in
    rw c.in-Envelope.is (passes_then (reads_front 9) (λ (bytes : List ℕ). with_lines (key_of_answer c.args.keyset.now (drop 4 bytes))) old new new (take c.in_ok-n-in-Envelope.n c.read_front-in-Envelope.new.front) c.lines_of-in-Envelope.result
    (c.in_ok-n-in-Envelope.ensures.passes w) (rw c.behind_length.ensures at (c.lines_of-in-Envelope.ensures new)))

pub returns-in-Stream : goal.returns-in-Stream
returns-in-Stream g c = λ w. rw c.in-Stream.is (c.tell_stream.ensures w)
