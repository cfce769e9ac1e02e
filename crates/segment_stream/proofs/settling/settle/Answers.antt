use Rattle.std.proofs.Common.{◌∙◌, List, ℕ, sym, subst, take, length, arith}
use Rattle.std.specs.Vec.{vec_capacity}
use Rattle.std.proofs.lemmas.List.{with_items_is}
use Rattle.segment_stream.specs.Arriving.{FitsAt, IsTrying, IsUnderKey, StandsAt}
use Rattle.segment_stream.specs.Segments.{ciphers_of}
use Rattle.segment_stream.specs.Settling.{SettledOn}
use Rattle.segment_stream.specs.declared.settling.Stage.{Stage}
use Rattle.segment_stream.proofs.Followed.{err_more, ok_more}
use Rattle.segment_stream.proofs.settling.settle.Goals as goal

pub settle_under-requires-clause-some : goal.settle_under-requires-clause-some
settle_under-requires-clause-some g c =
    (subst (λ (k : Stage). FitsAt (length c.args.keys.now) (vec_capacity c.args.buffer.now.bytes) k) c.in-Under.is c.requires.stage).0

pub settle_under-requires-clause-least : goal.settle_under-requires-clause-least
settle_under-requires-clause-least g c =
    (subst (λ (k : Stage). FitsAt (length c.args.keys.now) (vec_capacity c.args.buffer.now.bytes) k) c.in-Under.is c.requires.stage).2

pub settle_under-requires-clause-most : goal.settle_under-requires-clause-most
settle_under-requires-clause-most g c =
    (subst (λ (k : Stage). FitsAt (length c.args.keys.now) (vec_capacity c.args.buffer.now.bytes) k) c.in-Under.is c.requires.stage).3

pub settle_first-requires-clause-tried : goal.settle_first-requires-clause-tried
settle_first-requires-clause-tried g c =
    subst (λ (k : Stage). FitsAt (length c.args.keys.now) (vec_capacity c.args.buffer.now.bytes) k) c.in-Trying.is c.requires.stage

pub returns-in-Under-clause-fits : goal.returns-in-Under-clause-fits
returns-in-Under-clause-fits g c =
    let f = subst (λ (k : Stage). FitsAt (length c.args.keys.now) (vec_capacity c.args.buffer.now.bytes) k) c.in-Under.is c.requires.stage in
    ok_more c.settle_under.result _ _ (λ r said. said (length c.args.keys.now) (vec_capacity c.args.buffer.now.bytes) f.1) c.settle_under.ensures.fits

pub returns-in-Under-clause-short : goal.returns-in-Under-clause-short
returns-in-Under-clause-short g c =
    let f = subst (λ (k : Stage). FitsAt (length c.args.keys.now) (vec_capacity c.args.buffer.now.bytes) k) c.in-Under.is c.requires.stage in
    ok_more c.settle_under.result _ _ (λ r said. omega (arith, said, f.1)) c.settle_under.ensures.short

pub returns-in-Under-clause-within : goal.returns-in-Under-clause-within
returns-in-Under-clause-within g c =
    ok_more c.settle_under.result _ _ (λ r said. omega (arith, said, c.as_mut_slice-bytes.ensures.len)) c.settle_under.ensures.within

pub returns-in-Under-clause-settled : goal.returns-in-Under-clause-settled
returns-in-Under-clause-settled g c =
    let cs = ciphers_of c.args.ad.now c.args.keys.now in
    let items = with_items_is c.args.buffer.now.bytes c.settle_under.new.buffer (c.settle_under.auto.buffer ∙ c.as_mut_slice-bytes.ensures.len) in
    ok_more c.settle_under.result _ _
    (λ r said taken written x.
    subst (λ (l : List ℕ). SettledOn cs r.0 taken (take r.1 l) written (g.K.Sink.state c.args.sink.now) (g.K.Sink.state c.settle_under.new.sink)) (sym items)
    (said cs taken written
    (subst (λ (l : List ℕ). IsUnderKey cs c.in-Under.stream c.in-Under.number taken (take c.args.held l) written) (sym c.as_mut_slice-bytes.ensures.value)
    (subst (λ (k : Stage). StandsAt cs k taken (take c.args.held c.args.buffer.now.bytes.items) written) c.in-Under.is x))))
    c.settle_under.ensures.settled

pub returns-in-Under-clause-fault : goal.returns-in-Under-clause-fault
returns-in-Under-clause-fault g c =
    let cs = ciphers_of c.args.ad.now c.args.keys.now in
    err_more c.settle_under.result _ _
    (λ fault said taken written x. said cs taken written
    (subst (λ (l : List ℕ). IsUnderKey cs c.in-Under.stream c.in-Under.number taken (take c.args.held l) written) (sym c.as_mut_slice-bytes.ensures.value)
    (subst (λ (k : Stage). StandsAt cs k taken (take c.args.held c.args.buffer.now.bytes.items) written) c.in-Under.is x)))
    c.settle_under.ensures.fault

pub returns-in-Trying-clause-within : goal.returns-in-Trying-clause-within
returns-in-Trying-clause-within g c =
    ok_more c.settle_first.result _ _ (λ r said. omega (arith, said, c.as_mut_slice-bytes.ensures.len)) c.settle_first.ensures.within

pub returns-in-Trying-clause-fits : goal.returns-in-Trying-clause-fits
returns-in-Trying-clause-fits g c = c.settle_first.ensures.fits (vec_capacity c.args.buffer.now.bytes) c.requires.below

pub returns-in-Trying-clause-short : goal.returns-in-Trying-clause-short
returns-in-Trying-clause-short g c = c.settle_first.ensures.short (vec_capacity c.args.buffer.now.bytes) c.requires.below

pub returns-in-Trying-clause-settled : goal.returns-in-Trying-clause-settled
returns-in-Trying-clause-settled g c =
    let cs = ciphers_of c.args.ad.now c.args.keys.now in
    let items = with_items_is c.args.buffer.now.bytes c.settle_first.new.buffer (c.settle_first.auto.buffer ∙ c.as_mut_slice-bytes.ensures.len) in
    ok_more c.settle_first.result _ _
    (λ r said taken written t.
    subst (λ (l : List ℕ). SettledOn cs r.0 taken (take r.1 l) written (g.K.Sink.state c.args.sink.now) (g.K.Sink.state c.settle_first.new.sink)) (sym items)
    (said taken written
    (subst (λ (l : List ℕ). IsTrying cs c.in-Trying.tried taken (take c.args.held l) written) (sym c.as_mut_slice-bytes.ensures.value)
    (subst (λ (k : Stage). StandsAt cs k taken (take c.args.held c.args.buffer.now.bytes.items) written) c.in-Trying.is t))))
    c.settle_first.ensures.settled

pub returns-in-Trying-clause-fault : goal.returns-in-Trying-clause-fault
returns-in-Trying-clause-fault g c =
    let cs = ciphers_of c.args.ad.now c.args.keys.now in
    err_more c.settle_first.result _ _
    (λ fault said taken written t. said taken written
    (subst (λ (l : List ℕ). IsTrying cs c.in-Trying.tried taken (take c.args.held l) written) (sym c.as_mut_slice-bytes.ensures.value)
    (subst (λ (k : Stage). StandsAt cs k taken (take c.args.held c.args.buffer.now.bytes.items) written) c.in-Trying.is t)))
    c.settle_first.ensures.fault
