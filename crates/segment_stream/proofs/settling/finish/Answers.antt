use Rattle.std.proofs.Common.{List, ℕ, length, subst, sym, take}
use Rattle.std.specs.Vec.{vec_capacity}
use Rattle.segment_stream.specs.Arriving.{FitsAt, IsTrying, IsUnderKey, StandsAt}
use Rattle.segment_stream.specs.Segments.{ciphers_of}
use Rattle.segment_stream.specs.declared.settling.Stage.{Stage}
use Rattle.segment_stream.proofs.ArrivingEnds.{tried_halted, tried_opened, under_halted, under_opened}
use Rattle.segment_stream.proofs.Followed.{err_more, on_ok_more}
use Rattle.segment_stream.proofs.settling.finish.Goals as goal

pub finish_under-requires-clause-some : goal.finish_under-requires-clause-some
finish_under-requires-clause-some g c =
    (subst (λ (k : Stage). FitsAt (length c.args.keys.now) (vec_capacity c.args.buffer.now.bytes) k) c.in-Under.is c.requires.stage).0

pub finish_under-requires-clause-least : goal.finish_under-requires-clause-least
finish_under-requires-clause-least g c =
    (subst (λ (k : Stage). FitsAt (length c.args.keys.now) (vec_capacity c.args.buffer.now.bytes) k) c.in-Under.is c.requires.stage).2

pub finish_under-requires-clause-most : goal.finish_under-requires-clause-most
finish_under-requires-clause-most g c =
    (subst (λ (k : Stage). FitsAt (length c.args.keys.now) (vec_capacity c.args.buffer.now.bytes) k) c.in-Under.is c.requires.stage).3

pub finish_first-requires-clause-tried : goal.finish_first-requires-clause-tried
finish_first-requires-clause-tried g c =
    subst (λ (k : Stage). FitsAt (length c.args.keys.now) (vec_capacity c.args.buffer.now.bytes) k) c.in-Trying.is c.requires.stage

pub returns-in-Under-clause-opened : goal.returns-in-Under-clause-opened
returns-in-Under-clause-opened g c =
    let cs = ciphers_of c.args.ad.now c.args.keys.now in
    on_ok_more c.finish_under.result _ _
    (λ said taken written x. under_opened cs c.in-Under.stream c.in-Under.number taken _ written _ _
    (subst (λ (l : List ℕ). IsUnderKey cs c.in-Under.stream c.in-Under.number taken (take c.args.held l) written) (sym c.as_mut_slice-bytes.ensures.value)
    (subst (λ (k : Stage). StandsAt cs k taken (take c.args.held c.args.buffer.now.bytes.items) written) c.in-Under.is x)) said)
    c.finish_under.ensures.opened

pub returns-in-Under-clause-fault : goal.returns-in-Under-clause-fault
returns-in-Under-clause-fault g c =
    let cs = ciphers_of c.args.ad.now c.args.keys.now in
    err_more c.finish_under.result _ _
    (λ fault said taken written x. under_halted cs c.in-Under.stream c.in-Under.number taken _ written fault _ _
    (subst (λ (l : List ℕ). IsUnderKey cs c.in-Under.stream c.in-Under.number taken (take c.args.held l) written) (sym c.as_mut_slice-bytes.ensures.value)
    (subst (λ (k : Stage). StandsAt cs k taken (take c.args.held c.args.buffer.now.bytes.items) written) c.in-Under.is x)) said)
    c.finish_under.ensures.fault

pub returns-in-Trying-clause-opened : goal.returns-in-Trying-clause-opened
returns-in-Trying-clause-opened g c =
    let cs = ciphers_of c.args.ad.now c.args.keys.now in
    on_ok_more c.finish_first.result _ _
    (λ said taken written t. tried_opened cs c.in-Trying.tried taken _ written _ _
    (subst (λ (l : List ℕ). IsTrying cs c.in-Trying.tried taken (take c.args.held l) written) (sym c.as_mut_slice-bytes.ensures.value)
    (subst (λ (k : Stage). StandsAt cs k taken (take c.args.held c.args.buffer.now.bytes.items) written) c.in-Trying.is t)) said)
    c.finish_first.ensures.opened

pub returns-in-Trying-clause-fault : goal.returns-in-Trying-clause-fault
returns-in-Trying-clause-fault g c =
    let cs = ciphers_of c.args.ad.now c.args.keys.now in
    err_more c.finish_first.result _ _
    (λ fault said taken written t. tried_halted cs c.in-Trying.tried taken _ written fault _ _
    (subst (λ (l : List ℕ). IsTrying cs c.in-Trying.tried taken (take c.args.held l) written) (sym c.as_mut_slice-bytes.ensures.value)
    (subst (λ (k : Stage). StandsAt cs k taken (take c.args.held c.args.buffer.now.bytes.items) written) c.in-Trying.is t)) said)
    c.finish_first.ensures.fault
