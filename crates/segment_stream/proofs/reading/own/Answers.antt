use Rattle.std.proofs.Common.{subst}
use Rattle.key_msgs.specs.Keys.{IsValid}
use Rattle.key_msgs.specs.declared.key.KeyKind.{KeyKind}
use Rattle.segment_stream.proofs.KeyLemmas.{ctr_stream-sound}
use Rattle.segment_stream.proofs.reading.own.Goals as goal

pub returns-in-CtrStream-clause-sound : goal.returns-in-CtrStream-clause-sound
returns-in-CtrStream-clause-sound c =
    let k = c.in-CtrStream in
    ctr_stream-sound k.key k.segment k.derived k.hash k.mac_hash k.tag_size
    (subst (λ (kind : KeyKind). IsValid kind) k.is c.requires)
