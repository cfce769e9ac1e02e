-- A stream may go to another thread, since what it holds may, and the memory that it lies in.
use mir.Raw.{raw}
use base.Shift.{Keyless}
use denote.Memory.{lone}
use denote.RawPtr.{Ptr}
use denote.Struct.Struct.{exits_of}
use denote.Struct.Owning.{shape, fields, to}
use denote.Param.Send.{IsSend, AllSend, owning_send, struct_send, sendable}
use Rattle.std.specs.Prelude.{Option, Some, None}
use Rattle.std.proofs.Crossing as heap
use Rattle.std_alloc.proofs.SendSync.{quiet, lies}
use Rattle.std.specs.contracts.impls.GlobalAllocator.TheImpl.{ghosts}
use Rattle.ready_keysets.specs.contracts.objects.StreamObject as inner
use Rattle.ready_keysets.proofs.objects.StreamObject.TheSendSync.{the_send}
use Rattle.ready_keysets.specs.declared.objects.StreamObject.{StreamObject}
use Rattle.tinkey_c.specs.Shared.{lies_whole}
use Rattle.tinkey_c.specs.contracts.shared_stream.SharedStream.{the_row, the_type}

held : (p : Ptr) (o : Option StreamObject) → Keyless (lies_whole (ghosts.dealloc_token (record { memory = record { seal = tt } })) inner.the_row p o)
held p None = tt
held p (Some x) = (lies inner.the_row the_send p x, heap.frees.frees (record { memory = record { seal = tt } }) (raw (lone inner.the_row.mir)) p)

pub send : IsSend the_row
send =
    let all : AllSend (fields the_type) = (search sendable, tt) in
    owning_send the_type all (λ d. held d.at d.held)
    (λ k. quiet (to the_type) (exits_of k (fields the_type)) ((struct_send (shape the_type) all).leaving k))
