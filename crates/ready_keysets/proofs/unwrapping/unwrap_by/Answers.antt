use Rattle.key_msgs.specs.declared.primitive.Primitive.TheVariants.{Aead}
use Rattle.managers.specs.Standard.{standard_table}
use Rattle.seal_wrap.specs.Unwrapped.{unwrap_of}
use Rattle.wrapped_prims.specs.Fitness.{unfit}
use Rattle.ready_keysets.proofs.UnwrapLemmas.{not_unwrapped_by_fit, unwrapped_by_fit}
use Rattle.ready_keysets.proofs.unwrapping.unwrap_by.Goals as goal

pub returns-in-Ok : goal.returns-in-Ok
returns-in-Ok g c = λ master over.
    unwrapped_by_fit (unfit master Aead standard_table) (unwrap_of master standard_table c.args.encrypted.now c.args.json)
    c.in-Ok.keyset over.fit (rw c.requires.table at (c.in-Ok.ensures.keyset master (rw c.requires.table over)))

pub returns-in-Err : goal.returns-in-Err
returns-in-Err g c = λ master over.
    rw c.refusal.ensures (
    not_unwrapped_by_fit (unfit master Aead standard_table) (unwrap_of master standard_table c.args.encrypted.now c.args.json)
    c.in-Err.fault over.fit (rw c.requires.table at (c.in-Err.ensures.keyset master (rw c.requires.table over))))
