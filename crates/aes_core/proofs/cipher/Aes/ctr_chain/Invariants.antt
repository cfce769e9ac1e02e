use Rattle.std.proofs.Common.{◌*◌, take}
use Rattle.aes_core.specs.declared.counter.CtrKind.TheVariants.{All128}
use Rattle.aes_core.proofs.ChainLemmas.{IsChained}
use Rattle.aes_core.proofs.CounterBlocks.{IsDone}
use Rattle.aes_core.proofs.CounterMode.{output_byte}
use Rattle.aes_core.proofs.cipher.Aes.ctr_chain.Given as goal

-- the blocks before i are done, and all but the last of them are chained
abbrev pub invariant-loop-i : goal.invariant-loop-i
invariant-loop-i l = record {
  text : IsDone (output_byte l.self l.start All128) l.initial.body l.body (16 * l.i);
  chain : IsChained l.mac l.fn.last l.fn.held (take (16 * l.i) l.body) l.block l.chain;
}
