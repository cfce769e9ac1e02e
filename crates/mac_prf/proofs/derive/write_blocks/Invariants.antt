-- As many blocks as were counted are written, the last one as far as `out` goes.
use Rattle.std.proofs.Common.{◌≡◌, ◌*◌, ◌-◌, ◌<◌, ◌≤◌, ◌++◌, [], List, ℕ, drop, length, take}
use Rattle.tink_base.specs.Hash.{hash_size}
use Rattle.tink_base.specs.declared.hash.Hash.{Hash}
use Rattle.mac_prf.specs.Hkdf.{blocks}
use Rattle.mac_prf.specs.HmacState.{hash_of, Holds}
use Rattle.mac_prf.proofs.derive.write_blocks.Given as goal

abbrev pub invariant-loop-written : goal.invariant-loop-written
invariant-loop-written l =
    (l.written ≤ length l.initial.out)
    × (l.written ≤ l.number * hash_size (hash_of l.prk))
    × (l.written < length l.initial.out → l.written ≡ l.number * hash_size (hash_of l.prk))
    × ((hash : Hash) (key : List ℕ) → Holds l.prk hash key []
    → l.out ≡ take l.written (blocks hash key l.info l.number) ++ drop l.written l.initial.out)

abbrev pub decreases-loop-written : goal.decreases-loop-written
decreases-loop-written l = length l.initial.out - l.written
