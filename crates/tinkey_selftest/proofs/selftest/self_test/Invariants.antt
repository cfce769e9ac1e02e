-- The trial is that after the lines so far, and the generator stands behind their words.
use Rattle.std.proofs.Common.{◌≡◌, ◌≤◌, ◌*◌, ◌-◌, length, IfSome}
use Rattle.managers.specs.Table.{Table}
use Rattle.managers.specs.contracts.table.ManagersKeyTable.TheImpl.{ghosts}
use Rattle.rand_chacha.specs.ChaCha.{key_of}
use Rattle.tinkey_selftest.specs.Numbers.{seed_bytes}
use Rattle.tinkey_selftest.specs.Ready.{IsReady, trial_of}
use Rattle.tinkey_selftest.specs.Trial.{after_lines, start}
use Rattle.tinkey_session.specs.Keeping.{IsKept}
use Rattle.tinkey_selftest.proofs.selftest.self_test.Given as goal

abbrev pub invariant-loop-line : goal.invariant-loop-line
invariant-loop-line g l =
    let table : Table = (ghosts g.dyn-1 g.dyn-2 g.dyn-3 g.dyn-4).table l.managers in
    let own : Table = (ghosts g.dyn-1 g.dyn-2 g.dyn-3 g.dyn-4).table l.trial.session.managers.now in
    record {
      kept : IfSome l.trial.session.kept (λ h. IsKept own ((ghosts g.dyn-1 g.dyn-2 g.dyn-3 g.dyn-4).table h.managers.now) h.primitive l.trial.session.keyset h.held);
      managers : own ≡ table;
      ready : IsReady l.trial.session.keyset l.trial.entropy l.trial.sealings.items;
      enough : 320 * (l.lines - l._line) ≤ length l.trial.entropy.left;
      trial : trial_of l.trial.session.keyset l.trial.sealings.items l.trial.entropy.left l.trial.counts
          ≡ after_lines table l.seed (start l.initial.trial.session.keyset l.initial.trial.entropy.left) l._line;
      generator : l.generator ≡ record { key = key_of (seed_bytes l.seed 0); stream = 0; word_pos = 4 * l._line };
    }
