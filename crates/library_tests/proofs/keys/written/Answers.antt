use Rattle.std.proofs.Common.{◌^◌}
use Rattle.key_msgs.proofs.Made.{made-within}
use Rattle.library_tests.proofs.keys.written.Goals as goal
use Rattle.key_msgs.specs.Templates.{seen}

pub write_key-requires : goal.write_key-requires
write_key-requires c = rw c.in_ok-key.ensures (record { lists_bound = made-within (2 ^ 30) (seen c.args.template.now).recipe c.args.random.now c.requires.random_bound })
