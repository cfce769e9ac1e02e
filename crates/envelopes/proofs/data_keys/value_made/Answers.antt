use Rattle.envelopes.proofs.DataKeyLemmas.{lists-made}
use Rattle.key_msgs.specs.Templates.{seen}
use Rattle.envelopes.proofs.data_keys.value_made.Goals as goal

pub write_key-requires : goal.write_key-requires
write_key-requires c = record { lists_bound = lists-made (seen c.args.template.now) c.args.random.now _ c.requires.template c.requires.size c.in_ok-key.ensures }
