use Rattle.key_msgs.specs.declared.primitive.Primitive.TheVariants.{Aead, Daead, Mac}
use Rattle.tinkey_readable.proofs.TemplateLemmas.{stream_templates_serve, templates_serve}
use Rattle.tinkey_readable.proofs.laws.templates_serve.Goals as goal

pub returns : goal.returns
returns c = record {
  aead = templates_serve Aead c.sound_usable.ensures.aead c.sound_kept.ensures.firsts;
  daead = templates_serve Daead c.sound_usable.ensures.daead c.sound_kept.ensures.firsts;
  mac = templates_serve Mac c.sound_usable.ensures.mac c.sound_kept.ensures.firsts;
  streams = stream_templates_serve c.sound_kept.ensures.firsts;
}
