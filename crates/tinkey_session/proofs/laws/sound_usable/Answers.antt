use Rattle.std.proofs.Common.{refl}
use Rattle.key_msgs.specs.declared.primitive.Primitive.TheVariants.{Aead, Daead, Mac}
use Rattle.tinkey_session.proofs.UsableLemmas.{sound_is_usable}
use Rattle.tinkey_session.proofs.laws.sound_usable.Goals as goal

pub returns : goal.returns
returns c = record {
  aead = sound_is_usable Aead refl (λ r. refl);
  daead = sound_is_usable Daead refl (λ r. refl);
  mac = sound_is_usable Mac refl (λ r. refl);
}
