-- Keysets that are created by the templates that list-key-templates --for names.
use Rattle.std.proofs.Common.{◌≡◌, refl, subst, true}
use Rattle.key_msgs.specs.KeyTypes.{primitive_of_type}
use Rattle.key_msgs.specs.Templates.{type_made}
use Rattle.key_msgs.specs.declared.primitive.Primitive.{Primitive}
use Rattle.key_msgs.specs.declared.primitive.Primitive.TheVariants.{Aead, Daead, Mac, Prf, Stream}
use Rattle.tinkey_plans.specs.Commands.{is_primitive}
use Rattle.tinkey_readable.proofs.RunLemmas.{template_row}
use Rattle.tinkey_readable.proofs.StreamKeyLemmas.{sound_fit}
use Rattle.tinkey_readable.specs.ServingTemplates.{StreamTemplatesServe, TemplatesServe}
use Rattle.tinkey_session.specs.Laws.{FirstsAreSound, IsSound, SoundIsUsable}

same_primitive : (a b : Primitive) → is_primitive a b ≡ true → a ≡ b
same_primitive Aead Aead is = refl
same_primitive Aead Daead is = absurd (cc)
same_primitive Aead Mac is = absurd (cc)
same_primitive Aead Prf is = absurd (cc)
same_primitive Aead Stream is = absurd (cc)
same_primitive Daead Aead is = absurd (cc)
same_primitive Daead Daead is = refl
same_primitive Daead Mac is = absurd (cc)
same_primitive Daead Prf is = absurd (cc)
same_primitive Daead Stream is = absurd (cc)
same_primitive Mac Aead is = absurd (cc)
same_primitive Mac Daead is = absurd (cc)
same_primitive Mac Mac is = refl
same_primitive Mac Prf is = absurd (cc)
same_primitive Mac Stream is = absurd (cc)
same_primitive Prf Aead is = absurd (cc)
same_primitive Prf Daead is = absurd (cc)
same_primitive Prf Mac is = absurd (cc)
same_primitive Prf Prf is = refl
same_primitive Prf Stream is = absurd (cc)
same_primitive Stream Aead is = absurd (cc)
same_primitive Stream Daead is = absurd (cc)
same_primitive Stream Mac is = absurd (cc)
same_primitive Stream Prf is = absurd (cc)
same_primitive Stream Stream is = refl

pub templates_serve : (primitive : Primitive) → SoundIsUsable primitive → FirstsAreSound → TemplatesServe primitive
templates_serve primitive usable firsts template random new created makes =
    let sound = firsts new created.row random created.stepped (template_row template created.row created.named) created.steps created.accepted in
    (usable new sound.keyset).1 (subst (λ (p : Primitive). IsSound p new) (same_primitive (primitive_of_type (type_made created.row)) primitive makes) sound)

pub stream_templates_serve : FirstsAreSound → StreamTemplatesServe
stream_templates_serve firsts template random new created makes =
    let sound = firsts new created.row random created.stepped (template_row template created.row created.named) created.steps created.accepted in
    sound_fit new (subst (λ (p : Primitive). IsSound p new) (same_primitive (primitive_of_type (type_made created.row)) Stream makes) sound)
