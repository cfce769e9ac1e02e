-- That a command asks for keys of the primitive of its row.
use Rattle.std.proofs.Common.{◌≡◌, Option, Some, None}
use Rattle.key_msgs.specs.declared.primitive.Primitive.{Primitive}
use Rattle.key_msgs.specs.declared.primitive.Primitive.TheVariants as primitives
use Rattle.tinkey_words.specs.Grammar.{KeysAreAsked, NeedsKeys, UsesKeys}
use Rattle.tinkey_words.specs.Names.{primitive_of}
use Rattle.tinkey_words.specs.Words.{Values, asked_by}
use Rattle.tinkey_words.specs.declared.words.names.CommandName.{CommandName}
use Rattle.tinkey_words.specs.declared.words.names.CommandName.TheVariants as commands

same_primitive : (a b : Primitive) → Some a ≡ Some b → a ≡ b
same_primitive a b is = cc

asked_keys : (command : CommandName) (values : Values) (primitive : Primitive) → primitive_of command ≡ Some primitive → NeedsKeys (asked_by command values) primitive
asked_keys commands.CreateKeyset values primitive is = absurd (cc)
asked_keys commands.AddKey values primitive is = absurd (cc)
asked_keys commands.RotateKeyset values primitive is = absurd (cc)
asked_keys commands.PromoteKey values primitive is = absurd (cc)
asked_keys commands.EnableKey values primitive is = absurd (cc)
asked_keys commands.DisableKey values primitive is = absurd (cc)
asked_keys commands.DestroyKey values primitive is = absurd (cc)
asked_keys commands.DeleteKey values primitive is = absurd (cc)
asked_keys commands.ListKeyset values primitive is = absurd (cc)
asked_keys commands.ConvertKeyset values primitive is = absurd (cc)
asked_keys commands.ListKeyTemplates values primitive is = absurd (cc)
asked_keys commands.Seal values primitive is = same_primitive primitives.Aead primitive is
asked_keys commands.Open values primitive is = same_primitive primitives.Aead primitive is
asked_keys commands.Dseal values primitive is = same_primitive primitives.Daead primitive is
asked_keys commands.Dopen values primitive is = same_primitive primitives.Daead primitive is
asked_keys commands.Reseal values primitive is = same_primitive primitives.Aead primitive is
asked_keys commands.Dreseal values primitive is = same_primitive primitives.Daead primitive is
asked_keys commands.Sseal values primitive is = same_primitive primitives.Stream primitive is
asked_keys commands.Sopen values primitive is = same_primitive primitives.Stream primitive is
asked_keys commands.Sreseal values primitive is = same_primitive primitives.Stream primitive is
asked_keys commands.Tag values primitive is = same_primitive primitives.Mac primitive is
asked_keys commands.Verify values primitive is = same_primitive primitives.Mac primitive is
asked_keys commands.Derive values primitive is = same_primitive primitives.Prf primitive is
asked_keys commands.Session values primitive is = absurd (cc)
asked_keys commands.Selftest values primitive is = absurd (cc)
asked_keys commands.WrapKeyset values primitive is = same_primitive primitives.Aead primitive is
asked_keys commands.UnwrapKeyset values primitive is = same_primitive primitives.Aead primitive is
asked_keys commands.Eseal values primitive is = same_primitive primitives.Aead primitive is
asked_keys commands.Eopen values primitive is = same_primitive primitives.Aead primitive is
asked_keys commands.Ereseal values primitive is = same_primitive primitives.Aead primitive is
asked_keys commands.Srange values primitive is = same_primitive primitives.Stream primitive is
asked_keys commands.KeyOf values primitive is = absurd (cc)

none_used : (command : CommandName) (values : Values) → primitive_of command ≡ None → UsesKeys (asked_by command values) → ⊥
none_used commands.CreateKeyset values is uses = absurd uses
none_used commands.AddKey values is uses = absurd uses
none_used commands.RotateKeyset values is uses = absurd uses
none_used commands.PromoteKey values is uses = absurd uses
none_used commands.EnableKey values is uses = absurd uses
none_used commands.DisableKey values is uses = absurd uses
none_used commands.DestroyKey values is uses = absurd uses
none_used commands.DeleteKey values is uses = absurd uses
none_used commands.ListKeyset values is uses = absurd uses
none_used commands.ConvertKeyset values is uses = absurd uses
none_used commands.ListKeyTemplates values is uses = absurd uses
none_used commands.Seal values is uses = absurd (cc)
none_used commands.Open values is uses = absurd (cc)
none_used commands.Dseal values is uses = absurd (cc)
none_used commands.Dopen values is uses = absurd (cc)
none_used commands.Reseal values is uses = absurd (cc)
none_used commands.Dreseal values is uses = absurd (cc)
none_used commands.Sseal values is uses = absurd (cc)
none_used commands.Sopen values is uses = absurd (cc)
none_used commands.Sreseal values is uses = absurd (cc)
none_used commands.Tag values is uses = absurd (cc)
none_used commands.Verify values is uses = absurd (cc)
none_used commands.Derive values is uses = absurd (cc)
none_used commands.Session values is uses = absurd uses
none_used commands.Selftest values is uses = absurd uses
none_used commands.WrapKeyset values is uses = absurd (cc)
none_used commands.UnwrapKeyset values is uses = absurd (cc)
none_used commands.Eseal values is uses = absurd (cc)
none_used commands.Eopen values is uses = absurd (cc)
none_used commands.Ereseal values is uses = absurd (cc)
none_used commands.Srange values is uses = absurd (cc)
none_used commands.KeyOf values is uses = absurd uses

pub keys_are_asked : KeysAreAsked
keys_are_asked = record { asked = asked_keys; none = none_used }
