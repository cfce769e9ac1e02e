-- What the second line of a status advises, by the status alone, without its front.
use Rattle.std.specs.Prelude.{ℕ, List, [], codes}
use Rattle.keyset_model.specs.declared.keyset.KeysetRefusal.{KeysetRefusal}
use Rattle.keyset_model.specs.declared.keyset.KeysetRefusal.TheVariants as faults
use Rattle.tinkey_cmds.specs.declared.command.EditRefusal.{EditRefusal}
use Rattle.tinkey_cmds.specs.declared.command.EditRefusal.TheVariants as edits
use Rattle.tinkey_session.specs.declared.reply.Refusal.{Refusal}
use Rattle.tinkey_session.specs.declared.reply.Refusal.TheVariants as refused
use Rattle.tinkey_plans.specs.declared.status.Status.{Status}
use Rattle.tinkey_plans.specs.declared.status.Status.TheVariants as status

-- of an edit that is refused
unfoldable pub edit_advice : EditRefusal → List ℕ
edit_advice edits.KeyNotFound = codes "list-keyset shows the ids of the keys"
edit_advice edits.KeyIsPrimary =
    codes "make another key the primary first: promote-key, or rotate-keyset"
edit_advice edits.KeyNotEnabled =
    codes "only an ENABLED key can be the primary: enable-key enables a DISABLED one"
edit_advice edits.KeyDestroyed = codes "its key material is gone, and no command brings it back"
edit_advice (edits.KeyRefused rule) = []
edit_advice edits.MixedPrimitive =
    codes "all keys of a keyset do one kind of work: make another keyset for this one"
edit_advice edits.IdsExhausted =
    codes "64 random ids in a row were 0 or in use: check the random device"
edit_advice edits.TooManyKeys = codes "a keyset has at most 1000 keys: delete-key removes one"
edit_advice edits.AmbiguousPrimary =
    codes "another key has this id: rotate-keyset makes a primary with an id of its own"

-- of what lines of a session are refused for too
unfoldable pub refusal_advice : Refusal → List ℕ
refusal_advice refused.UnknownTemplate = codes "list-key-templates lists the names, in capitals"
refusal_advice refused.AsymmetricTemplate =
    codes "only symmetric keys are supported: list-key-templates lists their templates"
refusal_advice (refused.NoManager i) = []
refusal_advice (refused.BadKey i rule) = []
refusal_advice (refused.NotRaw i) = []
refusal_advice (refused.OutputTooLong asked greatest) = []
refusal_advice (refused.Command fault) = edit_advice fault
refusal_advice refused.VerifyFailed =
    codes "no ENABLED key of the keyset makes this tag of this input"

-- of a keyset's fault
unfoldable pub keyset_advice : KeysetRefusal → List ℕ
keyset_advice faults.Empty = codes "there is nothing, or no key in the list"
keyset_advice faults.TooMany = codes "a keyset has at most 1000 keys"
keyset_advice (faults.UnknownStatus i) =
    codes "keys count from 0; the keyset is damaged, or made by a later Tink"
keyset_advice (faults.UnknownPrefix i) =
    codes "keys count from 0; the keyset is damaged, or made by a later Tink"
keyset_advice (faults.UnknownMaterial i) =
    codes "keys count from 0; the keyset is damaged, or made by a later Tink"
keyset_advice (faults.MissingKeyData i) =
    codes "keys count from 0; only a DESTROYED key may have no key data"
keyset_advice faults.NoPrimary =
    codes "the keyset is incomplete: another copy of it may have that key"
keyset_advice faults.PrimaryNotEnabled =
    codes "no command reads such a keyset: enable the key with the tool that made it"
keyset_advice (faults.AmbiguousPrimary i j) =
    codes "keys count from 0; disable one of them with the tool that made the keyset"

-- the second line of a status that has no other; nothing if there is nothing to add
unfoldable pub advice : Status → List ℕ
advice (status.Refused why) = refusal_advice why
advice status.NoKeyOf =
    codes "another keyset made these bytes, or --as should name another kind of bytes"
advice status.DekTemplate =
    codes "list-key-templates --for eseal lists templates for --dek-template"
advice status.PastEnd = codes "the plaintext ends before --from and --length do"
advice status.KeysetOutgrown = codes "as written it would be too long to be read again: delete-key removes a key"
advice status.InputTooLong = codes "seal, tag and derive take 16777216 bytes, and sseal any number"
advice status.TooManySegments =
    codes "a stream has at most 4294967296 segments: use a template with larger ones"
advice status.LineTooLong =
    codes "a line has at most 65536 bytes; edits that the session did not save are lost"
advice status.TooManyLines =
    codes "a session has at most 100000 lines; edits that it did not save are lost"
advice status.StreamMissing = codes "the file that --file gives is not there"
advice status.OutExists = codes "no file is ever replaced: give --out another name"
advice other = []
