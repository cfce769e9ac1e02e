-- The exit code and the diagnostic line of each status.
use Rattle.std.specs.Prelude.{ℕ, List, [], ◌++◌, Option, Some, None, codes}
use Rattle.std.specs.Fmt.{decimal}
use Rattle.keyset_json.specs.Members.{name_of}
use Rattle.keyset_model.specs.declared.keyset.KeysetRefusal.{KeysetRefusal}
use Rattle.keyset_model.specs.declared.keyset.KeysetRefusal.TheVariants as faults
use Rattle.tink_spec.specs.Outside.{SinkState, Rose, Took, TookPrefix}
use Rattle.tinkey_cmds.specs.declared.command.EditRefusal.TheVariants as edits
use Rattle.tinkey_session.specs.declared.reply.LineRefusal.TheVariants as lines
use Rattle.tinkey_session.specs.declared.reply.Refusal.TheVariants as refused
use Rattle.tinkey_session.specs.Texts.{line_refusal_text, refusal_text}
use Rattle.tinkey_plans.specs.Advice.{advice, keyset_advice}
use Rattle.tinkey_plans.specs.Help.{help_text}
use Rattle.tinkey_plans.specs.Mentions.{left_text, line_with}
use Rattle.tinkey_plans.specs.Misfits.{misfit_text}
use Rattle.tinkey_plans.specs.Origins.{clear_text, faulty_text, it_is_text, locked_text, long_text, missing_text, not_json_text, not_proto_text}
use Rattle.tinkey_plans.specs.Sealers.{sealer_text}
use Rattle.tinkey_plans.specs.UnfitKeys.{unfit_text}
use Rattle.tinkey_plans.specs.declared.mention.Mention.{Mention}
use Rattle.tinkey_plans.specs.declared.status.Status.{Status}
use Rattle.tinkey_plans.specs.declared.status.Status.TheVariants as status
use Rattle.tinkey_words.specs.declared.words.help.Topic.TheVariants as topics

-- the exit code
abbrev pub code_of : Status → ℕ
code_of status.Done = 0
code_of (status.OpenFailed what sealer) = 1
code_of (status.KeysetInClear from) = 1
code_of (status.Refused refused.VerifyFailed) = 1
code_of status.NoKeyOf = 1
code_of (status.StreamFailed number) = 1
code_of status.NoWords = 2
code_of (status.Usage misuse) = 2
code_of (status.Refused refused.UnknownTemplate) = 2
code_of (status.Refused refused.AsymmetricTemplate) = 2
code_of status.DekTemplate = 2
code_of (status.Refused (refused.OutputTooLong asked greatest)) = 2
code_of status.PastEnd = 2
code_of (status.BadProto at from begins) = 3
code_of (status.ProtoLocked at from) = 3
code_of (status.NotJson from begins) = 3
code_of (status.Shape path from) = 3
code_of (status.WrappedMember from) = 3
code_of (status.Keyset fault from) = 3
code_of (status.KeysetLocked fault from) = 3
code_of (status.Unfit why key) = 3
code_of (status.Refused (refused.NoManager i)) = 3
code_of (status.Refused (refused.BadKey i rule)) = 3
code_of (status.Refused (refused.NotRaw i)) = 3
code_of status.NoDekManager = 3
code_of (status.DekRefused rule) = 3
code_of (status.InMissing from) = 4
code_of status.StreamMissing = 4
code_of (status.Refused (refused.Command fault)) = 4
code_of status.OutExists = 4
code_of status.ReadFault = 5
code_of status.WriteFault = 5
code_of status.EntropyFault = 5
code_of status.StoreFault = 5
code_of (status.KeysetTooLong from) = 6
code_of status.KeysetOutgrown = 6
code_of status.InputTooLong = 6
code_of status.TooManySegments = 6
code_of status.LineTooLong = 6
code_of status.TooManyLines = 6
code_of status.NoMemory = 7

-- the text of a keyset's fault
unfoldable pub fault_text : KeysetRefusal → List ℕ
fault_text faults.Empty = codes "keyset has no key"
fault_text faults.TooMany = codes "keyset has too many keys"
fault_text (faults.UnknownStatus i) = codes "key " ++ decimal i ++ codes " has an unknown status"
fault_text (faults.UnknownPrefix i) =
    codes "key " ++ decimal i ++ codes " has an unknown output prefix type"
fault_text (faults.UnknownMaterial i) =
    codes "key " ++ decimal i ++ codes " has an unknown key material type"
fault_text (faults.MissingKeyData i) = codes "key " ++ decimal i ++ codes " has no key data"
fault_text faults.NoPrimary = codes "no key has the primary id"
fault_text faults.PrimaryNotEnabled = codes "the primary key is not enabled"
fault_text (faults.AmbiguousPrimary i j) =
    codes "keys " ++ decimal i ++ codes " and " ++ decimal j ++ codes " are both the primary"

-- the place of a key, where there is one
abbrev pub key_text : Option ℕ → List ℕ
key_text None = []
key_text (Some i) = codes " of key " ++ decimal i

-- What the line says, behind the program's name. What lines of a session are refused for too is
-- told by the same texts.
unfoldable pub text_of : Status → List ℕ
text_of status.Done = []
text_of (status.OpenFailed what sealer) = line_refusal_text lines.OpenFailed
text_of (status.KeysetInClear from) = line_refusal_text lines.OpenFailed
text_of (status.Refused why) = refusal_text why
text_of (status.Unfit why key) = refusal_text why
text_of status.NoKeyOf = codes "no key of the keyset"
text_of (status.StreamFailed number) = codes "stream failed at segment " ++ decimal number
text_of status.NoWords = codes "usage: word 0"
text_of (status.Usage misuse) = codes "usage: word " ++ decimal misuse.place
text_of (status.BadProto at from begins) = codes "bad protobuf at byte " ++ decimal at
text_of (status.ProtoLocked at from) = codes "bad protobuf at byte " ++ decimal at
text_of (status.NotJson from begins) = codes "not JSON"
text_of (status.Shape path from) = codes "bad JSON member " ++ name_of path.member ++ key_text path.key
text_of (status.WrappedMember from) = codes "bad JSON member encryptedKeyset"
text_of (status.Keyset fault from) = fault_text fault
text_of (status.KeysetLocked fault from) = fault_text fault
text_of (status.KeysetTooLong from) = codes "keyset too long"
text_of status.KeysetOutgrown = codes "keyset too long"
text_of (status.InMissing from) = codes "input file missing"
text_of status.StreamMissing = codes "input file missing"
text_of status.InputTooLong = codes "input too long"
text_of status.TooManySegments = codes "too many segments"
text_of status.LineTooLong = codes "line too long"
text_of status.TooManyLines = codes "too many lines"
text_of status.DekTemplate = codes "template is not an AEAD"
text_of status.NoDekManager = codes "no manager for the data key"
text_of (status.DekRefused rule) =
    codes "data " ++ refusal_text (refused.Command (edits.KeyRefused rule))
text_of status.PastEnd = codes "range past the end"
text_of status.OutExists = codes "output file exists"
text_of status.EntropyFault = codes "entropy fault"
text_of status.ReadFault = codes "read fault"
text_of status.WriteFault = codes "write fault"
text_of status.StoreFault = codes "store fault"
text_of status.NoMemory = codes "out of memory"

-- Done writes nothing; any other status is told by one line
unfoldable pub line_of : Status → List ℕ
line_of status.Done = []
line_of other = codes "tinkey: " ++ text_of other ++ codes "\n"

-- What the second line says, without its front: where a word is at fault, why; where no key opens a text, under which
-- it was sealed; where a key can't serve, which one, and what it is for; where a keyset is missing, can't be read, has a
-- fault, or is in clear or encrypted and should be the other, which option gives it; where a stream is refused, what is
-- left of the output; some other statuses have a line of advice.
unfoldable pub second_text : Mention → Status → List ℕ
second_text mention (status.Usage misuse) = misfit_text misuse.why
second_text mention (status.OpenFailed what sealer) = sealer_text what sealer
second_text mention (status.Unfit why key) = unfit_text why key
second_text mention (status.StreamFailed number) =
    codes "damaged or cut, or sealed with another key or --ad: " ++ left_text mention.left
second_text mention (status.ProtoLocked at from) = locked_text from
second_text mention (status.KeysetLocked fault from) = locked_text from
second_text mention (status.KeysetInClear from) = clear_text from
second_text mention (status.InMissing from) = missing_text from
second_text mention (status.NotJson from begins) = not_json_text from begins
second_text mention (status.BadProto at from begins) = not_proto_text from begins
second_text mention (status.Shape path from) = it_is_text from
second_text mention (status.WrappedMember from) = it_is_text from
second_text mention (status.Keyset fault from) = faulty_text from (keyset_advice fault)
second_text mention (status.KeysetTooLong from) = long_text from
second_text mention other = advice other

-- what stands behind the line: the list of the commands where there was no word, or a second line, which begins with
-- the command that the words name
unfoldable pub behind_line : Mention → Status → List ℕ
behind_line mention status.NoWords = help_text topics.Commands
behind_line mention other = line_with mention.command (second_text mention other)

-- these bytes were written, or the first of them where the count of faults rose
pub data Wrote (bytes : List ℕ) (old new : SinkState) : Type 0 where
  wrote : Took old new bytes → Wrote bytes old new
  write_failed : Rose old.faults new.faults → TookPrefix old new bytes → Wrote bytes old new

-- the line was written and what stands behind it, or the first bytes of them
abbrev pub Reports : Mention → Status → SinkState → SinkState → Type 0
Reports mention s old new = Wrote (line_of s ++ behind_line mention s) old new
