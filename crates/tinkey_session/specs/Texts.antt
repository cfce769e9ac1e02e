-- The texts of replies, and of what lines are refused for. The program's diagnostic lines have the
-- same texts of refusals.
use Rattle.std.specs.Prelude.{ℕ, List, ◌++◌, codes}
use Rattle.std.specs.Fmt.{decimal}
use Rattle.key_msgs.specs.declared.rule.Rule.{Rule}
use Rattle.key_msgs.specs.declared.rule.Rule.TheVariants as broken
use Rattle.tinkey_cmds.specs.declared.command.EditRefusal.{EditRefusal}
use Rattle.tinkey_cmds.specs.declared.command.EditRefusal.TheVariants as refused
use Rattle.tinkey_session.specs.Lines.{word_of}
use Rattle.tinkey_session.specs.declared.reply.Refusal.{Refusal}
use Rattle.tinkey_session.specs.declared.reply.Refusal.TheVariants.{AsymmetricTemplate, BadKey, Command, NoManager, NotRaw, OutputTooLong, UnknownTemplate, VerifyFailed}
use Rattle.tinkey_session.specs.declared.reply.LineRefusal.{LineRefusal}
use Rattle.tinkey_session.specs.declared.reply.LineRefusal.TheVariants.{BadLine, KeysetTooLong, NotSaved, OpenFailed, OutputExists, Refused, StoreFault}
use Rattle.tinkey_session.specs.declared.reply.Reply.{Reply}
use Rattle.tinkey_session.specs.declared.reply.Reply.TheVariants.{Done, Gives, NewId, Refuses}

-- the name of a rule of key messages
unfoldable pub rule_text : Rule → List ℕ
rule_text broken.Form = codes "form"
rule_text broken.Version = codes "version"
rule_text broken.Hash = codes "hash"
rule_text broken.KeySize = codes "key size"
rule_text broken.IvSize = codes "IV size"
rule_text broken.TagSize = codes "tag size"
rule_text broken.DerivedSize = codes "derived size"
rule_text broken.Segment = codes "segment size"

-- the text of a refused edit
unfoldable pub edit_text : EditRefusal → List ℕ
edit_text refused.KeyNotFound = codes "key not found"
edit_text refused.KeyIsPrimary = codes "key is primary"
edit_text refused.KeyNotEnabled = codes "key is not enabled"
edit_text refused.KeyDestroyed = codes "key is destroyed"
edit_text (refused.KeyRefused rule) = codes "key refused: " ++ rule_text rule
edit_text refused.MixedPrimitive = codes "key of another primitive"
edit_text refused.IdsExhausted = codes "no free key id"
edit_text refused.TooManyKeys = codes "too many keys"
edit_text refused.AmbiguousPrimary = codes "primary would be ambiguous"

-- the text of a refusal, of a line as of a command
unfoldable pub refusal_text : Refusal → List ℕ
refusal_text UnknownTemplate = codes "unknown key template"
refusal_text AsymmetricTemplate = codes "asymmetric key template"
refusal_text (NoManager i) = codes "key " ++ decimal i ++ codes " has no manager for this command"
refusal_text (BadKey i rule) = codes "key " ++ decimal i ++ codes " is not valid: " ++ rule_text rule
refusal_text (NotRaw i) = codes "key " ++ decimal i ++ codes " is not RAW"
refusal_text (OutputTooLong asked greatest) =
    codes "output too long: " ++ decimal asked ++ codes " over " ++ decimal greatest
refusal_text (Command fault) = edit_text fault
refusal_text VerifyFailed = codes "verify failed"

-- the text of a line's refusal
abbrev pub line_refusal_text : LineRefusal → List ℕ
line_refusal_text BadLine = codes "bad line"
line_refusal_text NotSaved = codes "keyset is not saved"
line_refusal_text OpenFailed = codes "open failed"
line_refusal_text OutputExists = codes "output file exists"
line_refusal_text KeysetTooLong = codes "keyset too long"
line_refusal_text StoreFault = codes "store fault"
line_refusal_text (Refused why) = refusal_text why

-- a reply, one line of text
unfoldable pub reply_text : Reply → List ℕ
reply_text Done = codes "ok\n"
reply_text (Gives bytes) = codes "ok " ++ word_of bytes ++ codes "\n"
reply_text (NewId id) = codes "ok " ++ decimal id ++ codes "\n"
reply_text (Refuses why) = codes "no " ++ line_refusal_text why ++ codes "\n"
