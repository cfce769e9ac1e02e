-- Where a keyset comes from and how its bytes begin: what is told of one that is missing or can't be read. It is a
-- function of the option that gives it, and of the first of its bytes alone.
--
--   begins_of      how bytes begin
--   file_text      what is read: the file that an option gives, or standard input
--   format_text    the option that gives its form
--   served_text    what serves for an encrypted one
--   missing_text, it_is_text, long_text, locked_text, clear_text, not_json_text, not_proto_text, faulty_text   what the
--                  second lines tell of it
use Rattle.std.specs.Prelude.{ℕ, Bool, false, List, ◌++◌, ◌||◌, drop, nat_eq, slice_get, Option, Some, None, if◌then◌else◌, codes}
use Rattle.std.specs.Char.{is_ascii_whitespace}
use Rattle.std.specs.List.{prefix_len}
use Rattle.tinkey_plans.specs.declared.origin.Begins.{Begins}
use Rattle.tinkey_plans.specs.declared.origin.Begins.TheVariants as begun
use Rattle.tinkey_plans.specs.declared.origin.Origin.{Origin}
use Rattle.tinkey_plans.specs.declared.origin.Origin.TheVariants as origins

-- ---- how bytes begin

-- the tag of field 1 of a keyset, a number, or of field 2 of a keyset or an encrypted one, of its length
abbrev pub is_front_tag : Option ℕ → Bool
is_front_tag None = false
is_front_tag (Some byte) = nat_eq byte 8 || nat_eq byte 18

-- the byte that opens an object in JSON
abbrev pub is_brace : Option ℕ → Bool
is_brace None = false
is_brace (Some byte) = nat_eq byte 123

-- the first byte that isn't white space
abbrev pub first_dark : List ℕ → Option ℕ
first_dark bytes = slice_get (drop (prefix_len is_ascii_whitespace bytes) bytes) 0

-- as a keyset in the binary form does, or as one in JSON, in clear or encrypted
abbrev pub begins_of : List ℕ → Begins
begins_of bytes =
    if is_front_tag (slice_get bytes 0) then begun.AsBinary
    else if is_brace (first_dark bytes) then begun.AsJson
    else begun.Otherwise

-- ---- the second lines, without their front

-- what is read
unfoldable pub file_text : Origin → List ℕ
file_text origins.Keyset = codes "the file that --keyset gives"
file_text origins.Master = codes "the file that --master gives"
file_text origins.NewMaster = codes "the file that --new-master gives"
file_text origins.OnlyMaster = codes "the file of the master"
file_text origins.In = codes "the file that --in gives"
file_text origins.StandardInput = codes "standard input"

-- the option that gives its form
unfoldable pub format_text : Origin → List ℕ
format_text origins.Keyset = codes "--keyset-format"
format_text origins.Master = codes "--master-format"
format_text origins.NewMaster = codes "--new-master-format"
format_text origins.OnlyMaster = codes "--master-format or --new-master-format"
format_text origins.In = codes "--in-format"
format_text origins.StandardInput = codes "--in-format"

-- what an encrypted keyset is, where one in clear is read
unfoldable pub served_text : Origin → List ℕ
served_text origins.Keyset = codes "which --master FILE opens"
served_text origins.Master = codes "and a master has to be in clear"
served_text origins.NewMaster = codes "and a master has to be in clear"
served_text origins.OnlyMaster = codes "and a master has to be in clear"
served_text origins.In = codes "which --master FILE opens"
served_text origins.StandardInput = codes "which --master FILE opens"

-- the file isn't there
abbrev pub missing_text : Origin → List ℕ
missing_text from = file_text from ++ codes " is not there"

-- it is the one that is meant
abbrev pub it_is_text : Origin → List ℕ
it_is_text from = codes "it is " ++ file_text from

-- it is longer than any keyset that is read
abbrev pub long_text : Origin → List ℕ
long_text from =
    file_text from ++ codes " is too long: a keyset has at most 1048576 bytes, and an encrypted one 4194304"

-- it is an encrypted keyset
abbrev pub locked_text : Origin → List ℕ
locked_text from = file_text from ++ codes " is an encrypted keyset, " ++ served_text from

-- it is a keyset in clear
abbrev pub clear_text : Origin → List ℕ
clear_text from = file_text from ++ codes " is a keyset in clear: leave --master out"

-- it isn't JSON, and begins so
abbrev pub not_json_text : Origin → Begins → List ℕ
not_json_text from begun.AsBinary =
    file_text from ++ codes " begins as the binary form does: add " ++ format_text from ++ codes " binary"
not_json_text from begun.AsJson =
    file_text from ++ codes " begins as JSON does, but can't be read to its end"
not_json_text from begun.Otherwise =
    file_text from ++ codes " doesn't begin with {, as a keyset in JSON does"

-- it can't be read in the binary form, and begins so
abbrev pub not_proto_text : Origin → Begins → List ℕ
not_proto_text from begun.AsJson =
    file_text from ++ codes " begins as JSON does: leave " ++ format_text from ++ codes " binary out"
not_proto_text from _ = file_text from ++ codes " is damaged, or isn't a keyset"

-- its keyset has this fault, of which this is said
abbrev pub faulty_text : Origin → (says : List ℕ) → List ℕ
faulty_text from says = codes "in " ++ file_text from ++ codes ": " ++ says
