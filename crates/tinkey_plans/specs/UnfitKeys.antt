-- The key of a keyset that can't serve, and the second line that names it: its id, its place, and what it is for or
-- what is wrong with it. It is a function of the place, of the id, of the type URL's primitive, and of the option that
-- gives the keyset.
--
--   unfit_key    the record at a place
--   used_for     what keys of a primitive are for, and the commands that they serve
--   unfit_text   the second line, without its front
use Rattle.std.specs.Prelude.{ℕ, List, [], ◌++◌, Option, Some, None, option_map, slice_get, codes}
use Rattle.std.specs.Fmt.{decimal}
use Rattle.key_msgs.specs.KeyTypes.{primitive_of_type, type_of_url}
use Rattle.key_msgs.specs.declared.primitive.Primitive.{Primitive}
use Rattle.key_msgs.specs.declared.primitive.Primitive.TheVariants.{Aead, Daead, Mac, Prf, Stream}
use Rattle.keyset_model.specs.Keyset.{Keys}
use Rattle.keyset_model.specs.declared.record.Record.{Record}
use Rattle.tinkey_session.specs.declared.reply.Refusal.{Refusal}
use Rattle.tinkey_session.specs.declared.reply.Refusal.TheVariants as refused
use Rattle.tinkey_plans.specs.Origins.{file_text}
use Rattle.tinkey_plans.specs.declared.origin.Origin.{Origin}
use Rattle.tinkey_plans.specs.declared.origin.Origin.TheVariants as origins
use Rattle.tinkey_plans.specs.declared.unfit.UnfitKey.{UnfitKey}

-- the primitive of the key type with this URL, if there is one
abbrev pub serves_of : (url : List ℕ) → Option Primitive
serves_of url = option_map primitive_of_type (type_of_url url)

-- this record, of a keyset that this option gives; no place without a record is refused
abbrev pub unfit_record : Origin → Option Record → UnfitKey
unfit_record from None = record { id = 0; serves = None; from = from }
unfit_record from (Some r) = record { id = r.id; serves = serves_of r.url; from = from }

-- the record at this place
abbrev pub unfit_key : Origin → Keys → (place : ℕ) → UnfitKey
unfit_key from keys place = unfit_record from (slice_get keys.records place)

-- ---- the second line

-- what a key is for, and the commands that it serves
unfoldable pub used_for : Option Primitive → List ℕ
used_for None = codes " is of a type that no command serves"
used_for (Some Aead) = codes " is for sealing: seal, open, reseal, eseal, eopen, ereseal"
used_for (Some Daead) = codes " is for deterministic sealing: dseal, dopen, dreseal"
used_for (Some Mac) = codes " is for tags: tag, verify"
used_for (Some Prf) = codes " is for deriving: derive"
used_for (Some Stream) = codes " is for streams: sseal, sopen, sreseal, srange"

-- whose key it is, if that isn't the keyset that --keyset gives
abbrev pub whose_text : Origin → List ℕ
whose_text origins.Keyset = []
whose_text other = codes " of " ++ file_text other

-- the key's id, its place, and whose it is
abbrev pub named_key : (place : ℕ) → UnfitKey → List ℕ
named_key place key =
    codes "key " ++ decimal key.id ++ codes " (place " ++ decimal place ++ codes ")" ++ whose_text key.from

-- why it can't serve
unfoldable pub unfit_text : Refusal → UnfitKey → List ℕ
unfit_text (refused.NoManager place) key = named_key place key ++ used_for key.serves
unfit_text (refused.BadKey place rule) key =
    named_key place key ++ codes " is ENABLED: disable-key keeps it out of use"
unfit_text (refused.NotRaw place) key =
    named_key place key ++ codes " has an output prefix: one that derives is RAW, as templates make it"
unfit_text other key = []
