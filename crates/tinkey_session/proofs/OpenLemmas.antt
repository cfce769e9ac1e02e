-- What was sealed or tagged, over another keyset.
use Rattle.std.proofs.Common.{◌≡◌, ◌∙◌, sym, ap, ℕ, List, ◌++◌, Some}
use Rattle.std.specs.Option.{option_and_then}
use Rattle.key_msgs.specs.declared.key.KeyKind.{KeyKind}
use Rattle.key_msgs.specs.declared.primitive.Primitive.TheVariants.{Aead, Daead}
use Rattle.keyset_model.specs.Keyset.{Keys, primary_of}
use Rattle.keyset_model.specs.declared.record.Record.{Record}
use Rattle.managers.specs.Standard.{standard_table}
use Rattle.managers.specs.Uses.{dseal_of}
use Rattle.tinkey_session.proofs.Options.{map_some, then_some}
use Rattle.tinkey_session.proofs.UsableLemmas.{valid_key}
use Rattle.tinkey_session.specs.Laws.{KeptDopen, KeptDopenPresent, KeptOpen, KeptOpenPresent, KeptTag}
use Rattle.wrapped_prims.specs.Answers.{Sealed, dseal_answer, made_by, seal_answer, seal_behind, seal_under}
use Rattle.wrapped_prims.specs.Candidates.{prefix_bytes, prefix_of}
use Rattle.wrapped_prims.specs.Fitness.{key_of_record}
use Rattle.wrapped_prims.specs.Laws.{EnabledKeyDopens, EnabledKeyOpens, SameKeyDopens, SameKeyOpens, SameKeyVerifies}

-- ---- what has sealed has a key

-- the key that sealed, and its sealing
record DidSeal (r : Record) (plain ad random : List ℕ) (sealed : Sealed) : Type 0 where
  key : KeyKind
  read : key_of_record standard_table Aead r ≡ Some key
  made : seal_behind (prefix_bytes (prefix_of r)) plain ad random key ≡ Some sealed

did_seal : (old : Keys) (r : Record) (plain ad random : List ℕ) (sealed : Sealed) → primary_of old ≡ Some r
    → seal_answer old standard_table plain ad random ≡ Some sealed → DidSeal r plain ad random sealed
did_seal old r plain ad random sealed primary e =
    let there = then_some (seal_behind (prefix_bytes (prefix_of r)) plain ad random) (key_of_record standard_table Aead r) sealed
    (sym (ap (option_and_then (seal_under standard_table plain ad random)) primary) ∙ e) in
    record { key = there.0; read = there.1; made = there.2 }

record DidDseal (r : Record) (plain ad sealed : List ℕ) : Type 0 where
  key : KeyKind
  read : key_of_record standard_table Daead r ≡ Some key
  made : prefix_bytes (prefix_of r) ++ dseal_of key plain ad ≡ sealed

did_dseal : (old : Keys) (r : Record) (plain ad sealed : List ℕ) → primary_of old ≡ Some r
    → dseal_answer old standard_table plain ad ≡ Some sealed → DidDseal r plain ad sealed
did_dseal old r plain ad sealed primary e =
    let there = map_some (λ key. prefix_bytes (prefix_of r) ++ dseal_of key plain ad) (key_of_record standard_table Daead r) sealed
    (sym (ap (option_and_then (made_by standard_table Daead (λ key _. dseal_of key plain ad))) primary) ∙ e) in
    record { key = there.0; read = there.1; made = there.2 }

-- ---- of a key that is alone under its prefix

pub kept_open : SameKeyOpens → KeptOpen
kept_open law old new r prefix plain ad random sealed has primary is e =
    let did = did_seal old r plain ad random sealed primary e in
    law standard_table old new r prefix plain ad random sealed primary is (did.key, did.read, valid_key Aead r did.key did.read) has e

pub kept_dopen : SameKeyDopens → KeptDopen
kept_dopen law old new r prefix plain ad sealed has primary is e =
    let did = did_dseal old r plain ad sealed primary e in
    law standard_table old new r prefix plain ad sealed primary is (did.key, did.read, valid_key Daead r did.key did.read) has e

pub kept_tag : SameKeyVerifies → KeptTag
kept_tag law old new r tag body has primary e = law standard_table old new r tag body primary has e

-- ---- of a key that is there

pub kept_open_present : EnabledKeyOpens → KeptOpenPresent
kept_open_present law old new r plain ad random sealed has primary e =
    let did = did_seal old r plain ad random sealed primary e in
    law standard_table old new r plain ad random sealed primary (did.key, did.read, valid_key Aead r did.key did.read) has e

pub kept_dopen_present : EnabledKeyDopens → KeptDopenPresent
kept_dopen_present law old new r plain ad sealed has primary e =
    let did = did_dseal old r plain ad sealed primary e in
    law standard_table old new r plain ad sealed primary (did.key, did.read, valid_key Daead r did.key did.read) has e
