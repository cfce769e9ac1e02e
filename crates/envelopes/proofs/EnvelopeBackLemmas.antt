-- What an envelope is made of, and that it opens.
use Rattle.std.proofs.Common.{◌≡◌, ◌∙◌, refl, sym, ap, subst, ℕ, ◌+◌, ◌<◌, ◌≤◌, ◌^◌, option_map, ◌==◌, ◌||◌, ltb, ne_eqb, cond, Bool, true, false, List, [], ◌∷◌, ◌++◌, length, take, drop, Option, Some, None, Ok, Err, Result, arith}
use Rattle.std.specs.Prelude.{nat_lt}
use Rattle.std.specs.Int.{from_be_bytes, to_be_bytes, w32}
use Rattle.std.specs.Option.{option_and_then}
use Rattle.std.proofs.lemmas.Bool.{ltb-false, or_from}
use Rattle.std.proofs.lemmas.List.{drop_at, length-append, length-drop, length-take-le, take-append-drop, take_at}
use Rattle.std.proofs.lemmas.Nat.{from_be_bytes-to_be_bytes_4}
use Rattle.std.proofs.lemmas.Option.{same_Some}
use Rattle.key_msgs.specs.KeyTypes.{primitive_of_type}
use Rattle.key_msgs.specs.Templates.{Row, random_of}
use Rattle.key_msgs.specs.declared.key.KeyKind.{KeyKind}
use Rattle.key_msgs.specs.declared.primitive.Primitive.TheVariants.{Aead}
use Rattle.key_msgs.specs.declared.rule.Rule.{Rule}
use Rattle.keyset_model.specs.Keyset.{Keys, primary_of}
use Rattle.keyset_model.specs.declared.record.Record.{Record}
use Rattle.managers.proofs.SizeLemmas.{iv-short, seal_facts}
use Rattle.managers.specs.Laws.{ReadingIsAdmitted, SealingsOpen}
use Rattle.managers.specs.Schemes.{Scheme, key_under}
use Rattle.managers.specs.Table.{Table}
use Rattle.managers.specs.Uses.{iv_size, open_key, seal_of}
use Rattle.wrapped_prims.proofs.OpenedSizes.{opened-short}
use Rattle.wrapped_prims.proofs.PrefixLemmas.{five-prefix_of}
use Rattle.wrapped_prims.proofs.SealLemmas.{enough}
use Rattle.wrapped_prims.specs.Answers.{Sealed, open_answer, seal_answer, seal_behind, seal_under}
use Rattle.wrapped_prims.specs.Candidates.{prefix_bytes, prefix_of}
use Rattle.wrapped_prims.specs.Fitness.{key_of_record}
use Rattle.wrapped_prims.specs.Laws.{GivesKeyFor, SameKeyOpens}
use Rattle.envelopes.specs.Enveloped.{Enveloped, Parts, behind_data_key, behind_length, data_key_of, envelope, envelope_of, in_envelope, open_envelope_of, open_payload, open_under, parts_behind, parts_in, seal_parts, under_data_key, valid_parts, with_key, with_payload}
use Rattle.envelopes.specs.EnvelopeLaws.{AreKeysResealed, EnvelopeBack, EnvelopeResealed, EnvelopeUnder, EnvelopesFit, IsAeadScheme, IsDataKeyRow, IsKeyResealed, ResealedFit}
use Rattle.envelopes.proofs.DataKeyLemmas.{data_key-long}
use Rattle.seal_wrap.proofs.SealedSizes.{IsSealed, sealed_behind, sealing-long, then_some}
use Rattle.seal_wrap.proofs.WrapLemmas.{map_some}

-- ---- the parts of an envelope

record IsEnvelope (keys : Keys) (table : Table) (scheme : Scheme) (row : Row) (plain ad random bytes : List ℕ) : Type 0 where
  first : List ℕ
  rest : List ℕ
  whole : length first ≡ random_of row
  key : KeyKind
  valid : key_under scheme (data_key_of row first) ≡ Ok key
  sealed : Sealed
  sealing : seal_answer keys table (data_key_of row first) [] rest ≡ Some sealed
  payload : Sealed
  last : IsSealed key [] plain ad sealed.left payload
  joined : bytes ≡ envelope sealed.bytes payload.bytes

same_Ok : (a b : List ℕ) → ◌≡◌ {A = Result (List ℕ) Rule} (Ok a) (Ok b) → a ≡ b
same_Ok a b e = cc

is_envelope : (keys : Keys) (table : Table) (scheme : Scheme) (row : Row) (plain ad random : List ℕ) (bytes left : List ℕ)
    → envelope_of keys table scheme row plain ad random ≡ Some (record { answer = Ok bytes; left = left }) → IsEnvelope keys table scheme row plain ad random bytes
is_envelope keys table scheme row plain ad random bytes left e = long (ltb (length random) n) refl e
  where
    n : ℕ
    n = random_of row

    first : List ℕ
    first = take n random

    rest : List ℕ
    rest = drop n random

    value : List ℕ
    value = data_key_of row first

    sealed_with : (key : KeyKind) → length first ≡ n → key_under scheme value ≡ Ok key
        → option_and_then (behind_data_key plain ad key) (seal_answer keys table value [] rest) ≡ Some (record { answer = Ok bytes; left = left }) → IsEnvelope keys table scheme row plain ad random bytes
    sealed_with key whole valid e =
        let one = then_some (behind_data_key plain ad key) (seal_answer keys table value [] rest) (record { answer = Ok bytes; left = left }) e in
        let s : Sealed = one.0 in
        let two = map_some (λ (p : Sealed). record { answer = Ok (envelope s.bytes p.bytes); left = p.left }) (seal_behind [] plain ad s.left key) (record { answer = Ok bytes; left = left }) one.2 in
        let p : Sealed = two.0 in
        record {
          first = first;
          rest = rest;
          whole = whole;
          key = key;
          valid = valid;
          sealed = s;
          sealing = one.1;
          payload = p;
          last = sealed_behind [] plain ad s.left key p two.1;
          joined = sym (same_Ok (envelope s.bytes p.bytes) bytes (ap (λ (x : Enveloped). x.answer) two.2));
        }

    read_as : (read : Result KeyKind Rule) → length first ≡ n → key_under scheme value ≡ read → under_data_key keys table value plain ad rest read ≡ Some (record { answer = Ok bytes; left = left })
        → IsEnvelope keys table scheme row plain ad random bytes
    read_as (Ok key) whole valid e = sealed_with key whole valid e
    read_as (Err rule) whole valid e = absurd (refused (ap (λ (x : Enveloped). x.answer) (same_Some _ _ e)))
      where
        refused : Err rule ≡ Ok bytes → ⊥
        refused h = cc

    long : (b : Bool) → ltb (length random) n ≡ b → cond b None (under_data_key keys table value plain ad rest (key_under scheme value)) ≡ Some (record { answer = Ok bytes; left = left })
        → IsEnvelope keys table scheme row plain ad random bytes
    long true few e = cc
    long false few e = read_as (key_under scheme value) (length-take-le n random (ltb-false _ _ few)) refl e

-- ---- it opens

-- behind the length of a sealed data key that opens, what comes of its message and of the payload
found_behind : {A : Type 0} (keys : Keys) (table : Table) (next : List ℕ → List ℕ → Option A) (sealed payload value : List ℕ) → 0 < length sealed → open_answer keys table sealed [] ≡ Some value
    → behind_length keys table next (length sealed) (sealed ++ payload) ≡ next value payload
found_behind {A} keys table next sealed payload value some opened =
    let n = length sealed in
    let by : List ℕ → List ℕ → Bool → Option A
    = λ front behind none. cond none None (option_and_then (λ (v : List ℕ). next v behind) (open_answer keys table front [])) in
    let other : n ≡ 0 → ⊥ = λ e. absurd (omega (arith, e, some)) in
    let within : ((n == 0) || nat_lt (length (sealed ++ payload)) n) ≡ false = or_from (n == 0) _ (ne_eqb n 0 other) (enough n sealed payload refl) in
    ap (by (take n (sealed ++ payload)) (drop n (sealed ++ payload))) within
    ∙ ap (λ front. by front (drop n (sealed ++ payload)) false) (take_at sealed payload n refl)
    ∙ ap (λ behind. by sealed behind false) (drop_at sealed payload n refl)
    ∙ ap (option_and_then (λ (v : List ℕ). next v payload)) opened

found_whole : {A : Type 0} (keys : Keys) (table : Table) (next : List ℕ → List ℕ → Option A) (sealed payload : List ℕ) → length sealed < 2 ^ 32
    → in_envelope keys table next (envelope sealed payload) ≡ behind_length keys table next (length sealed) (sealed ++ payload)
found_whole {A} keys table next sealed payload fits =
    let field : List ℕ = to_be_bytes w32 (length sealed) in
    let rest : List ℕ = sealed ++ payload in
    let by : List ℕ → List ℕ → Bool → Option A = λ front behind few. cond few None (behind_length keys table next (from_be_bytes w32 front) behind) in
    ap (by (take 4 (field ++ rest)) (drop 4 (field ++ rest))) (enough 4 field rest refl)
    ∙ ap (λ front. by front (drop 4 (field ++ rest)) false) (take_at field rest 4 refl)
    ∙ ap (λ behind. by field behind false) (drop_at field rest 4 refl)
    ∙ ap (λ (size : ℕ). behind_length keys table next size rest) (from_be_bytes-to_be_bytes_4 (length sealed) fits)

-- of an envelope
found_in : {A : Type 0} (keys : Keys) (table : Table) (next : List ℕ → List ℕ → Option A) (sealed payload value : List ℕ) → length sealed < 2 ^ 32 → 0 < length sealed → open_answer keys table sealed [] ≡ Some value
    → in_envelope keys table next (envelope sealed payload) ≡ next value payload
found_in keys table next sealed payload value fits some opened = found_whole keys table next sealed payload fits ∙ found_behind keys table next sealed payload value some opened

-- what is sealed under a record with a prefix is no empty list
sealed-some : (table : Table) (keys : Keys) (plain ad random prefix : List ℕ) (r : Record) (s : Sealed) → primary_of keys ≡ Some r → prefix_of r ≡ Some prefix
    → seal_answer keys table plain ad random ≡ Some s → 0 < length s.bytes
sealed-some table keys plain ad random prefix r s primary is e =
    let under = sym (ap (option_and_then (seal_under table plain ad random)) primary) ∙ e in
    let second = then_some (seal_behind (prefix_bytes (prefix_of r)) plain ad random) (key_of_record table Aead r) s under in
    let sealing = sealed_behind (prefix_bytes (prefix_of r)) plain ad random second.0 s second.2 in
    let five : length (prefix_bytes (prefix_of r)) ≡ 5 = ap (λ (o : Option (List ℕ)). length (prefix_bytes o)) is ∙ ap length (sym (five-prefix_of r prefix is)) in
    omega (arith, ap length sealing.bytes, length-append (prefix_bytes (prefix_of r)) (seal_of second.0 (take (iv_size second.0) random) plain ad), five)

-- the payload opens under the data key
payload_opens : (law : SealingsOpen) (admitted : ReadingIsAdmitted) (keys : Keys) (table : Table) (scheme : Scheme) (row : Row) (plain ad random bytes : List ℕ) → IsAeadScheme scheme
    → (m : IsEnvelope keys table scheme row plain ad random bytes) → open_key m.key m.payload.bytes ad ≡ Some plain
payload_opens law admitted keys table scheme row plain ad random bytes aead m =
    let value : List ℕ = data_key_of row m.first in
    let of_scheme = admitted scheme value m.key m.valid in
    let iv : List ℕ = take (iv_size m.key) m.sealed.left in
    ap (λ (b : List ℕ). open_key m.key b ad) m.last.bytes
    ∙ law m.key iv plain ad (ap primitive_of_type of_scheme.0 ∙ aead, of_scheme.1) (length-take-le (iv_size m.key) m.sealed.left m.last.enough)

-- the envelope of a data key that opens, and of that payload, opens
opens_again : (keys : Keys) (table : Table) (scheme : Scheme) (sealed payload ad value plain : List ℕ) (key : KeyKind) → length sealed < 2 ^ 32 → 0 < length sealed → open_answer keys table sealed [] ≡ Some value
    → key_under scheme value ≡ Ok key → open_key key payload ad ≡ Some plain → open_envelope_of keys table scheme (envelope sealed payload) ad ≡ Some plain
opens_again keys table scheme sealed payload ad value plain key fits some opened valid opens =
    found_in keys table (open_under scheme ad) sealed payload value fits some opened
    ∙ ap (open_payload payload ad) valid
    ∙ opens

-- the sealing of a data key's message is short
few : (table : Table) (keys : Keys) (row : Row) (first random : List ℕ) (s : Sealed) → IsDataKeyRow row → length first ≡ random_of row → seal_answer keys table (data_key_of row first) [] random ≡ Some s → length s.bytes < 2 ^ 32
few table keys row first random s known whole sealing =
    omega (arith, sealing-long table keys (data_key_of row first) [] random s sealing, data_key-long row first known whole)

pub envelope_back : SameKeyOpens → SealingsOpen → ReadingIsAdmitted → EnvelopeBack
envelope_back opens law admitted table scheme row old new r prefix plain ad random bytes left known aead primary is gives has e =
    let m = is_envelope old table scheme row plain ad random bytes left e in
    let value : List ℕ = data_key_of row m.first in
    ap (λ (b : List ℕ). open_envelope_of new table scheme b ad) m.joined
    ∙ opens_again new table scheme m.sealed.bytes m.payload.bytes ad value plain m.key (few table old row m.first m.rest m.sealed known m.whole m.sealing)
    (sealed-some table old value [] m.rest prefix r m.sealed primary is m.sealing)
    (opens table old new r prefix value [] m.rest m.sealed primary is gives has m.sealing) m.valid
    (payload_opens law admitted old table scheme row plain ad random bytes aead m)

-- ---- resealed

-- an envelope of this plaintext, by its parts: a data key that this keyset sealed, and the payload under it
record EnvelopeOf (table : Table) (scheme : Scheme) (row : Row) (plain ad : List ℕ) (t : EnvelopeUnder) : Type 0 where
  first : List ℕ
  whole : length first ≡ random_of row
  key : KeyKind
  valid : key_under scheme (data_key_of row first) ≡ Ok key
  payload : List ℕ
  opens : open_key key payload ad ≡ Some plain
  short : length payload ≤ length plain + 80
  random : List ℕ
  sealed : Sealed
  sealing : seal_answer t.keys table (data_key_of row first) [] random ≡ Some sealed
  joined : t.bytes ≡ envelope sealed.bytes payload
  is_primary : primary_of t.keys ≡ Some t.primary
  gives : GivesKeyFor table Aead t.primary

-- one that was sealed
sealed_envelope : SealingsOpen → ReadingIsAdmitted → (table : Table) (scheme : Scheme) (row : Row) (t : EnvelopeUnder) (plain ad random left : List ℕ) → IsAeadScheme scheme → primary_of t.keys ≡ Some t.primary → GivesKeyFor table Aead t.primary
    → envelope_of t.keys table scheme row plain ad random ≡ Some (record { answer = Ok t.bytes; left = left }) → EnvelopeOf table scheme row plain ad t
sealed_envelope law admitted table scheme row t plain ad random left aead under gives e =
    let n = is_envelope t.keys table scheme row plain ad random t.bytes left e in
    let iv : List ℕ = take (iv_size n.key) n.sealed.left in
    let size : length iv ≡ iv_size n.key = length-take-le (iv_size n.key) n.sealed.left n.last.enough in
    record {
      first = n.first;
      whole = n.whole;
      key = n.key;
      valid = n.valid;
      payload = n.payload.bytes;
      opens = payload_opens law admitted t.keys table scheme row plain ad random t.bytes aead n;
      short = omega (arith, ap length n.last.bytes, (seal_facts n.key).long iv plain ad, size, iv-short n.key (admitted scheme (data_key_of row n.first) n.key n.valid).1);
      random = n.rest;
      sealed = n.sealed;
      sealing = n.sealing;
      joined = n.joined;
      is_primary = under;
      gives = gives;
    }

-- one that was resealed of such a one
envelope_next : SameKeyOpens → (table : Table) (scheme : Scheme) (row : Row) (plain ad : List ℕ) (old new : EnvelopeUnder) → IsDataKeyRow row → EnvelopeOf table scheme row plain ad old → IsKeyResealed table scheme old new → EnvelopeOf table scheme row plain ad new
envelope_next opens table scheme row plain ad old new known n x =
    let value : List ℕ = data_key_of row n.first in
    let p : List ℕ = n.payload in
    let parts : parts_in new.keys table scheme old.bytes ≡ Some (record { value = value; payload = p })
    = ap (parts_in new.keys table scheme) n.joined
    ∙ found_in new.keys table (valid_parts scheme) n.sealed.bytes p value (few table old.keys row n.first n.random n.sealed known n.whole n.sealing)
    (sealed-some table old.keys value [] n.random x.prefix old.primary n.sealed n.is_primary x.has n.sealing)
    (opens table old.keys new.keys old.primary x.prefix value [] n.random n.sealed n.is_primary x.has n.gives x.there n.sealing)
    ∙ ap (with_key value p) n.valid in
    let made : option_map (with_payload p) (seal_answer new.keys table value [] x.random) ≡ Some x.resealed
    = sym (ap (option_and_then (seal_parts new.keys table x.random)) parts) ∙ x.is in
    let found = map_some (with_payload p) (seal_answer new.keys table value [] x.random) x.resealed made in
    record {
      first = n.first;
      whole = n.whole;
      key = n.key;
      valid = n.valid;
      payload = p;
      opens = n.opens;
      short = n.short;
      random = x.random;
      sealed = found.0;
      sealing = found.1;
      joined = sym (ap (λ (s : Sealed). s.bytes) found.2 ∙ x.bytes);
      is_primary = x.is_primary;
      gives = x.gives;
    }

envelope_last : SameKeyOpens → (table : Table) (scheme : Scheme) (row : Row) (plain ad : List ℕ) (between : List EnvelopeUnder) (first last : EnvelopeUnder) → IsDataKeyRow row → EnvelopeOf table scheme row plain ad first → AreKeysResealed table scheme first between last
    → EnvelopeOf table scheme row plain ad last
unfolding AreKeysResealed
envelope_last opens table scheme row plain ad [] first last known n are = subst (EnvelopeOf table scheme row plain ad) are n
envelope_last opens table scheme row plain ad (next ∷ later) first last known n are =
    envelope_last opens table scheme row plain ad later next last known (envelope_next opens table scheme row plain ad first next known n are.0) are.1

pub envelope_resealed : SameKeyOpens → SealingsOpen → ReadingIsAdmitted → EnvelopeResealed
envelope_resealed opens law admitted table scheme row first last between new prefix plain ad random left known aead under gives e are is has =
    let n = envelope_last opens table scheme row plain ad between first last known (sealed_envelope law admitted table scheme row first plain ad random left aead under gives e) are in
    let value : List ℕ = data_key_of row n.first in
    let w : List ℕ = n.sealed.bytes in (
      ap (λ (b : List ℕ). open_envelope_of new table scheme b ad) n.joined
          ∙ opens_again new table scheme w n.payload ad value plain n.key (few table last.keys row n.first n.random n.sealed known n.whole n.sealing)
          (sealed-some table last.keys value [] n.random prefix last.primary n.sealed n.is_primary is n.sealing)
          (opens table last.keys new last.primary prefix value [] n.random n.sealed n.is_primary is n.gives has n.sealing) n.valid n.opens,
      omega (
        arith,
        ap length n.joined,
        length-append (to_be_bytes w32 (length w)) (w ++ n.payload),
        length-append w n.payload,
        sealing-long table last.keys value [] n.random n.sealed n.sealing,
        data_key-long row n.first known n.whole,
        n.short,
      ),
    )

-- ---- how long it is

pub envelopes_fit : ReadingIsAdmitted → EnvelopesFit
envelopes_fit admitted table scheme row keys plain ad random bytes left known e =
    let m = is_envelope keys table scheme row plain ad random bytes left e in
    let value : List ℕ = data_key_of row m.first in
    let w : List ℕ = m.sealed.bytes in
    let iv : List ℕ = take (iv_size m.key) m.sealed.left in
    let p : List ℕ = m.payload.bytes in
    let short = iv-short m.key (admitted scheme value m.key m.valid).1 in
    let size : length iv ≡ iv_size m.key = length-take-le (iv_size m.key) m.sealed.left m.last.enough in
    omega (
      arith,
      ap length m.joined,
      length-append (to_be_bytes w32 (length w)) (w ++ p),
      length-append w p,
      sealing-long table keys value [] m.rest m.sealed m.sealing,
      data_key-long row m.first known m.whole,
      ap length m.last.bytes,
      (seal_facts m.key).long iv plain ad,
      size,
      short,
    )

-- the parts of an envelope are no longer than it
key_is : (value payload : List ℕ) (read : Result KeyKind Rule) (parts : Parts) → with_key value payload read ≡ Some parts → parts ≡ record { value = value; payload = payload }
key_is value payload (Ok key) parts e = sym (same_Some _ _ e)
key_is value payload (Err rule) parts e = cc

parts_short : (keys : Keys) (table : Table) (scheme : Scheme) (size : ℕ) (rest : List ℕ) (parts : Parts) → parts_behind keys table scheme size rest ≡ Some parts → length parts.value + length parts.payload ≤ length rest
parts_short keys table scheme size rest parts e = by ((size == 0) || nat_lt (length rest) size) e
  where
    next : List ℕ → Option Parts
    next value = valid_parts scheme value (drop size rest)

    by : (b : Bool) → cond b None (option_and_then next (open_answer keys table (take size rest) [])) ≡ Some parts → length parts.value + length parts.payload ≤ length rest
    by true e = cc
    by false e =
        let found = then_some next (open_answer keys table (take size rest) []) parts e in
        let are = key_is found.0 (drop size rest) (key_under scheme found.0) parts found.2 in
        let short = opened-short Aead table keys (take size rest) [] found.0 found.1 in
        omega (
          arith,
          ap (λ (x : Parts). length x.value) are,
          ap (λ (x : Parts). length x.payload) are,
          short,
          length-append (take size rest) (drop size rest),
          ap length (take-append-drop size rest),
        )

pub parts_long : (keys : Keys) (table : Table) (scheme : Scheme) (bytes : List ℕ) (parts : Parts) → parts_in keys table scheme bytes ≡ Some parts → 4 + (length parts.value + length parts.payload) ≤ length bytes
parts_long keys table scheme bytes parts e = by (ltb (length bytes) 4) refl e
  where
    by : (b : Bool) → ltb (length bytes) 4 ≡ b → cond b None (parts_behind keys table scheme (from_be_bytes w32 (take 4 bytes)) (drop 4 bytes)) ≡ Some parts → 4 + (length parts.value + length parts.payload) ≤ length bytes
    by true few e = cc
    by false few e =
        let short = parts_short keys table scheme (from_be_bytes w32 (take 4 bytes)) (drop 4 bytes) parts e in
        omega (arith, short, length-drop 4 bytes, ltb-false (length bytes) 4 few)

pub resealed_fit : ResealedFit
resealed_fit table scheme keys bytes random resealed e =
    let one = then_some (seal_parts keys table random) (parts_in keys table scheme bytes) resealed e in
    let parts : Parts = one.0 in
    let two = map_some (with_payload parts.payload) (seal_answer keys table parts.value [] random) resealed one.2 in
    let s : Sealed = two.0 in
    omega (
      arith,
      ap (λ (x : Sealed). length x.bytes) two.2,
      length-append (to_be_bytes w32 (length s.bytes)) (s.bytes ++ parts.payload),
      length-append s.bytes parts.payload,
      sealing-long table keys parts.value [] random s two.1,
      parts_long keys table scheme bytes parts one.1,
    )
