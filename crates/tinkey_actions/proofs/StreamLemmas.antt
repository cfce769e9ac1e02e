-- Streams sealed and opened by the keys of a keyset, as steps.
use Rattle.std.proofs.Common.{◌≡◌, ◌∙◌, ◌⊎◌, refl, sym, ap, subst, inl, inr, ℕ, ◌+◌, List, [], ◌++◌, length, length-append, Bool, true, false, Option, Some, None, Result, Ok, Err, arith}
use Rattle.std.specs.Prelude.{All, nat_lt, drop, option_map, if◌then◌else◌}
use Rattle.std.specs.Result.{IsErrAnd}
use Rattle.std.proofs.lemmas.Bool.Decides.{nat_tests}
use Rattle.std.proofs.lemmas.List.{take_at, drop_at}
use Rattle.keyset_model.specs.Keyset.{Keys}
use Rattle.segment_stream.specs.Cipher.{SegmentCipher, IsCipher}
use Rattle.segment_stream.specs.KeysModel.{KeysForStreams, AreOf, AreSound}
use Rattle.segment_stream.specs.Opening.{StreamRefusal, too_many, failed}
use Rattle.segment_stream.specs.PumpModels.{SealerState, IsMade, pump_result}
use Rattle.segment_stream.specs.Pumping.{Pumps, ShowsFaults, sealing, opening_any, resealing, fault_of, result_of}
use Rattle.segment_stream.specs.Pumping as pass
use Rattle.segment_stream.specs.Sealing.{header_of, sealed_behind, many_plain}
use Rattle.segment_stream.specs.Segments.{cipher_of, ciphers_of}
use Rattle.segment_stream.specs.StreamKeys.{stream_unfit, stream_keys, IsUnfit}
use Rattle.segment_stream.specs.declared.fault.OpenPumpFault.{OpenPumpFault}
use Rattle.segment_stream.specs.declared.fault.OpenPumpFault.TheVariants as faults
use Rattle.segment_stream.specs.declared.fault.SealPumpFault.{SealPumpFault}
use Rattle.segment_stream.specs.declared.key.StreamKey.{StreamKey}
use Rattle.segment_stream.specs.declared.keys.StreamKeysFault.{StreamKeysFault}
use Rattle.segment_stream.specs.declared.keys.StreamKeysFault.TheVariants as key_faults
use Rattle.segment_stream.proofs.CipherLemmas.{cipher_of-is_cipher, ciphers_of-are_ciphers}
use Rattle.segment_stream.proofs.OpeningLemmas.{decides_stays}
use Rattle.segment_stream.proofs.ResealingLemmas.{reseal-stays}
use Rattle.segment_stream.proofs.SealAnswering.{seal-pass-answers}
use Rattle.tink_spec.specs.Outside.{SourceState, SinkState, EntropyState, RanShort, Stood}
use Rattle.tinkey_cmds.specs.Draws.{Drawn, fill, answered}
use Rattle.tinkey_plans.specs.declared.status.Status.{Status}
use Rattle.tinkey_plans.specs.declared.status.Status.TheVariants as status
use Rattle.tinkey_cmds.proofs.Drawings.{ran_out-fill}
use Rattle.tinkey_words.specs.declared.words.rows.Format.{Format}
use Rattle.tinkey_plans.specs.Ends.{World, Ends, OnlyStreams, IsLasting, pump_status, draw_failed, settled}
use Rattle.tinkey_plans.specs.Plan.{Plan, allocates}
use Rattle.tinkey_plans.specs.Steps.{Passes}
use Rattle.tinkey_plans.specs.Locks.{loads_locked}
use Rattle.tinkey_words.specs.Words.{Lock}
use Rattle.managers.specs.Table.{Table}
use Rattle.tinkey_plans.specs.Streaming.{unless_unfit, keys_for, with_keys, loads_stream_keys, seals_stream, opens_stream, reseals_stream, stream_keys_refusal}
use Rattle.tinkey_plans.proofs.StepLemmas.{passes_then, ends_there}
use Rattle.tinkey_plans.specs.UnfitKeys.{unfit_key}
use Rattle.tinkey_plans.specs.declared.origin.Origin.TheVariants as origins

-- The keys.

abbrev fits : Keys → (KeysForStreams → Plan) → Plan
fits keys next = allocates (unless_unfit (unfit_key origins.Keyset keys) (stream_unfit keys) (with_keys (keys_for keys) next))

-- no keyset was loaded
pub no_keyset : (table : Table) (lock : Lock) (name : List ℕ) (form : Format) (old new : World) (r : Result KeysForStreams Status) (s : Status) → IsErrAnd r (λ e. e ≡ s) → Passes {A = Keys} (loads_locked table lock name form) old (Err s) new → Passes (loads_stream_keys table lock name form) old r new
no_keyset table lock name form old new r s is one = ends_there (loads_locked table lock name form) fits old new r s is one

pub keys_are : (keys : Keys) (those : KeysForStreams) → AreOf those keys → keys_for keys ≡ Some those
keys_are keys those are =
    ap (option_map (λ primary. record { primary = primary; keys = stream_keys keys })) are.1
    ∙ ap (λ (all : List StreamKey). Some (record { primary = those.primary; keys = all })) (sym are.0)

-- each record gives one
pub with_stream_keys : (table : Table) (lock : Lock) (name : List ℕ) (form : Format) (old mid : World) (keys : Keys) (those : KeysForStreams) → stream_unfit keys ≡ None → AreOf those keys → Passes (loads_locked table lock name form) old (Ok keys) mid → Passes (loads_stream_keys table lock name form) old (Ok those) mid
with_stream_keys table lock name form old mid keys those fit are one =
    passes_then (loads_locked table lock name form) fits old mid mid keys (Ok those) one (λ next s last run. inl (rw (fit, keys_are keys those are) run))

pub unfit_ends : (keys : Keys) (fault : StreamKeysFault) (w : World) → IsUnfit fault (stream_unfit keys) → (next : KeysForStreams → Plan) → Ends (fits keys next) w (stream_keys_refusal (unfit_key origins.Keyset keys) fault) w
unfit_ends keys (key_faults.NotStream i) w is next = rw is (inl (refl, refl))
unfit_ends keys (key_faults.BadKey i rule) w is next = rw is (inl (refl, refl))
unfit_ends keys key_faults.NoMemory w is next = inr (refl, refl)

-- some record gives none
pub no_stream_keys : (table : Table) (lock : Lock) (name : List ℕ) (form : Format) (old mid : World) (keys : Keys) (fault : StreamKeysFault) → IsUnfit fault (stream_unfit keys) → Passes (loads_locked table lock name form) old (Ok keys) mid → Passes {A = KeysForStreams} (loads_stream_keys table lock name form) old (Err (stream_keys_refusal (unfit_key origins.Keyset keys) fault)) mid
no_stream_keys table lock name form old mid keys fault is one =
    passes_then (loads_locked table lock name form) fits old mid mid keys (Err (stream_keys_refusal (unfit_key origins.Keyset keys) fault)) one (unfit_ends keys fault mid is)

-- What is decided lasts.

opening_lasts : (keys : List SegmentCipher) → All IsCipher keys → IsLasting (opening_any keys)
opening_lasts keys all = record { stays = λ taken more refusal decided. decides_stays keys taken more true refusal all decided }

other_fault : (refusal : StreamRefusal) (found : Option StreamRefusal) → Err (fault_of refusal) ≡ result_of found → found ≡ Some refusal
other_fault refusal None is = absurd (cc)
other_fault too_many (Some too_many) is = refl
other_fault too_many (Some (failed n)) is = absurd (cc)
other_fault (failed n) (Some too_many) is = absurd (cc)
other_fault (failed n) (Some (failed m)) is = let same : Err (faults.StreamFailed n) ≡ Err (faults.StreamFailed m) = is in let e : n ≡ m = cc in ap (λ (k : ℕ). Some (failed k)) (sym e)

abbrev IsRefusal : StreamRefusal → OpenPumpFault → Type 0
IsRefusal refusal fault = ◌≡◌ {A = Result (Unit {0}) OpenPumpFault} (Err (fault_of refusal)) (Err fault)

not_read : (refusal : StreamRefusal) → IsRefusal refusal faults.ReadFault → ⊥
not_read too_many is = cc
not_read (failed n) is = cc

not_write : (refusal : StreamRefusal) → IsRefusal refusal faults.WriteFault → ⊥
not_write too_many is = cc
not_write (failed n) is = cc

-- by a pass over the bytes taken and those behind them, which was refused before the end
sealing_lasts : (key : SegmentCipher) (header : List ℕ) → IsCipher key → IsLasting (sealing key header)
sealing_lasts key header cipher = record { stays = λ taken more refusal decided. stays taken more refusal (law taken more refusal decided) }
  where
    out : List ℕ → List ℕ
    out taken = sealed_behind key header taken false

    was : List ℕ → SourceState
    was bytes = record { left = Some bytes; faults = 0; ended = false; late = 0 }

    sink : List ℕ → SinkState
    sink bytes = record { written = Some bytes; faults = 0 }

    law : (taken more : List ℕ) (refusal : StreamRefusal) → many_plain key header taken ≡ Some refusal
        → IsRefusal refusal faults.ReadFault ⊎ (IsRefusal refusal faults.WriteFault ⊎ ((Some (out taken) ≡ Some ([] ++ sealed_behind key header (taken ++ more) true)) × (Err (fault_of refusal) ≡ result_of (many_plain key header (taken ++ more)))))
    law taken more refusal decided = seal-pass-answers key header (taken ++ more) [] (Err (fault_of refusal)) (was (taken ++ more)) (was more) (sink []) (sink (out taken)) cipher
        (pass.refused taken (out taken) false refusal refl (record { left = refl; faults = omega arith }) (λ h. absurd (cc)) (λ h. absurd (cc)) (record { written = refl; faults = omega arith }) refl decided) refl refl

    stays : (taken more : List ℕ) (refusal : StreamRefusal)
        → IsRefusal refusal faults.ReadFault ⊎ (IsRefusal refusal faults.WriteFault ⊎ ((Some (out taken) ≡ Some ([] ++ sealed_behind key header (taken ++ more) true)) × (Err (fault_of refusal) ≡ result_of (many_plain key header (taken ++ more)))))
        → (many_plain key header (taken ++ more) ≡ Some refusal) × (sealed_behind key header (taken ++ more) true ≡ sealed_behind key header taken false)
    stays taken more refusal (inl reading) = absurd (not_read refusal reading)
    stays taken more refusal (inr (inl writing)) = absurd (not_write refusal writing)
    stays taken more refusal (inr (inr both)) = (
      other_fault refusal (many_plain key header (taken ++ more)) both.1,
      let same : out taken ≡ sealed_behind key header (taken ++ more) true = cc in sym same,
    )

resealing_lasts : (keys : List SegmentCipher) (key : SegmentCipher) (header : List ℕ) → All IsCipher keys → IsCipher key → IsLasting (resealing keys key header)
resealing_lasts keys key header all cipher = record { stays = λ taken more refusal decided. reseal-stays keys key header taken more refusal all cipher decided }

-- A pass that opens.

pub opened_ends : (keys : KeysForStreams) (ad other : List ℕ) (result : Result (Unit {0}) OpenPumpFault) (s : Status) (old new : World) → AreSound keys → other ≡ ad → s ≡ pump_status result → OnlyStreams old new → Pumps (opening_any (ciphers_of other keys.keys)) [] [] false result old.source new.source old.sink new.sink → ShowsFaults result old.source new.source old.sink new.sink → Ends (opens_stream keys ad None) old s new
opened_ends keys ad other result s old new sound same is only run shown = inl (record {
  result = result;
  status = is;
  only = only;
  pass = subst (λ (a : List ℕ). Pumps (opening_any (ciphers_of a keys.keys)) [] [] false result old.source new.source old.sink new.sink) same run;
  shown = shown;
  lasting = opening_lasts (ciphers_of ad keys.keys) (ciphers_of-are_ciphers ad keys.keys sound.keys);
})

-- A pass that seals.

fill_test : (b : Bool) (drawn : Drawn (List ℕ)) → b ≡ false → (if b then None else Some drawn) ≡ Some drawn
fill_test false drawn is = refl
fill_test true drawn is = absurd (cc)

fill_settles : (count : ℕ) (random more : List ℕ) → length random ≡ count → fill count (random ++ more) ≡ answered (Ok random) more
fill_settles count random more whole =
    fill_test (nat_lt (length (random ++ more)) count) _ (grind (arith, nat_tests, length-append random more))
    ∙ ap (λ (front : List ℕ). Some (record { answer = Ok front; left = drop count (random ++ more) })) (take_at random more count whole)
    ∙ ap (λ (rest : List ℕ). Some (record { answer = Ok random; left = rest })) (drop_at random more count whole)

pub sealed_ends : (keys : KeysForStreams) (ad : List ℕ) (sealer : SealerState) (result : Result (Unit {0}) SealPumpFault) (s : Status) (old : World) (entropy : EntropyState) (new : World) → AreSound keys → IsMade keys ad old.entropy entropy sealer → Stood old.entropy.faults entropy.faults → s ≡ pump_status (pump_result result) → OnlyStreams (record old { entropy = entropy }) new → Pumps (sealing (cipher_of ad keys.primary) sealer.header) [] [] false (pump_result result) old.source new.source old.sink new.sink → ShowsFaults (pump_result result) old.source new.source old.sink new.sink → Ends (seals_stream keys ad None) old s new
sealed_ends keys ad sealer result s old entropy new sound made stood is only run shown =
    let cipher = cipher_of ad keys.primary in
    inl (settled made.random entropy (Ok made.random) made.drew stood (λ more. fill_settles (keys.primary.derived + 7) made.random more made.whole) (record {
      result = pump_result result;
      status = is;
      only = only;
      pass = subst (λ (h : List ℕ). Pumps (sealing cipher h) [] [] false (pump_result result) old.source new.source old.sink new.sink) made.header run;
      shown = shown;
      lasting = sealing_lasts cipher (header_of cipher made.random) (cipher_of-is_cipher ad keys.primary sound.primary);
    }))

-- the entropy failed at the header
pub unsealed_ends : (keys : KeysForStreams) (ad : List ℕ) (old : World) (entropy : EntropyState) → RanShort old.entropy entropy (keys.primary.derived + 7) → Ends (seals_stream keys ad None) old status.EntropyFault (record old { entropy = entropy })
unsealed_ends keys ad old entropy ran =
    inl (draw_failed refl (record { source = refl; sink = refl; store = refl }) (ran_out-fill old.entropy entropy (keys.primary.derived + 7) ran (omega arith)))

-- A pass that opens and seals again.

pub resealed_ends : (keys : KeysForStreams) (ad : List ℕ) (sealer : SealerState) (result : Result (Unit {0}) OpenPumpFault) (s : Status) (old : World) (entropy : EntropyState) (new : World) → AreSound keys → IsMade keys ad old.entropy entropy sealer → Stood old.entropy.faults entropy.faults → s ≡ pump_status result → OnlyStreams (record old { entropy = entropy }) new → Pumps (resealing (ciphers_of ad keys.keys) (cipher_of ad keys.primary) sealer.header) [] [] false result old.source new.source old.sink new.sink → ShowsFaults result old.source new.source old.sink new.sink → Ends (reseals_stream keys ad None) old s new
resealed_ends keys ad sealer result s old entropy new sound made stood is only run shown =
    let cipher = cipher_of ad keys.primary in
    inl (settled made.random entropy (Ok made.random) made.drew stood (λ more. fill_settles (keys.primary.derived + 7) made.random more made.whole) (record {
      result = result;
      status = is;
      only = only;
      pass = subst (λ (h : List ℕ). Pumps (resealing (ciphers_of ad keys.keys) cipher h) [] [] false result old.source new.source old.sink new.sink) made.header run;
      shown = shown;
      lasting = resealing_lasts (ciphers_of ad keys.keys) cipher (header_of cipher made.random) (ciphers_of-are_ciphers ad keys.keys sound.keys) (cipher_of-is_cipher ad keys.primary sound.primary);
    }))
