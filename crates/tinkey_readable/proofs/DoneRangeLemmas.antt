-- Where a range of a stream is opened.
use Rattle.std.proofs.Common.{◌≡◌, ◌∙◌, sym, refl, ap, ℕ, ◌+◌, List, Option, Some, None, Ok, Err}
use Rattle.std.specs.FinMap as map
use Rattle.managers.specs.Table.{Table}
use Rattle.segment_stream.specs.KeysModel.{KeysForStreams}
use Rattle.segment_stream.specs.Range.{past_end, range_of, stream_failed}
use Rattle.segment_stream.specs.Segments.{ciphers_of}
use Rattle.tinkey_plans.specs.declared.status.Status.TheVariants as status
use Rattle.tinkey_plans.specs.Commands.{command_plan}
use Rattle.tinkey_plans.specs.Plan.{Answer, Told, answer, range_answer, refused}
use Rattle.tinkey_plans.specs.Ranging.{opens_file_range, range_for, with_range}
use Rattle.tinkey_plans.specs.Steps.{puts}
use Rattle.tinkey_plans.specs.FileRange.{Opened, range_in}
use Rattle.tinkey_words.specs.declared.words.rows.Format.{Format}
use Rattle.tinkey_words.specs.Words.{AskedRange, Lock, open_range}
use Rattle.tinkey_readable.specs.DoneWhere.{RangeOpens, RangesDone}
use Rattle.tinkey_readable.specs.Runs.{IsFree}
use Rattle.tinkey_readable.proofs.LyingLemmas.{name_free}
use Rattle.tinkey_readable.proofs.RangeRunLemmas.{puts_reached, file_range_reached}
use Rattle.tinkey_readable.proofs.ReachLemmas.{IsDoneAnswer}
use Rattle.tinkey_readable.proofs.StreamRunLemmas.{keys_loaded, keys_reached, with_primary}

-- the stream and the plaintext, where what follows the keys is done
record RangeOpened (keys : KeysForStreams) (ad : List ℕ) (range : AskedRange) (out : Option (List ℕ)) (told : Told) : Type 0 where
  stream : List ℕ
  holds : map.get told.files range.file ≡ Some stream
  plain : List ℕ
  opens : range_of (ciphers_of ad keys.keys) stream range.from (range.from + range.size) ≡ Ok plain
  free : IsFree out told.files

range_done : (keys : KeysForStreams) (ad : List ℕ) (range : AskedRange) (out : Option (List ℕ)) (told : Told) → IsDoneAnswer (answer (opens_file_range keys ad range (puts out)) told) → RangeOpened keys ad range out told
range_done keys ad range out told done = by_file (map.get told.files range.file) refl done
  where
    by_range : (stream : List ℕ) (opened : Opened) → map.get told.files range.file ≡ Some stream → range_in (range_for keys ad range) stream ≡ opened → IsDoneAnswer (answer (with_range opened (puts out)) told) → RangeOpened keys ad range out told
    by_range stream (Ok plain) holds is done = record { stream = stream; holds = holds; plain = plain; opens = is; free = name_free out plain told done }
    by_range stream (Err (stream_failed number)) holds is done = absurd (cc)
    by_range stream (Err past_end) holds is done = absurd (cc)

    by_file : (found : Option (List ℕ)) → map.get told.files range.file ≡ found → IsDoneAnswer (range_answer found (range_for keys ad range) (refused told status.StreamMissing) (λ o. answer (with_range o (puts out)) told)) → RangeOpened keys ad range out told
    by_file None holds done = absurd (cc)
    by_file (Some stream) holds done = by_range stream (range_in (range_for keys ad range) stream) holds refl done

range_is : (table : Table) (lock : Lock) (name : List ℕ) (form : Format) (ad : List ℕ) (range : AskedRange) (out : Option (List ℕ)) (told : Told) → IsDoneAnswer (answer (command_plan table (open_range lock name form ad range out)) told) → RangeOpens table lock name form ad range out told
range_is table lock name form ad range out told is =
    let u = keys_loaded table lock name form (λ s. opens_file_range s ad range (puts out)) told is in
    let s = range_done (with_primary u.keys u.primary) ad range out told (ap (λ (a : Answer). a.status) (sym u.goes_on) ∙ is) in
    record { keys = u.keys; lies = u.lies; fit = u.fit; primary = u.primary; there = u.there; stream = s.stream; holds = s.holds; plain = s.plain; opens = s.opens; free = s.free }

range_comes : (table : Table) (lock : Lock) (name : List ℕ) (form : Format) (ad : List ℕ) (range : AskedRange) (out : Option (List ℕ)) (told : Told) → RangeOpens table lock name form ad range out told → IsDoneAnswer (answer (command_plan table (open_range lock name form ad range out)) told)
range_comes table lock name form ad range out told x =
    let keys = with_primary x.keys x.primary in
    let reached = keys_reached table lock name form x.keys x.primary (λ s. opens_file_range s ad range (puts out)) told x.lies x.fit x.there in
    let range = file_range_reached keys ad x.stream range out told (Ok x.plain) x.holds x.opens in
    ap (λ (a : Answer). a.status) (reached ∙ range) ∙ puts_reached out x.plain told x.free

pub ranges_done : RangesDone
ranges_done table lock name form ad range out told = (range_is table lock name form ad range out told, range_comes table lock name form ad range out told)
