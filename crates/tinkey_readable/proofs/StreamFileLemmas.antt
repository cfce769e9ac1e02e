-- Streams that become a new file.
use Rattle.std.proofs.Common.{◌≡◌, ◌∙◌, ◌⊎◌, inl, inr, sym, refl, ap, ℕ, ◌+◌, Bool, true, false, List, [], length, take, drop, Option, Some, None}
use Rattle.std.specs.Prelude.{if◌then◌else◌, nat_le}
use Rattle.std.specs.FinMap as map
use Rattle.managers.specs.Table.{Table}
use Rattle.segment_stream.specs.Opening.{StreamRefusal}
use Rattle.segment_stream.specs.Pumping.{Part, opening_any}
use Rattle.segment_stream.specs.Segments.{ciphers_of}
use Rattle.tink_spec.specs.Files.{Files}
use Rattle.tinkey_cmds.specs.Draws.{Drawn}
use Rattle.tinkey_plans.specs.declared.status.Status.{Status}
use Rattle.tinkey_plans.specs.declared.status.Status.TheVariants as status
use Rattle.tinkey_plans.specs.Commands.{command_plan}
use Rattle.tinkey_plans.specs.Laws.{CommandsAreWhole, IsSession, IsStream}
use Rattle.tinkey_plans.specs.Plan.{Answer, Plan, Told, allocates, answer, collect_answer, collects, create_answer, creates, draw_answer, draws, ends, exchanges, load_answer, loads, look_answer, looks, pumps, range_answer, ranges, reads_all, reads_front, refused, writes}
use Rattle.tinkey_plans.specs.Promises.{IsWhole}
use Rattle.tinkey_plans.specs.Streaming.{begins_file, opens_stream, reseals_stream, seals_stream}
use Rattle.tinkey_plans.specs.FileRange.{Opened, FileRange, range_in}
use Rattle.tinkey_words.specs.declared.words.rows.Format.{Format}
use Rattle.tinkey_words.specs.Words.{Asked, Lock, open_stream, reseal_stream, seal_stream}
use Rattle.tinkey_readable.specs.DoneWhere.{StreamOpens, StreamReseals, StreamSeals, StreamsDone}
use Rattle.tinkey_readable.specs.StreamFiles.{IsWholeOrAbsent, StreamsWholeOrAbsent}
use Rattle.tinkey_readable.proofs.DoneStreamLemmas.{both, reseal_part}
use Rattle.tinkey_readable.proofs.PassLemmas.{begins_reached, behind_draw, pass_reached, passed, passes_reached}
use Rattle.tinkey_readable.proofs.ReachLemmas.{IsDoneAnswer}
use Rattle.tinkey_readable.proofs.StreamRunLemmas.{keys_reached, seal_part, with_primary}

-- ---- what is refused changes nothing

abbrev IsKept : Files → Answer → Type 0
IsKept files a = (a.files ≡ files) × (a.output ≡ [])

abbrev IsDoneOrKept : Files → Answer → Type 0
IsDoneOrKept files a = IsDoneAnswer a ⊎ IsKept files a

-- by what is found
looked : (files : Files) (found : Option (List ℕ)) (taken next : Answer) → IsKept files taken → IsDoneOrKept files next → IsDoneOrKept files (look_answer found taken next)
looked files None taken next one other = other
looked files (Some there) taken next one other = inr one

loaded : (files : Files) (found : Option (List ℕ)) (limit : ℕ) (missing long : Answer) (next : List ℕ → Answer) → IsKept files missing → IsKept files long → ((bytes : List ℕ) → IsDoneOrKept files (next bytes))
    → IsDoneOrKept files (load_answer found limit missing long next)
loaded files None limit missing long next one two all = inr one
loaded files (Some bytes) limit missing long next one two all = by (nat_le (length bytes) limit)
  where
    by : (b : Bool) → IsDoneOrKept files (if b then next bytes else long)
    by true = all bytes
    by false = inr two

ranged : (files : Files) (found : Option (List ℕ)) (range : FileRange) (missing : Answer) (next : Opened → Answer) → IsKept files missing → ((opened : Opened) → IsDoneOrKept files (next opened))
    → IsDoneOrKept files (range_answer found range missing next)
ranged files None range missing next one all = inr one
ranged files (Some bytes) range missing next one all = all (range_in range bytes)

read : (files : Files) (b : Bool) (next long : Answer) → IsDoneOrKept files next → IsKept files long → IsDoneOrKept files (if b then next else long)
read files true next long one other = one
read files false next long one other = inr other

drawn : {A : Type 0} (files : Files) (found : Option (Drawn A)) (short : Answer) (next : Drawn A → Answer) → IsKept files short → ((drawn : Drawn A) → IsDoneOrKept files (next drawn)) → IsDoneOrKept files (draw_answer found short next)
drawn files None short next one all = inr one
drawn files (Some found) short next one all = all found

created : (told : Told) (name output : List ℕ) (taken : Status) (found : Option (List ℕ)) → IsDoneOrKept told.files (create_answer found told name output (refused told taken))
created told name output taken None = inl refl
created told name output taken (Some there) = inr (refl, refl)

collected : (told : Told) (o : Option StreamRefusal) (next : Answer) → IsDoneOrKept told.files next → IsDoneOrKept told.files (collect_answer o told next)
collected told None next one = one
collected told (Some refusal) next one = inr (refl, refl)

whole_keeps : (p : Plan) (told : Told) → IsWhole p → IsDoneOrKept told.files (answer p told)
whole_keeps (ends s stated) told is = inr (refl, refl)
whole_keeps (writes output) told is = inl refl
whole_keeps (creates name output taken stated) told is = created told name output taken (map.get told.files name)
whole_keeps (looks name taken stated next) told is = looked told.files (map.get told.files name) (refused told taken) (answer next told) (refl, refl) (whole_keeps next told is)
whole_keeps (allocates next) told is = whole_keeps next told is
whole_keeps (loads name limit missing long a l next) told is =
    loaded told.files (map.get told.files name) limit (refused told missing) (refused told long) (λ bytes. answer (next bytes) told) (refl, refl) (refl, refl) (λ bytes. whole_keeps (next bytes) told (is bytes))
whole_keeps (ranges range missing a next) told is =
    ranged told.files (map.get told.files range.name) range (refused told missing) (λ opened. answer (next opened) told) (refl, refl) (λ opened. whole_keeps (next opened) told (is opened))
whole_keeps (reads_all limit long stated next) told is =
    read told.files (nat_le (length told.input) limit) (answer (next told.input) (record told { input = [] })) (record (refused told long) { input = Some (drop (limit + 1) told.input) }) (whole_keeps (next told.input) (record told { input = [] }) (is told.input)) (refl, refl)
whole_keeps (reads_front size next) told is = whole_keeps (next (take size told.input)) (record told { input = drop size told.input }) (is (take size told.input))
whole_keeps (draws kind give next) told is =
    drawn told.files (give told.random) (refused told status.EntropyFault) (λ found. answer (next found.answer) (record told { random = found.left })) (refl, refl) (λ found. whole_keeps (next found.answer) (record told { random = found.left }) (is found.answer))
whole_keeps (pumps part) told is = absurd is
whole_keeps (collects part next) told is =
    let output = part.output told.input true in
    collected told (part.refusal told.input true) (answer (next output) (record told { input = [] })) (whole_keeps (next output) (record told { input = [] }) (is output))
whole_keeps (exchanges exchange next) told is = absurd is

-- ---- a whole file

-- one that was Done, and the answer without it
record IsWholeFile (files : Files) (file : List ℕ) (a shown : Answer) : Type 0 where
  free : map.get files file ≡ None
  done : IsDoneAnswer shown
  whole : a.files ≡ map.insert files file shown.output
  nothing : a.output ≡ []

-- a pass that isn't refused, with the file and without
passed_whole : (file : List ℕ) (part : Part) (told : Told) (a shown : Answer) → a ≡ passed (Some file) part told → shown ≡ passed None part told → map.get told.files file ≡ None
    → IsWholeFile told.files file a shown
passed_whole file part told a shown is other free =
    let left = record told { input = [] } in
    let output = part.output told.input true in
    let put : a ≡ create_answer None left file output (refused left status.OutExists) = is ∙ ap (λ found. create_answer found left file output (refused left status.OutExists)) free in
    record {
      free = free;
      done = ap (λ (x : Answer). x.status) other;
      whole = ap (λ (x : Answer). x.files) put ∙ ap (λ (l : List ℕ). map.insert told.files file l) (sym (ap (λ (x : Answer). x.output) other));
      nothing = ap (λ (x : Answer). x.output) put;
    }

whole_sealed : (table : Table) (lock : Lock) (name : List ℕ) (form : Format) (ad file : List ℕ) (told : Told) → StreamSeals table lock name form ad (Some file) told
    → IsWholeFile told.files file (answer (command_plan table (seal_stream lock name form ad (Some file))) told) (answer (command_plan table (seal_stream lock name form ad None)) told)
whole_sealed table lock name form ad file told x =
    let n = x.primary.derived + 7 in
    let keys = with_primary x.keys x.primary in
    passed_whole file (seal_part keys ad (take n told.random)) (behind_draw n told) _ _
    (keys_reached table lock name form x.keys x.primary (λ s. begins_file (Some file) (seals_stream s ad (Some file))) told x.lies x.fit x.there ∙ pass_reached n (seal_part keys ad) (Some file) told x.free x.enough x.few)
    (keys_reached table lock name form x.keys x.primary (λ s. begins_file None (seals_stream s ad None)) told x.lies x.fit x.there ∙ pass_reached n (seal_part keys ad) None told tt x.enough x.few)
    x.free

whole_opened : (table : Table) (lock : Lock) (name : List ℕ) (form : Format) (ad file : List ℕ) (told : Told) → StreamOpens table lock name form ad (Some file) told
    → IsWholeFile told.files file (answer (command_plan table (open_stream lock name form ad (Some file))) told) (answer (command_plan table (open_stream lock name form ad None)) told)
whole_opened table lock name form ad file told x =
    let keys = with_primary x.keys x.primary in
    let part = opening_any (ciphers_of ad keys.keys) in
    passed_whole file part told _ _
    (keys_reached table lock name form x.keys x.primary (λ s. begins_file (Some file) (opens_stream s ad (Some file))) told x.lies x.fit x.there ∙ begins_reached (Some file) (opens_stream keys ad (Some file)) told x.free ∙ passes_reached (Some file) part told x.opens)
    (keys_reached table lock name form x.keys x.primary (λ s. begins_file None (opens_stream s ad None)) told x.lies x.fit x.there ∙ passes_reached None part told x.opens)
    x.free

whole_resealed : (table : Table) (lock : Lock) (name : List ℕ) (form : Format) (ad file : List ℕ) (told : Told) → StreamReseals table lock name form ad (Some file) told
    → IsWholeFile told.files file (answer (command_plan table (reseal_stream lock name form ad (Some file))) told) (answer (command_plan table (reseal_stream lock name form ad None)) told)
whole_resealed table lock name form ad file told x =
    let n = x.primary.derived + 7 in
    let keys = with_primary x.keys x.primary in
    let none = both _ _ x.few x.opens in
    passed_whole file (reseal_part keys ad (take n told.random)) (behind_draw n told) _ _
    (keys_reached table lock name form x.keys x.primary (λ s. begins_file (Some file) (reseals_stream s ad (Some file))) told x.lies x.fit x.there ∙ pass_reached n (reseal_part keys ad) (Some file) told x.free x.enough none)
    (keys_reached table lock name form x.keys x.primary (λ s. begins_file None (reseals_stream s ad None)) told x.lies x.fit x.there ∙ pass_reached n (reseal_part keys ad) None told tt x.enough none)
    x.free

-- ---- whole or absent

-- a whole plan is Done, and then the file is whole; or it has changed nothing
parted : CommandsAreWhole → (table : Table) (asked : Asked) (file : List ℕ) (told : Told) (shown : Answer) → (IsStream asked → ⊥) → (IsSession asked → ⊥)
    → (IsDoneAnswer (answer (command_plan table asked) told) → IsWholeFile told.files file (answer (command_plan table asked) told) shown)
    → IsWholeOrAbsent told.files file (answer (command_plan table asked) told) shown
parted law table asked file told shown stream session done = record {
  free = λ is. (done is).free;
  done = λ is. (done is).done;
  whole = λ is. (done is).whole;
  absent = λ other. kept other parts;
  nothing = empty parts;
}
  where
    a : Answer
    a = answer (command_plan table asked) told

    parts : IsDoneOrKept told.files a
    parts = elim (law table asked) [
      | inl is ↦ whole_keeps (command_plan table asked) told is
      | inr other ↦ elim other [
        | inl is ↦ absurd (stream is)
        | inr is ↦ absurd (session is)
      ]
    ]

    kept : (IsDoneAnswer a → ⊥) → IsDoneOrKept told.files a → a.files ≡ told.files
    kept other (inl is) = absurd (other is)
    kept other (inr is) = is.0

    empty : IsDoneOrKept told.files a → a.output ≡ []
    empty (inl is) = (done is).nothing
    empty (inr is) = is.1

pub streams_whole_or_absent : CommandsAreWhole → StreamsDone → StreamsWholeOrAbsent
streams_whole_or_absent law goes = record {
  sealed = λ table lock name form ad file told. parted law table (seal_stream lock name form ad (Some file)) file told _ (λ s. s) (λ s. s) (λ done. whole_sealed table lock name form ad file told ((goes.sealed table lock name form ad (Some file) told).0 done));
  opened = λ table lock name form ad file told. parted law table (open_stream lock name form ad (Some file)) file told _ (λ s. s) (λ s. s) (λ done. whole_opened table lock name form ad file told ((goes.opened table lock name form ad (Some file) told).0 done));
  resealed = λ table lock name form ad file told. parted law table (reseal_stream lock name form ad (Some file)) file told _ (λ s. s) (λ s. s) (λ done. whole_resealed table lock name form ad file told ((goes.resealed table lock name form ad (Some file) told).0 done));
}
