-- What a handle's kept keys open and verify is what its keyset answers.
use Rattle.std.proofs.Common.{subst, ◌≡◌, ◌∙◌, ℕ, suc, ◌+◌, refl, sym, ap, List, [], ◌∷◌, ◌++◌, map, Option, Some, None, Result, Ok, Err, option_map, Bool, true, false, ◌&&◌, ◌||◌, cond, take, drop, length}
use Rattle.std.specs.Prelude.{is_some, slice_get}
use Rattle.std.specs.Option.{option_and_then, option_flatten, option_or}
use Rattle.std.specs.List.{AllByRecursion, cons_option, filter_map, list_any}
use Rattle.std.proofs.lemmas.List.{map-append}
use Rattle.std.proofs.lemmas.Option.{slice_get-map}
use Rattle.key_msgs.specs.declared.key.KeyKind.{KeyKind}
use Rattle.key_msgs.specs.declared.primitive.Primitive.{Primitive}
use Rattle.key_msgs.specs.declared.primitive.Primitive.TheVariants.{Mac}
use Rattle.key_msgs.specs.declared.rule.Rule.{Rule}
use Rattle.keyset_model.specs.Keyset.{Keys, is_enabled, first_some}
use Rattle.keyset_model.specs.declared.record.Record.{Record}
use Rattle.managers.specs.Schemes.{key_under}
use Rattle.managers.specs.Table.{Entry, Table, entries_of, place_of}
use Rattle.wrapped_prims.specs.Answers.{is_tag_of, is_tag_under, opened, opened_by, opened_under, verify_answer}
use Rattle.wrapped_prims.specs.Candidates.{each_with, enabled_with, is_enabled_with, is_legacy, prefix_of, same_prefix}
use Rattle.wrapped_prims.specs.Fitness.{Unfit, fault_of_record, first_of_three, key_of_record, or_later, prefix_fault, read_key, reading_of, unfit_from}
use Rattle.wrapped_prims.proofs.PlaceLemmas.{places_at-index, places_give}
use Rattle.wrapped_prims.specs.Held.{kept_at, kept_in, kept_of, kept_raw, kept_under, kept_with, open_kept, open_with, places_at, verify_kept, verify_with}
use Rattle.wrapped_prims.specs.Making.{IsOver}
use Rattle.wrapped_prims.specs.Prefixes.{places_of}
use Rattle.wrapped_prims.specs.declared.held.Held.{Held}
use Rattle.wrapped_prims.specs.declared.held.Kept.{Kept}

-- ---- what is kept of a record that can serve

clash : {X P : Type 0} (x : X) → Some x ≡ None → P
clash x h = absurd cc

pub none_here : (n : ℕ) (fault : Option Unfit) (later : Option (ℕ × Unfit)) → or_later n fault later ≡ None → (fault ≡ None) × (later ≡ None)
none_here n None later h = (refl, h)
none_here n (Some fault) later h = clash _ h

-- what is kept of a record: nothing, where it isn't ENABLED, and else its key
pub data KeptAs (table : Table) (p : Primitive) (r : Record) : Type 0 where
  off : is_enabled r ≡ false → kept_of table p r ≡ None → KeptAs table p r
  on : (at : ℕ) (key : KeyKind) → is_enabled r ≡ true → key_of_record table p r ≡ Some key → kept_of table p r ≡ Some (kept_with r at key) → KeptAs table p r

no_place : (table : Table) (p : Primitive) (r : Record) → place_of table p r.url ≡ None → reading_of table p r ≡ None
no_place table p r h = ap (λ place. option_map (λ s. key_under s r.value) (option_map (λ (e : Entry). e.scheme) (option_and_then (slice_get (entries_of table p)) place))) h

kept_by_reading : (table : Table) (p : Primitive) (r : Record) (place : Option ℕ) (reading : Option (Result KeyKind Rule))
    → is_enabled r ≡ true → place_of table p r.url ≡ place → reading_of table p r ≡ reading → first_of_three reading (prefix_fault p r) ≡ None → KeptAs table p r
kept_by_reading table p r place None e placed read fit = clash _ fit
kept_by_reading table p r place (Some (Err rule)) e placed read fit = clash _ fit
kept_by_reading table p r None (Some (Ok key)) e placed read fit = clash _ (sym read ∙ no_place table p r placed)
kept_by_reading table p r (Some at) (Some (Ok key)) e placed read fit = on at key e (ap read_key read) (
    ap (λ b. cond b (option_and_then (λ at. option_map (kept_with r at) (read_key (reading_of table p r))) (place_of table p r.url)) None) e
    ∙ ap (option_and_then (λ at. option_map (kept_with r at) (read_key (reading_of table p r)))) placed
    ∙ ap (λ o. option_map (kept_with r at) (read_key o)) read)

pub kept_as : (table : Table) (p : Primitive) (r : Record) → fault_of_record table p r ≡ None → KeptAs table p r
kept_as table p r fit = by (is_enabled r) refl
  where
    by : (b : Bool) → is_enabled r ≡ b → KeptAs table p r
    by false e = off e (ap (λ b. cond b (option_and_then (λ at. option_map (kept_with r at) (read_key (reading_of table p r))) (place_of table p r.url)) None) e)
    by true e = kept_by_reading table p r _ _ e refl refl (sym (ap (λ b. cond b (first_of_three (reading_of table p r) (prefix_fault p r)) None) e) ∙ fit)

-- ---- the keys of some records

-- the record's key is kept
pub record HasKept (table : Table) (p : Primitive) (r : Record) : Type 0 where
  pub kept : Kept
  pub there : kept_of table p r ≡ Some kept
  pub read : key_of_record table p r ≡ Some kept.key
  pub legacy : kept.is_legacy ≡ is_legacy r

abbrev pub HaveKept : Table → Primitive → List Record → Type 0
HaveKept table p rs = AllByRecursion (HasKept table p) rs

-- the keys that are kept of these records
abbrev pub all_kept : Table → Primitive → List Record → List Kept
all_kept table p rs = filter_map (kept_of table p) rs

-- each ENABLED record with a prefix, or with none, has a key
pub have_kept : (n : ℕ) (table : Table) (p : Primitive) (rs : List Record) (prefix : Option (List ℕ)) → unfit_from n table p rs ≡ None → HaveKept table p (enabled_with prefix rs)
have_kept n table p [] prefix fit = tt
have_kept n table p (r ∷ rs) prefix fit =
    let both : (fault_of_record table p r ≡ None) × (unfit_from (n + 1) table p rs ≡ None) = none_here n (fault_of_record table p r) (unfit_from (n + 1) table p rs) fit in
    by (kept_as table p r both.0) (have_kept (n + 1) table p rs prefix both.1)
  where
    by : KeptAs table p r → HaveKept table p (enabled_with prefix rs) → HaveKept table p (enabled_with prefix (r ∷ rs))
    by (off e none) later = subst (λ b. HaveKept table p (cond (b && same_prefix (prefix_of r) prefix) (r ∷ enabled_with prefix rs) (enabled_with prefix rs))) (sym e) later
    by (on at key e read some) later = same (is_enabled_with prefix r)
      where
        same : (b : Bool) → HaveKept table p (cond b (r ∷ enabled_with prefix rs) (enabled_with prefix rs))
        same false = later
        same true = (record { kept = kept_with r at key; there = some; read = read; legacy = refl }, later)

-- what the keys at the places open is what the records open
pub kept_opens : (table : Table) (p : Primitive) (rs : List Record) (part ad : List ℕ) → HaveKept table p rs → open_with p part ad (all_kept table p rs) ≡ first_some (map (opened table p ad) (each_with part rs))
unfolding first_some
kept_opens table p [] part ad all = refl
kept_opens table p (r ∷ rs) part ad all = rw (all.0.there, all.0.read) (ap (option_or (opened_under p part ad all.0.kept.key)) (kept_opens table p rs part ad all.1))

pub kept_verifies : (table : Table) (rs : List Record) (part body : List ℕ) → HaveKept table Mac rs → verify_with part body (all_kept table Mac rs) ≡ list_any (is_tag_of table body) (each_with part rs)
kept_verifies table [] part body all = refl
kept_verifies table (r ∷ rs) part body all = rw (all.0.there, all.0.read, all.0.legacy) (ap (λ b. is_tag_under (Some all.0.kept.key) (is_legacy r) part body || b) (kept_verifies table rs part body all.1))

pub kept_count : (table : Table) (p : Primitive) (rs : List Record) → HaveKept table p rs → length (all_kept table p rs) ≡ length rs
kept_count table p [] all = refl
kept_count table p (r ∷ rs) all = rw all.0.there (ap suc (kept_count table p rs all.1))

-- ---- the keys at the places

kept_in-map : (f : Record → Option Kept) (rs : List Record) (i : ℕ) → kept_in (map f rs) i ≡ option_and_then f (slice_get rs i)
kept_in-map f rs i = ap option_flatten (slice_get-map f rs i) ∙ by (slice_get rs i)
  where
    by : (o : Option Record) → option_flatten (option_map f o) ≡ option_and_then f o
    by None = refl
    by (Some r) = refl

kept_at-map : (f : Record → Option Kept) (rs : List Record) (places : List ℕ) → kept_at (map f rs) places ≡ filter_map (option_and_then f) (map (slice_get rs) places)
kept_at-map f rs [] = refl
kept_at-map f rs (i ∷ places) = λ j. cons_option (kept_in-map f rs i j) (kept_at-map f rs places j)

kept_each : (f : Record → Option Kept) (rs : List Record) → filter_map (option_and_then f) (map Some rs) ≡ filter_map f rs
kept_each f [] = refl
kept_each f (r ∷ rs) = ap (cons_option (f r)) (kept_each f rs)

kept_at-places : (f : Record → Option Kept) (prefix : Option (List ℕ)) (rs : List Record) → kept_at (map f rs) (places_of prefix rs) ≡ filter_map f (enabled_with prefix rs)
kept_at-places f prefix rs = kept_at-map f rs (places_of prefix rs) ∙ ap (filter_map (option_and_then f)) (places_give prefix rs) ∙ kept_each f (enabled_with prefix rs)

-- a handle's keys under a prefix are those of the ENABLED records with that prefix
pub under-IsOver : (table : Table) (p : Primitive) (keys : Keys) (held : Held) (prefix : List ℕ) → IsOver table p keys held → kept_under prefix held ≡ all_kept table p (enabled_with (Some prefix) keys.records)
under-IsOver table p keys held prefix over =
    (λ j. kept_at (over.kept j) (places_at prefix (over.index j)))
    ∙ ap (kept_at (map (kept_of table p) keys.records)) (places_at-index prefix keys.records)
    ∙ kept_at-places (kept_of table p) (Some prefix) keys.records

-- and those under none are those of the ENABLED RAW records
pub raw-IsOver : (table : Table) (p : Primitive) (keys : Keys) (held : Held) → IsOver table p keys held → kept_raw held ≡ all_kept table p (enabled_with None keys.records)
raw-IsOver table p keys held over = (λ j. kept_at (over.kept j) (over.raw j)) ∙ kept_at-places (kept_of table p) None keys.records

pub have-IsOver : (table : Table) (p : Primitive) (keys : Keys) (held : Held) (prefix : Option (List ℕ)) → IsOver table p keys held → HaveKept table p (enabled_with prefix keys.records)
have-IsOver table p keys held prefix over = have_kept 0 table p keys.records prefix over.fit

-- ---- what a handle opens and verifies

first_some-append : (xs ys : List (Option (List ℕ))) → first_some (xs ++ ys) ≡ option_or (first_some xs) (first_some ys)
unfolding first_some
first_some-append [] ys = refl
first_some-append (None ∷ xs) ys = first_some-append xs ys
first_some-append (Some x ∷ xs) ys = refl

-- the first that opens is there where one opens
pub any_opens : {X : Type 0} (f : X → Option (List ℕ)) (xs : List X) → is_some (first_some (map f xs)) ≡ list_any (λ x. is_some (f x)) xs
unfolding first_some
any_opens f [] = refl
any_opens f (x ∷ xs) = by (f x) (any_opens f xs)
  where
    by : (o : Option (List ℕ)) → is_some (first_some (map f xs)) ≡ list_any (λ y. is_some (f y)) xs → is_some (first_some (o ∷ map f xs)) ≡ (is_some o || list_any (λ y. is_some (f y)) xs)
    by None h = h
    by (Some v) h = refl

-- what a handle opens is what its keyset opens under the table
pub opens-IsOver : (table : Table) (p : Primitive) (keys : Keys) (held : Held) (bytes ad : List ℕ) → IsOver table p keys held
    → open_kept p held bytes ad ≡ opened_by p keys table bytes ad
opens-IsOver table p keys held bytes ad over =
    let hinted = enabled_with (Some (take 5 bytes)) keys.records in
    let raw = enabled_with None keys.records in
    (λ j. option_or (open_with p (drop 5 bytes) ad (under-IsOver table p keys held (take 5 bytes) over j)) (open_with p bytes ad (raw-IsOver table p keys held over j)))
    ∙ (λ j. option_or (kept_opens table p hinted (drop 5 bytes) ad (have-IsOver table p keys held (Some (take 5 bytes)) over) j) (kept_opens table p raw bytes ad (have-IsOver table p keys held None over) j))
    ∙ sym (first_some-append (map (opened table p ad) (each_with (drop 5 bytes) hinted)) (map (opened table p ad) (each_with bytes raw)))
    ∙ sym (ap first_some (map-append (opened table p ad) (each_with (drop 5 bytes) hinted) (each_with bytes raw)))

pub list_any-append : {X : Type 0} (test : X → Bool) (xs ys : List X) → list_any test (xs ++ ys) ≡ (list_any test xs || list_any test ys)
list_any-append test [] ys = refl
list_any-append test (x ∷ xs) ys = by (test x) (list_any-append test xs ys)
  where
    by : (b : Bool) → list_any test (xs ++ ys) ≡ (list_any test xs || list_any test ys) → (b || list_any test (xs ++ ys)) ≡ ((b || list_any test xs) || list_any test ys)
    by true h = refl
    by false h = h

-- what a handle verifies is what its keyset verifies under the table
pub verifies-IsOver : (table : Table) (keys : Keys) (held : Held) (tag body : List ℕ) → IsOver table Mac keys held
    → verify_kept held tag body ≡ verify_answer keys table tag body
verifies-IsOver table keys held tag body over =
    let hinted = enabled_with (Some (take 5 tag)) keys.records in
    let raw = enabled_with None keys.records in
    (λ j. verify_with (drop 5 tag) body (under-IsOver table Mac keys held (take 5 tag) over j) || verify_with tag body (raw-IsOver table Mac keys held over j))
    ∙ (λ j. kept_verifies table hinted (drop 5 tag) body (have-IsOver table Mac keys held (Some (take 5 tag)) over) j || kept_verifies table raw tag body (have-IsOver table Mac keys held None over) j)
    ∙ sym (list_any-append (is_tag_of table body) (each_with (drop 5 tag) hinted) (each_with tag raw))

-- ---- how many keys there are

pub count-under : (table : Table) (p : Primitive) (keys : Keys) (held : Held) (prefix : List ℕ) → IsOver table p keys held
    → length (kept_under prefix held) ≡ length (enabled_with (Some prefix) keys.records)
count-under table p keys held prefix over = ap length (under-IsOver table p keys held prefix over) ∙ kept_count table p (enabled_with (Some prefix) keys.records) (have-IsOver table p keys held (Some prefix) over)

pub count-raw : (table : Table) (p : Primitive) (keys : Keys) (held : Held) → IsOver table p keys held → length (kept_raw held) ≡ length (enabled_with None keys.records)
count-raw table p keys held over = ap length (raw-IsOver table p keys held over) ∙ kept_count table p (enabled_with None keys.records) (have-IsOver table p keys held None over)
