-- How many keys a handle tries is what its keyset says.
use Rattle.std.proofs.Common.{◌≡◌, ◌∙◌, ℕ, refl, subst, sym, ap, List, [], ◌∷◌, ◌++◌, Option, Some, None, Bool, true, false, ◌||◌, cond, take, drop}
use Rattle.std.specs.declared.ops.Range.{Range}
use Rattle.std.specs.Prelude.{is_some}
use Rattle.std.specs.List.{list_any}
use Rattle.std.specs.Option.{option_or}
use Rattle.tink_spec.specs.InPlace.{OpensTo}
use Rattle.tink_spec.specs.Outside.{next}
use Rattle.key_msgs.specs.declared.primitive.Primitive.{Primitive}
use Rattle.key_msgs.specs.declared.primitive.Primitive.TheVariants.{Mac}
use Rattle.keyset_model.specs.Keyset.{Keys}
use Rattle.keyset_model.specs.declared.record.Record.{Record}
use Rattle.managers.specs.Table.{Table}
use Rattle.wrapped_prims.specs.Answers.{is_tag_of, is_tag_under, open_trials, opened, opened_under, tried, verify_trials}
use Rattle.wrapped_prims.specs.Candidates.{each_with, enabled_with, is_legacy}
use Rattle.wrapped_prims.specs.Held.{kept_at, kept_raw, kept_under, open_kept, open_with, places_at, tag_tries_kept, tag_tries_with, tries_kept, tries_with, verify_with}
use Rattle.wrapped_prims.specs.Making.{IsOver}
use Rattle.wrapped_prims.specs.declared.held.Held.{Held}
use Rattle.wrapped_prims.specs.declared.held.Kept.{Kept}
use Rattle.wrapped_prims.proofs.OpenLemmas.{HaveKept, all_kept, any_opens, have-IsOver, kept_opens, kept_verifies, raw-IsOver, under-IsOver}

-- ---- the keys of a prefix, and then those of none

-- what the keys of the prefix open is the answer
pub opened_first : (p : Primitive) (held : Held) (bytes new ad : List ℕ) (range : Range ℕ) → OpensTo (open_with p (drop 5 bytes) ad (kept_under (take 5 bytes) held)) bytes new (Some range)
    → OpensTo (open_kept p held bytes ad) bytes new (Some range)
opened_first p held bytes new ad range opens = (opens.0, opens.1, ap (λ o. option_or o (open_with p bytes ad (kept_raw held))) opens.2, opens.3, opens.4)

-- and where they open nothing, what those of none open
pub opened_later : (p : Primitive) (held : Held) (slots : List (Option Kept)) (raw bytes mid new ad : List ℕ) (found : Option (Range ℕ)) → slots ≡ held.slots.items → raw ≡ held.raw.items
    → OpensTo (open_with p (drop 5 bytes) ad (kept_under (take 5 bytes) held)) bytes mid None → OpensTo (open_with p mid ad (kept_at slots raw)) mid new found → OpensTo (open_kept p held bytes ad) bytes new found
opened_later p held slots raw bytes mid new ad found same also first later =
    let plain : open_with p mid ad (kept_at slots raw) ≡ open_kept p held bytes ad =
    (λ j. open_with p (first.1 j) ad (kept_at (same j) (also j))) ∙ sym (ap (λ o. option_or o (open_with p bytes ad (kept_raw held))) first.0) in
    subst (λ (l : List ℕ). OpensTo (open_kept p held bytes ad) l new found) first.1
    (subst (λ (o : Option (List ℕ)). OpensTo o mid new found) plain later)

-- the trials of the prefix, and where they open nothing, those of none
abbrev tries_on : Primitive → Held → (bytes ad : List ℕ) → ℕ → Option (List ℕ) → ℕ
tries_on p held bytes ad count plain =
    let first = tries_with p (drop 5 bytes) ad (kept_under (take 5 bytes) held) count in
    cond (is_some plain) first (tries_with p bytes ad (kept_raw held) first)

pub tries_first : (p : Primitive) (held : Held) (bytes new ad : List ℕ) (range : Range ℕ) (count now : ℕ) → OpensTo (open_with p (drop 5 bytes) ad (kept_under (take 5 bytes) held)) bytes new (Some range)
    → now ≡ tries_with p (drop 5 bytes) ad (kept_under (take 5 bytes) held) count → now ≡ tries_kept p held bytes ad count
tries_first p held bytes new ad range count now opens tries = tries ∙ sym (ap (tries_on p held bytes ad count) opens.2)

pub tries_both : (p : Primitive) (held : Held) (slots : List (Option Kept)) (raw bytes mid ad : List ℕ) (count between now : ℕ) → slots ≡ held.slots.items → raw ≡ held.raw.items
    → OpensTo (open_with p (drop 5 bytes) ad (kept_under (take 5 bytes) held)) bytes mid None
    → between ≡ tries_with p (drop 5 bytes) ad (kept_under (take 5 bytes) held) count → now ≡ tries_with p mid ad (kept_at slots raw) between → now ≡ tries_kept p held bytes ad count
tries_both p held slots raw bytes mid ad count between now same also closed before after =
    after ∙ (λ j. tries_with p (closed.1 j) ad (kept_at (same j) (also j)) (before j)) ∙ sym (ap (tries_on p held bytes ad count) closed.0)

abbrev tag_tries_by : (first later : List Kept) → (rest tag body : List ℕ) → ℕ → ℕ
tag_tries_by first later rest tag body count =
    cond (verify_with rest body first) (tag_tries_with rest body first count) (tag_tries_with tag body later (tag_tries_with rest body first count))

pub tag_tries_first : (first later : List Kept) (rest tag body : List ℕ) (count now : ℕ) → verify_with rest body first ≡ true → now ≡ tag_tries_with rest body first count → now ≡ tag_tries_by first later rest tag body count
tag_tries_first first later rest tag body count now holds tries =
    tries ∙ sym (ap (λ b. cond b (tag_tries_with rest body first count) (tag_tries_with tag body later (tag_tries_with rest body first count))) holds)

pub tag_tries_both : (first later : List Kept) (rest tag body : List ℕ) (count mid now : ℕ) → verify_with rest body first ≡ false → mid ≡ tag_tries_with rest body first count → now ≡ tag_tries_with tag body later mid
    → now ≡ tag_tries_by first later rest tag body count
tag_tries_both first later rest tag body count mid now none before after =
    after ∙ ap (tag_tries_with tag body later) before
    ∙ sym (ap (λ b. cond b (tag_tries_with rest body first count) (tag_tries_with tag body later (tag_tries_with rest body first count))) none)

pub same_tag_tries : (held : Held) (slots others : List (Option Kept)) (places raw : List ℕ) (hint rest tag body : List ℕ) (count : ℕ) → slots ≡ held.slots.items → others ≡ held.slots.items → raw ≡ held.raw.items
    → places ≡ places_at hint held.index.entries → hint ≡ take 5 tag → rest ≡ drop 5 tag → tag_tries_by (kept_at slots places) (kept_at others raw) rest tag body count ≡ tag_tries_kept held tag body count
same_tag_tries held slots others places raw hint rest tag body count same also none found head tail =
    let under : places ≡ places_at (take 5 tag) held.index.entries = found ∙ ap (λ h. places_at h held.index.entries) head in
    (λ j. tag_tries_by (kept_at (same j) (under j)) (kept_at (also j) (none j)) (tail j) tag body count)

-- ---- the records behind the keys

-- one key more, and then the others
abbrev step : Bool → ℕ → ℕ → ℕ
step b here later = cond b here later

kept_tries : (table : Table) (p : Primitive) (rs : List Record) (part ad : List ℕ) (count : ℕ) → HaveKept table p rs
    → tries_with p part ad (all_kept table p rs) count ≡ tried (λ c. is_some (opened table p ad c)) (each_with part rs) count
kept_tries table p [] part ad count all = refl
kept_tries table p (r ∷ rs) part ad count all = rw (all.0.there, all.0.read) (ap (step (is_some (opened_under p part ad all.0.kept.key)) (next count)) (kept_tries table p rs part ad (next count) all.1))

kept_tag_tries : (table : Table) (rs : List Record) (part body : List ℕ) (count : ℕ) → HaveKept table Mac rs
    → tag_tries_with part body (all_kept table Mac rs) count ≡ tried (is_tag_of table body) (each_with part rs) count
kept_tag_tries table [] part body count all = refl
kept_tag_tries table (r ∷ rs) part body count all =
    rw (all.0.there, all.0.read, all.0.legacy) (ap (step (is_tag_under (Some all.0.kept.key) (is_legacy r) part body) (next count)) (kept_tag_tries table rs part body (next count) all.1))

-- some candidates, and then others
tried-append : {X : Type 0} (test : X → Bool) (xs ys : List X) (count : ℕ) → tried test (xs ++ ys) count ≡ cond (list_any test xs) (tried test xs count) (tried test ys (tried test xs count))
tried-append test [] ys count = refl
tried-append test (x ∷ xs) ys count = by (test x) (tried-append test xs ys (next count))
  where
    by : (b : Bool) → tried test (xs ++ ys) (next count) ≡ cond (list_any test xs) (tried test xs (next count)) (tried test ys (tried test xs (next count)))
        → cond b (next count) (tried test (xs ++ ys) (next count)) ≡ cond (b || list_any test xs) (cond b (next count) (tried test xs (next count))) (tried test ys (cond b (next count) (tried test xs (next count))))
    by true h = refl
    by false h = h

-- the trials of the keys that were tried first, and those of the keys after them
abbrev tries_by : Primitive → (first later : List Kept) → (rest bytes ad : List ℕ) → ℕ → ℕ
tries_by p first later rest bytes ad count =
    cond (is_some (open_with p rest ad first)) (tries_with p rest ad first count) (tries_with p bytes ad later (tries_with p rest ad first count))

pub tries-IsOver : (table : Table) (p : Primitive) (keys : Keys) (held : Held) (bytes ad : List ℕ) (count : ℕ) → IsOver table p keys held → tries_kept p held bytes ad count ≡ open_trials p keys table bytes ad count
tries-IsOver table p keys held bytes ad count over =
    let hinted = enabled_with (Some (take 5 bytes)) keys.records in
    let raw = enabled_with None keys.records in
    let test = λ (c : Record × List ℕ). is_some (opened table p ad c) in
    (λ j. tries_by p (under-IsOver table p keys held (take 5 bytes) over j) (raw-IsOver table p keys held over j) (drop 5 bytes) bytes ad count)
    ∙ ap (λ o. cond (is_some o) (tries_with p (drop 5 bytes) ad (all_kept table p hinted) count) (tries_with p bytes ad (all_kept table p raw) (tries_with p (drop 5 bytes) ad (all_kept table p hinted) count)))
    (kept_opens table p hinted (drop 5 bytes) ad (have-IsOver table p keys held (Some (take 5 bytes)) over))
    ∙ ap (λ b. cond b (tries_with p (drop 5 bytes) ad (all_kept table p hinted) count) (tries_with p bytes ad (all_kept table p raw) (tries_with p (drop 5 bytes) ad (all_kept table p hinted) count)))
    (any_opens (opened table p ad) (each_with (drop 5 bytes) hinted))
    ∙ ap (λ n. cond (list_any test (each_with (drop 5 bytes) hinted)) n (tries_with p bytes ad (all_kept table p raw) n))
    (kept_tries table p hinted (drop 5 bytes) ad count (have-IsOver table p keys held (Some (take 5 bytes)) over))
    ∙ ap (λ n. cond (list_any test (each_with (drop 5 bytes) hinted)) (tried test (each_with (drop 5 bytes) hinted) count) n)
    (kept_tries table p raw bytes ad (tried test (each_with (drop 5 bytes) hinted) count) (have-IsOver table p keys held None over))
    ∙ sym (tried-append test (each_with (drop 5 bytes) hinted) (each_with bytes raw) count)

pub tag_tries-IsOver : (table : Table) (keys : Keys) (held : Held) (tag body : List ℕ) (count : ℕ) → IsOver table Mac keys held → tag_tries_kept held tag body count ≡ verify_trials keys table tag body count
tag_tries-IsOver table keys held tag body count over =
    let hinted = enabled_with (Some (take 5 tag)) keys.records in
    let raw = enabled_with None keys.records in
    (λ j. tag_tries_by (under-IsOver table Mac keys held (take 5 tag) over j) (raw-IsOver table Mac keys held over j) (drop 5 tag) tag body count)
    ∙ ap (λ b. cond b (tag_tries_with (drop 5 tag) body (all_kept table Mac hinted) count) (tag_tries_with tag body (all_kept table Mac raw) (tag_tries_with (drop 5 tag) body (all_kept table Mac hinted) count)))
    (kept_verifies table hinted (drop 5 tag) body (have-IsOver table Mac keys held (Some (take 5 tag)) over))
    ∙ ap (λ n. cond (list_any (is_tag_of table body) (each_with (drop 5 tag) hinted)) n (tag_tries_with tag body (all_kept table Mac raw) n))
    (kept_tag_tries table hinted (drop 5 tag) body count (have-IsOver table Mac keys held (Some (take 5 tag)) over))
    ∙ ap (λ n. cond (list_any (is_tag_of table body) (each_with (drop 5 tag) hinted)) (tried (is_tag_of table body) (each_with (drop 5 tag) hinted) count) n)
    (kept_tag_tries table raw tag body (tried (is_tag_of table body) (each_with (drop 5 tag) hinted) count) (have-IsOver table Mac keys held None over))
    ∙ sym (tried-append (is_tag_of table body) (each_with (drop 5 tag) hinted) (each_with tag raw) count)
