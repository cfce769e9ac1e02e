-- What asking for files does to a store.
use Rattle.std.proofs.Common.{◌≡◌, ◌∙◌, inl, inr, refl, sym, ap, subst, ℕ, ltb, ◌≤◌, Bool, true, false, List, [], ◌∷◌, ◌++◌, Some, None, IfSome, arith, option_map, append_assoc, append-nil}
use Rattle.std.specs.FinMap as map
use Rattle.std.specs.Option.{is_none}
use Rattle.std.specs.Prelude.{if◌then◌else◌}
use Rattle.std.proofs.lemmas.Bool.{ltb-false, ltb-true}
use Rattle.tink_spec.specs.Files.{Files, StoreState, MayAdd}
use Rattle.tink_spec.specs.Outside.{Rose}
use Rattle.tinkey_session.specs.Saving.{Agrees, AsksFor, Asks, FileAsked, by_files, failed, files_after, made, there, why_taken}
use Rattle.tinkey_session.specs.TalkLaws.{SavesAreTold}

-- ---- faults, and bytes given

pub may_faults : (s t : StoreState) (name bytes : List ℕ) → MayAdd s t name bytes → s.faults ≤ t.faults
may_faults s t name bytes (inl kept) = kept.faults
may_faults s t name bytes (inr front) = front.added.faults

asked_faults : (a : FileAsked) (s t : StoreState) → AsksFor a s t → s.faults ≤ t.faults
asked_faults a s t (made why added stood given) = added.faults
asked_faults a s t (there why holds same) = omega (arith, ap (λ x. x.faults) same)
asked_faults a s t (failed why may rose given) = may_faults s t a.name a.bytes may

pub asks_faults : (asked : List FileAsked) (s t : StoreState) → Asks asked s t → s.faults ≤ t.faults
asks_faults [] s t same = omega (arith, ap (λ x. x.faults) same)
asks_faults (a ∷ asked) s t asks =
    let first = asked_faults a s asks.0 asks.1 in
    let second = asks_faults asked asks.0 t asks.2 in
    omega (arith, first, second)

asked_given : (a : FileAsked) (s t : StoreState) → AsksFor a s t → t.given ≡ s.given
asked_given a s t (made why added stood given) = given
asked_given a s t (there why holds same) = ap (λ x. x.given) (sym same)
asked_given a s t (failed why may rose given) = given

pub asks_given : (asked : List FileAsked) (s t : StoreState) → Asks asked s t → t.given ≡ s.given
asks_given [] s t same = ap (λ x. x.given) (sym same)
asks_given (a ∷ asked) s t asks = asks_given asked asks.0 t asks.2 ∙ asked_given a s asks.0 asks.1

-- a count that rose is above one before it
pub rose_later : (a b c : ℕ) → a ≤ b → Rose b c → Rose a c
rose_later a b c le (inl less) = inl (omega (arith, le, less))
rose_later a b c le (inr last) = inr last

-- a count that rose is above the one before, however it goes on
pub rose_on : (a b c : ℕ) → a ≤ b → b ≤ c → Rose a b → Rose a c
rose_on a b c low le (inl less) = inl (omega (arith, le, less))
rose_on a b c low le (inr last) = by (ltb b c) refl
  where
    by : (t : Bool) → ltb b c ≡ t → Rose a c
    by true e = let less = ltb-true _ _ e in inl (omega (arith, low, less))
    by false e = let more = ltb-false _ _ e in inr (omega (arith, le, more, last))

-- ---- over files that are told

files_after-append : (files : Files) (before later : List FileAsked) → files_after files (before ++ later) ≡ files_after (files_after files before) later
files_after-append files [] later = refl
files_after-append files (a ∷ before) later = files_after-append (if is_none a.why then map.insert files a.name a.bytes else files) before later

asked_told : (files : Files) (before : List FileAsked) (a : FileAsked) (s t : StoreState) → s.files ≡ Some (files_after files before) → AsksFor a s t → (Rose s.faults t.faults → ⊥)
    → (by_files files before a.name ≡ a.why) × (t.files ≡ Some (files_after files (before ++ a ∷ [])))
asked_told files before a s t is (made why added stood given) never =
    let here = files_after files before in
    let absent : map.get here a.name ≡ None = subst (λ o. IfSome o (λ f. map.get f a.name ≡ None)) is added.absent in (
      ap why_taken absent ∙ sym why,
      added.files ∙ ap (option_map (λ f. map.insert f a.name a.bytes)) is
          ∙ ap (λ w. Some (if is_none w then map.insert here a.name a.bytes else here)) (sym why)
          ∙ ap Some (sym (files_after-append files before (a ∷ []))),
    )
asked_told files before a s t is (there why holds same) never =
    let here = files_after files before in
    let found : (bytes : List ℕ) × (map.get here a.name ≡ Some bytes) = subst (λ o. IfSome o (λ f. (bytes : List ℕ) × (map.get f a.name ≡ Some bytes))) is holds in (
      ap why_taken found.1 ∙ sym why,
      ap (λ x. x.files) (sym same) ∙ is
          ∙ ap (λ w. Some (if is_none w then map.insert here a.name a.bytes else here)) (sym why)
          ∙ ap Some (sym (files_after-append files before (a ∷ []))),
    )
asked_told files before a s t is (failed why may rose given) never = absurd (never rose)

asks_told : (files : Files) (before asked : List FileAsked) (s t : StoreState) → s.files ≡ Some (files_after files before) → Asks asked s t → (Rose s.faults t.faults → ⊥)
    → Agrees (by_files files) before asked × (t.files ≡ Some (files_after files (before ++ asked)))
asks_told files before [] s t is same never = (tt, ap (λ x. x.files) (sym same) ∙ is ∙ ap (λ l. Some (files_after files l)) (sym (append-nil before)))
asks_told files before (a ∷ asked) s t is asks never =
    let low = asked_faults a s asks.0 asks.1 in
    let le = asks_faults asked asks.0 t asks.2 in
    let first = asked_told files before a s asks.0 is asks.1 (λ rose. never (rose_on _ _ _ low le rose)) in
    let later = asks_told files (before ++ a ∷ []) asked asks.0 t first.1 asks.2 (λ rose. never (rose_later _ _ _ low rose)) in (
      (first.0, later.0),
      later.1 ∙ ap (λ l. Some (files_after files l)) (append_assoc before (a ∷ []) asked),
    )

pub saves_are_told : SavesAreTold
saves_are_told talk result old new before after files is never t =
    let so = asks_told files [] t.asked before after is t.asks never in
    let session = t.talks (by_files files) so.0 in
    (t.asked, session.0, session.1, so.1, asks_given t.asked before after t.asks)
