-- An option with a dash for standard input or output, left out.
use Rattle.std.proofs.Common.{◌≡◌, ◌⊎◌, ◌∙◌, sym, refl, ap, subst, inl, inr, ℕ, Bool, true, false, List, [], ◌∷◌, ◌++◌, Option, Some, None}
use Rattle.std.specs.Prelude.{◌&&◌, if◌then◌else◌}
use Rattle.std.specs.List.{AllByRecursion}
use Rattle.std.proofs.Math.Path.{fun_ext}
use Rattle.tinkey_words.specs.declared.words.names.CommandName.{CommandName}
use Rattle.tinkey_words.specs.declared.words.names.OptionName.{OptionName}
use Rattle.tinkey_words.specs.declared.words.names.OptionName.TheVariants as options
use Rattle.tinkey_words.specs.Names.{row_of, form_for, needs, for_streams}
use Rattle.tinkey_words.specs.Rows.{same, is_one_of, dash}
use Rattle.tinkey_words.specs.Words.{Asked, asked_by, asked_with, holds_dash, meant}
use Rattle.tinkey_words.specs.Grammar.{IsValue, Spelling, IsGiven, IsOnce, IsOneOf, HasNeeded, SaysStream, Fits, values_of, Spells, IsDash, words_with, DashesAreLeftOut}
use Rattle.tinkey_words.proofs.FitLemmas.{neither, words_are_spelled}
use Rattle.tinkey_words.proofs.NameLemmas.{never_required}
use Rattle.tinkey_words.proofs.RowLemmas.{same_self, same_is}

-- Options with one in their middle, and without it.

given_more : (name : OptionName) (before : List Spelling) (s : Spelling) (behind : List Spelling) → IsGiven name (before ++ behind) → IsGiven name (before ++ (s ∷ behind))
given_more name [] s behind there = inr there
given_more name (t ∷ before) s behind (inl here) = inl here
given_more name (t ∷ before) s behind (inr later) = inr (given_more name before s behind later)

given_less : (name : OptionName) (before : List Spelling) (s : Spelling) (behind : List Spelling) → (s.name ≡ name → ⊥) → IsGiven name (before ++ (s ∷ behind)) → IsGiven name (before ++ behind)
given_less name [] s behind other (inl here) = absurd (other here)
given_less name [] s behind other (inr later) = later
given_less name (t ∷ before) s behind other (inl here) = inl here
given_less name (t ∷ before) s behind other (inr later) = inr (given_less name before s behind other later)

given_here : (before : List Spelling) (s : Spelling) (behind : List Spelling) → IsGiven s.name (before ++ (s ∷ behind))
given_here [] s behind = inl refl
given_here (t ∷ before) s behind = inr (given_here before s behind)

given_as : (name : OptionName) (before : List Spelling) (s : Spelling) (behind : List Spelling) → name ≡ s.name → IsGiven name (before ++ (s ∷ behind))
given_as name before s behind is = subst (λ (n : OptionName). IsGiven n (before ++ (s ∷ behind))) (sym is) (given_here before s behind)

once_less : (before : List Spelling) (s : Spelling) (behind : List Spelling) → IsOnce (before ++ (s ∷ behind)) → IsOnce (before ++ behind)
once_less [] s behind once = once.1
once_less (t ∷ before) s behind once = (λ there. once.0 (given_more t.name before s behind there), once_less before s behind once.1)

-- it isn't given without it
left_out : (before : List Spelling) (s : Spelling) (behind : List Spelling) → IsOnce (before ++ (s ∷ behind)) → IsGiven s.name (before ++ behind) → ⊥
left_out [] s behind once there = once.0 there
left_out (t ∷ before) s behind once (inl here) = once.0 (given_as t.name before s behind here)
left_out (t ∷ before) s behind once (inr later) = left_out before s behind once.1 later

all_less : (P : Spelling → Type 0) (before : List Spelling) (s : Spelling) (behind : List Spelling) → AllByRecursion P (before ++ (s ∷ behind)) → AllByRecursion P (before ++ behind)
all_less P [] s behind all = all.1
all_less P (t ∷ before) s behind all = (all.0, all_less P before s behind all.1)

differs : (name other : OptionName) → same name other ≡ false → name ≡ other → ⊥
differs name other test is = let clash : true ≡ false = sym (same_self name) ∙ ap (same name) is ∙ test in cc

-- what is required, and isn't this option
complete_less : (names : List OptionName) (before : List Spelling) (s : Spelling) (behind : List Spelling) → is_one_of s.name names ≡ false → AllByRecursion (λ name. IsGiven name (before ++ (s ∷ behind))) names → AllByRecursion (λ name. IsGiven name (before ++ behind)) names
complete_less [] before s behind none all = tt
complete_less (name ∷ names) before s behind none all =
    let tests = neither (same s.name name) (is_one_of s.name names) none in
    (given_less name before s behind (differs s.name name tests.0) all.0, complete_less names before s behind tests.1 all.1)

-- what others need, and isn't this option
met_less : (pairs : List (OptionName × OptionName)) (before : List Spelling) (s : Spelling) (behind : List Spelling) → AllByRecursion (λ need. same s.name need.1 ≡ false) pairs → AllByRecursion (HasNeeded (before ++ (s ∷ behind))) pairs → AllByRecursion (HasNeeded (before ++ behind)) pairs
met_less [] before s behind none has = tt
met_less (need ∷ pairs) before s behind none has = (
  λ there. given_less need.1 before s behind (differs s.name need.1 none.0) (has.0 (given_more need.0 before s behind there)),
  met_less pairs before s behind none.1 has.1,
)

-- What holds of both options holds of this one.

by_file : (P : OptionName → Type 0) (name : OptionName) → (name ≡ options.In) ⊎ (name ≡ options.Out) → P options.In → P options.Out → P name
by_file P name (inl is) one other = subst P (sym is) one
by_file P name (inr is) one other = subst P (sym is) other

-- The values.

values_other : (name : OptionName) (before : List Spelling) (s : Spelling) (behind : List Spelling) → same s.name name ≡ false → values_of (before ++ (s ∷ behind)) name ≡ values_of (before ++ behind) name
values_other name [] s behind other = rw other refl
values_other name (t ∷ before) s behind other =
    ap (λ (later : Option (List ℕ)). if same t.name name then Some t.value else later) (values_other name before s behind other)

values_none : (name : OptionName) (given : List Spelling) → (IsGiven name given → ⊥) → values_of given name ≡ None
values_none name [] none = refl
values_none name (t ∷ given) none = by (same t.name name) refl (values_none name given (λ there. none (inr there)))
  where
    by : (b : Bool) → same t.name name ≡ b → values_of given name ≡ None → (if b then Some t.value else values_of given name) ≡ None
    by true is later = absurd (none (inl (same_is t.name name is)))
    by false is later = later

values_here : (before : List Spelling) (s : Spelling) (behind : List Spelling) → IsOnce (before ++ (s ∷ behind)) → values_of (before ++ (s ∷ behind)) s.name ≡ Some s.value
values_here [] s behind once = rw (same_self s.name) refl
values_here (t ∷ before) s behind once = by (same t.name s.name) refl (values_here before s behind once.1)
  where
    by : (b : Bool) → same t.name s.name ≡ b → values_of (before ++ (s ∷ behind)) s.name ≡ Some s.value → (if b then Some t.value else values_of (before ++ (s ∷ behind)) s.name) ≡ Some s.value
    by true is later = absurd (once.0 (given_as t.name before s behind (same_is t.name s.name is)))
    by false is later = later

-- that the input is a stream is said by another option
streams_less : (names : List OptionName) (before : List Spelling) (s : Spelling) (behind : List Spelling) → IsDash s → AllByRecursion (λ name. IsGiven name (before ++ (s ∷ behind)) → SaysStream (before ++ (s ∷ behind))) names → AllByRecursion (λ name. IsGiven name (before ++ behind) → SaysStream (before ++ behind)) names
streams_less [] before s behind dashed says = tt
streams_less (name ∷ names) before s behind dashed says = (
  λ there.
      let said = says.0 (given_more name before s behind there) in
      (said.0, sym (values_other options.As before s behind (by_file (λ n. same n options.As ≡ false) s.name dashed.file refl refl)) ∙ said.1, said.2),
  streams_less names before s behind dashed says.1,
)

fits_less : (command : CommandName) (before : List Spelling) (s : Spelling) (behind : List Spelling) → IsDash s → Fits command (before ++ (s ∷ behind)) → Fits command (before ++ behind)
fits_less command before s behind dashed fits = record {
  once = once_less before s behind fits.once;
  apart = λ a b excludes one other. fits.apart a b excludes (given_more a before s behind one) (given_more b before s behind other);
  taken = all_less (λ t. IsOneOf t.name ((row_of command).required ++ (row_of command).optional)) before s behind fits.taken;
  formed = all_less (λ t. IsValue (form_for t.name command) t.value) before s behind fits.formed;
  complete = complete_less (row_of command).required before s behind (by_file (λ name. is_one_of name (row_of command).required ≡ false) s.name dashed.file (never_required command).0 (never_required command).1) fits.complete;
  met = met_less needs before s behind (by_file (λ name. AllByRecursion (λ need. same name need.1 ≡ false) needs) s.name dashed.file (refl, (refl, tt)) (refl, (refl, tt))) fits.met;
  streams = streams_less (for_streams command) before s behind dashed fits.streams;
}

-- a value as it is meant
abbrev meant_as : OptionName → Option (List ℕ) → Option (List ℕ)
meant_as name value =
    if same options.Out name && holds_dash (if same options.In name && holds_dash value then None else value) then None
    else (if same options.In name && holds_dash value then None else value)

meant_less : (before : List Spelling) (s : Spelling) (behind : List Spelling) → IsDash s → IsOnce (before ++ (s ∷ behind)) → meant (values_of (before ++ (s ∷ behind))) ≡ meant (values_of (before ++ behind))
meant_less before s behind dashed once = fun_ext (λ name. by name (same s.name name) refl)
  where
    here : meant_as s.name (values_of (before ++ (s ∷ behind)) s.name) ≡ meant_as s.name (values_of (before ++ behind) s.name)
    here =
        ap (meant_as s.name) (values_here before s behind once ∙ ap Some dashed.stream)
        ∙ by_file (λ name. meant_as name (Some dash) ≡ meant_as name None) s.name dashed.file refl refl
        ∙ ap (meant_as s.name) (sym (values_none s.name (before ++ behind) (left_out before s behind once)))

    by : (name : OptionName) (b : Bool) → same s.name name ≡ b → meant_as name (values_of (before ++ (s ∷ behind)) name) ≡ meant_as name (values_of (before ++ behind) name)
    by name true is = subst (λ (n : OptionName). meant_as n (values_of (before ++ (s ∷ behind)) n) ≡ meant_as n (values_of (before ++ behind) n)) (same_is s.name name is) here
    by name false is = ap (meant_as name) (values_other name before s behind is)

-- The words.

pub dashes_are_left_out : DashesAreLeftOut
dashes_are_left_out command before s behind dashed fits =
    (words_are_spelled (words_with command (before ++ (s ∷ behind))) asked).1 (inl there)
    ∙ sym ((words_are_spelled (words_with command (before ++ behind)) asked).1 (inl without))
  where
    asked : Asked
    asked = asked_by command (values_of (before ++ (s ∷ behind)))

    there : Spells (words_with command (before ++ (s ∷ behind))) asked
    there = record { command = command; given = before ++ (s ∷ behind); are = refl; fits = fits; asks = refl }

    without : Spells (words_with command (before ++ behind)) asked
    without = record {
      command = command;
      given = before ++ behind;
      are = refl;
      fits = fits_less command before s behind dashed fits;
      asks = ap (asked_with command) (meant_less before s behind dashed fits.once);
    }
