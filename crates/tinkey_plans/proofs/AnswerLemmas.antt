-- A keyset that can serve has a primary key, and what that makes.
use Rattle.std.proofs.Common.{◌≡◌, ◌∙◌, refl, sym, ap, subst, ℕ, ◌+◌, ◌≤◌, length, Bool, true, false, List, [], ◌∷◌, ◌++◌, Option, Some, None, arith}
use Rattle.std.specs.Prelude.{◌↔◌, IsSome, drop, find, if◌then◌else◌, nat_lt, option_map, take}
use Rattle.std.specs.Option.{option_and_then}
use Rattle.std.proofs.lemmas.Bool.Decides.{nat_tests}
use Rattle.key_msgs.specs.declared.key.KeyKind.{KeyKind}
use Rattle.key_msgs.specs.declared.primitive.Primitive.{Primitive}
use Rattle.key_msgs.specs.declared.primitive.Primitive.TheVariants.{Aead, Prf}
use Rattle.keyset_model.specs.Keyset.{Keys, is_enabled, is_primary, primary_of}
use Rattle.keyset_model.specs.declared.record.Record.{Record}
use Rattle.keyset_model.proofs.PrimaryLemmas.{primary_enabled, primary_there}
use Rattle.managers.specs.Table.{Table}
use Rattle.managers.specs.Uses.{iv_size, seal_of}
use Rattle.tinkey_session.proofs.Options.{clash}
use Rattle.wrapped_prims.specs.Answers.{Sealed, primary_key, made, made_by, derive_under, seal_answer, seal_behind, seal_under}
use Rattle.wrapped_prims.specs.Candidates.{prefix_of, prefix_bytes}
use Rattle.wrapped_prims.specs.Fitness.{fault_of_record, key_of_record, unfit_from}
use Rattle.wrapped_prims.proofs.OpenLemmas.{none_here, kept_as, KeptAs, off, on}
use Rattle.tinkey_plans.specs.Going.{FitKeysetsSeal}
use Rattle.tinkey_plans.specs.Laws.{IsFit, FitKeysetsAnswer}
use Rattle.tinkey_plans.proofs.StreamFitLemmas.{stream_there}

found_fits : (b : Bool) (p : Record → Bool) (table : Table) (primitive : Primitive) (x r : Record) (rs : List Record) → p x ≡ b → fault_of_record table primitive x ≡ None → find p (x ∷ rs) ≡ Some r → (find p rs ≡ Some r → fault_of_record table primitive r ≡ None) → fault_of_record table primitive r ≡ None
found_fits true p table primitive x r rs test fit found later =
    let same : Some x ≡ Some r = rw test at found in
    let is : x ≡ r = cc in
    subst (λ (y : Record). fault_of_record table primitive y ≡ None) is fit
found_fits false p table primitive x r rs test fit found later = later (rw test at found)

primary_fits : (p : Record → Bool) (n : ℕ) (table : Table) (primitive : Primitive) (rs : List Record) (r : Record) → unfit_from n table primitive rs ≡ None → find p rs ≡ Some r → fault_of_record table primitive r ≡ None
primary_fits p n table primitive [] r fit found = absurd (cc)
primary_fits p n table primitive (x ∷ rs) r fit found =
    let parts = none_here n (fault_of_record table primitive x) (unfit_from (n + 1) table primitive rs) fit in
    found_fits (p x) p table primitive x r rs refl parts.0 found (λ later. primary_fits p (n + 1) table primitive rs r parts.1 later)

-- the primary record with its key
pub record HasKey (table : Table) (primitive : Primitive) (keys : Keys) : Type 0 where
  pub under : Record
  pub key : KeyKind
  pub primary : primary_of keys ≡ Some under
  pub there : key_of_record table primitive under ≡ Some key

enabled_clash : (r : Record) → r.status ≡ 1 → is_enabled r ≡ false → ⊥
enabled_clash r status other = grind (arith, nat_tests)

with_kept : (table : Table) (primitive : Primitive) (keys : Keys) (r : Record) → primary_of keys ≡ Some r → r.status ≡ 1 → KeptAs table primitive r → HasKey table primitive keys
with_kept table primitive keys r primary enabled (off other none) = absurd (enabled_clash r enabled other)
with_kept table primitive keys r primary enabled (on at key is there some) = record { under = r; key = key; primary = primary; there = there }

pub has_key : (table : Table) (primitive : Primitive) (keys : Keys) → IsFit table primitive keys → HasKey table primitive keys
has_key table primitive keys fit =
    let primary = primary_there keys fit.faultless in
    with_kept table primitive keys primary.0 primary.1 (primary_enabled keys primary.0 primary.1)
    (kept_as table primitive primary.0 (primary_fits (is_primary keys.primary) 0 table primitive keys.records primary.0 fit.fit primary.1))

key_there : (table : Table) (primitive : Primitive) (keys : Keys) (has : HasKey table primitive keys) → primary_key keys table primitive ≡ Some has.key
key_there table primitive keys has = ap (option_and_then (key_of_record table primitive)) has.primary ∙ has.there

made_there : (table : Table) (primitive : Primitive) (keys : Keys) (make : KeyKind → Record → List ℕ) → HasKey table primitive keys → IsSome (made keys table primitive make)
made_there table primitive keys make has =
    let is : made keys table primitive make ≡ Some (prefix_bytes (prefix_of has.under) ++ make has.key has.under) =
    ap (option_and_then (made_by table primitive make)) has.primary ∙ ap (option_map (λ key. prefix_bytes (prefix_of has.under) ++ make key has.under)) has.there in
    rw is refl

some_key : (found : Option KeyKind) (key : KeyKind) → found ≡ Some key → IsSome found
some_key found key is = rw is refl

derived_there : (found : Option KeyKind) (key : KeyKind) (input : List ℕ) (size : ℕ) → found ≡ Some key → IsSome (option_map (derive_under input size) found)
derived_there found key input size is = rw is refl

pub fit_keysets_answer : FitKeysetsAnswer
fit_keysets_answer = record {
  primary = λ table primitive keys fit. let has = has_key table primitive keys fit in some_key (primary_key keys table primitive) has.key (key_there table primitive keys has);
  dseal = λ table keys plain ad fit. made_there table _ keys _ (has_key table _ keys fit);
  tag = λ table keys body fit. made_there table _ keys _ (has_key table _ keys fit);
  derive = λ table keys input size fit. let has = has_key table _ keys fit in derived_there (primary_key keys table Prf) has.key input size (key_there table _ keys has);
  stream = stream_there;
}

-- ---- sealing

-- a key seals exactly where the random bytes suffice for its IV
abbrev SealsWhere : (random : List ℕ) → KeyKind → Option Sealed → Type 0
SealsWhere random key o = (iv_size key ≤ length random) ↔ ((sealed : Sealed) × (o ≡ Some sealed))

sealed_where : (prefix plain ad random : List ℕ) (key : KeyKind) → SealsWhere random key (seal_behind prefix plain ad random key)
sealed_where prefix plain ad random key = by (nat_lt (length random) (iv_size key)) refl
  where
    by : (b : Bool) → nat_lt (length random) (iv_size key) ≡ b
        → SealsWhere random key (if b then None else Some (record { bytes = prefix ++ seal_of key (take (iv_size key) random) plain ad; left = drop (iv_size key) random }))
    by true is = (λ fits. absurd (grind (arith, nat_tests)), λ x. clash x.1)
    by false is = (λ fits. (record { bytes = prefix ++ seal_of key (take (iv_size key) random) plain ad; left = drop (iv_size key) random }, refl), λ x. grind (arith, nat_tests, is))

pub fit_keysets_seal : FitKeysetsSeal
fit_keysets_seal table keys plain ad random fit =
    let has = has_key table Aead keys fit in
    let is : seal_answer keys table plain ad random ≡ seal_behind (prefix_bytes (prefix_of has.under)) plain ad random has.key =
    ap (option_and_then (seal_under table plain ad random)) has.primary ∙ ap (option_and_then (seal_behind (prefix_bytes (prefix_of has.under)) plain ad random)) has.there in
    (has.key, key_there table Aead keys has, subst (SealsWhere random has.key) (sym is) (sealed_where (prefix_bytes (prefix_of has.under)) plain ad random has.key))
