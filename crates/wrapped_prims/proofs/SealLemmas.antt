-- What sealing takes of the random bytes.
use Rattle.std.proofs.Common.{◌≡◌, ◌∙◌, ◌<◌, inl, subst, refl, sym, ap, ℕ, cond, le-ltb, Bool, false, List, ◌++◌, length, take, drop, Option, Some, None, arith}
use Rattle.std.specs.Prelude.{nat_lt}
use Rattle.std.specs.Option.{option_and_then}
use Rattle.std.proofs.lemmas.List.{drop_at, length-append, take_at}
use Rattle.key_msgs.specs.Keys.{IsValid}
use Rattle.key_msgs.specs.declared.key.KeyKind.{KeyKind}
use Rattle.key_msgs.specs.declared.primitive.Primitive.TheVariants.{Aead}
use Rattle.keyset_model.specs.Keyset.{Keys}
use Rattle.managers.specs.Table.{Entry, Table}
use Rattle.managers.specs.Uses.{iv_size, seal_of}
use Rattle.tink_spec.proofs.Moves.{drew_nothing}
use Rattle.tink_spec.specs.Outside.{EntropyState, RanShort}
use Rattle.wrapped_prims.specs.Answers.{Sealed, seal_behind, seal_under}
use Rattle.wrapped_prims.specs.Candidates.{prefix_bytes, prefix_of}
use Rattle.wrapped_prims.specs.Held.{IsPrimary, IsServedBy}
use Rattle.wrapped_prims.specs.Making.{IsOver}
use Rattle.wrapped_prims.specs.Sealing.{IsKeyFault, IsKeyIntoFault, IsKeySealing, IsSealFault, IsSealIntoFault, IsSealing}
use Rattle.wrapped_prims.specs.declared.held.Held.{Held}
use Rattle.wrapped_prims.specs.declared.held.Kept.{Kept}
use Rattle.wrapped_prims.specs.declared.sealing.SealFault.TheVariants as faults
use Rattle.wrapped_prims.specs.declared.sealing.SealIntoFault.{SealIntoFault}
use Rattle.wrapped_prims.specs.declared.sealing.SealIntoFault.TheVariants as intos
use Rattle.wrapped_prims.proofs.HandleLemmas.{has_primary, key-primary}

pub enough : (n : ℕ) (xs ys : List ℕ) → length xs ≡ n → nat_lt (length (xs ++ ys)) n ≡ false
enough n xs ys whole = le-ltb (length (xs ++ ys)) n (omega (arith, length-append xs ys, whole))

-- the first ones are the IV
pub seal-drawn : (prefix plain ad iv rest : List ℕ) (key : KeyKind) → length iv ≡ iv_size key
    → seal_behind prefix plain ad (iv ++ rest) key ≡ Some (record { bytes = prefix ++ seal_of key iv plain ad; left = rest })
seal-drawn prefix plain ad iv rest key whole =
    let n = iv_size key in
    let by : List ℕ → List ℕ → Bool → Option Sealed
    = λ front behind few. cond few None (Some (record { bytes = prefix ++ seal_of key front plain ad; left = behind })) in
    ap (by (take n (iv ++ rest)) (drop n (iv ++ rest))) (enough n iv rest whole)
    ∙ ap (λ front. by front (drop n (iv ++ rest)) false) (take_at iv rest n whole)
    ∙ ap (λ behind. by iv behind false) (drop_at iv rest n whole)

-- the sealing under the primary record's key is the keyset's
pub primary_sealing : (table : Table) (keys : Keys) (kept : Kept) (plain ad : List ℕ) (old new : EntropyState) (sealed : List ℕ)
    → IsPrimary table Aead keys kept → IsKeySealing kept.key (prefix_bytes kept.prefix) plain ad old new sealed → IsSealing keys table plain ad old new sealed
primary_sealing table keys kept plain ad old new sealed primary is = record {
  drawn = is.drawn;
  drew = is.drew;
  answer = λ more.
      let random : List ℕ = is.drawn ++ more in
      ap (option_and_then (seal_under table plain ad random)) primary.primary
      ∙ ap (option_and_then (seal_behind (prefix_bytes (prefix_of primary.under')) plain ad random)) primary.key
      ∙ ap (λ (p : Option (List ℕ)). seal_behind (prefix_bytes p) plain ad random kept.key) (sym primary.prefix)
      ∙ seal-drawn (prefix_bytes kept.prefix) plain ad is.drawn more kept.key is.whole
      ∙ ap (λ (b : List ℕ). Some (record { bytes = b; left = more })) (sym is.made);
}

-- memory was wanting before the entropy was asked
pub unsealed : (table : Table) (keys : Keys) (held : Held) (state : EntropyState) → IsOver table Aead keys held → IsSealFault keys table state state faults.NoMemory
unsealed table keys held state over =
    let there = has_primary table Aead keys held over in
    record {
      key = there.kept.key;
      primary = key-primary table Aead keys there.kept there.primary;
      entropy = (refl, inl (drew_nothing state));
    }

-- what hindered the sealing under the primary record's key hindered the keyset's
pub primary_into_fault : (table : Table) (keys : Keys) (kept : Kept) (plain ad : List ℕ) (old new : EntropyState) (room : ℕ) (fault : SealIntoFault)
    → IsPrimary table Aead keys kept → IsKeyIntoFault kept.key (prefix_bytes kept.prefix) plain ad old new room fault
    → IsSealIntoFault keys table plain ad old new room fault
primary_into_fault table keys kept plain ad old new room intos.EntropyFault primary is = record {
  key = kept.key;
  primary = key-primary table Aead keys kept primary;
  entropy = is;
}
primary_into_fault table keys kept plain ad old new room intos.NoRoom primary is =
    (is.0, primary_sealing table keys kept plain ad old new is.0 primary is.1, is.2)

-- the bytes ran short at as many as the key's IV has
pub drew_short : (key : KeyKind) (old new : EntropyState) (n : ℕ) → n ≡ iv_size key → 0 < n → RanShort old new n → IsKeyFault key old new faults.EntropyFault
drew_short key old new n is some short = (subst (λ (k : ℕ). 0 < k) is some, subst (RanShort old new) is short)

-- a key that a manager serves is a valid one
pub served_valid : (entry : Option Entry) (key : KeyKind) → IsServedBy entry key → IsValid key
served_valid None key served = absurd served
served_valid (Some entry) key served = served.1
