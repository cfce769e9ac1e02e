-- Sealing with random bytes that were drawn before.
use Rattle.std.proofs.Common.{◌≡◌, ◌∙◌, ◌<◌, ℕ, List, ◌++◌, Bool, cond, refl, sym, subst, ap, arith, length, take, drop}
use Rattle.std.specs.Prelude.{Option, Some, None, Result}
use Rattle.std.specs.Option.{option_and_then, option_map}
use Rattle.std.proofs.lemmas.Bool.{lt-ltb}
use Rattle.key_msgs.specs.declared.key.KeyKind.{KeyKind}
use Rattle.key_msgs.specs.declared.primitive.Primitive.TheVariants.{Aead}
use Rattle.keyset_model.specs.Keyset.{Keys, primary_of}
use Rattle.keyset_model.specs.declared.record.Record.{Record}
use Rattle.managers.specs.Table.{Table}
use Rattle.managers.specs.Uses.{iv_size, seal_of}
use Rattle.tink_base.specs.Drawn.{DrawnBytes, told_drawn}
use Rattle.tink_spec.specs.Outside.{RanShort}
use Rattle.wrapped_prims.specs.Answers.{Sealed, seal_answer, seal_behind, seal_under}
use Rattle.wrapped_prims.specs.Candidates.{prefix_bytes, prefix_of}
use Rattle.wrapped_prims.specs.Fitness.{key_of_record}
use Rattle.wrapped_prims.specs.Sealing.{IsSealFault, IsSealing}
use Rattle.ready_keysets.specs.Working.{IsAnswered, NeedsMore}
use Rattle.ready_keysets.specs.declared.refusal.Refusal.{Refusal}
use Rattle.wrapped_prims.specs.declared.sealing.SealFault.TheVariants as faults

-- what was drawn of the bytes gives the sealing that they all give
pub sealed_with : (keys : Keys) (table : Table) (plain ad sealed : List ℕ) (old new : DrawnBytes)
    → IsSealing keys table plain ad (told_drawn old) (told_drawn new) sealed
    → option_map (λ (s : Sealed). s.bytes) (seal_answer keys table plain ad old.left) ≡ Some sealed
sealed_with keys table plain ad sealed old new made =
    grind (arith, made.answer new.left, made.drew.left)

-- under a record there is no sealing with fewer bytes than its key's IV
pub none_under : (table : Table) (plain ad random : List ℕ) (o : Option Record) (key : KeyKind)
    → option_and_then (key_of_record table Aead) o ≡ Some key → length random < iv_size key
    → option_and_then (seal_under table plain ad random) o ≡ None
none_under table plain ad random None key is few = refl
none_under table plain ad random (Some r) key is few =
    let prefix = prefix_bytes (prefix_of r) in let n = iv_size key in
    let by : Bool → Option Sealed = λ short. cond short None (Some (record {
      bytes = prefix ++ seal_of key (take n random) plain ad;
      left = drop n random;
    })) in
    ap (option_and_then (seal_behind prefix plain ad random)) is ∙ ap by (lt-ltb (length random) n few)

-- where the bytes run short there is no sealing
pub few_bytes : (keys : Keys) (table : Table) (plain ad : List ℕ) (old new : DrawnBytes)
    → IsSealFault keys table (told_drawn old) (told_drawn new) faults.EntropyFault
    → option_map (λ (s : Sealed). s.bytes) (seal_answer keys table plain ad old.left) ≡ None
few_bytes keys table plain ad old new fault =
    let short : RanShort (told_drawn old) (told_drawn new) (iv_size fault.key) = fault.entropy.1 in
    ap (option_map (λ (s : Sealed). s.bytes))
    (none_under table plain ad old.left (primary_of keys) fault.key fault.primary (short.short refl))

-- what is said of bytes holds of what is found to be these
pub answered_some : (lack : Refusal) (found : Option (List ℕ)) (bytes old new : List ℕ) (result : Result ℕ Refusal)
    → found ≡ Some bytes → ((l : Refusal) → IsAnswered l (Some bytes) old new result)
    → IsAnswered lack found old new result
answered_some lack found bytes old new result is said =
    subst (λ (o : Option (List ℕ)). IsAnswered lack o old new result) (sym is) (said lack)

-- what is longer than the room needs more
pub more_needed : (found : Option (List ℕ)) (bytes : List ℕ) (room : ℕ) → found ≡ Some bytes → room < length bytes → NeedsMore found room
more_needed found bytes room is longer = subst (λ (o : Option (List ℕ)). NeedsMore o room) (sym is) longer
