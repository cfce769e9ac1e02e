-- The key that a template makes keeps every rule, read under its own URL.
use Rattle.std.proofs.Common.{◌≡◌, ◌∙◌, sym, ap, ℕ, ◌^◌, List, length, Ok, Some, arith}
use Rattle.std.specs.Option.{option_and_then, option_map}
use Rattle.std.specs.Result.{result_err}
use Rattle.key_msgs.proofs.Made.{is_made, made-within, made_are_numbers}
use Rattle.key_msgs.proofs.ReadingBack.{keys-back}
use Rattle.key_msgs.proofs.TableLemmas.{made_valid, most_random}
use Rattle.key_msgs.specs.KeyTypes.{primitive_of_type, type_of_url, url_of_type}
use Rattle.key_msgs.specs.Reading.{key_of}
use Rattle.key_msgs.specs.Templates.{MadeKeysAreValid, Row, made, random_of, type_made}
use Rattle.key_msgs.specs.Writing.{value_of}
use Rattle.managers.proofs.ReadingLemmas.{type_of_url-own}
use Rattle.tinkey_cmds.specs.Edits.{record_of}
use Rattle.tinkey_cmds.specs.Laws.{IsTemplate}
use Rattle.tinkey_session.specs.Laws.{IsKeyFor}

-- what is written of it reads as the key
made-read : MadeKeysAreValid → (row : Row) (random : List ℕ) → IsTemplate row → length random ≡ random_of row → key_of (type_made row) (value_of (made row random)) ≡ Ok (made row random)
made-read law row random is size =
    let most = most_random row is in
    ap (λ type. key_of type (value_of (made row random))) (sym (is_made row.recipe random).type)
    ∙ keys-back (made row random) (made_valid law row random is size) (made_are_numbers row random is) (made-within (2 ^ 31) row.recipe random (omega (arith, most, size)))

pub made_key : MadeKeysAreValid → (row : Row) (id : ℕ) (random : List ℕ) → IsTemplate row → length random ≡ random_of row
    → IsKeyFor (primitive_of_type (type_made row)) (record_of row id random)
made_key law row id random is size =
    let type : type_of_url (url_of_type (type_made row)) ≡ Some (type_made row) = type_of_url-own (type_made row) in
    record {
      named = ap (option_map primitive_of_type) type;
      valid = ap (option_and_then (λ t. result_err (key_of t (value_of (made row random))))) type ∙ ap result_err (made-read law row random is size);
    }
