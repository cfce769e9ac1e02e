-- The encrypted bytes of a JSON text.
use Rattle.std.proofs.Common.{◌≡◌, ◌∙◌, ℕ, ◌≤◌, Bool, true, false, List, [], length, Option, Some, None, Ok, Err, refl, sym, ap, arith}
use Rattle.std.specs.Prelude.{codes, is_some}
use Rattle.std.specs.Option.{option_and_then}
use Rattle.serde_json.specs.Data.{Data, null, boolean, number, string, array, object}
use Rattle.serde_json.specs.Find.{as_object}
use Rattle.keyset_json.specs.Reading.{json_value, object_of, without_newline}
use Rattle.keyset_json.specs.Steps.{IsNoValue}
use Rattle.keyset_json.specs.declared.reading.JsonError.{JsonError}
use Rattle.keyset_json.specs.declared.reading.JsonError.TheVariants as errors
use Rattle.keyset_json.proofs.Base64Lemmas.{bytes_short}
use Rattle.keyset_json.proofs.SizeLemmas.{get_short, newline_shorter, or_short, value_of}
use Rattle.keyset_json.proofs.TextLemmas.{IfThere, Short, short_value}
use Rattle.seal_wrap.specs.Unwrapped.{Member, NotJson, encrypted_member, encrypted_of, member_bytes, of_value, or_member, sealed_in_json}

-- ---- the value

no_object : (d : Data) → is_some (as_object d) ≡ false → object_of d ≡ None
no_object null is = refl
no_object (boolean b) is = refl
no_object (number n) is = refl
no_object (string s) is = refl
no_object (array ds) is = refl
no_object (object ms) is = cc

an_object : (d : Data) → is_some (as_object d) ≡ true → object_of d ≡ Some d
an_object null is = cc
an_object (boolean b) is = cc
an_object (number n) is = cc
an_object (string s) is = cc
an_object (array ds) is = cc
an_object (object ms) is = refl

pub not_object : (d : Data) → is_some (as_object d) ≡ false → or_member (encrypted_of d) ≡ Err Member
unfolding encrypted_of
not_object d is = rw (no_object d is) refl

pub member_of_object : (d : Data) (o : Option Data) → is_some (as_object d) ≡ true → o ≡ encrypted_member d → or_member (encrypted_of d) ≡ or_member (member_bytes o)
unfolding encrypted_of
member_of_object d o is there =
    ap (λ (w : Option Data). or_member (option_and_then (λ whole. member_bytes (encrypted_member whole)) w)) (an_object d is)
    ∙ ap (λ (m : Option Data). or_member (member_bytes m)) (sym there)

-- ---- the text

pub value_there : (text : List ℕ) (d : Data) → json_value (without_newline text) ≡ Some d → sealed_in_json text ≡ or_member (encrypted_of d)
unfolding sealed_in_json
value_there text d is = ap of_value is

pub value_missing : (text : List ℕ) (error : JsonError) → (error ≡ errors.NoMemory → ⊥) → IsNoValue error (json_value (without_newline text)) → sealed_in_json text ≡ Err NotJson
unfolding sealed_in_json
value_missing text errors.NotJson other none = ap of_value none
value_missing text (errors.Shape path) other none = absurd none
value_missing text (errors.Fault fault) other none = absurd none
value_missing text errors.NoMemory other none = absurd (other refl)

-- ---- the bytes are no more than those of the text

member_short : (n : ℕ) (o : Option Data) (sealed : List ℕ) → IfThere (Short n) o → member_bytes o ≡ Some sealed → length sealed ≤ n
member_short n None sealed few is = let none : [] ≡ sealed = cc in omega (arith, ap length none)
member_short n (Some null) sealed few is = let none : [] ≡ sealed = cc in omega (arith, ap length none)
member_short n (Some (boolean b)) sealed few is = cc
member_short n (Some (number m)) sealed few is = cc
member_short n (Some (string s)) sealed few is = let le = bytes_short s sealed is in omega (arith, few, le)
member_short n (Some (array ds)) sealed few is = cc
member_short n (Some (object ms)) sealed few is = cc

found_short : (n : ℕ) (d : Data) → Short n d → IfThere (Short n) (encrypted_member d)
found_short n d few = or_short n _ _ (get_short n (codes "encryptedKeyset") d few) (get_short n (codes "encrypted_keyset") d few)

same_bytes : (o : Option (List ℕ)) (sealed : List ℕ) → or_member o ≡ Ok sealed → o ≡ Some sealed
same_bytes None sealed e = cc
same_bytes (Some s) sealed e = cc

value_short : (n : ℕ) (d : Data) (b : Bool) (sealed : List ℕ) → is_some (as_object d) ≡ b → Short n d → or_member (encrypted_of d) ≡ Ok sealed → length sealed ≤ n
value_short n d true sealed is few e = member_short n (encrypted_member d) sealed (found_short n d few) (same_bytes _ _ (sym (member_of_object d _ is refl) ∙ e))
value_short n d false sealed is few e = let clash : Err Member ≡ Ok sealed = sym (not_object d is) ∙ e in cc

pub sealed_short : (text : List ℕ) (d : Data) (sealed : List ℕ) → json_value (without_newline text) ≡ Some d → or_member (encrypted_of d) ≡ Ok sealed → length sealed ≤ length text
sealed_short text d sealed is e =
    let line = without_newline text in
    let few = short_value line d (value_of line _ d refl is) in
    omega (arith, value_short (length line) d _ sealed refl few e, newline_shorter text _ refl)
