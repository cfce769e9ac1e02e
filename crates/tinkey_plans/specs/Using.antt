-- Work by the keys of a keyset, as steps of plans. What the keys answer is said apart from plans, in
-- Fitness and Answers of wrapped_prims.
use Rattle.std.specs.Prelude.{◌≡◌, ℕ, Bool, true, false, List, [], ◌++◌, Option, Some, None, Result, Ok, Err, codes}
use Rattle.std.specs.Option.{option_map}
use Rattle.hex.specs.Hex.{encode_lower}
use Rattle.key_msgs.specs.declared.primitive.Primitive.{Primitive}
use Rattle.keyset_model.specs.Keyset.{Keys}
use Rattle.managers.specs.Table.{Table}
use Rattle.tinkey_cmds.specs.Draws.{Draw, Drawn}
use Rattle.tinkey_session.specs.declared.reply.Refusal.TheVariants as refused
use Rattle.wrapped_prims.specs.Answers.{Sealed, seal_answer, open_answer, dseal_answer, dopen_answer, tag_answer, verify_answer, derive_answer}
use Rattle.wrapped_prims.specs.Making.{IsOver}
use Rattle.wrapped_prims.specs.declared.held.Held.{Held}
use Rattle.tinkey_plans.specs.declared.sealer.Sealer.{Sealer}
use Rattle.tinkey_plans.specs.declared.sealer.Unopened.{Unopened}
use Rattle.tinkey_plans.specs.declared.sealer.Unopened.TheVariants as unopened
use Rattle.tinkey_plans.specs.declared.origin.Origin.TheVariants as origins
use Rattle.tinkey_plans.specs.declared.status.Status.{Status}
use Rattle.tinkey_plans.specs.declared.status.Status.TheVariants as status
use Rattle.tinkey_words.specs.declared.words.rows.Format.{Format}
use Rattle.tinkey_plans.specs.Plan.{Plan, ends, allocates, draws, sealings}
use Rattle.tinkey_plans.specs.Ends.{World}
use Rattle.tinkey_plans.specs.Handles.{handles}
use Rattle.tinkey_plans.specs.Locks.{loads_locked}
use Rattle.tinkey_plans.specs.Sealers.{sealer_of}
use Rattle.tinkey_plans.specs.Steps.{input_limit, sealed_limit, puts, reads_input, works_out, with_made, Passes}
use Rattle.tinkey_words.specs.Words.{AskedWork, Lock, to_seal, to_open, to_dseal, to_dopen, to_reseal, to_dreseal, to_tag, to_verify, to_derive, primitive_for, Output}

-- a sealing, and the random bytes that it leaves
abbrev pub as_drawn : Sealed → Drawn (List ℕ)
as_drawn sealed = record { answer = Ok sealed.bytes; left = sealed.left }

-- the sealing of a plaintext, of random bytes
abbrev pub seals : Keys → Table → (plain ad : List ℕ) → Draw (List ℕ)
seals keys table plain ad random = option_map as_drawn (seal_answer keys table plain ad random)

-- the plaintext goes on, or nothing opened, and this is told of the key that sealed it
abbrev pub with_opened : Unopened → Sealer → Option (List ℕ) → (List ℕ → Plan) → Plan
with_opened what sealer None next = ends (status.OpenFailed what sealer) tt
with_opened what sealer (Some plain) next = next plain

-- the tag is one of the keyset's, and nothing is put out; or it isn't
abbrev pub with_verified : Bool → (List ℕ → Plan) → Plan
with_verified true next = next []
with_verified false next = ends (status.Refused refused.VerifyFailed) tt

-- what the primary key makes; each keyset whose records can serve has one (laws::fit_keysets_answer)
abbrev pub made_bytes : Option (List ℕ) → List ℕ
made_bytes None = []
made_bytes (Some bytes) = bytes

-- the derived bytes go on, or there are fewer than were asked for
abbrev pub with_derived : ℕ → Option (Result (List ℕ) ℕ) → (List ℕ → Plan) → Plan
with_derived asked None next = next []
with_derived asked (Some (Ok bytes)) next = next bytes
with_derived asked (Some (Err greatest)) next = ends (status.Refused (refused.OutputTooLong asked greatest)) tt

-- a plaintext, sealed under the primary key
abbrev pub seals_plain : Table → Keys → (plain ad : List ℕ) → (List ℕ → Plan) → Plan
seals_plain table keys plain ad next =
    allocates (draws sealings (seals keys table plain ad) (λ made. allocates (with_made made next)))

-- the same, deterministic
abbrev pub dseals_plain : Table → Keys → (plain ad : List ℕ) → (List ℕ → Plan) → Plan
dseals_plain table keys plain ad next =
    works_out (made_bytes (dseal_answer keys table plain ad)) next

-- what is put out for the whole input
abbrev pub works : Table → Keys → AskedWork → List ℕ → (List ℕ → Plan) → Plan
works table keys (to_seal ad) input next = seals_plain table keys input ad next
works table keys (to_open ad) input next =
    allocates (with_opened unopened.Text (sealer_of keys input) (open_answer keys table input ad) next)
works table keys (to_dseal ad) input next = dseals_plain table keys input ad next
works table keys (to_dopen ad) input next =
    allocates (with_opened unopened.Text (sealer_of keys input) (dopen_answer keys table input ad) next)
works table keys (to_reseal ad) input next =
    allocates (with_opened unopened.Text (sealer_of keys input) (open_answer keys table input ad)
    (λ plain. seals_plain table keys plain ad next))
works table keys (to_dreseal ad) input next =
    allocates (with_opened unopened.Text (sealer_of keys input) (dopen_answer keys table input ad)
    (λ plain. dseals_plain table keys plain ad next))
works table keys to_tag input next = works_out (made_bytes (tag_answer keys table input)) next
works table keys (to_verify tag) input next =
    allocates (with_verified (verify_answer keys table tag input) next)
works table keys (to_derive size) input next =
    allocates (with_derived size (derive_answer keys table input size) next)

-- how many bytes the input of such work may have
abbrev pub limit_for : AskedWork → ℕ
limit_for (to_open ad) = sealed_limit
limit_for (to_dopen ad) = sealed_limit
limit_for (to_reseal ad) = sealed_limit
limit_for (to_dreseal ad) = sealed_limit
limit_for _ = input_limit

-- work on the whole input, by the keys of the keyset in a file
abbrev pub use_output : Table → Lock → List ℕ → Format → AskedWork → (List ℕ → Plan) → Plan
use_output table lock name form work next =
    loads_locked table lock name form (λ keys.
    handles origins.Keyset table (primitive_for work) keys (λ fit.
    reads_input (limit_for work) (λ input.
    works table keys work input next)))

-- bytes in lower-case hexadecimal, and the end of the line
abbrev pub hex_line : List ℕ → List ℕ
hex_line bytes = encode_lower bytes ++ codes "\n"

-- the bytes go on as they are, or where it is asked for, in hexadecimal
abbrev pub shows : (hex : Bool) → List ℕ → (List ℕ → Plan) → Plan
shows false bytes next = next bytes
shows true bytes next = works_out (hex_line bytes) next

-- what the work gives is put here
abbrev pub puts_output : Output → List ℕ → Plan
puts_output out bytes = shows out.hex bytes (puts out.file)

-- the work is done by the keys of the keyset that is held
abbrev pub Works : Table → Held → AskedWork → List ℕ → World → Result (List ℕ) Status → World → Type 0
Works table held work input old result new =
    (keys : Keys) → IsOver table (primitive_for work) keys held
    → Passes (works table keys work input) old result new

-- the same, where this is told of the key that sealed the input
abbrev pub WorksTelling : Table → Held → Sealer → AskedWork → List ℕ → World → Result (List ℕ) Status → World
    → Type 0
WorksTelling table held sealer work input old result new =
    (keys : Keys) → IsOver table (primitive_for work) keys held → sealer ≡ sealer_of keys input
    → Passes (works table keys work input) old result new
