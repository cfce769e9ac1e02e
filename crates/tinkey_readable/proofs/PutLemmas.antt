-- What work by keys puts, on standard output or in a new file, as it is or in hexadecimal: where the work is
-- done, it is done wherever that is put.
use Rattle.std.proofs.Common.{arith, ◌≡◌, ◌∙◌, inl, inr, sym, refl, ap, subst, ℕ, ◌/◌, ◌%◌, ◌<◌, Bool, true, false, List, [], ◌∷◌, ◌++◌, length, take, length-append, Option, Some, None, Result, Ok, Err, option_map, slice_index}
use Rattle.std.proofs.lemmas.Bool.{cases_lt}
use Rattle.std.proofs.lemmas.List.{get_or_past}
use Rattle.std.proofs.lemmas.Option.{same_Some}
use Rattle.std.proofs.Math.Seq.{take-append_seam}
use Rattle.hex.specs.Hex.{encode_lower, encode_with, hex_digit_value, lower_digits}
use Rattle.hex.proofs.HexLemmas.{IsDigits-lower_digits}
use Rattle.key_msgs.specs.Templates.{Row}
use Rattle.key_msgs.specs.declared.rule.Rule.{Rule}
use Rattle.keyset_model.specs.Keyset.{Keys}
use Rattle.managers.specs.Schemes.{Scheme}
use Rattle.managers.specs.Table.{Table}
use Rattle.envelopes.specs.Enveloped.{Enveloped, Parts, envelope, envelope_of, open_envelope_of, parts_in}
use Rattle.tinkey_cmds.specs.Draws.{Drawn}
use Rattle.tinkey_session.proofs.Options.{clash}
use Rattle.tinkey_session.specs.HeldLaws.{AreBytes}
use Rattle.wrapped_prims.specs.Answers.{Sealed, derive_answer, dopen_answer, dseal_answer, open_answer, seal_answer, tag_answer, verify_answer}
use Rattle.tinkey_plans.specs.declared.status.Status.TheVariants as status
use Rattle.tinkey_plans.specs.Envelopes.{as_enveloped, envelopes, reseals_key, with_enveloped, with_parts}
use Rattle.tinkey_plans.specs.Plan.{Answer, Plan, Told, answer, draw_answer, refused, writes}
use Rattle.tinkey_plans.specs.Steps.{puts, with_made}
use Rattle.tinkey_plans.specs.Sealers.{envelope_sealer_of, sealer_of}
use Rattle.tinkey_plans.specs.declared.sealer.Sealer.{Sealer}
use Rattle.tinkey_plans.specs.declared.sealer.Unopened.{Unopened}
use Rattle.tinkey_plans.specs.declared.sealer.Unopened.TheVariants as unopened
use Rattle.tinkey_plans.specs.Using.{as_drawn, dseals_plain, hex_line, made_bytes, seals_plain, shows, with_derived, with_opened, with_verified, works}
use Rattle.tinkey_words.specs.Words.{AskedEnvelope, AskedWork, to_eseal, to_eopen, to_ereseal, to_seal, to_open, to_dseal, to_dopen, to_reseal, to_dreseal, to_tag, to_verify, to_derive}
use Rattle.tinkey_readable.specs.Runs.{IsFree, bytes_at, shown}
use Rattle.tinkey_readable.proofs.ReachLemmas.{IsDoneAnswer, bytes_put, bytes_reached}

-- ---- lines of hexadecimal

-- a digit stands for one place of the table alone
digit_is : (n d : ℕ) → hex_digit_value (slice_index lower_digits n) ≡ Some d → n ≡ d
digit_is n d is = elim (cases_lt n 16) [
  | inl within ↦ same_Some _ _ (sym (IsDigits-lower_digits n within) ∙ is)
  | inr past ↦
      let none : slice_index lower_digits n ≡ 0 = get_or_past lower_digits n 0 past in
      clash (sym (ap hex_digit_value none) ∙ is)
]

-- the digits of bytes are those of no other list
digits_are : (a b : List ℕ) → AreBytes b → encode_lower a ≡ encode_lower b → a ≡ b
unfolding encode_with
digits_are [] [] bytes is = refl
digits_are [] (y ∷ b) bytes is = absurd (cc)
digits_are (x ∷ a) [] bytes is = absurd (cc)
digits_are (x ∷ a) (y ∷ b) bytes is =
    let high : slice_index lower_digits (x / 16) ≡ slice_index lower_digits (y / 16) = cc in
    let low : slice_index lower_digits (x % 16) ≡ slice_index lower_digits (y % 16) = cc in
    let rest : encode_lower a ≡ encode_lower b = cc in
    let fits : y < 256 = bytes.0 in
    let h : x / 16 ≡ y / 16 = digit_is (x / 16) (y / 16) (ap hex_digit_value high ∙ IsDigits-lower_digits (y / 16) (omega (arith, fits))) in
    let l : x % 16 ≡ y % 16 = digit_is (x % 16) (y % 16) (ap hex_digit_value low ∙ IsDigits-lower_digits (y % 16) (omega (arith, fits))) in
    let same : x ≡ y = omega (arith, h, l) in
    rw same (ap (λ (t : List ℕ). y ∷ t) (digits_are a b bytes.1 rest))

front_is : (a b tail : List ℕ) → a ++ tail ≡ b ++ tail → a ≡ b
front_is a b tail is =
    let sizes : length (a ++ tail) ≡ length (b ++ tail) = ap (λ (l : List ℕ). length l) is in
    let same : length a ≡ length b = omega (arith, sizes, length-append a tail, length-append b tail) in
    sym (take-append_seam a tail) ∙ ap (λ (l : List ℕ). take (length a) l) is ∙ ap (λ (n : ℕ). take n (b ++ tail)) same ∙ take-append_seam b tail

-- what is shown is shown of one list alone
shown_is : (hex : Bool) (a b : List ℕ) → (hex ≡ true → AreBytes b) → shown hex a ≡ shown hex b → a ≡ b
shown_is false a b bytes is = is
shown_is true a b bytes is = digits_are a b (bytes refl) (front_is (encode_lower a) (encode_lower b) _ is)

-- ---- the last step

output_put : (hex : Bool) (file : Option (List ℕ)) (bytes : List ℕ) (told : Told) → IsDoneAnswer (answer (shows hex bytes (puts file)) told) → bytes_at file (answer (shows hex bytes (puts file)) told).files (answer (shows hex bytes (puts file)) told).output ≡ Some (shown hex bytes)
output_put false file bytes told done = bytes_put file bytes told done
output_put true file bytes told done = bytes_put file (hex_line bytes) told done

output_reached : (hex : Bool) (file : Option (List ℕ)) (bytes : List ℕ) (told : Told) → IsFree file told.files → IsDoneAnswer (answer (shows hex bytes (puts file)) told)
output_reached false file bytes told free = bytes_reached file bytes told free
output_reached true file bytes told free = bytes_reached file (hex_line bytes) told free

-- ---- work that went on

-- steps made bytes, whatever comes behind them, and left the files as they were
pub record Worked (steps : (List ℕ → Plan) → Plan) (told : Told) : Type 0 where
  pub made : List ℕ
  pub left : Told
  pub files : left.files ≡ told.files
  pub is : (next : List ℕ → Plan) → answer (steps next) told ≡ answer (next made) left

-- the bytes are those that were put
pub made_is : (steps : (List ℕ → Plan) → Plan) (told : Told) (hex : Bool) (file : Option (List ℕ)) (output : List ℕ) (w : Worked steps told) → IsDoneAnswer (answer (steps (λ b. shows hex b (puts file))) told)
    → bytes_at file (answer (steps (λ b. shows hex b (puts file))) told).files (answer (steps (λ b. shows hex b (puts file))) told).output ≡ Some (shown hex output) → (hex ≡ true → AreBytes output) → w.made ≡ output
made_is steps told hex file output w done gave bytes =
    let e = w.is (λ b. shows hex b (puts file)) in
    let put = output_put hex file w.made w.left (ap (λ (a : Answer). a.status) (sym e) ∙ done) in
    shown_is hex w.made output bytes (same_Some _ _ (sym put ∙ ap (λ (a : Answer). bytes_at file a.files a.output) (sym e) ∙ gave))

-- they could have gone to standard output
pub made_written : (steps : (List ℕ → Plan) → Plan) (told : Told) (output : List ℕ) (w : Worked steps told) → w.made ≡ output → (IsDoneAnswer (answer (steps writes) told)) × ((answer (steps writes) told).output ≡ output)
made_written steps told output w same = (ap (λ (a : Answer). a.status) (w.is writes), ap (λ (a : Answer). a.output) (w.is writes) ∙ same)

-- and what goes there could go into a new file
pub made_put : (steps : (List ℕ → Plan) → Plan) (told : Told) (hex : Bool) (file : Option (List ℕ)) (output : List ℕ) (w : Worked steps told) → (answer (steps writes) told).output ≡ output → IsFree file told.files
    → (IsDoneAnswer (answer (steps (λ b. shows hex b (puts file))) told)) × (bytes_at file (answer (steps (λ b. shows hex b (puts file))) told).files (answer (steps (λ b. shows hex b (puts file))) told).output ≡ Some (shown hex output))
made_put steps told hex file output w gave free =
    let same : w.made ≡ output = ap (λ (a : Answer). a.output) (sym (w.is writes)) ∙ gave in
    let e = w.is (λ b. shows hex b (puts file)) in
    let done = output_reached hex file w.made w.left (subst (IsFree file) (sym w.files) free) in
    (ap (λ (a : Answer). a.status) e ∙ done, ap (λ (a : Answer). bytes_at file a.files a.output) e ∙ output_put hex file w.made w.left done ∙ ap (λ (b : List ℕ). Some (shown hex b)) same)

opened_worked : (what : Unopened) (sealer : Sealer) (o : Option (List ℕ)) (next : List ℕ → Plan) (told : Told) → IsDoneAnswer (answer (with_opened what sealer o next) told) → Worked (with_opened what sealer o) told
opened_worked what sealer (Some plain) next told done = record { made = plain; left = told; files = refl; is = λ n. refl }
opened_worked what sealer None next told done = absurd (cc)

verified_worked : (b : Bool) (next : List ℕ → Plan) (told : Told) → IsDoneAnswer (answer (with_verified b next) told) → Worked (with_verified b) told
verified_worked true next told done = record { made = []; left = told; files = refl; is = λ n. refl }
verified_worked false next told done = absurd (cc)

derived_worked : (size : ℕ) (o : Option (Result (List ℕ) ℕ)) (next : List ℕ → Plan) (told : Told) → IsDoneAnswer (answer (with_derived size o next) told) → Worked (with_derived size o) told
derived_worked size None next told done = record { made = []; left = told; files = refl; is = λ n. refl }
derived_worked size (Some (Ok bytes)) next told done = record { made = bytes; left = told; files = refl; is = λ n. refl }
derived_worked size (Some (Err greatest)) next told done = absurd (cc)

sealed_worked : (table : Table) (keys : Keys) (ad input : List ℕ) (next : List ℕ → Plan) (told : Told) → IsDoneAnswer (answer (works table keys (to_seal ad) input next) told) → Worked (works table keys (to_seal ad) input) told
sealed_worked table keys ad input next told done = by (seal_answer keys table input ad told.random) refl done
  where
    a : (List ℕ → Plan) → Option Sealed → Answer
    a n o = draw_answer (option_map as_drawn o) (refused told status.EntropyFault) (λ (d : Drawn (List ℕ)). answer (with_made d.answer n) (record told { random = d.left }))

    by : (o : Option Sealed) → seal_answer keys table input ad told.random ≡ o → IsDoneAnswer (a next o) → Worked (works table keys (to_seal ad) input) told
    by (Some s) is done = record { made = s.bytes; left = record told { random = s.left }; files = refl; is = λ n. ap (a n) is }
    by None is done = absurd (cc)

-- what opened, sealed
resealed_worked : (table : Table) (keys : Keys) (ad : List ℕ) (sealer : Sealer) (o : Option (List ℕ)) (next : List ℕ → Plan) (told : Told) → IsDoneAnswer (answer (with_opened unopened.Text sealer o (λ plain. seals_plain table keys plain ad next)) told)
    → Worked (λ n. with_opened unopened.Text sealer o (λ plain. seals_plain table keys plain ad n)) told
resealed_worked table keys ad sealer (Some plain) next told done = let w = sealed_worked table keys ad plain next told done in record { made = w.made; left = w.left; files = w.files; is = w.is }
resealed_worked table keys ad sealer None next told done = absurd (cc)

dresealed_worked : (table : Table) (keys : Keys) (ad : List ℕ) (sealer : Sealer) (o : Option (List ℕ)) (next : List ℕ → Plan) (told : Told) → IsDoneAnswer (answer (with_opened unopened.Text sealer o (λ plain. dseals_plain table keys plain ad next)) told)
    → Worked (λ n. with_opened unopened.Text sealer o (λ plain. dseals_plain table keys plain ad n)) told
dresealed_worked table keys ad sealer (Some plain) next told done = record { made = made_bytes (dseal_answer keys table plain ad); left = told; files = refl; is = λ n. refl }
dresealed_worked table keys ad sealer None next told done = absurd (cc)

-- work that is done made bytes
pub worked : (table : Table) (keys : Keys) (work : AskedWork) (input : List ℕ) (next : List ℕ → Plan) (told : Told) → IsDoneAnswer (answer (works table keys work input next) told) → Worked (works table keys work input) told
worked table keys (to_seal ad) input next told done = sealed_worked table keys ad input next told done
worked table keys (to_open ad) input next told done = let w = opened_worked unopened.Text (sealer_of keys input) (open_answer keys table input ad) next told done in record { made = w.made; left = w.left; files = w.files; is = w.is }
worked table keys (to_dseal ad) input next told done = record { made = made_bytes (dseal_answer keys table input ad); left = told; files = refl; is = λ n. refl }
worked table keys (to_dopen ad) input next told done = let w = opened_worked unopened.Text (sealer_of keys input) (dopen_answer keys table input ad) next told done in record { made = w.made; left = w.left; files = w.files; is = w.is }
worked table keys (to_reseal ad) input next told done = let w = resealed_worked table keys ad (sealer_of keys input) (open_answer keys table input ad) next told done in record { made = w.made; left = w.left; files = w.files; is = w.is }
worked table keys (to_dreseal ad) input next told done = let w = dresealed_worked table keys ad (sealer_of keys input) (dopen_answer keys table input ad) next told done in record { made = w.made; left = w.left; files = w.files; is = w.is }
worked table keys to_tag input next told done = record { made = made_bytes (tag_answer keys table input); left = told; files = refl; is = λ n. refl }
worked table keys (to_verify tag) input next told done = let w = verified_worked (verify_answer keys table tag input) next told done in record { made = w.made; left = w.left; files = w.files; is = w.is }
worked table keys (to_derive size) input next told done = let w = derived_worked size (derive_answer keys table input size) next told done in record { made = w.made; left = w.left; files = w.files; is = w.is }

-- and so did an envelope
enveloped_worked : (table : Table) (keys : Keys) (scheme : Scheme) (row : Row) (ad input : List ℕ) (next : List ℕ → Plan) (told : Told) → IsDoneAnswer (answer (envelopes table keys scheme row (to_eseal ad) input next) told) → Worked (envelopes table keys scheme row (to_eseal ad) input) told
enveloped_worked table keys scheme row ad input next told done = by (envelope_of keys table scheme row input ad told.random) refl done
  where
    a : (List ℕ → Plan) → Option Enveloped → Answer
    a n o = draw_answer (option_map as_enveloped o) (refused told status.EntropyFault) (λ (d : Drawn (Result (List ℕ) Rule)). answer (with_made d.answer (λ e. with_enveloped e n)) (record told { random = d.left }))

    by_answer : (r : Result (List ℕ) Rule) (left : List ℕ) → envelope_of keys table scheme row input ad told.random ≡ Some (record { answer = r; left = left }) → IsDoneAnswer (a next (Some (record { answer = r; left = left }))) → Worked (envelopes table keys scheme row (to_eseal ad) input) told
    by_answer (Ok bytes) left is done = record { made = bytes; left = record told { random = left }; files = refl; is = λ n. ap (a n) is }
    by_answer (Err rule) left is done = absurd (cc)

    by : (o : Option Enveloped) → envelope_of keys table scheme row input ad told.random ≡ o → IsDoneAnswer (a next o) → Worked (envelopes table keys scheme row (to_eseal ad) input) told
    by (Some e) is done = by_answer e.answer e.left is done
    by None is done = absurd (cc)

-- and so did one whose data key was sealed anew
resealed_key_worked : (table : Table) (keys : Keys) (sealer : Sealer) (o : Option Parts) (next : List ℕ → Plan) (told : Told) → IsDoneAnswer (answer (with_parts sealer o (λ parts. reseals_key table keys parts next)) told)
    → Worked (λ n. with_parts sealer o (λ parts. reseals_key table keys parts n)) told
resealed_key_worked table keys sealer None next told done = absurd (cc)
resealed_key_worked table keys sealer (Some parts) next told done = by (seal_answer keys table parts.value [] told.random) refl done
  where
    a : (List ℕ → Plan) → Option Sealed → Answer
    a n o = draw_answer (option_map as_drawn o) (refused told status.EntropyFault) (λ (d : Drawn (List ℕ)). answer (with_made d.answer (λ sealed. n (envelope sealed parts.payload))) (record told { random = d.left }))

    by : (o : Option Sealed) → seal_answer keys table parts.value [] told.random ≡ o → IsDoneAnswer (a next o) → Worked (λ n. with_parts sealer (Some parts) (λ parts. reseals_key table keys parts n)) told
    by (Some s) is done = record { made = envelope s.bytes parts.payload; left = record told { random = s.left }; files = refl; is = λ n. ap (a n) is }
    by None is done = absurd (cc)

pub envelope_worked : (table : Table) (keys : Keys) (scheme : Scheme) (row : Row) (work : AskedEnvelope) (input : List ℕ) (next : List ℕ → Plan) (told : Told) → IsDoneAnswer (answer (envelopes table keys scheme row work input next) told) → Worked (envelopes table keys scheme row work input) told
envelope_worked table keys scheme row (to_eseal ad) input next told done = enveloped_worked table keys scheme row ad input next told done
envelope_worked table keys scheme row (to_eopen ad) input next told done = let w = opened_worked unopened.Envelope (envelope_sealer_of keys input) (open_envelope_of keys table scheme input ad) next told done in record { made = w.made; left = w.left; files = w.files; is = w.is }
envelope_worked table keys scheme row to_ereseal input next told done = let w = resealed_key_worked table keys (envelope_sealer_of keys input) (parts_in keys table scheme input) next told done in record { made = w.made; left = w.left; files = w.files; is = w.is }
