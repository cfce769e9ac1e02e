-- Lemmas on base64: the first engine that reads a text, and the length of what it reads.
use Rattle.std.proofs.Common.{◌≡◌, ◌∙◌, ℕ, ◌+◌, ◌*◌, ◌/◌, ◌≤◌, ◌==◌, nat_lt, true, false, List, [], ◌∷◌, length, drop, slice_index, Option, Some, None, Bool, Result, Ok, Err, if◌then◌else◌, refl, sym, subst, arith, length-append, length-drop}
use Rattle.std.specs.Prelude.{⊤}
use Rattle.std.specs.Result.{result_ok}
use Rattle.std.proofs.lemmas.List.{length-take}
use Rattle.std.specs.Option.{option_or}
use Rattle.base64.specs.declared.engine.general_purpose.GeneralPurpose.{GeneralPurpose}
use Rattle.base64.specs.declared.decode.DecodeError.{DecodeError}
use Rattle.base64.specs.Decode.{decode_group, groups_bytes, groups_before_last, no_leftover, push_leftover, scan_steps, scan_last, scan_bytes, suffix_bytes, decoded_bytes, decode_outcome}
use Rattle.base64.specs.GeneralPurpose.{decoded_of}
use Rattle.base64.proofs.Decoding.{length-groups_bytes}
use Rattle.base64.specs.Engines.{standard, standard_no_pad, url_safe, url_safe_no_pad}
use Rattle.keyset_model.specs.Keyset.{first_some}
use Rattle.keyset_json.specs.Base64Text.{bytes_of_text}

-- the answers of the engines in their order, as one
pub engines : (text : List ℕ) (a b c d : Option (List ℕ)) → a ≡ decoded_of standard text
    → b ≡ decoded_of standard_no_pad text → c ≡ decoded_of url_safe text → d ≡ decoded_of url_safe_no_pad text
    → option_or a (option_or b (option_or c (option_or d None))) ≡ bytes_of_text text
unfolding bytes_of_text first_some
engines text a b c d ea eb ec ed = rw (ea, eb, ec, ed) refl

pub first : (text : List ℕ) (a : List ℕ) → Some a ≡ decoded_of standard text → Some a ≡ bytes_of_text text
first text a e = engines text (Some a) _ _ _ e refl refl refl

pub second : (text : List ℕ) (b : List ℕ) → None ≡ decoded_of standard text
    → Some b ≡ decoded_of standard_no_pad text → Some b ≡ bytes_of_text text
second text b ea e = engines text None (Some b) _ _ ea e refl refl

pub third : (text : List ℕ) (c : List ℕ) → None ≡ decoded_of standard text
    → None ≡ decoded_of standard_no_pad text → Some c ≡ decoded_of url_safe text → Some c ≡ bytes_of_text text
third text c ea eb e = engines text None None (Some c) _ ea eb e refl

or_none : {A : Type 0} (d : Option A) → option_or d None ≡ d
or_none None = refl
or_none (Some a) = refl

pub last : (text : List ℕ) (d : Option (List ℕ)) → None ≡ decoded_of standard text
    → None ≡ decoded_of standard_no_pad text → None ≡ decoded_of url_safe text
    → d ≡ decoded_of url_safe_no_pad text → d ≡ bytes_of_text text
last text d ea eb ec e = sym (or_none d) ∙ engines text None None None d ea eb ec e

-- ---- no text is shorter than the bytes that it stands for

abbrev IfLeft : {L E : Type 0} → Result L E → (L → Type 0) → Type 0
IfLeft (Ok st) P = P st
IfLeft (Err e) P = ⊤

choice : {L E : Type 0} (P : L → Type 0) (b : Bool) (x y : Result L E) → IfLeft x P → IfLeft y P → IfLeft (if b then x else y) P
choice P true x y hx hy = hx
choice P false x y hx hy = hy

weaker : {L E : Type 0} (r : Result L E) (P Q : L → Type 0) → ((st : L) → P st → Q st) → IfLeft r P → IfLeft r Q
weaker (Ok st) P Q h p = h st p
weaker (Err e) P Q h p = tt

-- a symbol more counts one more at most
push_count : (dec : List ℕ) (pad at i b : ℕ) (st : _) → IfLeft (push_leftover dec pad at st i b) (λ next. next.morsels_count ≤ st.morsels_count + 1)
push_count dec pad at i b st =
    choice _ (b == pad) _ _ (choice _ (nat_lt i 2) _ _ tt (omega arith))
    (choice _ (nat_lt 0 st.padding_count) _ _ tt (choice _ (slice_index dec b == 255) _ _ tt (omega arith)))

scan_count : (dec : List ℕ) (pad at : ℕ) (bs : List ℕ) (n i : ℕ) (r : _) → IfLeft (scan_steps dec pad at r i bs) (λ fin. IfLeft r (λ st. st.morsels_count ≤ n) → fin.morsels_count ≤ n + length bs)
unfolding scan_steps
scan_count dec pad at bs n i (Err e) = tt
scan_count dec pad at [] n i (Ok st) = λ h. omega arith
scan_count dec pad at (b ∷ bs) n i (Ok st) =
    weaker (scan_steps dec pad at (push_leftover dec pad at st i b) (i + 1) bs) _ _
    (λ fin k h. let one : IfLeft (push_leftover dec pad at st i b) (λ next. next.morsels_count ≤ n + 1) =
    weaker (push_leftover dec pad at st i b) _ _ (λ next e. omega arith) (push_count dec pad at i b st) in omega (arith, k one))
    (scan_count dec pad at bs (n + 1) (i + 1) (push_leftover dec pad at st i b))

left_bytes : (n : ℕ) (r : _) → length (scan_bytes r) ≤ 3 × (IfLeft r (λ st. st.morsels_count ≤ n) → length (scan_bytes r) ≤ n)
left_bytes n (Ok st) =
    let e = length-take (st.morsels_count * 6 / 8) (decode_group (slice_index st.morsels 0) (slice_index st.morsels 1) (slice_index st.morsels 2) (slice_index st.morsels 3)) in
    (omega (arith, e), λ h. omega (arith, e))
left_bytes n (Err e) = (omega arith, λ h. omega arith)

length-decoded_bytes : (dec : List ℕ) (pad : ℕ) (s : List ℕ) → length (decoded_bytes dec pad s) ≤ length s
length-decoded_bytes dec pad s =
    let q = groups_before_last (length s) in
    let last = (left_bytes (0 + length (drop (4 * q) s)) (scan_last dec pad (4 * q) s)).1
    (weaker (scan_last dec pad (4 * q) s) _ _ (λ fin k. k (omega arith)) (scan_count dec pad (4 * q) (drop (4 * q) s) 0 0 (Ok no_leftover))) in
    omega (arith, last, length-drop (4 * q) s, length-groups_bytes dec s q, length-append (groups_bytes dec s q) (suffix_bytes dec pad (4 * q) s))

abbrev pub IfSome : (List ℕ → Type 0) → Option (List ℕ) → Type 0
IfSome P None = ⊤
IfSome P (Some b) = P b

outcome_short : (n : ℕ) (error : Option DecodeError) (b : List ℕ) → length b ≤ n → IfSome (λ b. length b ≤ n) (result_ok (decode_outcome error b))
outcome_short n None b h = h
outcome_short n (Some e) b h = tt

engine_short : (e : GeneralPurpose) (s : List ℕ) → IfSome (λ b. length b ≤ length s) (decoded_of e s)
unfolding decoded_of
engine_short e s = outcome_short (length s) _ _ (length-decoded_bytes e.decode_table e.padding.value s)

pub or_short : (P : List ℕ → Type 0) (a b : Option (List ℕ)) → IfSome P a → IfSome P b → IfSome P (option_or a b)
or_short P None b ha hb = hb
or_short P (Some x) b ha hb = ha

all_short : (s : List ℕ) → IfSome (λ b. length b ≤ length s) (bytes_of_text s)
unfolding bytes_of_text first_some
all_short s =
    let P : List ℕ → Type 0 = λ b. length b ≤ length s in
    or_short P _ _ (engine_short standard s) (or_short P _ _ (engine_short standard_no_pad s)
    (or_short P _ _ (engine_short url_safe s) (or_short P _ None (engine_short url_safe_no_pad s) tt)))

pub bytes_short : (s b : List ℕ) → bytes_of_text s ≡ Some b → length b ≤ length s
bytes_short s b is = subst (IfSome (λ x. length x ≤ length s)) is (all_short s)
