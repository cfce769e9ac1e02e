-- What a UTF-8 text stands for in base64 are bytes.
use Rattle.std.proofs.Common.{◌≡◌, ℕ, zero, suc, ◌+◌, ◌*◌, ◌/◌, ◌<◌, Bool, true, List, [], ◌∷◌, ◌++◌, length, take, drop, slice_index, Option, Some, None, Ok, Err, inl, inr, refl, subst, arith}
use Rattle.std.specs.Char.{encode_utf8, IsScalar}
use Rattle.std.specs.List.{AllByRecursion}
use Rattle.std.specs.Result.{result_ok}
use Rattle.std.specs.Str.{IsUtf8, all_scalars, encode_utf8_all}
use Rattle.std.proofs.Math.Utf8.{scalar_cases}
use Rattle.std.proofs.lemmas.Bool.{and_parts, cond_both, ltb-true}
use Rattle.std.proofs.lemmas.List.Elements.{All-drop, All-from_recursion, All-take, recursion_from_All}
use Rattle.base64.specs.Decode.{IsDecodeTable, decode_error, decode_group, decode_outcome, decoded_bytes, group_error, group_bytes, groups_before_last, groups_bytes, groups_error, lone_error, no_leftover, or_else, push_leftover, scan_bytes, scan_last, scan_steps, suffix_bytes, suffix_error, symbol_error}
use Rattle.base64.specs.Engines.{standard, standard_no_pad, url_safe, url_safe_no_pad}
use Rattle.base64.specs.GeneralPurpose.{IsBytes, decoded_of}
use Rattle.base64.specs.declared.decode.DecodeError.{DecodeError}
use Rattle.base64.specs.declared.engine.DecodePaddingMode.{DecodePaddingMode}
use Rattle.base64.specs.declared.engine.general_purpose.GeneralPurpose.{GeneralPurpose}
use Rattle.base64.proofs.Decoding.{IsLeftover, IsLeftover_next}
use Rattle.base64.proofs.Tables.{IsDecodeTable_from, are_tables_inverse}
use Rattle.keyset_model.specs.Keyset.{first_some}
use Rattle.keyset_json.specs.Base64Text.{bytes_of_text}
use Rattle.keyset_json.proofs.Base64Lemmas.{IfSome, or_short}

abbrev pub AreBytes : List ℕ → Type 0
AreBytes = AllByRecursion (λ b. b < 256)

pub bytes_append : (xs ys : List ℕ) → AreBytes xs → AreBytes ys → AreBytes (xs ++ ys)
bytes_append [] ys front back = back
bytes_append (x ∷ xs) ys front back = (front.0, bytes_append xs ys front.1 back)

bytes_take : (n : ℕ) (xs : List ℕ) → AreBytes xs → AreBytes (take n xs)
bytes_take n xs h = recursion_from_All (λ b. b < 256) (take n xs) (All-take (λ b. b < 256) n xs (All-from_recursion (λ b. b < 256) xs h))

bytes_drop : (n : ℕ) (xs : List ℕ) → AreBytes xs → AreBytes (drop n xs)
bytes_drop n xs h = recursion_from_All (λ b. b < 256) (drop n xs) (All-drop (λ b. b < 256) n xs (All-from_recursion (λ b. b < 256) xs h))

by_place : (bytes : List ℕ) → AreBytes bytes → IsBytes bytes
by_place [] h i = omega arith
by_place (b ∷ bytes) h zero = h.0
by_place (b ∷ bytes) h (suc i) = by_place bytes h.1 i

-- ---- a UTF-8 text is bytes

encode_bytes : (c : ℕ) → IsScalar c → AreBytes (encode_utf8 c)
unfolding encode_utf8
encode_bytes c scalar =
    let small : c < 1114112 = elim (scalar_cases c scalar) [ inl low ↦ omega arith | inr high ↦ high.1 ] in
    cond_both _ _ _ AreBytes (λ e. let h = ltb-true c 128 e in (omega arith, tt)) (λ _.
    cond_both _ _ _ AreBytes (λ e. let h = ltb-true c 2048 e in (omega arith, (omega arith, tt))) (λ _.
    cond_both _ _ _ AreBytes (λ e. let h = ltb-true c 65536 e in (omega arith, (omega arith, (omega arith, tt)))) (λ _.
    (omega arith, (omega arith, (omega arith, (omega arith, tt)))))))

chars_bytes : (cs : List ℕ) → all_scalars cs ≡ true → AreBytes (encode_utf8_all cs)
chars_bytes [] scalars = tt
chars_bytes (c ∷ cs) scalars = let both = and_parts _ _ scalars in bytes_append (encode_utf8 c) (encode_utf8_all cs) (encode_bytes c both.0) (chars_bytes cs both.1)

pub utf8_bytes : (text : List ℕ) → IsUtf8 text → AreBytes text
utf8_bytes text u = subst AreBytes u.1.1 (chars_bytes u.0 u.1.0)

-- ---- groups of four symbols

none_before : (x y : Option DecodeError) → or_else x y ≡ None → (x ≡ None) × (y ≡ None)
none_before None y none = (refl, none)
none_before (Some e) y none = absurd (cc)

symbol_below : (dec s : List ℕ) (i : ℕ) → IsDecodeTable dec → IsBytes s → symbol_error dec s i ≡ None → slice_index dec (slice_index s i) < 64
symbol_below dec s i table bytes none = elim (table (slice_index s i) (bytes i)) [ inl bad ↦ cc (rw bad at none) | inr good ↦ good ]

group_of_bytes : (a b c d : ℕ) → a < 64 → b < 64 → c < 64 → d < 64 → AreBytes (decode_group a b c d)
group_of_bytes a b c d ha hb hc hd = (omega arith, (omega arith, (omega arith, tt)))

groups_are : (dec s : List ℕ) (q : ℕ) → IsDecodeTable dec → IsBytes s → groups_error dec s q ≡ None → AreBytes (groups_bytes dec s q)
unfolding groups_error groups_bytes
groups_are dec s zero table bytes none = tt
groups_are dec s (suc q) table bytes none =
    let i : ℕ = 4 * q in
    let parts = none_before (groups_error dec s q) (group_error dec s i) none in
    let p0 = none_before (symbol_error dec s i) _ parts.1 in
    let p1 = none_before (symbol_error dec s (i + 1)) _ p0.1 in
    let p2 = none_before (symbol_error dec s (i + 2)) (symbol_error dec s (i + 3)) p1.1 in
    bytes_append (groups_bytes dec s q) (group_bytes dec s i) (groups_are dec s q table bytes parts.0)
    (group_of_bytes _ _ _ _ (symbol_below dec s i table bytes p0.0) (symbol_below dec s (i + 1) table bytes p1.0) (symbol_below dec s (i + 2) table bytes p2.0) (symbol_below dec s (i + 3) table bytes p2.1))

-- ---- the symbols behind them

zeros_below : (k : ℕ) → slice_index (0 ∷ 0 ∷ 0 ∷ 0 ∷ []) k < 64
zeros_below zero = omega arith
zeros_below (suc zero) = omega arith
zeros_below (suc (suc zero)) = omega arith
zeros_below (suc (suc (suc zero))) = omega arith
zeros_below (suc (suc (suc (suc k)))) = omega arith

abbrev AreMorsels : List ℕ → Type 0
AreMorsels morsels = (k : ℕ) → slice_index morsels k < 64

scan_morsels : (dec : List ℕ) (pad at : ℕ) (bs : List ℕ) (st fin : _) (i : ℕ) → IsDecodeTable dec → AreBytes bs → IsLeftover st i → scan_steps dec pad at (Ok st) i bs ≡ Ok fin → AreMorsels fin.morsels
unfolding scan_steps
scan_morsels dec pad at [] st fin i table bytes held is = let same : st ≡ fin = cc in subst (λ x. AreMorsels x.morsels) same held.3
scan_morsels dec pad at (b ∷ bs) st fin i table bytes held is = by_step (push_leftover dec pad at st i b) refl is (λ next e. scan_morsels dec pad at bs next fin (i + 1) table bytes.1 (IsLeftover_next dec pad at st i b next table held bytes.0 e))
  where
    by_step : (r : _) → push_leftover dec pad at st i b ≡ r → scan_steps dec pad at r (i + 1) bs ≡ Ok fin
        → ((next : _) → push_leftover dec pad at st i b ≡ Ok next → scan_steps dec pad at (Ok next) (i + 1) bs ≡ Ok fin → AreMorsels fin.morsels) → AreMorsels fin.morsels
    by_step (Ok next) e h on = on next e h
    by_step (Err error) e h on = absurd (cc)

last_are : (dec : List ℕ) (pad at : ℕ) (s : List ℕ) (r : _) → IsDecodeTable dec → AreBytes s → scan_last dec pad at s ≡ r → AreBytes (scan_bytes r)
last_are dec pad at s (Ok st) table bytes is =
    let small = scan_morsels dec pad at (drop at s) no_leftover st 0 table (bytes_drop at s bytes) (omega arith, omega arith, omega arith, zeros_below) is in
    bytes_take (st.morsels_count * 6 / 8) _ (group_of_bytes (slice_index st.morsels 0) (slice_index st.morsels 1) (slice_index st.morsels 2) (slice_index st.morsels 3) (small 0) (small 1) (small 2) (small 3))
last_are dec pad at s (Err error) table bytes is = tt

-- ---- a text

decoded_are : (dec s : List ℕ) (pad : ℕ) (allow : Bool) (mode : DecodePaddingMode) → IsDecodeTable dec → AreBytes s → decode_error dec pad allow mode s ≡ None → AreBytes (decoded_bytes dec pad s)
decoded_are dec s pad allow mode table bytes none =
    let q = groups_before_last (length s) in
    let behind = none_before (lone_error dec pad s) _ none in
    let groups = none_before (groups_error dec s q) (suffix_error dec pad allow mode (4 * q) s) behind.1 in
    bytes_append (groups_bytes dec s q) (suffix_bytes dec pad (4 * q) s) (groups_are dec s q table (by_place s bytes) groups.0) (last_are dec pad (4 * q) s _ table bytes refl)

outcome_are : (error : Option DecodeError) (b : List ℕ) → (error ≡ None → AreBytes b) → IfSome AreBytes (result_ok (decode_outcome error b))
outcome_are None b h = h refl
outcome_are (Some error) b h = tt

engine_are : (e : GeneralPurpose) (s : List ℕ) → AreBytes s → IfSome AreBytes (decoded_of e s)
unfolding decoded_of
engine_are e s bytes = outcome_are _ _ (λ none. decoded_are e.decode_table s e.padding.value e.config.decode_allow_trailing_bits e.config.decode_padding_mode
    (IsDecodeTable_from e.encode_table e.decode_table (are_tables_inverse e.encode_table e.decode_table e.padding.value e.tables)) bytes none)

all_are : (s : List ℕ) → AreBytes s → IfSome AreBytes (bytes_of_text s)
unfolding bytes_of_text first_some
all_are s bytes =
    or_short AreBytes _ _ (engine_are standard s bytes) (or_short AreBytes _ _ (engine_are standard_no_pad s bytes)
    (or_short AreBytes _ _ (engine_are url_safe s bytes) (or_short AreBytes _ None (engine_are url_safe_no_pad s bytes) tt)))

pub bytes_held : (s b : List ℕ) → IsUtf8 s → bytes_of_text s ≡ Some b → IsBytes b
bytes_held s b utf8 is = by_place b (subst (IfSome AreBytes) is (all_are s (utf8_bytes s utf8)))
