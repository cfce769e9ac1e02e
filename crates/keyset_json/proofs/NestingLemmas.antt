-- What is printed of a JSON value is as deep as the value, so that it is read where the value is shallow.
use Rattle.std.proofs.Common.{◌≡◌, ◌∙◌, ℕ, suc, ◌+◌, ◌-◌, ◌/◌, ◌%◌, ◌<◌, ◌≤◌, ◌==◌, nat_lt, cond, Bool, true, false, List, [], ◌∷◌, ◌++◌, length, get_or, Some, decimal, refl, sym, ap, arith, append_assoc, append-nil}
use Rattle.std.specs.Char.{digit_char}
use Rattle.std.proofs.lemmas.Bool.{ne_eqb, lt-ltb, ltb-true, ltb-false, eqb-true}
use Rattle.std.proofs.lemmas.Fmt.{decimal_is_IsNumeral}
use Rattle.std.proofs.lemmas.Str.Parse.{digit_at}
use Rattle.json.specs.Print.{escape_letter, escape_byte, escape, quoted}
use Rattle.json.specs.Tree as tree
use Rattle.serde_json.specs.Data.{Num, unsigned, negative, float, Data, null, boolean, number, string, array, object, Items, no_items, item, Members, no_members, member}
use Rattle.serde_json.specs.Read.{of_json}
use Rattle.serde_json.specs.Written.{outline, items_outline, members_outline, comma_if, compact_text, items_text, members_text}
use Rattle.keyset_json.specs.declared.nesting.Quoting.TheVariants.{Outside, Inside}
use Rattle.keyset_json.specs.Nesting.{nests_within, is_shallow, most_levels}
use Rattle.keyset_json.specs.Reading.{json_value}
use Rattle.keyset_json.proofs.PrintedLemmas.{GoodNum, Good, GoodItems, GoodMembers, utf8_value, read_printed}
use Rattle.keyset_json.proofs.ReadingLemmas.{value_read}

module _ (most : ℕ) where
  -- ---- strings

  digit_inside : (d : ℕ) → ((digit_char d == 34) ≡ false) × ((digit_char d == 92) ≡ false)
  digit_inside d = by_size (nat_lt d 10) refl
    where
      by_size : (b : Bool) → nat_lt d 10 ≡ b → ((cond b (48 + d) (87 + d) == 34) ≡ false) × ((cond b (48 + d) (87 + d) == 92) ≡ false)
      by_size true is = let small : d < 10 = ltb-true _ _ is in (ne_eqb _ _ (λ e. omega arith), ne_eqb _ _ (λ e. omega arith))
      by_size false is = let large : 10 ≤ d = ltb-false _ _ is in (ne_eqb _ _ (λ e. omega arith), ne_eqb _ _ (λ e. omega arith))

  byte_passes : (level x : ℕ) (xs : List ℕ) → (x == 34) ≡ false → (x == 92) ≡ false → nests_within most level Inside (x ∷ xs) ≡ nests_within most level Inside xs
  unfolding nests_within
  byte_passes level x xs a b = rw (a, b) refl

  escaped_passes : (level x : ℕ) (xs : List ℕ) → nests_within most level Inside (92 ∷ x ∷ xs) ≡ nests_within most level Inside xs
  unfolding nests_within
  escaped_passes level x xs = refl

  hex_passes : (level a b : ℕ) (xs : List ℕ) → nests_within most level Inside (92 ∷ 117 ∷ 48 ∷ 48 ∷ digit_char a ∷ digit_char b ∷ xs) ≡ nests_within most level Inside xs
  hex_passes level a b xs =
      escaped_passes level 117 (48 ∷ 48 ∷ digit_char a ∷ digit_char b ∷ xs)
      ∙ byte_passes level 48 (48 ∷ digit_char a ∷ digit_char b ∷ xs) refl refl
      ∙ byte_passes level 48 (digit_char a ∷ digit_char b ∷ xs) refl refl
      ∙ byte_passes level (digit_char a) (digit_char b ∷ xs) (digit_inside a).0 (digit_inside a).1
      ∙ byte_passes level (digit_char b) xs (digit_inside b).0 (digit_inside b).1

  written_passes : (level x : ℕ) (xs : List ℕ) → nests_within most level Inside (escape_byte x ++ xs) ≡ nests_within most level Inside xs
  unfolding escape_byte
  written_passes level x xs = by_tests (x == 34) (x == 92) refl refl
    where
      plain : (b c : Bool) → (x == 34) ≡ false → (x == 92) ≡ false → nests_within most level Inside (cond b (92 ∷ escape_letter x ∷ []) (cond c (92 ∷ 117 ∷ 48 ∷ 48 ∷ digit_char (x / 16) ∷ digit_char (x % 16) ∷ []) (x ∷ [])) ++ xs) ≡ nests_within most level Inside xs
      plain true c p q = escaped_passes level (escape_letter x) xs
      plain false true p q = hex_passes level (x / 16) (x % 16) xs
      plain false false p q = byte_passes level x xs p q

      by_tests : (a b : Bool) → (x == 34) ≡ a → (x == 92) ≡ b → nests_within most level Inside (escape_byte x ++ xs) ≡ nests_within most level Inside xs
      by_tests true b p q = let is : x ≡ 34 = eqb-true _ _ p in rw is (escaped_passes level 34 xs)
      by_tests false true p q = let is : x ≡ 92 = eqb-true _ _ q in rw is (escaped_passes level 92 xs)
      by_tests false false p q = plain (nat_lt 0 (escape_letter x)) (nat_lt x 32) p q

  content_passes : (level : ℕ) (s xs : List ℕ) → nests_within most level Inside (escape s ++ xs) ≡ nests_within most level Inside xs
  content_passes level [] xs = refl
  content_passes level (x ∷ s) xs =
      ap (nests_within most level Inside) (append_assoc (escape_byte x) (escape s) xs)
      ∙ written_passes level x (escape s ++ xs)
      ∙ content_passes level s xs

  string_begins : (level : ℕ) (xs : List ℕ) → nests_within most level Outside (34 ∷ xs) ≡ nests_within most level Inside xs
  unfolding nests_within
  string_begins level xs = refl

  string_ends : (level : ℕ) (xs : List ℕ) → nests_within most level Inside (34 ∷ xs) ≡ nests_within most level Outside xs
  unfolding nests_within
  string_ends level xs = refl

  string_passes : (level : ℕ) (s xs : List ℕ) → nests_within most level Outside (quoted s ++ xs) ≡ nests_within most level Outside xs
  string_passes level s xs =
      string_begins level ((escape s ++ 34 ∷ []) ++ xs)
      ∙ ap (nests_within most level Inside) (append_assoc (escape s) (34 ∷ []) xs)
      ∙ content_passes level s (34 ∷ xs)
      ∙ string_ends level xs

  -- ---- numbers

  digits_pass : (level : ℕ) (ds xs : List ℕ) → ((i : ℕ) → i < length ds → (48 ≤ get_or ds i 0) × (get_or ds i 0 ≤ 57)) → nests_within most level Outside (ds ++ xs) ≡ nests_within most level Outside xs
  unfolding nests_within
  digits_pass level [] xs h = refl
  digits_pass level (d ∷ ds) xs h =
      let first = h 0 (omega arith) in
      rw (ne_eqb d 91 (λ e. omega arith), ne_eqb d 123 (λ e. omega arith), ne_eqb d 93 (λ e. omega arith), ne_eqb d 125 (λ e. omega arith), ne_eqb d 34 (λ e. omega arith))
      (digits_pass level ds xs (λ i l. h (suc i) (omega arith)))

  number_passes : (level : ℕ) (n : Num) (xs : List ℕ) → GoodNum n → nests_within most level Outside (compact_text (number n) ++ xs) ≡ nests_within most level Outside xs
  number_passes level (unsigned n) xs h = digits_pass level (decimal n) xs (λ i l. digit_at _ i (decimal_is_IsNumeral n h).0.1 l)
  number_passes level (negative z) xs h = absurd h
  number_passes level (float x) xs h = absurd h

  -- ---- values

  list_begins : (level : ℕ) (xs : List ℕ) → level < most → nests_within most level Outside (91 ∷ xs) ≡ nests_within most (level + 1) Outside xs
  unfolding nests_within
  list_begins level xs fits = rw (lt-ltb level most fits) refl

  object_begins : (level : ℕ) (xs : List ℕ) → level < most → nests_within most level Outside (123 ∷ xs) ≡ nests_within most (level + 1) Outside xs
  unfolding nests_within
  object_begins level xs fits = rw (lt-ltb level most fits) refl

  list_ends : (level : ℕ) (xs : List ℕ) → nests_within most (level + 1) Outside (93 ∷ xs) ≡ nests_within most level Outside xs
  unfolding nests_within
  list_ends level xs = let back : level + 1 - 1 ≡ level = omega arith in ap (λ o. nests_within most o Outside xs) back

  object_ends : (level : ℕ) (xs : List ℕ) → nests_within most (level + 1) Outside (125 ∷ xs) ≡ nests_within most level Outside xs
  unfolding nests_within
  object_ends level xs = let back : level + 1 - 1 ≡ level = omega arith in ap (λ o. nests_within most o Outside xs) back

  comma_passes : (level : ℕ) (later : Bool) (rest xs : List ℕ) → nests_within most level Outside ((comma_if later ++ rest) ++ xs) ≡ nests_within most level Outside (rest ++ xs)
  unfolding nests_within
  comma_passes level true rest xs = refl
  comma_passes level false rest xs = refl

  colon_passes : (level : ℕ) (xs : List ℕ) → nests_within most level Outside (58 ∷ xs) ≡ nests_within most level Outside xs
  unfolding nests_within
  colon_passes level xs = refl

  null_passes : (level : ℕ) (xs : List ℕ) → nests_within most level Outside (compact_text null ++ xs) ≡ nests_within most level Outside xs
  unfolding nests_within
  null_passes level xs = refl

  boolean_passes : (level : ℕ) (b : Bool) (xs : List ℕ) → nests_within most level Outside (compact_text (boolean b) ++ xs) ≡ nests_within most level Outside xs
  unfolding nests_within
  boolean_passes level true xs = refl
  boolean_passes level false xs = refl

  mutual
    value_passes : (d : Data) → Good d → (level : ℕ) (xs : List ℕ) → level + tree.depth (outline d) ≤ most → nests_within most level Outside (compact_text d ++ xs) ≡ nests_within most level Outside xs
    value_passes null h level xs fits = null_passes level xs
    value_passes (boolean b) h level xs fits = boolean_passes level b xs
    value_passes (number n) h level xs fits = number_passes level n xs h
    value_passes (string s) h level xs fits = string_passes level s xs
    value_passes (array ds) h level xs fits =
        list_begins level (items_text false ds ++ xs) (omega (arith, fits)) ∙ items_pass false ds h level xs (omega (arith, fits))
    value_passes (object ms) h level xs fits =
        object_begins level (members_text false ms ++ xs) (omega (arith, fits)) ∙ members_pass false ms h level xs (omega (arith, fits))

    items_pass : (later : Bool) (ds : Items) → GoodItems ds → (level : ℕ) (xs : List ℕ) → level + 1 + tree.items_depth (items_outline ds) ≤ most → nests_within most (level + 1) Outside (items_text later ds ++ xs) ≡ nests_within most level Outside xs
    items_pass later no_items h level xs fits = list_ends level xs
    items_pass later (item d ds) h level xs fits =
        comma_passes (level + 1) later (compact_text d ++ items_text true ds) xs
        ∙ ap (nests_within most (level + 1) Outside) (append_assoc (compact_text d) (items_text true ds) xs)
        ∙ value_passes d h.0 (level + 1) (items_text true ds ++ xs) (omega (arith, fits))
        ∙ items_pass true ds h.1 level xs (omega (arith, fits))

    members_pass : (later : Bool) (ms : Members) → GoodMembers ms → (level : ℕ) (xs : List ℕ) → level + 1 + tree.members_depth (members_outline ms) ≤ most → nests_within most (level + 1) Outside (members_text later ms ++ xs) ≡ nests_within most level Outside xs
    members_pass later no_members h level xs fits = object_ends level xs
    members_pass later (member k d ms) h level xs fits =
        let rest = compact_text d ++ members_text true ms in
        comma_passes (level + 1) later (quoted k ++ 58 ∷ rest) xs
        ∙ ap (nests_within most (level + 1) Outside) (append_assoc (quoted k) (58 ∷ rest) xs)
        ∙ string_passes (level + 1) k (58 ∷ (rest ++ xs))
        ∙ colon_passes (level + 1) (rest ++ xs)
        ∙ ap (nests_within most (level + 1) Outside) (append_assoc (compact_text d) (members_text true ms) xs)
        ∙ value_passes d h.1 (level + 1) (members_text true ms ++ xs) (omega (arith, fits))
        ∙ members_pass true ms h.2 level xs (omega (arith, fits))

pub shallow_printed : (d : Data) → Good d → tree.depth (outline d) ≤ most_levels → is_shallow (compact_text d) ≡ true
unfolding is_shallow nests_within
shallow_printed d good shallow =
    ap is_shallow (sym (append-nil (compact_text d))) ∙ value_passes most_levels d good 0 [] (omega (arith, shallow))

-- where the value's members are in order, so that its outline is the value again
pub value_printed : (d : Data) → Good d → of_json (outline d) ≡ Some d → tree.depth (outline d) ≤ most_levels → json_value (compact_text d) ≡ Some d
value_printed d good back shallow =
    value_read (compact_text d) d (utf8_value d good) (shallow_printed d good shallow) (read_printed d good back (omega (arith, shallow)))
