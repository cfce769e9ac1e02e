-- What is printed of a JSON value reads back as it.
--
--   Good d    the texts and names in d are UTF-8, and its numbers are unsigned ones of 64 bits
use Rattle.std.proofs.Common.{◌≡◌, ◌∙◌, ◌<◌, ◌≤◌, ◌^◌, Bool, true, false, [], ◌∷◌, ◌++◌, Some, option_and_then, decimal, refl, sym, ap, append-nil}
use Rattle.std.specs.Prelude.{⊤}
use Rattle.std.specs.Str.{IsUtf8}
use Rattle.std.proofs.lemmas.Str.{IsUtf8-append, IsUtf8-from_ascii}
use Rattle.std.proofs.lemmas.Fmt.{IsAscii-decimal}
use Rattle.json.specs.Lex.{tokens}
use Rattle.json.specs.Print.{quoted}
use Rattle.json.specs.Json as json
use Rattle.json.specs.Tree as tree
use Rattle.json.proofs.Printed.Decimals.{IsNumber-decimal}
use Rattle.json.proofs.Printed.Tokens.{tokens-print}
use Rattle.json.proofs.Printed.Trees.{value-json_tokens, ArePrintable-json_tokens}
use Rattle.json.proofs.Printed.Utf8.{IsUtf8-are_ascii, IsUtf8-quoted, IsUtf8-boolean}
use Rattle.serde_json.specs.Data.{Num, unsigned, negative, float, Data, null, boolean, number, string, array, object, Items, no_items, item, Members, no_members, member}
use Rattle.serde_json.specs.Read.{of_json, max_depth, read}
use Rattle.serde_json.specs.Written.{outline, items_outline, members_outline, comma_if, compact_text, items_text, members_text}
use Rattle.serde_json.proofs.Texts.{print-outline}

abbrev pub GoodNum : Num → Type 0
GoodNum (unsigned n) = n < 2 ^ 64
GoodNum (negative z) = ⊥
GoodNum (float x) = ⊥

abbrev mutual
  pub Good : Data → Type 0
  Good null = ⊤
  Good (boolean b) = ⊤
  Good (number n) = GoodNum n
  Good (string s) = IsUtf8 s
  Good (array ds) = GoodItems ds
  Good (object ms) = GoodMembers ms

  pub GoodItems : Items → Type 0
  GoodItems no_items = ⊤
  GoodItems (item d ds) = Good d × GoodItems ds

  pub GoodMembers : Members → Type 0
  GoodMembers no_members = ⊤
  GoodMembers (member k d ms) = IsUtf8 k × Good d × GoodMembers ms

utf8_number : (n : Num) → GoodNum n → IsUtf8 (compact_text (number n))
utf8_number (unsigned n) h = IsUtf8-from_ascii (decimal n) (IsAscii-decimal n h)
utf8_number (negative z) h = absurd h
utf8_number (float x) h = absurd h

utf8_comma : (later : Bool) → IsUtf8 (comma_if later)
utf8_comma true = IsUtf8-are_ascii (44 ∷ []) refl
utf8_comma false = IsUtf8-are_ascii [] refl

mutual
  pub utf8_value : (d : Data) → Good d → IsUtf8 (compact_text d)
  utf8_value null h = IsUtf8-are_ascii _ refl
  utf8_value (boolean b) h = IsUtf8-boolean b
  utf8_value (number n) h = utf8_number n h
  utf8_value (string s) h = IsUtf8-quoted s h
  utf8_value (array ds) h = IsUtf8-append (91 ∷ []) (items_text false ds) (IsUtf8-are_ascii (91 ∷ []) refl) (utf8_items false ds h)
  utf8_value (object ms) h = IsUtf8-append (123 ∷ []) (members_text false ms) (IsUtf8-are_ascii (123 ∷ []) refl) (utf8_members false ms h)

  utf8_items : (later : Bool) (ds : Items) → GoodItems ds → IsUtf8 (items_text later ds)
  utf8_items later no_items h = IsUtf8-are_ascii (93 ∷ []) refl
  utf8_items later (item d ds) h =
      IsUtf8-append (comma_if later) (compact_text d ++ items_text true ds) (utf8_comma later)
      (IsUtf8-append (compact_text d) (items_text true ds) (utf8_value d h.0) (utf8_items true ds h.1))

  utf8_members : (later : Bool) (ms : Members) → GoodMembers ms → IsUtf8 (members_text later ms)
  utf8_members later no_members h = IsUtf8-are_ascii (125 ∷ []) refl
  utf8_members later (member k d ms) h =
      let value = compact_text d ++ members_text true ms in
      IsUtf8-append (comma_if later) (quoted k ++ 58 ∷ value) (utf8_comma later)
      (IsUtf8-append (quoted k) (58 ∷ value) (IsUtf8-quoted k h.0)
      (IsUtf8-append (58 ∷ []) value (IsUtf8-are_ascii (58 ∷ []) refl)
      (IsUtf8-append (compact_text d) (members_text true ms) (utf8_value d h.1) (utf8_members true ms h.2))))

number_printed : (n : Num) → GoodNum n → tree.HasNumbers (outline (number n))
number_printed (unsigned n) h = IsNumber-decimal n h
number_printed (negative z) h = absurd h
number_printed (float x) h = absurd h

mutual
  numbers : (d : Data) → Good d → tree.HasNumbers (outline d)
  numbers null h = tt
  numbers (boolean b) h = tt
  numbers (number n) h = number_printed n h
  numbers (string s) h = tt
  numbers (array ds) h = numbers_items ds h
  numbers (object ms) h = numbers_members ms h

  numbers_items : (ds : Items) → GoodItems ds → tree.ItemsHaveNumbers (items_outline ds)
  numbers_items no_items h = tt
  numbers_items (item d ds) h = (numbers d h.0, numbers_items ds h.1)

  numbers_members : (ms : Members) → GoodMembers ms → tree.MembersHaveNumbers (members_outline ms)
  numbers_members no_members h = tt
  numbers_members (member k d ms) h = (numbers d h.1, numbers_members ms h.2)

-- where the value's members are in order, so that its outline is the value again
pub read_printed : (d : Data) → Good d → of_json (outline d) ≡ Some d → tree.depth (outline d) ≤ max_depth → read (compact_text d) ≡ Some d
read_printed d good back shallow =
    let j = outline d in
    let lexed : tokens (compact_text d) ≡ tree.json_tokens j = ap tokens (sym (print-outline d)) ∙ tokens-print (tree.json_tokens j) (ArePrintable-json_tokens j (numbers d good)) in
    let parsed : json.value max_depth (tokens (compact_text d)) ≡ Some (j, []) =
    ap (json.value max_depth) (lexed ∙ sym (append-nil (tree.json_tokens j))) ∙ value-json_tokens j max_depth [] shallow in
    ap (λ o. option_and_then of_json (option_and_then (λ p. json.if_last p.0 p.1) o)) parsed ∙ back
