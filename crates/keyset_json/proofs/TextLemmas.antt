-- What each text of a JSON value has, by what the source has where a string begins.
--
--   GivesTexts P Rest    a string has P where Rest holds of its source, and Rest goes on from byte to byte
--   Holds P d            each text in the value d has P
--   Short n d            each has at most n bytes, where the source of the value has no more
use Rattle.std.proofs.Common.{◌≡◌, ℕ, ◌+◌, ◌≤◌, ◌&&◌, ◌==◌, nat_lt, nat_eq, drop, Bool, true, false, cond, List, [], ◌∷◌, ◌++◌, length, Option, Some, None, option_map, option_and_then, refl, subst, arith}
use Rattle.std.specs.Prelude.{⊤}
use Rattle.std.specs.List.{AllByRecursion, starts_with}
use Rattle.json.specs.Token.{Token}
use Rattle.std.proofs.lemmas.List.{length-append}
use Rattle.std.specs.Char.{encode_utf8}
use Rattle.json.specs.Text.{code_unit, short_escape, is_high_surrogate, is_low_surrogate, surrogate_pair, Within, plain, after_backslash, after_u, after_high, prepend, content}
use Rattle.json.specs.Ascii as ascii
use Rattle.json.specs.Word.{head, word, number_before, after_number, ends_word}
use Rattle.json.specs.Lex.{Lexeme, token, comma, colon, Class, quote, backslash, operator, space, other, class, Mode, between, in_word, in_string, in_escape, operator_lexeme, string_token, lex_byte, lex, Place, fresh, after_value, after_comma, after_key, begins_colon, may_begin, may_close, if_allowed, place_token, punctuate, tokens}
use Rattle.std.proofs.Common.{Ordering, Less, Equal, Greater}
use Rattle.std.specs.Ordering.{match_ordering}
use Rattle.serde_json.specs.Read.{number_of, of_json, of_items, of_members, max_depth, read}
use Rattle.json.specs.Json as json
use Rattle.json.specs.Tree.{json_tokens, items_tokens, members_tokens}
use Rattle.json.proofs.Unique.Spelling.{value-json_tokens_back}
use Rattle.serde_json.specs.Data.{Data, null, boolean, number, string, array, object, Items, no_items, item, Members, no_members, member, put}

abbrev pub IfThere : {A : Type 0} → (A → Type 0) → Option A → Type 0
IfThere P None = ⊤
IfThere P (Some a) = P a

-- what P says of each string, where Rest holds of the source from it on
pub record GivesTexts (P Rest : List ℕ → Type 0) : Type 0 where
  pub later : (x : ℕ) (xs : List ℕ) → Rest (x ∷ xs) → Rest xs
  pub begins : (x : ℕ) (xs : List ℕ) → class x ≡ quote → Rest (x ∷ xs) → IfThere P (content plain xs)

-- ---- lexemes

abbrev TokenHolds : (List ℕ → Type 0) → Token → Type 0
TokenHolds P (Token.string s) = P s
TokenHolds P _ = ⊤

abbrev LexemeHolds : (List ℕ → Type 0) → Lexeme → Type 0
LexemeHolds P (token t) = TokenHolds P t
LexemeHolds P comma = ⊤
LexemeHolds P colon = ⊤

string_all : (P : List ℕ → Type 0) (read : Option (List ℕ)) → IfThere P read → TokenHolds P (string_token read)
string_all P None h = tt
string_all P (Some s) h = h

-- no word is a string
literal_all : (P : List ℕ → Type 0) (b : Bool) (t : Token) → TokenHolds P t → TokenHolds P (cond b t Token.bad)
literal_all P true t h = h
literal_all P false t h = tt

number_all : (P : List ℕ → Type 0) (t : List ℕ) (rest : Option (List ℕ)) → TokenHolds P (number_before t rest)
number_all P t None = tt
number_all P t (Some rest) = literal_all P (ends_word rest) (Token.number _) tt

either_all : (P : List ℕ → Type 0) (b : Bool) (s t : Token) → TokenHolds P s → TokenHolds P t → TokenHolds P (cond b s t)
either_all P true s t hs ht = hs
either_all P false s t hs ht = ht

word_all : (P : List ℕ → Type 0) (t : List ℕ) → TokenHolds P (word t)
unfolding word
word_all P t =
    either_all P (head t == ascii.lower_t) _ _ (literal_all P (starts_with nat_eq t ascii.true_text && ends_word (drop (length ascii.true_text) t)) (Token.boolean true) tt)
    (either_all P (head t == ascii.lower_f) _ _ (literal_all P (starts_with nat_eq t ascii.false_text && ends_word (drop (length ascii.false_text) t)) (Token.boolean false) tt)
    (either_all P (head t == ascii.lower_n) _ _ (literal_all P (starts_with nat_eq t ascii.null_text && ends_word (drop (length ascii.null_text) t)) Token.null tt)
    (number_all P t (after_number t))))

choice_all : (P : List ℕ → Type 0) (b : Bool) (l k : Lexeme) → LexemeHolds P l → LexemeHolds P k → LexemeHolds P (cond b l k)
choice_all P true l k hl hk = hl
choice_all P false l k hl hk = hk

operator_all : (P : List ℕ → Type 0) (x : ℕ) → LexemeHolds P (operator_lexeme x)
operator_all P x =
    choice_all P (x == ascii.open_brace) (token Token.begin_object) _ tt (choice_all P (x == ascii.close_brace) (token Token.end_object) _ tt
    (choice_all P (x == ascii.open_bracket) (token Token.begin_array) _ tt (choice_all P (x == ascii.close_bracket) (token Token.end_array) _ tt
    (choice_all P (x == ascii.comma) comma colon tt tt))))

byte_all : (P Rest : List ℕ → Type 0) (g : GivesTexts P Rest) (m : Mode) (c : Class) (x : ℕ) (xs : List ℕ) → class x ≡ c → Rest (x ∷ xs) → (k : Mode → List Lexeme) → ((next : Mode) → AllByRecursion (LexemeHolds P) (k next))
    → AllByRecursion (LexemeHolds P) (lex_byte m c x xs k)
byte_all P Rest g between quote x xs is h k later = (string_all P (content plain xs) (g.begins x xs is h), later in_string)
byte_all P Rest g between backslash x xs is h k later = (tt, later in_word)
byte_all P Rest g between operator x xs is h k later = (operator_all P x, later between)
byte_all P Rest g between space x xs is h k later = later between
byte_all P Rest g between other x xs is h k later = (word_all P (x ∷ xs), later in_word)
byte_all P Rest g in_word quote x xs is h k later = later in_word
byte_all P Rest g in_word backslash x xs is h k later = later in_word
byte_all P Rest g in_word operator x xs is h k later = (operator_all P x, later between)
byte_all P Rest g in_word space x xs is h k later = later between
byte_all P Rest g in_word other x xs is h k later = later in_word
byte_all P Rest g in_string quote x xs is h k later = later between
byte_all P Rest g in_string backslash x xs is h k later = later in_escape
byte_all P Rest g in_string operator x xs is h k later = later in_string
byte_all P Rest g in_string space x xs is h k later = later in_string
byte_all P Rest g in_string other x xs is h k later = later in_string
byte_all P Rest g in_escape c x xs is h k later = later in_string

lex_all : (P Rest : List ℕ → Type 0) (g : GivesTexts P Rest) (m : Mode) (xs : List ℕ) → Rest xs → AllByRecursion (LexemeHolds P) (lex m xs)
unfolding lex
lex_all P Rest g m [] h = tt
lex_all P Rest g m (x ∷ xs) h = byte_all P Rest g m (class x) x xs refl h (λ next. lex next xs) (λ next. lex_all P Rest g next xs (g.later x xs h))

-- ---- tokens

allowed_all : (P : List ℕ → Type 0) (b : Bool) (t : Token) (k : Place → List Token) (next : Place) → TokenHolds P t → AllByRecursion (TokenHolds P) (k next)
    → AllByRecursion (TokenHolds P) (if_allowed b t k next)
allowed_all P true t k next h later = (h, later)
allowed_all P false t k next h later = (tt, tt)

placed_all : (P : List ℕ → Type 0) (p : Place) (t : Token) (b : Bool) (k : Place → List Token) → TokenHolds P t → ((next : Place) → AllByRecursion (TokenHolds P) (k next))
    → AllByRecursion (TokenHolds P) (place_token p t b k)
placed_all P p Token.begin_object b k h later = allowed_all P (may_begin p) Token.begin_object k fresh tt (later fresh)
placed_all P p Token.end_object b k h later = allowed_all P (may_close p) Token.end_object k after_value tt (later after_value)
placed_all P p Token.begin_array b k h later = allowed_all P (may_begin p) Token.begin_array k fresh tt (later fresh)
placed_all P p Token.end_array b k h later = allowed_all P (may_close p) Token.end_array k after_value tt (later after_value)
placed_all P p (Token.key s) b k h later = (tt, tt)
placed_all P p (Token.string s) true k h later = allowed_all P (may_begin p) (Token.key s) k after_key tt (later after_key)
placed_all P p (Token.string s) false k h later = allowed_all P (may_begin p) (Token.string s) k after_value h (later after_value)
placed_all P p (Token.number s) b k h later = allowed_all P (may_begin p) (Token.number s) k after_value tt (later after_value)
placed_all P p (Token.boolean v) b k h later = allowed_all P (may_begin p) (Token.boolean v) k after_value tt (later after_value)
placed_all P p Token.null b k h later = allowed_all P (may_begin p) Token.null k after_value tt (later after_value)
placed_all P p Token.bad b k h later = (tt, tt)

punctuate_all : (P : List ℕ → Type 0) (p : Place) (ls : List Lexeme) → AllByRecursion (LexemeHolds P) ls → AllByRecursion (TokenHolds P) (punctuate p ls)
unfolding punctuate
punctuate_all P fresh [] h = tt
punctuate_all P after_value [] h = tt
punctuate_all P after_comma [] h = (tt, tt)
punctuate_all P after_key [] h = (tt, tt)
punctuate_all P fresh (token t ∷ ls) h = placed_all P fresh t (begins_colon ls) (λ next. punctuate next ls) h.0 (λ next. punctuate_all P next ls h.1)
punctuate_all P after_value (token t ∷ ls) h = placed_all P after_value t (begins_colon ls) (λ next. punctuate next ls) h.0 (λ next. punctuate_all P next ls h.1)
punctuate_all P after_comma (token t ∷ ls) h = placed_all P after_comma t (begins_colon ls) (λ next. punctuate next ls) h.0 (λ next. punctuate_all P next ls h.1)
punctuate_all P after_key (token t ∷ ls) h = placed_all P after_key t (begins_colon ls) (λ next. punctuate next ls) h.0 (λ next. punctuate_all P next ls h.1)
punctuate_all P fresh (comma ∷ ls) h = (tt, tt)
punctuate_all P after_value (comma ∷ ls) h = punctuate_all P after_comma ls h.1
punctuate_all P after_comma (comma ∷ ls) h = (tt, tt)
punctuate_all P after_key (comma ∷ ls) h = (tt, tt)
punctuate_all P fresh (colon ∷ ls) h = (tt, tt)
punctuate_all P after_value (colon ∷ ls) h = (tt, tt)
punctuate_all P after_comma (colon ∷ ls) h = (tt, tt)
punctuate_all P after_key (colon ∷ ls) h = punctuate_all P fresh ls h.1

tokens_all : (P Rest : List ℕ → Type 0) (g : GivesTexts P Rest) (text : List ℕ) → Rest text → AllByRecursion (TokenHolds P) (tokens text)
tokens_all P Rest g text h = punctuate_all P fresh (lex between text) (lex_all P Rest g between text h)

-- ---- JSON and its data

abbrev mutual
  JsonHolds : (List ℕ → Type 0) → json.Json → Type 0
  JsonHolds P json.null = ⊤
  JsonHolds P (json.boolean b) = ⊤
  JsonHolds P (json.number s) = ⊤
  JsonHolds P (json.string s) = P s
  JsonHolds P (json.array js) = JsonsHold P js
  JsonHolds P (json.object ms) = NamedHold P ms

  JsonsHold : (List ℕ → Type 0) → json.Items → Type 0
  JsonsHold P json.no_items = ⊤
  JsonsHold P (json.item j js) = JsonHolds P j × JsonsHold P js

  NamedHold : (List ℕ → Type 0) → json.Members → Type 0
  NamedHold P json.no_members = ⊤
  NamedHold P (json.member k j ms) = JsonHolds P j × NamedHold P ms

abbrev mutual
  pub Holds : (List ℕ → Type 0) → Data → Type 0
  Holds P null = ⊤
  Holds P (boolean b) = ⊤
  Holds P (number m) = ⊤
  Holds P (string s) = P s
  Holds P (array ds) = ItemsHold P ds
  Holds P (object ms) = MembersHold P ms

  pub ItemsHold : (List ℕ → Type 0) → Items → Type 0
  ItemsHold P no_items = ⊤
  ItemsHold P (item d ds) = Holds P d × ItemsHold P ds

  pub MembersHold : (List ℕ → Type 0) → Members → Type 0
  MembersHold P no_members = ⊤
  MembersHold P (member k d ms) = Holds P d × MembersHold P ms

front_all : (P : Token → Type 0) (xs ys : List Token) → AllByRecursion P (xs ++ ys) → AllByRecursion P xs × AllByRecursion P ys
front_all P [] ys h = (tt, h)
front_all P (x ∷ xs) ys h = let rest = front_all P xs ys h.1 in ((h.0, rest.0), rest.1)

mutual
  json_all : (P : List ℕ → Type 0) (j : json.Json) → AllByRecursion (TokenHolds P) (json_tokens j) → JsonHolds P j
  json_all P json.null h = tt
  json_all P (json.boolean b) h = tt
  json_all P (json.number s) h = tt
  json_all P (json.string s) h = h.0
  json_all P (json.array js) h = jsons_all P js h.1
  json_all P (json.object ms) h = named_all P ms h.1

  jsons_all : (P : List ℕ → Type 0) (js : json.Items) → AllByRecursion (TokenHolds P) (items_tokens js) → JsonsHold P js
  jsons_all P json.no_items h = tt
  jsons_all P (json.item j js) h = let both = front_all (TokenHolds P) (json_tokens j) (items_tokens js) h in (json_all P j both.0, jsons_all P js both.1)

  named_all : (P : List ℕ → Type 0) (ms : json.Members) → AllByRecursion (TokenHolds P) (members_tokens ms) → NamedHold P ms
  named_all P json.no_members h = tt
  named_all P (json.member k j ms) h = let both = front_all (TokenHolds P) (json_tokens j) (members_tokens ms) h.1 in (json_all P j both.0, named_all P ms both.1)

choose_all : (P : List ℕ → Type 0) (o : Ordering) (a b c : Members) → MembersHold P a → MembersHold P b → MembersHold P c → MembersHold P (match_ordering o a b c)
choose_all P Less a b c ha hb hc = ha
choose_all P Equal a b c ha hb hc = hb
choose_all P Greater a b c ha hb hc = hc

put_all : (P : List ℕ → Type 0) (k : List ℕ) (d : Data) (ms : Members) → Holds P d → MembersHold P ms → MembersHold P (put k d ms)
put_all P k d no_members h hs = (h, tt)
put_all P k d (member l e ms) h hs =
    choose_all P _ (member k d (member l e ms)) (member l d ms) (member l e (put k d ms)) (h, hs) (h, hs.1) (hs.0, put_all P k d ms h hs.1)

there_map : {A B : Type 0} (P : A → Type 0) (Q : B → Type 0) (f : A → B) → ((a : A) → P a → Q (f a)) → (o : Option A) → IfThere P o → IfThere Q (option_map f o)
there_map P Q f h None is = tt
there_map P Q f h (Some a) is = h a is

pub there_then : {A B : Type 0} (P : A → Type 0) (Q : B → Type 0) (f : A → Option B) → ((a : A) → P a → IfThere Q (f a)) → (o : Option A) → IfThere P o → IfThere Q (option_and_then f o)
there_then P Q f h None is = tt
there_then P Q f h (Some a) is = h a is

anything : {A : Type 0} (o : Option A) → IfThere (λ _. ⊤) o
anything None = tt
anything (Some a) = tt

mutual
  data_all : (P : List ℕ → Type 0) (j : json.Json) → JsonHolds P j → IfThere (Holds P) (of_json j)
  data_all P json.null h = tt
  data_all P (json.boolean b) h = tt
  data_all P (json.number s) h = there_map (λ _. ⊤) (Holds P) number (λ a x. tt) (number_of s) (anything _)
  data_all P (json.string s) h = h
  data_all P (json.array js) h = there_map (ItemsHold P) (Holds P) array (λ a x. x) (of_items js) (items_all P js h)
  data_all P (json.object ms) h = there_map (MembersHold P) (Holds P) object (λ a x. x) (of_members ms no_members) (members_all P ms no_members h tt)

  items_all : (P : List ℕ → Type 0) (js : json.Items) → JsonsHold P js → IfThere (ItemsHold P) (of_items js)
  items_all P json.no_items h = tt
  items_all P (json.item j js) h =
      there_then (Holds P) (ItemsHold P) (λ d. option_map (item d) (of_items js))
      (λ d x. there_map (ItemsHold P) (ItemsHold P) (item d) (λ ds xs. (x, xs)) (of_items js) (items_all P js h.1)) (of_json j) (data_all P j h.0)

  members_all : (P : List ℕ → Type 0) (ms : json.Members) (found : Members) → NamedHold P ms → MembersHold P found → IfThere (MembersHold P) (of_members ms found)
  members_all P json.no_members found h hs = hs
  members_all P (json.member k j ms) found h hs =
      there_then (Holds P) (MembersHold P) (λ d. of_members ms (put k d found))
      (λ d x. members_all P ms (put k d found) h.1 (put_all P k d found x hs)) (of_json j) (data_all P j h.0)

last_all : (P : List ℕ → Type 0) (ts : List Token) (o : Option (json.Json × List Token)) → ((j : json.Json) (r : List Token) → o ≡ Some (j, r) → ts ≡ json_tokens j ++ r)
    → AllByRecursion (TokenHolds P) ts → IfThere (JsonHolds P) (option_and_then (λ p. json.if_last p.0 p.1) o)
last_all P ts None spelled h = tt
last_all P ts (Some (j, [])) spelled h = json_all P j (front_all (TokenHolds P) (json_tokens j) [] (subst (AllByRecursion (TokenHolds P)) (spelled j [] refl) h)).0
last_all P ts (Some (j, t ∷ r)) spelled h = tt

-- the value that is read from a text
pub value_all : (P Rest : List ℕ → Type 0) (g : GivesTexts P Rest) (text : List ℕ) (d : Data) → Rest text → read text ≡ Some d → Holds P d
value_all P Rest g text d h is =
    subst (IfThere (Holds P)) is
    (there_then (JsonHolds P) (Holds P) of_json (λ j x. data_all P j x) _
    (last_all P (tokens text) (json.value max_depth (tokens text)) (λ j r e. value-json_tokens_back max_depth (tokens text) r j e) (tokens_all P Rest g text h)))

-- ---- a text is no longer than the source

abbrev pub Short : ℕ → Data → Type 0
Short n = Holds (λ s. length s ≤ n)

abbrev pub ShortItems : ℕ → Items → Type 0
ShortItems n = ItemsHold (λ s. length s ≤ n)

abbrev pub ShortMembers : ℕ → Members → Type 0
ShortMembers n = MembersHold (λ s. length s ≤ n)

abbrev AtMost : ℕ → Option (List ℕ) → Type 0
AtMost n None = ⊤
AtMost n (Some s) = length s ≤ n

choice : (n : ℕ) (b : Bool) (x y : Option (List ℕ)) → AtMost n x → AtMost n y → AtMost n (cond b x y)
choice n true x y hx hy = hx
choice n false x y hx hy = hy

next_of : (n : ℕ) (f : ℕ → Option (List ℕ)) (o : Option ℕ) → ((u : ℕ) → AtMost n (f u)) → AtMost n (option_and_then f o)
next_of n f None h = tt
next_of n f (Some u) h = h u

wider : (n m : ℕ) (read : Option (List ℕ)) → AtMost m read → m ≤ n → AtMost n read
wider n m None h le = tt
wider n m (Some s) h le = omega arith

behind : (n m : ℕ) (front : List ℕ) (read : Option (List ℕ)) → AtMost m read → length front + m ≤ n → AtMost n (prepend front read)
behind n m front None h le = tt
behind n m front (Some s) h le = omega (arith, length-append front s)

length-encode_utf8 : (u : ℕ) → length (encode_utf8 u) ≤ 4
unfolding encode_utf8
length-encode_utf8 u = grind arith

-- no escape is shorter than what it stands for
content_short : (w : Within) (xs : List ℕ) → AtMost (length xs) (content w xs)
unfolding content
content_short plain [] = tt
content_short plain (x ∷ xs) =
    let n = length (x ∷ xs) in
    choice n (x == 34) _ _ (omega arith) (choice n (x == 92) _ _ (wider n _ _ (content_short after_backslash xs) (omega arith))
    (choice n (nat_lt x 32) _ _ tt (behind n _ (x ∷ []) _ (content_short plain xs) (omega arith))))
content_short after_backslash [] = tt
content_short after_backslash (x ∷ xs) =
    let n = length (x ∷ xs) in
    choice n (x == 117) _ _ (wider n _ _ (content_short after_u xs) (omega arith))
    (next_of n _ (short_escape x) (λ c. behind n _ (c ∷ []) _ (content_short plain xs) (omega arith)))
content_short after_u [] = tt
content_short after_u (a ∷ []) = tt
content_short after_u (a ∷ b ∷ []) = tt
content_short after_u (a ∷ b ∷ c ∷ []) = tt
content_short after_u (a ∷ b ∷ c ∷ d ∷ xs) =
    let n = length (a ∷ b ∷ c ∷ d ∷ xs) in
    next_of n _ (code_unit a b c d) (λ u. choice n (is_high_surrogate u) _ _ (wider n _ _ (content_short (after_high u) xs) (omega arith))
    (choice n (is_low_surrogate u) _ _ tt (behind n _ (encode_utf8 u) _ (content_short plain xs) (omega (arith, length-encode_utf8 u)))))
content_short (after_high h) [] = tt
content_short (after_high h) (s ∷ []) = tt
content_short (after_high h) (s ∷ u ∷ []) = tt
content_short (after_high h) (s ∷ u ∷ a ∷ []) = tt
content_short (after_high h) (s ∷ u ∷ a ∷ b ∷ []) = tt
content_short (after_high h) (s ∷ u ∷ a ∷ b ∷ c ∷ []) = tt
content_short (after_high h) (s ∷ u ∷ a ∷ b ∷ c ∷ d ∷ xs) =
    let n = length (s ∷ u ∷ a ∷ b ∷ c ∷ d ∷ xs) in
    choice n ((s == 92) && (u == 117)) _ _ (next_of n _ (code_unit a b c d) (λ l. choice n (is_low_surrogate l) _ _
    (behind n _ (encode_utf8 (surrogate_pair h l)) _ (content_short plain xs) (omega (arith, length-encode_utf8 (surrogate_pair h l)))) tt)) tt

short_later : (n x : ℕ) (xs : List ℕ) → length (x ∷ xs) ≤ n → length xs ≤ n
short_later n x xs h = omega arith

as_there : (n : ℕ) (read : Option (List ℕ)) → AtMost n read → IfThere (λ s. length s ≤ n) read
as_there n None h = tt
as_there n (Some s) h = h

short_texts : (n : ℕ) → GivesTexts (λ s. length s ≤ n) (λ xs. length xs ≤ n)
short_texts n = record {
  later = λ x xs h. short_later n x xs h;
  begins = λ x xs is h. as_there n _ (wider n (length xs) (content plain xs) (content_short plain xs) (short_later n x xs h));
}

pub short_value : (text : List ℕ) (d : Data) → read text ≡ Some d → Short (length text) d
short_value text d is = value_all _ _ (short_texts (length text)) text d (omega arith) is
