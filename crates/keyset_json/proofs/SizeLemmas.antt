-- Records that are read from a JSON value whose texts are short are short.
use Rattle.std.proofs.Common.{◌≡◌, ℕ, ◌+◌, ◌-◌, ◌≤◌, ◌^◌, Bool, true, false, List, [], ◌∷◌, length, Option, Some, None, Result, Ok, Err, refl, sym, subst, arith}
use Rattle.std.proofs.Common.{Ordering, Less, Equal, Greater}
use Rattle.std.specs.Prelude.{⊤, ◌&&◌, if◌then◌else◌}
use Rattle.std.specs.Str.{is_utf8}
use Rattle.std.proofs.lemmas.List.{length-take}
use Rattle.serde_json.specs.Read.{read}
use Rattle.std.specs.List.{AllByRecursion}
use Rattle.std.specs.Option.{option_or}
use Rattle.std.specs.Ordering.{match_ordering, nat_cmp}
use Rattle.std.specs.Cmp.Lexicographic.{slice_cmp}
use Rattle.serde_json.specs.Data.{Data, null, boolean, number, string, array, object, Items, no_items, item, Members, no_members, member}
use Rattle.serde_json.specs.Find.{get, get_member, as_str, as_array}
use Rattle.keyset_model.specs.declared.record.Record.{Record}
use Rattle.keyset_model.specs.declared.keyset.KeysetRefusal.{KeysetRefusal}
use Rattle.keyset_model.specs.Keyset.{Keys, IsWithin, IsShort, HasSizes, fault_of, unless_fault, built}
use Rattle.keyset_json.specs.declared.member.Path.{Path}
use Rattle.keyset_json.specs.declared.member.Member.{Member}
use Rattle.keyset_json.specs.declared.member.Member.TheVariants as members
use Rattle.keyset_json.specs.Base64Text.{bytes_of_text}
use Rattle.keyset_json.specs.Members.{name_of, field_name_of, unless_null, member_of}
use Rattle.keyset_json.specs.Nesting.{is_shallow}
use Rattle.keyset_json.specs.Reading.{◌>>=◌, of_key, of_keyset, or_at, given, field, bytes_of, object_of, record_of, records_of, records_in, json_value, ends_in_newline, without_newline}
use Rattle.keyset_json.proofs.Base64Lemmas.{bytes_short}
use Rattle.keyset_json.proofs.ReadingLemmas.{material_at, status_at, id_at, prefix_at}
use Rattle.keyset_json.proofs.TextLemmas.{Short, ShortItems, ShortMembers, IfThere, short_value}

module _ (n : ℕ) where
  pick_short : (o : Ordering) (a b c : Option Data) → IfThere (Short n) a → IfThere (Short n) b → IfThere (Short n) c → IfThere (Short n) (match_ordering o a b c)
  pick_short Less a b c ha hb hc = ha
  pick_short Equal a b c ha hb hc = hb
  pick_short Greater a b c ha hb hc = hc

  member_short : (k : List ℕ) (ms : Members) → ShortMembers n ms → IfThere (Short n) (get_member k ms)
  member_short k no_members h = tt
  member_short k (member l e ms) h = pick_short (slice_cmp nat_cmp k l) _ (Some e) _ (member_short k ms h.1) h.0 (member_short k ms h.1)

  pub get_short : (k : List ℕ) (d : Data) → Short n d → IfThere (Short n) (get k d)
  get_short k null h = tt
  get_short k (boolean b) h = tt
  get_short k (number m) h = tt
  get_short k (string s) h = tt
  get_short k (array ds) h = tt
  get_short k (object ms) h = member_short k ms h

  pub or_short : (a b : Option Data) → IfThere (Short n) a → IfThere (Short n) b → IfThere (Short n) (option_or a b)
  or_short None b ha hb = hb
  or_short (Some d) b ha hb = ha

  null_short : (o : Option Data) → IfThere (Short n) o → IfThere (Short n) (unless_null o)
  null_short None h = tt
  null_short (Some null) h = tt
  null_short (Some (boolean b)) h = h
  null_short (Some (number m)) h = h
  null_short (Some (string s)) h = h
  null_short (Some (array ds)) h = h
  null_short (Some (object ms)) h = h

  found_short : (m : Member) (d : Data) → Short n d → IfThere (Short n) (member_of m d)
  unfolding member_of
  found_short m d h = null_short _ (or_short _ _ (get_short (name_of m) d h) (get_short (field_name_of m) d h))

  abbrev IfRead : {A : Type 0} → (A → Type 0) → Result A Path → Type 0
  IfRead P (Ok a) = P a
  IfRead P (Err p) = ⊤

  at_short : {A : Type 0} (P : A → Type 0) (path : Path) (o : Option A) → IfThere P o → IfRead P (or_at path o)
  at_short P path None h = tt
  at_short P path (Some a) h = h

  field_short : {A : Type 0} (P : A → Type 0) (form : Data → Option A) (missing : A) (path : Path) (d : Data) → P missing
      → ((e : Data) → Short n e → IfThere P (form e)) → Short n d → IfRead P (field form missing path d)
  field_short P form missing path d none some h = given_short (member_of path.member d) (found_short path.member d h) where
    given_short : (o : Option Data) → IfThere (Short n) o → IfRead P (given form missing path o)
    given_short None x = none
    given_short (Some e) x = at_short P path (form e) (some e x)

  next_short : {A B : Type 0} (P : A → Type 0) (Q : B → Type 0) (read : Result A Path) (next : A → Result B Path) → IfRead P read → ((a : A) → P a → IfRead Q (next a))
      → IfRead Q (read >>= next)
  next_short P Q (Ok a) next h rest = rest a h
  next_short P Q (Err p) next h rest = tt

  any_read : {A : Type 0} (read : Result A Path) → IfRead (λ _. ⊤) read
  any_read (Ok a) = tt
  any_read (Err p) = tt

  object_short : (d : Data) → Short n d → IfThere (Short n) (object_of d)
  object_short null h = tt
  object_short (boolean b) h = tt
  object_short (number m) h = tt
  object_short (string s) h = tt
  object_short (array ds) h = tt
  object_short (object ms) h = h

  abbrev AtMost : List ℕ → Type 0
  AtMost s = length s ≤ n

  str_short : (d : Data) → Short n d → IfThere AtMost (as_str d)
  str_short null h = tt
  str_short (boolean b) h = tt
  str_short (number m) h = tt
  str_short (string s) h = h
  str_short (array ds) h = tt
  str_short (object ms) h = tt

  decoded_short : (s : List ℕ) (o : Option (List ℕ)) → length s ≤ n → o ≡ bytes_of_text s → IfThere AtMost o
  decoded_short s None h is = tt
  decoded_short s (Some b) h is = omega (arith, bytes_short s b (sym is))

  base64_short : (d : Data) → Short n d → IfThere AtMost (bytes_of d)
  base64_short null h = tt
  base64_short (boolean b) h = tt
  base64_short (number m) h = tt
  base64_short (string s) h = decoded_short s (bytes_of_text s) h refl
  base64_short (array ds) h = tt
  base64_short (object ms) h = tt

  record_short : (i : ℕ) (d : Data) → Short n d → IfRead (IsWithin n) (record_of i d)
  unfolding record_of
  record_short i d h =
      next_short (Short n) (IsWithin n) _ _ (at_short (Short n) (of_key i members.Key) (object_of d) (object_short d h)) (λ key hk.
      next_short (Short n) (IsWithin n) _ _ (field_short (Short n) object_of null (of_key i members.KeyData) key tt object_short hk) (λ inner hi.
      next_short AtMost (IsWithin n) _ _ (field_short AtMost as_str [] (of_key i members.TypeUrl) inner (omega arith) str_short hi) (λ url hu.
      next_short AtMost (IsWithin n) _ _ (field_short AtMost bytes_of [] (of_key i members.Value) inner (omega arith) base64_short hi) (λ value hv.
      next_short (λ _. ⊤) (IsWithin n) _ _ (any_read (material_at i inner)) (λ material _.
      next_short (λ _. ⊤) (IsWithin n) _ _ (any_read (status_at i key)) (λ status _.
      next_short (λ _. ⊤) (IsWithin n) _ _ (any_read (id_at i key)) (λ id _.
      next_short (λ _. ⊤) (IsWithin n) _ _ (any_read (prefix_at i key)) (λ prefix _. record { url = hu; value = hv }))))))))

  items_within : (i : ℕ) (ds : Items) → ShortItems n ds → IfRead (AllByRecursion (IsWithin n)) (records_of i ds)
  unfolding records_of
  items_within i no_items h = tt
  items_within i (item d ds) h =
      next_short (IsWithin n) (AllByRecursion (IsWithin n)) _ _ (record_short i d h.0) (λ r hr.
      next_short (AllByRecursion (IsWithin n)) (AllByRecursion (IsWithin n)) _ _ (items_within (i + 1) ds h.1) (λ rs hrs. (hr, hrs)))

  array_short : (d : Data) → Short n d → IfThere (ShortItems n) (as_array d)
  array_short null h = tt
  array_short (boolean b) h = tt
  array_short (number m) h = tt
  array_short (string s) h = tt
  array_short (array ds) h = h
  array_short (object ms) h = tt

  records_short : (d : Data) → Short n d → IfRead (AllByRecursion (IsWithin n)) (records_in d)
  records_short d h =
      next_short (ShortItems n) (AllByRecursion (IsWithin n)) _ _ (field_short (ShortItems n) as_array no_items (of_keyset members.Key) d tt array_short h)
      (λ ds hds. items_within 0 ds hds)

  -- the records that a value gives
  pub records_within : (d : Data) (rs : List Record) → Short n d → records_in d ≡ Ok rs → AllByRecursion (IsWithin n) rs
  records_within d rs h is = subst (IfRead (AllByRecursion (IsWithin n))) is (records_short d h)

all_weaker : (P Q : Record → Type 0) → ((r : Record) → P r → Q r) → (rs : List Record) → AllByRecursion P rs → AllByRecursion Q rs
all_weaker P Q h [] all = tt
all_weaker P Q h (r ∷ rs) all = (h r all.0, all_weaker P Q h rs all.1)

pub value_of : (text : List ℕ) (b : Bool) (d : Data) → is_utf8 text ≡ b → json_value text ≡ Some d → read text ≡ Some d
unfolding json_value
value_of text b d utf8 is = by_test (is_utf8 text && is_shallow text) is
  where
    by_test : (c : Bool) → (if c then read text else None) ≡ Some d → read text ≡ Some d
    by_test true e = e
    by_test false e = cc

pub newline_shorter : (bytes : List ℕ) (b : Bool) → ends_in_newline bytes ≡ b → length (without_newline bytes) ≤ length bytes
unfolding without_newline
newline_shorter bytes true is = rw is (omega (arith, length-take (length bytes - 1) bytes))
newline_shorter bytes false is = rw is (omega arith)

-- the records that bytes give
pub within_source : (bytes : List ℕ) (d : Data) (rs : List Record) → json_value (without_newline bytes) ≡ Some d → records_in d ≡ Ok rs
    → AllByRecursion (IsWithin (length bytes)) rs
within_source bytes d rs value is =
    let text = without_newline bytes in
    all_weaker (IsWithin (length text)) (IsWithin (length bytes)) (λ r h. let url = h.url in let v = h.value in let le = newline_shorter bytes _ refl in record { url = omega arith; value = omega arith }) rs
    (records_within (length text) d rs (short_value text d (value_of text _ d refl value)) is)

pub sizes_of : (n : ℕ) (rs : List Record) → n ≤ 2 ^ 30 → AllByRecursion (IsWithin n) rs → AllByRecursion HasSizes rs
sizes_of n rs le all = all_weaker (IsWithin n) HasSizes (λ r h. let url = h.url in let v = h.value in record { url = omega arith; value = omega arith }) rs all

pub short_of : (n : ℕ) (rs : List Record) → n ≤ 2 ^ 29 → AllByRecursion (IsWithin n) rs → AllByRecursion IsShort rs
short_of n rs le all = all_weaker (IsWithin n) IsShort (λ r h. let url = h.url in let v = h.value in omega arith) rs all

abbrev IfBuilt : (Record → Type 0) → Result Keys KeysetRefusal → Type 0
IfBuilt P (Ok k) = AllByRecursion P k.records
IfBuilt P (Err fault) = ⊤

unless_kept : (P : Record → Type 0) (keys : Keys) (fault : Option KeysetRefusal) → AllByRecursion P keys.records → IfBuilt P (unless_fault fault keys)
unless_kept P keys None all = all
unless_kept P keys (Some fault) all = tt

-- the records of a keyset that was built
pub built_within : (P : Record → Type 0) (keys keyset : Keys) → Ok keyset ≡ built keys → AllByRecursion P keys.records → AllByRecursion P keyset.records
built_within P keys keyset is all = subst (IfBuilt P) (sym is) (unless_kept P keys (fault_of keys) all)
