-- Lemmas on reading: the value of a text, and the records of items one after another.
use Rattle.std.proofs.Common.{◌≡◌, ◌∙◌, ℕ, ◌+◌, suc, ◌<◌, get_or, take, drop, IfErr, zero-add, Bool, true, false, List, [], ◌∷◌, ◌++◌, length, map, Option, Some, None, Result, Ok, Err, IsErrAnd, if◌then◌else◌, ◌&&◌, refl, sym, ap, arith, add-zero}
use Rattle.std.proofs.lemmas.List.{take_more, map-append, length-map, length-take-le, take-append-drop}
use Rattle.std.proofs.Math.Seq.{drop-cons}
use Rattle.std.proofs.lemmas.Str.{is_utf8-from_IsUtf8, IsUtf8-from_is_utf8}
use Rattle.std.specs.Str.{IsUtf8, is_utf8}
use Rattle.serde_json.specs.Data.{Data, null, Items}
use Rattle.serde_json.specs.Find.{as_str, as_array}
use Rattle.serde_json.specs.Read.{read}
use Rattle.serde_json.specs.View.{view, items_of, items_view}
use Rattle.serde_json.specs.declared.value.Value.{Value}
use Rattle.keyset_model.specs.declared.record.Record.{Record}
use Rattle.keyset_model.specs.declared.keyset.Keyset.{Keyset}
use Rattle.keyset_model.specs.declared.keyset.KeysetRefusal.{KeysetRefusal}
use Rattle.keyset_model.specs.Keyset.{Keys, built}
use Rattle.keyset_json.specs.declared.member.Path.{Path}
use Rattle.keyset_json.specs.declared.member.Member.TheVariants as members
use Rattle.keyset_json.specs.declared.reading.JsonError.{JsonError}
use Rattle.keyset_json.specs.declared.reading.JsonError.TheVariants as errors
use Rattle.keyset_json.specs.Names.{status_names, prefix_names, material_names}
use Rattle.keyset_json.specs.Numbers.{uint32_of, enum_of}
use Rattle.keyset_json.specs.Nesting.{is_shallow}
use Rattle.keyset_json.specs.Reading.{◌>>=◌, json_value, of_key, or_at, object_of, bytes_of, field, of_keyset, record_of, records_of, records_in, keys_of, without_newline, Refusal, NotJson, Shape, Fault, without_fault, reads_json, GivesKeyset}
use Rattle.keyset_json.specs.Members.{member_of}
use Rattle.keyset_json.specs.Steps.{Gives, IsShape, IsNoValue}

pub value_read : (text : List ℕ) (d : Data) → IsUtf8 text → is_shallow text ≡ true → read text ≡ Some d → json_value text ≡ Some d
unfolding json_value
value_read text d utf8 shallow e = rw (is_utf8-from_IsUtf8 text utf8, shallow) e

pub no_value : (text : List ℕ) → (IsUtf8 text → read text ≡ None) → json_value text ≡ None
unfolding json_value
no_value text none = by_tests (is_utf8 text) (is_shallow text) refl
  where
    by_tests : (a b : Bool) → is_utf8 text ≡ a → (if a && b then read text else None) ≡ None
    by_tests true true is = none (IsUtf8-from_is_utf8 text is)
    by_tests true false is = refl
    by_tests false b is = refl

pub too_deep : (text : List ℕ) → is_shallow text ≡ false → json_value text ≡ None
unfolding json_value
too_deep text deep = by_test (is_utf8 text)
  where
    by_test : (a : Bool) → (if a && is_shallow text then read text else None) ≡ None
    by_test true = rw deep refl
    by_test false = refl

-- ---- the steps of a record

abbrev pub object_at : ℕ → Data → Result Data Path
object_at i d = or_at (of_key i members.Key) (object_of d)

abbrev pub data_at : ℕ → Data → Result Data Path
data_at i d = field object_of null (of_key i members.KeyData) d

abbrev pub url_at : ℕ → Data → Result (List ℕ) Path
url_at i d = field as_str [] (of_key i members.TypeUrl) d

abbrev pub value_at : ℕ → Data → Result (List ℕ) Path
value_at i d = field bytes_of [] (of_key i members.Value) d

abbrev pub material_at : ℕ → Data → Result ℕ Path
material_at i d = field (enum_of material_names) 0 (of_key i members.KeyMaterialType) d

abbrev pub status_at : ℕ → Data → Result ℕ Path
status_at i d = field (enum_of status_names) 0 (of_key i members.Status) d

abbrev pub id_at : ℕ → Data → Result ℕ Path
id_at i d = field uint32_of 0 (of_key i members.KeyId) d

abbrev pub prefix_at : ℕ → Data → Result ℕ Path
prefix_at i d = field (enum_of prefix_names) 0 (of_key i members.OutputPrefixType) d

module _ (i : ℕ) (d : Data) where
  pub stop_object : (p : Path) → object_at i d ≡ Err p → record_of i d ≡ Err p
  unfolding record_of
  stop_object p a = rw a refl

  module _ (key : Data) (a : object_at i d ≡ Ok key) where
    pub stop_data : (p : Path) → data_at i key ≡ Err p → record_of i d ≡ Err p
    unfolding record_of
    stop_data p b = rw (a, b) refl

    module _ (inner : Data) (b : data_at i key ≡ Ok inner) where
      pub stop_url : (p : Path) → url_at i inner ≡ Err p → record_of i d ≡ Err p
      unfolding record_of
      stop_url p c = rw (a, b, c) refl

      module _ (url : List ℕ) (c : url_at i inner ≡ Ok url) where
        pub stop_value : (p : Path) → value_at i inner ≡ Err p → record_of i d ≡ Err p
        unfolding record_of
        stop_value p e = rw (a, b, c, e) refl

        module _ (value : List ℕ) (e : value_at i inner ≡ Ok value) where
          pub stop_material : (p : Path) → material_at i inner ≡ Err p → record_of i d ≡ Err p
          unfolding record_of
          stop_material p f = rw (a, b, c, e, f) refl

          module _ (material : ℕ) (f : material_at i inner ≡ Ok material) where
            pub stop_status : (p : Path) → status_at i key ≡ Err p → record_of i d ≡ Err p
            unfolding record_of
            stop_status p g = rw (a, b, c, e, f, g) refl

            module _ (status : ℕ) (g : status_at i key ≡ Ok status) where
              pub stop_id : (p : Path) → id_at i key ≡ Err p → record_of i d ≡ Err p
              unfolding record_of
              stop_id p h = rw (a, b, c, e, f, g, h) refl

              module _ (id : ℕ) (h : id_at i key ≡ Ok id) where
                pub stop_prefix : (p : Path) → prefix_at i key ≡ Err p → record_of i d ≡ Err p
                unfolding record_of
                stop_prefix p k = rw (a, b, c, e, f, g, h, k) refl

                pub whole_record : (prefix : ℕ) → prefix_at i key ≡ Ok prefix
                    → record_of i d ≡ Ok (record { id = id; status = status; prefix = prefix; url = url; value = value; material = material })
                unfolding record_of
                whole_record prefix k = rw (a, b, c, e, f, g, h, k) refl

-- what is handed on by a `?`
pub handed_on : {T A : Type 0} (r : Result T JsonError) (error : JsonError) (step : Result A Path) (whole : Result T Path) → IsErrAnd r (λ e. e ≡ error)
    → IsShape error step → ((p : Path) → step ≡ Err p → whole ≡ Err p) → Gives r whole
handed_on (Ok value) error step whole is gives stop = absurd is
handed_on (Err e) errors.NotJson step whole is gives stop = absurd gives
handed_on (Err e) (errors.Shape path) step whole is gives stop = rw is (stop path gives)
handed_on (Err e) (errors.Fault fault) step whole is gives stop = absurd gives
handed_on (Err e) errors.NoMemory step whole is gives stop = rw is tt

-- ---- the items of a list, one after another

cons_ok : (r : Record) (later : Result (List Record) Path) (rs : List Record) → (later >>= (λ xs. Ok (r ∷ xs))) ≡ Ok rs
    → (xs : List Record) × (later ≡ Ok xs) × (r ∷ xs ≡ rs)
cons_ok r (Ok xs) rs is = (xs, refl, cc)
cons_ok r (Err p) rs is = cc

-- the first of some items
uncons : (k : ℕ) (d : Data) (ds : List Data) (rs : List Record) (first : Result Record Path) → record_of k d ≡ first
    → records_of k (items_of (d ∷ ds)) ≡ Ok rs
    → (r : Record) × (xs : List Record) × (record_of k d ≡ Ok r) × (records_of (k + 1) (items_of ds) ≡ Ok xs) × (r ∷ xs ≡ rs)
unfolding records_of
uncons k d ds rs (Ok r) here is = let rest = cons_ok r (records_of (k + 1) (items_of ds)) rs (rw here at is) in (r, rest.0, here, rest.1, rest.2)
uncons k d ds rs (Err p) here is = let clash : Err p ≡ Ok rs = rw here at is in cc

-- a record before others, or before what gives none
pub ahead : (k : ℕ) (d : Data) (ds : List Data) (r : Record) (xs : List Record) → record_of k d ≡ Ok r → records_of (k + 1) (items_of ds) ≡ Ok xs
    → records_of k (items_of (d ∷ ds)) ≡ Ok (r ∷ xs)
unfolding records_of
ahead k d ds r xs here later = rw (here, later) refl

ahead_stop : (k : ℕ) (d : Data) (ds : List Data) (r : Record) (path : Path) → record_of k d ≡ Ok r → records_of (k + 1) (items_of ds) ≡ Err path
    → records_of k (items_of (d ∷ ds)) ≡ Err path
unfolding records_of
ahead_stop k d ds r path here later = rw (here, later) refl

-- one more item that gives a record
pub records_push : (k : ℕ) (ds : List Data) (d : Data) (rs : List Record) (r : Record) → records_of k (items_of ds) ≡ Ok rs
    → record_of (k + length ds) d ≡ Ok r → records_of k (items_of (ds ++ d ∷ [])) ≡ Ok (rs ++ r ∷ [])
unfolding records_of
records_push k [] d rs r before here =
    let none : [] ≡ rs = cc before in
    let at_k : record_of k d ≡ Ok r = rw add-zero at here in
    let both : records_of k (items_of (d ∷ [])) ≡ Ok (r ∷ []) = rw at_k refl in
    both ∙ ap (λ xs. Ok (xs ++ r ∷ [])) none
records_push k (e ∷ ds) d rs r before here =
    let first = uncons k e ds rs (record_of k e) refl before in
    let place : (k + 1) + length ds ≡ k + length (e ∷ ds) = omega arith in
    let later = records_push (k + 1) ds d first.1 r first.3 (ap (λ i. record_of i d) place ∙ here) in
    ahead k e (ds ++ d ∷ []) first.0 _ first.2 later ∙ ap (λ xs. Ok (xs ++ r ∷ [])) first.4

-- the first item that gives none
pub records_stop : (k : ℕ) (ds more : List Data) (d : Data) (rs : List Record) (path : Path) → records_of k (items_of ds) ≡ Ok rs
    → record_of (k + length ds) d ≡ Err path → records_of k (items_of (ds ++ d ∷ more)) ≡ Err path
unfolding records_of
records_stop k [] more d rs path before here =
    let at_k : record_of k d ≡ Err path = rw add-zero at here in
    rw at_k refl
records_stop k (e ∷ ds) more d rs path before here =
    let first = uncons k e ds rs (record_of k e) refl before in
    let place : (k + 1) + length ds ≡ k + length (e ∷ ds) = omega arith in
    let later = records_stop (k + 1) ds more d first.1 path first.3 (ap (λ i. record_of i d) place ∙ here) in
    ahead_stop k e (ds ++ d ∷ more) first.0 path first.2 later

-- where the member is missing
pub no_records : (d : Data) → member_of members.Key d ≡ None → records_in d ≡ Ok []
unfolding records_of
no_records d missing = rw missing refl

-- where it is one
pub list_of : (d list : Data) (items : Items) → member_of members.Key d ≡ Some list → as_array list ≡ Some items → records_in d ≡ records_of 0 items
list_of d list items there is = rw (there, is) refl

one_more : (vs : List Value) (i : ℕ) (v : Value) → i < length vs → v ≡ get_or vs i v → map view (take (i + 1) vs) ≡ map view (take i vs) ++ view v ∷ []
one_more vs i v in_list is = ap (map view) (take_more vs i v in_list) ∙ map-append view (take i vs) _ ∙ ap (λ x. map view (take i vs) ++ view x ∷ []) (sym is)

so_far : (vs : List Value) (i : ℕ) → i < length vs → length (map view (take i vs)) ≡ i
so_far vs i in_list = length-map (take i vs) view ∙ length-take-le i vs (omega arith)

-- one more record of a list
pub items_push : (vs : List Value) (i : ℕ) (v : Value) (rs : List Record) (r : Record) → i < length vs → v ≡ get_or vs i v
    → records_of 0 (items_view (take i vs)) ≡ Ok rs → record_of i (view v) ≡ Ok r → records_of 0 (items_view (take (i + 1) vs)) ≡ Ok (rs ++ r ∷ [])
items_push vs i v rs r in_list is before here =
    let place : 0 + length (map view (take i vs)) ≡ i = zero-add _ ∙ so_far vs i in_list in
    ap (λ ds. records_of 0 (items_of ds)) (one_more vs i v in_list is) ∙ records_push 0 (map view (take i vs)) (view v) rs r before (ap (λ k. record_of k (view v)) place ∙ here)

-- the first of a list that gives none
pub items_stop : (vs : List Value) (i : ℕ) (v : Value) (rs : List Record) (path : Path) → i < length vs → v ≡ get_or vs i v
    → records_of 0 (items_view (take i vs)) ≡ Ok rs → record_of i (view v) ≡ Err path → records_of 0 (items_view vs) ≡ Err path
items_stop vs i v rs path in_list is before here =
    let place : 0 + length (map view (take i vs)) ≡ i = zero-add _ ∙ so_far vs i in_list in
    let parts : map view vs ≡ map view (take i vs) ++ view v ∷ map view (drop (suc i) vs) =
    ap (map view) (sym (take-append-drop i vs)) ∙ map-append view (take i vs) (drop i vs) ∙ ap (λ xs. map view (take i vs) ++ map view xs) (drop-cons vs i v in_list)
    ∙ ap (λ x. map view (take i vs) ++ view x ∷ map view (drop (suc i) vs)) (sym is) in
    ap (λ ds. records_of 0 (items_of ds)) parts ∙ records_stop 0 (map view (take i vs)) (map view (drop (suc i) vs)) (view v) rs path before (ap (λ k. record_of k (view v)) place ∙ here)

pub items_handed_on : {T : Type 0} (r : Result T JsonError) (error : JsonError) (step : Result Record Path) (whole : Result (List Record) Path) → IsErrAnd r (λ e. e ≡ error)
    → Gives (Err error) step → ((p : Path) → step ≡ Err p → whole ≡ Err p) → IfErr r (λ e. IsShape e whole)
items_handed_on (Ok value) error step whole is gives stop = absurd is
items_handed_on (Err e) errors.NotJson step whole is gives stop = absurd gives
items_handed_on (Err e) (errors.Shape path) step whole is gives stop = rw is (stop path gives)
items_handed_on (Err e) (errors.Fault fault) step whole is gives stop = absurd gives
items_handed_on (Err e) errors.NoMemory step whole is gives stop = rw is tt

-- ---- the steps of a keyset

pub stop_json : (bytes : List ℕ) → json_value (without_newline bytes) ≡ None → reads_json bytes ≡ Err NotJson
unfolding reads_json
stop_json bytes none = rw none refl

module _ (bytes : List ℕ) (d : Data) (v : json_value (without_newline bytes) ≡ Some d) where
  pub stop_whole : (p : Path) → or_at (of_keyset members.Keyset) (object_of d) ≡ Err p → reads_json bytes ≡ Err (Shape p)
  unfolding reads_json keys_of
  stop_whole p a = rw (v, a) refl

  module _ (a : or_at (of_keyset members.Keyset) (object_of d) ≡ Ok d) where
    pub stop_primary : (p : Path) → field uint32_of 0 (of_keyset members.PrimaryKeyId) d ≡ Err p → reads_json bytes ≡ Err (Shape p)
    unfolding reads_json keys_of
    stop_primary p b = rw (v, a, b) refl

    module _ (primary : ℕ) (b : field uint32_of 0 (of_keyset members.PrimaryKeyId) d ≡ Ok primary) where
      pub whole_keys : (rs : List Record) → records_in d ≡ Ok rs → keys_of d ≡ Ok (record { primary = primary; records = rs })
      unfolding keys_of
      whole_keys rs c = rw (a, b, c) refl

      pub stop_records : (p : Path) → records_in d ≡ Err p → reads_json bytes ≡ Err (Shape p)
      unfolding reads_json keys_of
      stop_records p c = rw (v, a, b, c) refl

      pub keyset_built : (rs : List Record) → records_in d ≡ Ok rs → reads_json bytes ≡ without_fault (built (record { primary = primary; records = rs }))
      unfolding reads_json keys_of
      keyset_built rs c = rw (v, a, b, c) refl

pub value_handed_on : (r : Result Keyset JsonError) (error : JsonError) (value : Option Data) (read : Result Keys Refusal) → IsErrAnd r (λ e. e ≡ error)
    → IsNoValue error value → (value ≡ None → read ≡ Err NotJson) → GivesKeyset r read
value_handed_on (Ok keyset) error value read is gives stop = absurd is
value_handed_on (Err e) errors.NotJson value read is gives stop = rw is (stop gives)
value_handed_on (Err e) (errors.Shape path) value read is gives stop = absurd gives
value_handed_on (Err e) (errors.Fault fault) value read is gives stop = absurd gives
value_handed_on (Err e) errors.NoMemory value read is gives stop = rw is tt

pub shape_handed_on : {A : Type 0} (r : Result Keyset JsonError) (error : JsonError) (step : Result A Path) (read : Result Keys Refusal) → IsErrAnd r (λ e. e ≡ error)
    → IsShape error step → ((p : Path) → step ≡ Err p → read ≡ Err (Shape p)) → GivesKeyset r read
shape_handed_on (Ok keyset) error step read is gives stop = absurd is
shape_handed_on (Err e) errors.NotJson step read is gives stop = absurd gives
shape_handed_on (Err e) (errors.Shape path) step read is gives stop = rw is (stop path gives)
shape_handed_on (Err e) (errors.Fault fault) step read is gives stop = absurd gives
shape_handed_on (Err e) errors.NoMemory step read is gives stop = rw is tt

pub fault_handed_on : (r : Result Keyset JsonError) (fault : KeysetRefusal) (read : Result Keys Refusal) → IsErrAnd r (λ e. e ≡ errors.Fault fault) → read ≡ Err (Fault fault) → GivesKeyset r read
fault_handed_on (Ok keyset) fault read is at = absurd is
fault_handed_on (Err e) fault read is at = rw is at
