-- What key-of tells of bytes that the primary key of a keyset made.
use Rattle.std.proofs.Common.{◌≡◌, ◌⊎◌, inl, inr, ◌∙◌, ap, refl, sym, subst, arith, zero, suc, Bool, true, false, cond, ◌||◌, ℕ, List, [], ◌∷◌, ◌++◌, ◌==◌, length, take, drop, Option, Some, None, Result, Ok, Err, nat_lt, append_assoc}
use Rattle.std.specs.Prelude.{◌↔◌, filter, option_map}
use Rattle.std.specs.Int.{to_be_bytes, w32}
use Rattle.std.specs.List.{Contains, list_any}
use Rattle.std.specs.Option.{option_and_then}
use Rattle.std.proofs.lemmas.List.{take_at}
use Rattle.std.proofs.lemmas.Option.{same_Some}
use Rattle.std.proofs.lemmas.Slice.Eq.{bytes_eq-Decides}
use Rattle.key_msgs.specs.Templates.{Row, random_of}
use Rattle.key_msgs.specs.declared.key.KeyKind.{KeyKind}
use Rattle.key_msgs.specs.declared.primitive.Primitive.{Primitive}
use Rattle.key_msgs.specs.declared.primitive.Primitive.TheVariants.{Aead, Daead, Mac}
use Rattle.key_msgs.specs.declared.rule.Rule.{Rule}
use Rattle.keyset_model.specs.Keyset.{Keys, primary_of}
use Rattle.keyset_model.specs.declared.record.Record.{Record}
use Rattle.managers.specs.Schemes.{Scheme, key_under}
use Rattle.managers.specs.Table.{Table}
use Rattle.managers.specs.Uses.{dseal_of, iv_size, seal_of, tag_of, tagged}
use Rattle.envelopes.specs.Enveloped.{Enveloped, behind_data_key, data_key_of, envelope, envelope_of, under_data_key}
use Rattle.tinkey_cmds.proofs.Among.{Among, contains-among}
use Rattle.tinkey_plans.specs.KeyOf.{front_of, key_of_answer, key_of_lines}
use Rattle.tinkey_plans.specs.Sealers.{may_have_made, named, raw_count, stands_under}
use Rattle.tinkey_plans.specs.Naming.{IsPrimaryPrefix, KeyOfTells, NamesPrefix}
use Rattle.tinkey_session.proofs.KeptKeyLemmas.{same_prefix_is}
use Rattle.tinkey_session.proofs.Options.{clash}
use Rattle.tinkey_words.specs.declared.words.rows.SealedForm.TheVariants as forms
use Rattle.wrapped_prims.proofs.PrefixLemmas.{five, five-prefix_of}
use Rattle.wrapped_prims.specs.Answers.{Sealed, dseal_answer, made, made_by, seal_answer, seal_behind, seal_under, tag_answer}
use Rattle.wrapped_prims.specs.Candidates.{is_legacy, is_raw, prefix_bytes, prefix_of, same_prefix}
use Rattle.wrapped_prims.specs.Fitness.{key_of_record}

-- ---- what a filter has

pub among-contains : {A : Type 0} (xs : List A) (x : A) → Contains xs x → Among x xs
among-contains [] x c = absurd (omega (arith, c.1))
among-contains (y ∷ ys) x (zero, within, is) = inl is
among-contains (y ∷ ys) x (suc k, within, is) = inr (among-contains ys x (k, omega arith, is))

pub filter_has : {A : Type 0} (p : A → Bool) (xs : List A) (x : A) → Among x xs → p x ≡ true → Among x (filter p xs)
filter_has p [] x a passes = absurd a
filter_has {A} p (y ∷ ys) x a passes = by (p y) refl (λ later. filter_has p ys x later passes) a
  where
    by : (b : Bool) → p y ≡ b → (Among x ys → Among x (filter p ys)) → Among x (y ∷ ys) → Among x (cond b (y ∷ filter p ys) (filter p ys))
    by true is rest (inl same) = inl same
    by true is rest (inr later) = inr (rest later)
    by false is rest (inl same) = let e : true ≡ false = sym passes ∙ ap p (sym same) ∙ is in absurd (cc)
    by false is rest (inr later) = rest later

pub has_filter : {A : Type 0} (p : A → Bool) (xs : List A) (x : A) → Among x (filter p xs) → Among x xs × (p x ≡ true)
has_filter p [] x a = absurd a
has_filter {A} p (y ∷ ys) x a = by (p y) refl (λ later. has_filter p ys x later) a
  where
    by : (b : Bool) → p y ≡ b → (Among x (filter p ys) → Among x ys × (p x ≡ true)) → Among x (cond b (y ∷ filter p ys) (filter p ys)) → Among x (y ∷ ys) × (p x ≡ true)
    by true is rest (inl same) = (inl same, ap p (sym same) ∙ is)
    by true is rest (inr later) = (inr (rest later).0, (rest later).1)
    by false is rest later = (inr (rest later).0, (rest later).1)

-- a record has the output prefix
stands : (front : List ℕ) (r : Record) → prefix_of r ≡ Some front → stands_under front r ≡ true
stands front r has = subst (λ own. same_prefix own (Some front) ≡ true) (sym has) ((bytes_eq-Decides front front).1 refl)

pub names : (prefix front : List ℕ) (later : Keys) (r : Record) → front ≡ prefix → Contains (named later front) r ↔ (Contains later.records r × (prefix_of r ≡ Some prefix))
names prefix front later r same = (
  λ c. let x = has_filter (stands_under front) later.records r (among-contains _ r c) in (contains-among _ r x.0, same_prefix_is (prefix_of r) (Some front) x.1 ∙ ap Some same),
  λ x. contains-among _ r (filter_has (stands_under front) later.records r (among-contains _ r x.0)
      (stands front r (x.1 ∙ ap Some (sym same)))),
)

-- ---- the front

pub five_bytes : (r : Record) (prefix : List ℕ) → prefix_of r ≡ Some prefix → length prefix ≡ 5
five_bytes r prefix has = sym (ap length (five-prefix_of r prefix has))

pub text_front : (prefix rest bytes : List ℕ) → length prefix ≡ 5 → bytes ≡ prefix ++ rest → front_of forms.Text bytes ≡ prefix
text_front prefix rest bytes size is = ap (λ (l : List ℕ). take 5 l) is ∙ take_at prefix rest 5 size

pub envelope_front : (n : ℕ) (prefix rest payload bytes : List ℕ) → length prefix ≡ 5 → bytes ≡ to_be_bytes w32 n ++ ((prefix ++ rest) ++ payload) → front_of forms.Envelope bytes ≡ prefix
envelope_front n prefix rest payload bytes size is =
    ap (λ (l : List ℕ). front_of forms.Envelope l) is
    ∙ ap (λ (l : List ℕ). take 5 l) (append_assoc prefix rest payload)
    ∙ take_at prefix (rest ++ payload) 5 size

-- ---- what the primary record made

pub record Behind (prefix bytes : List ℕ) : Type 0 where
  pub rest : List ℕ
  pub is : bytes ≡ prefix ++ rest

pub sealed_behind : (keys : Keys) (table : Table) (prefix plain ad random : List ℕ) (sealed : Sealed) → IsPrimaryPrefix keys prefix → seal_answer keys table plain ad random ≡ Some sealed → Behind prefix sealed.bytes
sealed_behind keys table prefix plain ad random sealed own is = by_key (key_of_record table Aead own.r) (ap (λ o. option_and_then (seal_under table plain ad random) o) (sym own.primary) ∙ is)
  where
    by_size : (key : KeyKind) (b : Bool) → cond b None (Some (record { bytes = prefix_bytes (prefix_of own.r) ++ seal_of key (take (iv_size key) random) plain ad; left = drop (iv_size key) random })) ≡ Some sealed → Behind prefix sealed.bytes
    by_size key true e = clash e
    by_size key false e = record {
      rest = seal_of key (take (iv_size key) random) plain ad;
      is = ap (λ (s : Sealed). s.bytes) (sym (same_Some _ _ e)) ∙ ap (λ o. prefix_bytes o ++ seal_of key (take (iv_size key) random) plain ad) own.has;
    }

    by_key : (o : Option KeyKind) → option_and_then (seal_behind (prefix_bytes (prefix_of own.r)) plain ad random) o ≡ Some sealed → Behind prefix sealed.bytes
    by_key None e = clash e
    by_key (Some key) e = by_size key (nat_lt (length random) (iv_size key)) e

pub made_behind : (keys : Keys) (table : Table) (primitive : Primitive) (make : KeyKind → Record → List ℕ) (prefix bytes : List ℕ) → IsPrimaryPrefix keys prefix → made keys table primitive make ≡ Some bytes → Behind prefix bytes
made_behind keys table primitive make prefix bytes own is = by_key (key_of_record table primitive own.r) (ap (λ o. option_and_then (made_by table primitive make) o) (sym own.primary) ∙ is)
  where
    by_key : (o : Option KeyKind) → option_map (λ key. prefix_bytes (prefix_of own.r) ++ make key own.r) o ≡ Some bytes → Behind prefix bytes
    by_key None e = clash e
    by_key (Some key) e = record { rest = make key own.r; is = sym (same_Some _ _ e) ∙ ap (λ o. prefix_bytes o ++ make key own.r) own.has }

-- an envelope, with the sealed data key in it
pub record Encloses (prefix bytes : List ℕ) : Type 0 where
  pub size : ℕ
  pub rest : List ℕ
  pub payload : List ℕ
  pub is : bytes ≡ to_be_bytes w32 size ++ ((prefix ++ rest) ++ payload)

pub enclosed : (keys : Keys) (table : Table) (scheme : Scheme) (row : Row) (prefix plain ad random bytes left : List ℕ) → IsPrimaryPrefix keys prefix → envelope_of keys table scheme row plain ad random ≡ Some (record { answer = Ok bytes; left = left }) → Encloses prefix bytes
enclosed keys table scheme row prefix plain ad random bytes left own is = by_size (nat_lt (length random) (random_of row)) is
  where
    value : List ℕ
    value = data_key_of row (take (random_of row) random)

    later : List ℕ
    later = drop (random_of row) random

    by_payload : (sealed : Sealed) (o : Option Sealed) → Behind prefix sealed.bytes → option_map {U = Enveloped} (λ (payload : Sealed). record { answer = Ok (envelope sealed.bytes payload.bytes); left = payload.left }) o ≡ Some (record { answer = Ok bytes; left = left }) → Encloses prefix bytes
    by_payload sealed None behind e = clash e
    by_payload sealed (Some payload) behind e =
        let same : Ok (envelope sealed.bytes payload.bytes) ≡ Ok bytes = ap (λ (x : Enveloped). x.answer) (same_Some _ _ e) in
        let inside : envelope sealed.bytes payload.bytes ≡ bytes = cc in
        record {
          size = length sealed.bytes;
          rest = behind.rest;
          payload = payload.bytes;
          is = sym inside ∙ ap (λ (l : List ℕ). to_be_bytes w32 (length sealed.bytes) ++ (l ++ payload.bytes)) behind.is;
        }

    by_sealed : (key : KeyKind) (o : Option Sealed) → seal_answer keys table value [] later ≡ o → option_and_then (behind_data_key plain ad key) o ≡ Some (record { answer = Ok bytes; left = left }) → Encloses prefix bytes
    by_sealed key None was e = clash e
    by_sealed key (Some sealed) was e = by_payload sealed (seal_behind [] plain ad sealed.left key) (sealed_behind keys table prefix value [] later sealed own was) e

    by_key : (k : Result KeyKind Rule) → under_data_key keys table value plain ad later k ≡ Some (record { answer = Ok bytes; left = left }) → Encloses prefix bytes
    by_key (Ok key) e = by_sealed key (seal_answer keys table value [] later) refl e
    by_key (Err rule) e = let same : ◌≡◌ {A = Result (List ℕ) Rule} (Err rule) (Ok bytes) = ap (λ (x : Enveloped). x.answer) (same_Some _ _ e) in absurd (cc)

    by_size : (b : Bool) → cond b None (under_data_key keys table value plain ad later (key_under scheme value)) ≡ Some (record { answer = Ok bytes; left = left }) → Encloses prefix bytes
    by_size true e = clash e
    by_size false e = by_key (key_under scheme value) e

-- ---- where nothing is told

none_named : (front : List ℕ) (rs : List Record) → list_any (may_have_made front) rs ≡ false → (filter (stands_under front) rs ≡ []) × (length (filter is_raw rs) ≡ 0)
none_named front [] is = (refl, refl)
none_named front (r ∷ rs) is = by (is_raw r) (stands_under front r) (none_named front rs) is
  where
    by : (a b : Bool) → (list_any (may_have_made front) rs ≡ false → (filter (stands_under front) rs ≡ []) × (length (filter is_raw rs) ≡ 0)) → ((a || b) || list_any (may_have_made front) rs) ≡ false → (cond b (r ∷ filter (stands_under front) rs) (filter (stands_under front) rs) ≡ []) × (length (cond a (r ∷ filter is_raw rs) (filter is_raw rs)) ≡ 0)
    by true b rest e = absurd (cc)
    by false true rest e = absurd (cc)
    by false false rest e = rest e

named_none : (front : List ℕ) (rs : List Record) → filter (stands_under front) rs ≡ [] → length (filter is_raw rs) ≡ 0 → list_any (may_have_made front) rs ≡ false
named_none front [] one two = refl
named_none front (r ∷ rs) one two = by (is_raw r) (stands_under front r) (named_none front rs) one two
  where
    by : (a b : Bool) → (filter (stands_under front) rs ≡ [] → length (filter is_raw rs) ≡ 0 → list_any (may_have_made front) rs ≡ false) → cond b (r ∷ filter (stands_under front) rs) (filter (stands_under front) rs) ≡ [] → length (cond a (r ∷ filter is_raw rs) (filter is_raw rs)) ≡ 0 → ((a || b) || list_any (may_have_made front) rs) ≡ false
    by true b rest one two = absurd (omega (arith, two))
    by false true rest one two = absurd (cc)
    by false false rest one two = rest one two

answered : (keys : Keys) (front : List ℕ) → (key_of_answer keys front ≡ None) ↔ ((named keys front ≡ []) × (raw_count keys ≡ 0))
answered keys front = (λ e. by (list_any (may_have_made front) keys.records) refl e, λ x. ap (λ b. cond b (Some (key_of_lines keys front)) None) (named_none front keys.records x.0 x.1))
  where
    by : (b : Bool) → list_any (may_have_made front) keys.records ≡ b → cond b (Some (key_of_lines keys front)) None ≡ None → (named keys front ≡ []) × (raw_count keys ≡ 0)
    by true is e = absurd (cc)
    by false is e = none_named front keys.records is

-- ---- the law

pub alike : (r other : Record) → r.id ≡ other.id → r.prefix ≡ other.prefix → prefix_of r ≡ prefix_of other
alike r other ids types =
    ap (λ prefix. cond (prefix == 3) None (Some (cond (prefix == 1) 1 0 ∷ to_be_bytes w32 r.id))) types
    ∙ ap (λ id. cond (other.prefix == 3) None (Some (cond (other.prefix == 1) 1 0 ∷ to_be_bytes w32 id))) ids

pub key_of_tells : KeyOfTells
key_of_tells = record {
  seal = λ table keys prefix plain ad random sealed own is later r.
      let b = sealed_behind keys table prefix plain ad random sealed own is in
      names prefix _ later r (text_front prefix b.rest sealed.bytes (five_bytes own.r prefix own.has) b.is);
  dseal = λ table keys prefix plain ad bytes own is later r.
      let b = made_behind keys table Daead (λ key _. dseal_of key plain ad) prefix bytes own is in
      names prefix _ later r (text_front prefix b.rest bytes (five_bytes own.r prefix own.has) b.is);
  tag = λ table keys prefix body bytes own is later r.
      let b = made_behind keys table Mac (λ key r. tag_of key (tagged (is_legacy r) body)) prefix bytes own is in
      names prefix _ later r (text_front prefix b.rest bytes (five_bytes own.r prefix own.has) b.is);
  envelope = λ table keys scheme row prefix plain ad random bytes left own is later r.
      let e = enclosed keys table scheme row prefix plain ad random bytes left own is in
      names prefix _ later r (envelope_front e.size prefix e.rest e.payload bytes (five_bytes own.r prefix own.has) e.is);
  alike = alike;
  untold = answered;
}
