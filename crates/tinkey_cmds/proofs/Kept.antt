-- What every accepted edit keeps.
use Rattle.std.proofs.Common.{◌≡◌, ◌∙◌, inl, ℕ, ◌+◌, ◌≤◌, ◌==◌, ◌^◌, nat_le, nat_lt, Bool, true, false, not, ◌&&◌, ◌||◌, List, [], ◌∷◌, ◌++◌, length, Some, Contains, refl, sym, ap, arith, subst, eq-eqb, eqb-true, lit≤, lit<, zero, suc}
use Rattle.std.specs.List.{AllByRecursion, list_all, list_any}
use Rattle.std.proofs.lemmas.Str.{is_utf8-from_IsUtf8, IsUtf8-from_ascii}
use Rattle.std.specs.Str.{is_utf8, IsAscii}
use Rattle.std.proofs.lemmas.Bool.{true≢false, false_from_ne_true, and_parts, and_from, or_left, ltb-true}
use Rattle.key_msgs.proofs.Sizes.{length-made, length-url}
use Rattle.key_msgs.proofs.TableLemmas.{each_row, most_random}
use Rattle.key_msgs.specs.KeyTypes.{url_of_type}
use Rattle.key_msgs.specs.Templates.{Row, random_of, type_made}
use Rattle.keyset_model.specs.declared.record.Record.{Record}
use Rattle.keyset_model.specs.Keyset.{Keys, IsShort, has_id, has_status, has_prefix, has_material, has_key_data, is_enabled, is_destroyed, is_in, is_primary}
use Rattle.keyset_model.specs.Writing.{HasWireBounds}
use Rattle.tinkey_cmds.specs.Edits.{Edit, named, changed, with_status, destroyed, with_records, added, rotated, alone, record_of, step, first}
use Rattle.tinkey_cmds.specs.Laws.{IsTemplate, HasTemplate, IsFree, Comes, stayed, was_destroyed, is_new, Follows, HasPrimary, EditsKeepKeysets, FirstsAreKeysets, EditsKeepBounds, FirstsHaveBounds, EditsFollow, EditsKeepThePrimary}
use Rattle.tinkey_cmds.proofs.Lists.{each-append}
use Rattle.tinkey_cmds.proofs.Among.{among-all, all-among, among-any, find-among, contains-among}
use Rattle.keyset_model.proofs.WellFormedLemmas.{Lone}
use Rattle.tinkey_cmds.proofs.WellFormed.{IsFine, IsGood, good-keyset, keyset-good}
use Rattle.tinkey_cmds.proofs.Changes.{changed-each, changed-some, changed-lone, length-changed, without-each, without-lone, lone-without, without-any, length-without, lone-push, none-push, any-push_left, any-push_right, length-push, find-id}
use Rattle.tinkey_cmds.proofs.Cases.{Yields, yielded, IsNew, Seven, edit_case, first_case}

-- ---- the rows of the table

known_prefix : (row : Row) → IsTemplate row → (nat_le 1 row.prefix && nat_le row.prefix 4) ≡ true
known_prefix row is = each_row (λ x. nat_le 1 x.prefix && nat_le x.prefix 4) refl row is

ascii_each : (bytes : List ℕ) → list_all (λ b. nat_lt b 128) bytes ≡ true → IsAscii bytes
ascii_each [] small i = lit< tt
ascii_each (b ∷ bytes) small zero = ltb-true _ _ (and_parts _ _ small).0
ascii_each (b ∷ bytes) small (suc i) = ascii_each bytes (and_parts _ _ small).1 i

-- bytes below 128 are text
text_ascii : (bytes : List ℕ) → list_all (λ b. nat_lt b 128) bytes ≡ true → is_utf8 bytes ≡ true
text_ascii bytes small = is_utf8-from_IsUtf8 bytes (IsUtf8-from_ascii bytes (ascii_each bytes small))

text_url : (row : Row) → IsTemplate row → is_utf8 (url_of_type (type_made row)) ≡ true
text_url row is = text_ascii _ (each_row (λ x. list_all (λ b. nat_lt b 128) (url_of_type (type_made x))) refl row is)

some_url : (row : Row) → IsTemplate row → nat_le 1 (length (url_of_type (type_made row))) ≡ true
some_url row is = each_row (λ x. nat_le 1 (length (url_of_type (type_made x)))) refl row is

-- URL and message of a made key have few bytes
pub small_made : (row : Row) (id : ℕ) (random : List ℕ) → IsTemplate row → length random ≡ random_of row
    → length (record_of row id random).url + length (record_of row id random).value ≤ 1000
small_made row id random is size = omega (arith, length-url (type_made row), length-made row.recipe random, most_random row is, size)

pub sizes_made : (row : Row) (id : ℕ) (random url value : List ℕ) → IsTemplate row → length random ≡ random_of row
    → url ≡ (record_of row id random).url → value ≡ (record_of row id random).value → (length url ≤ 2 ^ 30) × (length value ≤ 2 ^ 30)
sizes_made row id random url value is size u v =
    let small = small_made row id random is size in
    let url_is : length url ≡ length (record_of row id random).url = ap length u in
    let value_is : length value ≡ length (record_of row id random).value = ap length v in
    (omega (arith, small, url_is), omega (arith, small, value_is))

-- ---- records, one by one

-- what an edit may do to a record keeps this
pub record IsKept (P : Record → Type 0) : Type 0 where
  pub status : (status : ℕ) (r : Record) → P r → P (with_status status r)
  pub destroyed' : (r : Record) → P r → P (destroyed r)
  pub new : (row : Row) (records : List Record) (r : Record) → IsTemplate row → IsNew row records r → P r

each_seven : (P : Record → Type 0) → IsKept P → (keys : Keys) → AllByRecursion P keys.records
    → Seven keys (λ edit new. HasTemplate edit → AllByRecursion P new.records)
each_seven P k keys each =
    let found : (id : ℕ) (r : Record) → named keys id ≡ Some r → P r
    = λ id r e. among-all P keys.records r each (find-among (has_id id) keys.records r e).0 in
    record {
      add = λ row r room same new is. each-append P keys.records (r ∷ []) each (k.new row keys.records r is new, tt);
      rotate = λ row r room same new is. each-append P keys.records (r ∷ []) each (k.new row keys.records r is new, tt);
      promote = λ id r e enabled others is. each;
      enable = λ id r e there clear same valid is. changed-each P (with_status 1) id keys.records r e (k.status 1 r (found id r e)) each;
      disable = λ id r e other there is. changed-each P (with_status 2) id keys.records r e (k.status 2 r (found id r e)) each;
      destroy = λ id r e other is. changed-each P destroyed id keys.records r e (k.destroyed' r (found id r e)) each;
      delete = λ id r e other is. without-each P id keys.records each;
    }

pub each-kept : (P : Record → Type 0) → IsKept P → (keys : Keys) (edit : Edit) → AllByRecursion P keys.records → Yields (λ new. HasTemplate edit → AllByRecursion P new.records) (step keys edit)
each-kept P k keys edit each = edit_case keys (λ x new. HasTemplate x → AllByRecursion P new.records) (each_seven P k keys each) edit

pub each-first : (P : Record → Type 0) → IsKept P → (row : Row) → IsTemplate row → Yields (λ new. AllByRecursion P new.records) (first row)
each-first P k row is = first_case (λ new. AllByRecursion P new.records) row (λ r new. (k.new row [] r is new, tt))

pub kept-short : IsKept IsShort
kept-short = record {
  status = λ status r h. h;
  destroyed' = λ r h. lit≤ tt;
  new = λ row records r is new. let small = small_made row r.id new.random is new.size in subst IsShort (sym new.made) (omega (arith, small));
}

kept-held : IsKept HasWireBounds
kept-held = record {
  status = λ status r h. record { id = h.id; utf8 = h.utf8; short = h.short };
  destroyed' = λ r h. record { id = h.id; utf8 = text_ascii [] refl; short = lit≤ tt };
  new = λ row records r is new. record {
    id = new.free.word;
    utf8 = ap (λ x. is_utf8 x.url) new.made ∙ text_url row is;
    short = omega (arith, kept-short.new row records r is new);
  };
}

pub edits_keep_bounds : EditsKeepBounds
edits_keep_bounds old new edit random s is each e ok = yielded _ (step old edit) random s new (each-kept HasWireBounds kept-held old edit each) e ok is

pub firsts_have_bounds : FirstsHaveBounds
firsts_have_bounds new row random s is e ok = yielded _ (first row) random s new (each-first HasWireBounds kept-held row is) e ok

-- ---- keysets without a fault

fine_new : (row : Row) (records : List Record) (r : Record) → IsTemplate row → IsNew row records r → IsFine r
fine_new row records r is new = record {
  status = ap has_status new.made;
  prefix = ap has_prefix new.made ∙ known_prefix row is;
  material = ap has_material new.made;
  key_data = ap has_key_data new.made ∙ or_left _ _ (some_url row is);
}

-- with another status, where it isn't DESTROYED
fine_status : (status : ℕ) (r : Record) → has_status (with_status status r) ≡ true → (status == 3) ≡ false → is_destroyed r ≡ false → IsFine r → IsFine (with_status status r)
fine_status status r s here' there f = record {
  status = s;
  prefix = f.prefix;
  material = ap (λ d. nat_le r.material 4 && (nat_le 1 r.material || d)) (here' ∙ sym there) ∙ f.material;
  key_data = ap (λ d. nat_le 1 (length r.url) || d) (here' ∙ sym there) ∙ f.key_data;
}

-- the record found isn't the primary one
not_primary : (keys : Keys) (id : ℕ) (r : Record) → named keys id ≡ Some r → (id == keys.primary) ≡ false → has_id keys.primary r ≡ false
not_primary keys id r e other = ap (λ x. x == keys.primary) (find-id id keys.records r e) ∙ other

fine_found : (keys : Keys) (id : ℕ) (r : Record) → named keys id ≡ Some r → IsGood keys → IsFine r
fine_found keys id r e g = among-all IsFine keys.records r g.each (find-among (has_id id) keys.records r e).0

-- so it isn't primary, whatever its status
other_same : (keys : Keys) (id : ℕ) (r : Record) → named keys id ≡ Some r → (id == keys.primary) ≡ false → (enabled : Bool) → (has_id keys.primary r && enabled) ≡ is_primary keys.primary r
other_same keys id r e other enabled = let is = not_primary keys id r e other in ap (λ b. b && enabled) is ∙ sym (ap (λ b. b && is_enabled r) is)

-- one that is ENABLED by an edit hasn't the primary id, or was ENABLED
enabled_same : (keys : Keys) (id : ℕ) (r : Record) → named keys id ≡ Some r → (id == keys.primary && not (is_enabled r)) ≡ false → is_primary keys.primary (with_status 1 r) ≡ is_primary keys.primary r
enabled_same keys id r e clear = go (has_id keys.primary r) (is_enabled r) (ap (λ x. x == keys.primary && not (is_enabled r)) (find-id id keys.records r e) ∙ clear)
  where
    go : (b d : Bool) → (b && not d) ≡ false → (b && true) ≡ (b && d)
    go true true k = refl
    go true false k = absurd (true≢false k)
    go false d k = refl

-- a record that is primary has the primary id
in_primary : (primary : ℕ) (records : List Record) → list_any (is_primary primary) records ≡ true → is_in records primary ≡ true
in_primary primary [] h = h
in_primary primary (r ∷ later) h = elim (has_id primary r) as (λ b. ((b && is_enabled r) || list_any (is_primary primary) later) ≡ true → (b || is_in later primary) ≡ true) [
  | true ↦ λ k. refl
  | false ↦ λ k. in_primary primary later k
] h

-- an id that isn't in use isn't the primary one, and no record is primary under it
unused_primary : (keys : Keys) (r : Record) → is_in keys.records r.id ≡ false → IsGood keys → has_id keys.primary r ≡ false
unused_primary keys r unused g = false_from_ne_true _ (λ k.
    true≢false (sym (ap (is_in keys.records) (eqb-true r.id keys.primary k) ∙ in_primary keys.primary keys.records g.primary) ∙ unused))

unused_none : (records : List Record) (id : ℕ) → is_in records id ≡ false → list_any (is_primary id) records ≡ false
unused_none records id unused = false_from_ne_true _ (λ k. true≢false (sym (in_primary id records k) ∙ unused))

good_seven : (keys : Keys) → IsGood keys → Seven keys (λ edit new. HasTemplate edit → IsGood new)
good_seven keys g = record {
  add = λ row r room same new is. record {
    few = length-push keys.records r room;
    each = each-append IsFine keys.records (r ∷ []) g.each (fine_new row keys.records r is new, tt);
    lone = lone-push (is_primary keys.primary) keys.records r g.lone (ap (λ b. b && is_enabled r) (unused_primary keys r new.free.unused g));
    primary = any-push_left (is_primary keys.primary) keys.records r g.primary;
  };
  rotate = λ row r room same new is. record {
    few = length-push keys.records r room;
    each = each-append IsFine keys.records (r ∷ []) g.each (fine_new row keys.records r is new, tt);
    lone = none-push (is_primary r.id) keys.records r (unused_none keys.records r.id new.free.unused);
    primary = any-push_right (is_primary r.id) keys.records r (and_from _ _ (eq-eqb r.id r.id refl) (ap is_enabled new.made));
  };
  promote = λ id r e enabled others is. record {
    few = g.few;
    each = g.each;
    lone = lone-without id keys.records others;
    primary = let found = find-among (has_id id) keys.records r e in
        among-any (is_primary id) keys.records r found.0 (and_from _ _ found.1 enabled);
  };
  enable = λ id r e there clear same valid is. record {
    few = subst (λ n. n ≤ 1000) (sym (length-changed (with_status 1) id keys.records)) g.few;
    each = changed-each IsFine (with_status 1) id keys.records r e (fine_status 1 r refl refl there (fine_found keys id r e g)) g.each;
    lone = changed-lone (is_primary keys.primary) (with_status 1) id keys.records r e (enabled_same keys id r e clear) g.lone;
    primary = changed-some (is_primary keys.primary) (with_status 1) id keys.records r e (λ k. and_from _ _ (and_parts _ _ k).0 refl) g.primary;
  };
  disable = λ id r e other there is. record {
    few = subst (λ n. n ≤ 1000) (sym (length-changed (with_status 2) id keys.records)) g.few;
    each = changed-each IsFine (with_status 2) id keys.records r e (fine_status 2 r refl refl there (fine_found keys id r e g)) g.each;
    lone = changed-lone (is_primary keys.primary) (with_status 2) id keys.records r e (other_same keys id r e other (is_enabled (with_status 2 r))) g.lone;
    primary = changed-some (is_primary keys.primary) (with_status 2) id keys.records r e (λ k. absurd (true≢false (sym (and_parts _ _ k).0 ∙ not_primary keys id r e other))) g.primary;
  };
  destroy = λ id r e other is. record {
    few = subst (λ n. n ≤ 1000) (sym (length-changed destroyed id keys.records)) g.few;
    each = changed-each IsFine destroyed id keys.records r e (let f = fine_found keys id r e g in record { status = refl; prefix = f.prefix; material = refl; key_data = refl }) g.each;
    lone = changed-lone (is_primary keys.primary) destroyed id keys.records r e (other_same keys id r e other (is_enabled (destroyed r))) g.lone;
    primary = changed-some (is_primary keys.primary) destroyed id keys.records r e (λ k. absurd (true≢false (sym (and_parts _ _ k).0 ∙ not_primary keys id r e other))) g.primary;
  };
  delete = λ id r e other is. record {
    few = omega (arith, length-without id keys.records, g.few);
    each = without-each IsFine id keys.records g.each;
    lone = without-lone (is_primary keys.primary) id keys.records g.lone;
    primary = without-any (is_primary keys.primary) id keys.records r e (ap (λ b. b && is_enabled r) (not_primary keys id r e other)) ∙ g.primary;
  };
}

pub edits_keep_keysets : EditsKeepKeysets
edits_keep_keysets old new edit random s is faultless e ok = keyset-good new
    (yielded _ (step old edit) random s new (edit_case old (λ x k. HasTemplate x → IsGood k) (good_seven old (good-keyset old faultless)) edit) e ok is)

good_alone : (row : Row) (r : Record) → IsTemplate row → IsNew row [] r → IsGood (alone r)
unfolding Lone
good_alone row r is new = record {
  few = lit≤ tt;
  each = (fine_new row [] r is new, tt);
  lone = (λ h. refl, tt);
  primary = or_left _ _ (and_from _ _ (eq-eqb r.id r.id refl) (ap is_enabled new.made));
}

pub firsts_are_keysets : FirstsAreKeysets
firsts_are_keysets new row random s is e ok = keyset-good new
    (yielded IsGood (first row) random s new (first_case IsGood row (λ r k. good_alone row r is k)) e ok)

-- ---- where the records come from

stays : (records fresh : List Record) → AllByRecursion (Comes records fresh) records
stays records fresh = all-among (Comes records fresh) records (λ r a. stayed r (contains-among records r a) refl)

follows_same : (keys new : Keys) → keys.records ≡ new.records → Follows keys new
follows_same keys new e = record { fresh = []; one = lit≤ tt; free = tt; each = subst (AllByRecursion (Comes keys.records [])) e (stays keys.records []) }

follows_new : (keys new : Keys) (r : Record) → IsFree keys.records r.id → keys.records ++ r ∷ [] ≡ new.records → Follows keys new
follows_new keys new r free e = record {
  fresh = r ∷ [];
  one = lit≤ tt;
  free = (free, tt);
  each = subst (AllByRecursion (Comes keys.records (r ∷ []))) e
      (each-append (Comes keys.records (r ∷ [])) keys.records (r ∷ []) (stays keys.records (r ∷ [])) (is_new (contains-among (r ∷ []) r (inl refl)), tt));
}

follows_changed : (keys : Keys) (change : Record → Record) (id : ℕ) (r : Record) → named keys id ≡ Some r → (Contains keys.records r → Comes keys.records [] (change r))
    → Follows keys (with_records keys (changed change id keys.records))
follows_changed keys change id r e comes = record {
  fresh = [];
  one = lit≤ tt;
  free = tt;
  each = changed-each (Comes keys.records []) change id keys.records r e (comes (contains-among keys.records r (find-among (has_id id) keys.records r e).0)) (stays keys.records []);
}

follows_seven : (keys : Keys) → Seven keys (λ edit. Follows keys)
follows_seven keys = record {
  add = λ row r room same new. follows_new keys (added keys r) r new.free refl;
  rotate = λ row r room same new. follows_new keys (rotated keys r) r new.free refl;
  promote = λ id r e enabled others. follows_same keys (record keys { primary = id }) refl;
  enable = λ id r e there clear same valid. follows_changed keys (with_status 1) id r e (λ c. stayed r c refl);
  disable = λ id r e other there. follows_changed keys (with_status 2) id r e (λ c. stayed r c refl);
  destroy = λ id r e other. follows_changed keys destroyed id r e (λ c. was_destroyed r c refl);
  delete = λ id r e other. record { fresh = []; one = lit≤ tt; free = tt; each = without-each (Comes keys.records []) id keys.records (stays keys.records []) };
}

pub edits_follow : EditsFollow
edits_follow old new edit random s e ok = yielded (Follows old) (step old edit) random s new (edit_case old (λ x. Follows old) (follows_seven old) edit) e ok

-- ---- the primary

pub edits_keep_the_primary : EditsKeepThePrimary
edits_keep_the_primary old new edit random s e ok = yielded (HasPrimary old edit) (step old edit) random s new (edit_case old (HasPrimary old) (record {
  add = λ row r room same new. refl;
  rotate = λ row r room same new. (r, refl, refl);
  promote = λ id r e enabled others. refl;
  enable = λ id r e there clear same valid. refl;
  disable = λ id r e other there. refl;
  destroy = λ id r e other. refl;
  delete = λ id r e other. refl;
}) edit) e ok
