-- What a keyset sealed or tagged, another one with that key opens or verifies.
use Rattle.std.proofs.Common.{◌≡◌, ◌∙◌, refl, sym, ap, subst, ℕ, zero, suc, ltb, Bool, true, false, ◌||◌, cond, List, [], ◌∷◌, ◌++◌, length, take, drop, map, filter, Option, Some, None, option_map, eq-eqb}
use Rattle.std.specs.Prelude.{is_some, slice_get, ◌==◌}
use Rattle.std.specs.Int.{w32, to_be_bytes}
use Rattle.std.specs.List.{list_any}
use Rattle.std.specs.Option.{option_and_then, option_or}
use Rattle.std.proofs.lemmas.Bool.{and_from, ltb-false}
use Rattle.std.proofs.lemmas.List.{length-take-le}
use Rattle.std.proofs.lemmas.Option.{same_Some}
use Rattle.std.proofs.lemmas.Slice.Eq.{bytes_eq-Decides}
use Rattle.key_msgs.specs.declared.key.KeyKind.{KeyKind}
use Rattle.key_msgs.specs.declared.primitive.Primitive.{Primitive}
use Rattle.key_msgs.specs.declared.primitive.Primitive.TheVariants.{Aead, Daead, Mac}
use Rattle.keyset_model.specs.Keyset.{Keys, first_some, primary_of}
use Rattle.keyset_model.specs.declared.record.Record.{Record}
use Rattle.managers.specs.Laws.{DopensSealings, SealingsOpen}
use Rattle.managers.specs.Schemes.{key_under}
use Rattle.managers.specs.Table.{Table, scheme_at}
use Rattle.managers.specs.Uses.{dseal_of, iv_size, seal_of, tag_of, tagged}
use Rattle.wrapped_prims.proofs.OpenLemmas.{any_opens, list_any-append}
use Rattle.wrapped_prims.proofs.PrefixLemmas.{five, five-prefix_of}
use Rattle.wrapped_prims.specs.Answers.{Sealed, dopen_answer, dseal_answer, is_tag_of, is_tag_under, made_by, open_answer, opened, opened_by, opened_under, seal_answer, seal_behind, seal_under, verify_answer}
use Rattle.wrapped_prims.specs.Candidates.{candidates, each_with, enabled_with, is_enabled_with, is_legacy, prefix_bytes, prefix_of, same_prefix}
use Rattle.wrapped_prims.specs.Fitness.{key_of_record, read_key}
use Rattle.wrapped_prims.specs.Laws.{EnabledKeyDopens, EnabledKeyOpens, HasKey, HasSameKey, IsSameKey, SameKeyDopens, SameKeyOpens, SameKeyVerifies, SoleFirst}

clash : {X P : Type 0} (x : X) → None ≡ Some x → P
clash x h = absurd cc

no_truth : {P : Type 0} → false ≡ true → P
no_truth h = absurd cc

or_right : (a b : Bool) → b ≡ true → (a || b) ≡ true
or_right true b e = refl
or_right false b e = e

-- ---- the same key

same_key : (table : Table) (p : Primitive) (r s : Record) → IsSameKey r s → key_of_record table p s ≡ key_of_record table p r
same_key table p r s same =
    ap (λ url. read_key (option_map (λ scheme. key_under scheme s.value) (scheme_at table p url))) same.url
    ∙ ap (λ value. read_key (option_map (λ scheme. key_under scheme value) (scheme_at table p r.url))) same.value

same_prefixes : (r s : Record) → IsSameKey r s → prefix_of s ≡ prefix_of r
same_prefixes r s same =
    ap (λ x. cond (x == 3) None (Some (cond (x == 1) 1 0 ∷ to_be_bytes w32 s.id))) same.prefix
    ∙ ap (λ x. cond (r.prefix == 3) None (Some (cond (r.prefix == 1) 1 0 ∷ to_be_bytes w32 x))) same.id

same_as_itself : (own : Option (List ℕ)) → same_prefix own own ≡ true
same_as_itself None = refl
same_as_itself (Some p) = (bytes_eq-Decides p p).1 refl

-- it is among those with its own prefix
is_enabled_same : (r s : Record) (prefix : Option (List ℕ)) → IsSameKey r s → prefix_of r ≡ prefix → is_enabled_with prefix s ≡ true
is_enabled_same r s prefix same is =
    and_from _ _ (eq-eqb s.status 1 same.enabled)
    (ap (λ own. same_prefix own prefix) (same_prefixes r s same ∙ is) ∙ same_as_itself prefix)

-- ---- one record under a prefix

pub sole_first : SoleFirst
sole_first keys bytes r alone = ap (λ rs. slice_get (each_with (drop 5 bytes) rs ++ each_with bytes (enabled_with None keys.records)) 0) alone

own_five : (r : Record) (prefix : List ℕ) → prefix_of r ≡ Some prefix → prefix_of r ≡ Some (five r)
own_five r prefix is = is ∙ ap Some (sym (five-prefix_of r prefix is))

-- the key alone under the prefix opens what it sealed, before another one is tried
opens_alone : (p : Primitive) (table : Table) (new : Keys) (r : Record) (prefix : List ℕ) (key : KeyKind) (body plain ad : List ℕ)
    → prefix_of r ≡ Some prefix → key_of_record table p r ≡ Some key → HasSameKey r new → opened_under p body ad key ≡ Some plain
    → opened_by p new table (prefix_bytes (prefix_of r) ++ body) ad ≡ Some plain
unfolding first_some
opens_alone p table new r prefix key body plain ad is read has opens =
    let own : prefix_of r ≡ Some (five r) = own_five r prefix is in
    let others = each_with (five r ++ body) (enabled_with None new.records) in
    subst (λ front. opened_by p new table (prefix_bytes front ++ body) ad ≡ Some plain) (sym own)
    (ap (λ rs. first_some (map (opened table p ad) (each_with body rs ++ others))) (ap (λ front. enabled_with front new.records) (sym own) ∙ has.alone)
    ∙ ap (λ o. option_or o (first_some (map (opened table p ad) others)))
    (ap (option_and_then (opened_under p body ad)) (same_key table p r has.only has.same ∙ read) ∙ opens))

-- ---- a key among others

any_passes : (f : Record × List ℕ → Bool) (part : List ℕ) (test : Record → Bool) (rs : List Record) (j : ℕ) (t : Record) → slice_get rs j ≡ Some t → test t ≡ true → f (t, part) ≡ true
    → list_any f (each_with part (filter test rs)) ≡ true
any_passes f part test [] j t at pass holds = clash _ at
any_passes f part test (s ∷ rs) zero t at pass holds =
    ap (λ x. list_any f (each_with part (cond (test x) (x ∷ filter test rs) (filter test rs)))) (same_Some _ _ at)
    ∙ ap (λ b. list_any f (each_with part (cond b (t ∷ filter test rs) (filter test rs)))) pass
    ∙ ap (λ b. b || list_any f (each_with part (filter test rs))) holds
any_passes f part test (s ∷ rs) (suc j) t at pass holds = by (test s) (any_passes f part test rs j t at pass holds)
  where
    by : (b : Bool) → list_any f (each_with part (filter test rs)) ≡ true → list_any f (each_with part (cond b (s ∷ filter test rs) (filter test rs))) ≡ true
    by false later = later
    by true later = or_right (f (s, part)) _ later

-- a test that the same key passes with what stands behind its prefix, some candidate passes
some_passes : (f : Record × List ℕ → Bool) (new : Keys) (r : Record) (body : List ℕ) (prefix : Option (List ℕ)) → prefix_of r ≡ prefix → (has : HasKey r new) → f (has.other, body) ≡ true
    → list_any f (candidates new (prefix_bytes prefix ++ body)) ≡ true
some_passes f new r body None is has holds =
    list_any-append f (each_with (drop 5 body) (enabled_with (Some (take 5 body)) new.records)) (each_with body (enabled_with None new.records))
    ∙ or_right (list_any f (each_with (drop 5 body) (enabled_with (Some (take 5 body)) new.records))) _
    (any_passes f body (is_enabled_with None) new.records has.place has.other has.there (is_enabled_same r has.other None has.same is) holds)
some_passes f new r body (Some prefix) is has holds =
    subst (λ front. list_any f (candidates new (front ++ body)) ≡ true) (five-prefix_of r prefix is)
    (list_any-append f (each_with body (enabled_with (Some (five r)) new.records)) (each_with (five r ++ body) (enabled_with None new.records))
    ∙ ap (λ b. b || list_any f (each_with (five r ++ body) (enabled_with None new.records)))
    (any_passes f body (is_enabled_with (Some (five r))) new.records has.place has.other has.there (is_enabled_same r has.other (Some (five r)) has.same (own_five r prefix is)) holds))

some_there : (found : Option (List ℕ)) → is_some found ≡ true → (other : List ℕ) × (found ≡ Some other)
some_there None e = no_truth e
some_there (Some other) e = (other, refl)

-- so some candidate opens what the key sealed
opens_some : (p : Primitive) (table : Table) (new : Keys) (r : Record) (key : KeyKind) (body plain ad : List ℕ)
    → key_of_record table p r ≡ Some key → HasKey r new → opened_under p body ad key ≡ Some plain
    → (other : List ℕ) × (opened_by p new table (prefix_bytes (prefix_of r) ++ body) ad ≡ Some other)
opens_some p table new r key body plain ad read has opens =
    some_there _ (any_opens (opened table p ad) (candidates new (prefix_bytes (prefix_of r) ++ body))
    ∙ some_passes (λ c. is_some (opened table p ad c)) new r body (prefix_of r) refl has
    (ap is_some (ap (option_and_then (opened_under p body ad)) (same_key table p r has.other has.same ∙ read) ∙ opens)))

-- ---- sealing

pub record IsSealedWith (key : KeyKind) (prefix plain ad : List ℕ) (sealed : Sealed) : Type 0 where
  pub iv : List ℕ
  pub size : length iv ≡ iv_size key
  pub bytes : sealed.bytes ≡ prefix ++ seal_of key iv plain ad

sealed_behind : (prefix plain ad random : List ℕ) (key : KeyKind) (sealed : Sealed) → seal_behind prefix plain ad random key ≡ Some sealed → IsSealedWith key prefix plain ad sealed
sealed_behind prefix plain ad random key sealed = elim (ltb (length random) (iv_size key)) as (λ b. ltb (length random) (iv_size key) ≡ b → cond b None (Some (record { bytes = prefix ++ seal_of key (take (iv_size key) random) plain ad; left = drop (iv_size key) random })) ≡ Some sealed → IsSealedWith key prefix plain ad sealed) [
  | true ↦ λ t e. clash _ e
  | false ↦ λ t e. record {
    iv = take (iv_size key) random;
    size = length-take-le _ random (ltb-false _ _ t);
    bytes = sym (ap (λ s. s.bytes) (same_Some _ _ e));
  }
] refl

-- what the primary record sealed
sealed_by : (table : Table) (old : Keys) (r : Record) (key : KeyKind) (plain ad random : List ℕ) (sealed : Sealed) → primary_of old ≡ Some r → key_of_record table Aead r ≡ Some key
    → seal_answer old table plain ad random ≡ Some sealed → IsSealedWith key (prefix_bytes (prefix_of r)) plain ad sealed
sealed_by table old r key plain ad random sealed primary read e = sealed_behind (prefix_bytes (prefix_of r)) plain ad random key sealed (
    sym (ap (option_and_then (seal_under table plain ad random)) primary
    ∙ ap (option_and_then (seal_behind (prefix_bytes (prefix_of r)) plain ad random)) read) ∙ e)

dsealed_by : (table : Table) (old : Keys) (r : Record) (key : KeyKind) (plain ad sealed : List ℕ) → primary_of old ≡ Some r → key_of_record table Daead r ≡ Some key
    → dseal_answer old table plain ad ≡ Some sealed → prefix_bytes (prefix_of r) ++ dseal_of key plain ad ≡ sealed
dsealed_by table old r key plain ad sealed primary read e = same_Some _ _ (
    sym (ap (option_and_then (made_by table Daead (λ key _. dseal_of key plain ad))) primary
    ∙ ap (option_map (λ key. prefix_bytes (prefix_of r) ++ dseal_of key plain ad)) read) ∙ e)

pub same_key_opens : SealingsOpen → SameKeyOpens
same_key_opens law table old new r prefix plain ad random sealed primary is gives has e =
    let key = gives.0 in
    let sealing = sealed_by table old r key plain ad random sealed primary gives.1 e in
    subst (λ bytes. open_answer new table bytes ad ≡ Some plain) (sym sealing.bytes)
    (opens_alone Aead table new r prefix key (seal_of key sealing.iv plain ad) plain ad is gives.1 has (law key sealing.iv plain ad gives.2 sealing.size))

pub same_key_dopens : DopensSealings → SameKeyDopens
same_key_dopens law table old new r prefix plain ad sealed primary is gives has e =
    let key = gives.0 in
    subst (λ bytes. dopen_answer new table bytes ad ≡ Some plain) (dsealed_by table old r key plain ad sealed primary gives.1 e)
    (opens_alone Daead table new r prefix key (dseal_of key plain ad) plain ad is gives.1 has ((law key (dseal_of key plain ad) plain ad gives.2).1 refl))

pub enabled_key_opens : SealingsOpen → EnabledKeyOpens
enabled_key_opens law table old new r plain ad random sealed primary gives has e =
    let key = gives.0 in
    let sealing = sealed_by table old r key plain ad random sealed primary gives.1 e in
    subst (λ bytes. (other : List ℕ) × (open_answer new table bytes ad ≡ Some other)) (sym sealing.bytes)
    (opens_some Aead table new r key (seal_of key sealing.iv plain ad) plain ad gives.1 has (law key sealing.iv plain ad gives.2 sealing.size))

pub enabled_key_dopens : DopensSealings → EnabledKeyDopens
enabled_key_dopens law table old new r plain ad sealed primary gives has e =
    let key = gives.0 in
    subst (λ bytes. (other : List ℕ) × (dopen_answer new table bytes ad ≡ Some other)) (dsealed_by table old r key plain ad sealed primary gives.1 e)
    (opens_some Daead table new r key (dseal_of key plain ad) plain ad gives.1 has ((law key (dseal_of key plain ad) plain ad gives.2).1 refl))

-- ---- tags

is_its_tag : (table : Table) (r s : Record) (key : KeyKind) (body : List ℕ) → IsSameKey r s → key_of_record table Mac r ≡ Some key → is_tag_of table body (s, tag_of key (tagged (is_legacy r) body)) ≡ true
is_its_tag table r s key body same read =
    ap (λ o. is_tag_under o (is_legacy s) (tag_of key (tagged (is_legacy r) body)) body) (same_key table Mac r s same ∙ read)
    ∙ ap (λ x. is_tag_under (Some key) (x == 2) (tag_of key (tagged (is_legacy r) body)) body) same.prefix
    ∙ (bytes_eq-Decides (tag_of key (tagged (is_legacy r) body)) (tag_of key (tagged (is_legacy r) body))).1 refl

pub same_key_verifies : SameKeyVerifies
same_key_verifies table old new r tag body primary has e =
    by (key_of_record table Mac r) refl (sym (ap (option_and_then (made_by table Mac (λ key r. tag_of key (tagged (is_legacy r) body)))) primary) ∙ e)
  where
    by : (o : Option KeyKind) → key_of_record table Mac r ≡ o → option_map (λ key. prefix_bytes (prefix_of r) ++ tag_of key (tagged (is_legacy r) body)) o ≡ Some tag → verify_answer new table tag body ≡ true
    by None read f = clash _ f
    by (Some key) read f = subst (λ tag. verify_answer new table tag body ≡ true) (same_Some _ _ f) (some_passes (is_tag_of table body) new r (tag_of key (tagged (is_legacy r) body)) (prefix_of r) refl has (is_its_tag table r has.other key body has.same read))
