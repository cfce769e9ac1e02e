-- The index of a keyset, grown by one record after another.
use Rattle.std.proofs.Common.{◌≡◌, ◌∙◌, refl, sym, ap, subst, ℕ, ◌+◌, Bool, true, false, ◌&&◌, not, cond, List, [], ◌∷◌, ◌++◌, map, filter, Option, Some, None, append_assoc, append-nil}
use Rattle.std.specs.Prelude.{is_some}
use Rattle.std.specs.List.{AllByRecursion, IsDistinct, cons_option, filter_map, list_any}
use Rattle.std.specs.Map.{keys_of, lookup, set_value}
use Rattle.std.specs.Str.{bytes_eq}
use Rattle.std.proofs.lemmas.List.{map-append}
use Rattle.std.proofs.lemmas.Map.{keys-set_value}
use Rattle.std.proofs.lemmas.Map.Keys.{IsDistinct-head, IsDistinct-tail}
use Rattle.std.proofs.lemmas.Map.Made.{is_some-lookup}
use Rattle.std.proofs.lemmas.Option.{same_Some}
use Rattle.keyset_model.specs.declared.record.Record.{Record}
use Rattle.wrapped_prims.proofs.PlaceLemmas.{places_other, places_own, places_past, same_bytes, turned}
use Rattle.wrapped_prims.specs.Adding.{indexed_from, noted, noted_behind}
use Rattle.wrapped_prims.specs.Prefixes.{Index, once, own_prefix, places_from, prefix_index, prefixes}

clash : {X P : Type 0} (x : X) → None ≡ Some x → P
clash x h = absurd cc

and_true : (b : Bool) → (b && true) ≡ b
and_true true = refl
and_true false = refl

and_false : (b : Bool) → (b && false) ≡ false
and_false true = refl
and_false false = refl

clash_some : {X P : Type 0} (x : X) → Some x ≡ None → P
clash_some x h = absurd cc

-- ---- the first record, and the last

filter_all : {X : Type 0} (xs : List X) → filter (λ x. true) xs ≡ xs
filter_all [] = refl
filter_all (x ∷ xs) = ap (λ all. x ∷ all) (filter_all xs)

pub indexed_first : (rs : List Record) → indexed_from 0 [] rs ≡ prefix_index rs
indexed_first rs = ap (map (λ prefix. (prefix, places_from 0 (Some prefix) rs))) (filter_all (prefixes rs))

none_behind : (index : Index) → map (λ entry. (entry.0, entry.1 ++ [])) index ≡ index
none_behind [] = refl
none_behind (e ∷ es) = λ j. (e.0, append-nil e.1 j) ∷ none_behind es j

pub indexed_last : (n : ℕ) (index : Index) → indexed_from n index [] ≡ index
indexed_last n index = append-nil (map (λ entry. (entry.0, entry.1 ++ [])) index) ∙ none_behind index

-- ---- a place under a prefix, over what stands behind each prefix before and afterwards

-- the places of an index, with others behind them
abbrev behind : (List ℕ → List ℕ) → Index → Index
behind f index = map (λ entry. (entry.0, entry.1 ++ f entry.0)) index

abbrev is_new : Index → List ℕ → Bool
is_new index prefix = not (is_some (lookup (bytes_eq prefix) index))

-- prefixes, each with its places
abbrev each_with : (List ℕ → List ℕ) → List (List ℕ) → Index
each_with f more = map (λ prefix. (prefix, f prefix)) more

-- the places behind those of the index, and those of new prefixes
abbrev indexed_by : (List ℕ → List ℕ) → List (List ℕ) → Index → Index
indexed_by f more index = behind f index ++ each_with f (filter (is_new index) more)

-- a prefix is new where it was and isn't the one that came
new_pushed : (own : List ℕ) (index : Index) (places : List ℕ) (prefix : List ℕ) → is_new (index ++ (own, places) ∷ []) prefix ≡ (is_new index prefix && not (bytes_eq own prefix))
new_pushed own [] places prefix = by (bytes_eq prefix own) ∙ ap not (turned prefix own)
  where
    by : (b : Bool) → not (is_some (cond b (Some places) None)) ≡ not b
    by true = refl
    by false = refl
new_pushed own (e ∷ es) places prefix = by (bytes_eq prefix e.0) (new_pushed own es places prefix)
  where
    by : (b : Bool) → is_new (es ++ (own, places) ∷ []) prefix ≡ (is_new es prefix && not (bytes_eq own prefix))
        → not (is_some (cond b (Some e.1) (lookup (bytes_eq prefix) (es ++ (own, places) ∷ [])))) ≡ (not (is_some (cond b (Some e.1) (lookup (bytes_eq prefix) es))) && not (bytes_eq own prefix))
    by true h = refl
    by false h = h

new_set : (own : List ℕ) (index : Index) (places after : List ℕ) → lookup (bytes_eq own) index ≡ Some places → (prefix : List ℕ)
    → is_new (set_value (bytes_eq own) index after) prefix ≡ (is_new index prefix && not (bytes_eq own prefix))
new_set own index places after found prefix =
    ap not (is_some-lookup (bytes_eq prefix) (set_value (bytes_eq own) index after) ∙ ap (list_any (bytes_eq prefix)) (keys-set_value (bytes_eq own) index after) ∙ sym (is_some-lookup (bytes_eq prefix) index))
    ∙ by (bytes_eq own prefix) refl
  where
    by : (b : Bool) → bytes_eq own prefix ≡ b → is_new index prefix ≡ (is_new index prefix && not b)
    by true e = was ∙ sym (ap (λ b. b && false) was)
      where
        was : is_new index prefix ≡ false
        was = ap (λ p. not (is_some (lookup (bytes_eq p) index))) (sym (same_bytes own prefix e)) ∙ ap (λ o. not (is_some o)) found
    by false e = sym (and_true (is_new index prefix))

module _ (f g : List ℕ → List ℕ) (own : List ℕ) (place : ℕ) (here : f own ≡ place ∷ g own) (others : (prefix : List ℕ) → bytes_eq own prefix ≡ false → f prefix ≡ g prefix) where
  behind_others : (index : Index) → AllByRecursion (λ prefix. bytes_eq own prefix ≡ false) (keys_of index) → behind f index ≡ behind g index
  behind_others [] apart = refl
  behind_others (e ∷ es) apart = λ j. (e.0, e.1 ++ others e.0 apart.0 j) ∷ behind_others es apart.1 j

  -- a prefix that isn't there
  behind_new : (index : Index) → lookup (bytes_eq own) index ≡ None → behind f index ≡ behind g index
  behind_new [] none = refl
  behind_new (e ∷ es) none = by (behind_new es) (bytes_eq own e.0) refl none
    where
      by : (lookup (bytes_eq own) es ≡ None → behind f es ≡ behind g es) → (b : Bool) → bytes_eq own e.0 ≡ b → cond b (Some e.1) (lookup (bytes_eq own) es) ≡ None → behind f (e ∷ es) ≡ behind g (e ∷ es)
      by later true same h = clash_some _ h
      by later false other h = λ j. (e.0, e.1 ++ others e.0 other j) ∷ later h j

  -- a prefix that is there
  behind_known : (index : Index) (places : List ℕ) → lookup (bytes_eq own) index ≡ Some places → IsDistinct bytes_eq (keys_of index)
      → behind f index ≡ behind g (set_value (bytes_eq own) index (places ++ place ∷ []))
  behind_known [] places found distinct = clash _ found
  behind_known (e ∷ es) places found distinct = by (λ h. behind_known es places h (IsDistinct-tail bytes_eq e.0 (keys_of es) distinct)) (bytes_eq own e.0) refl found
    where
      by : (lookup (bytes_eq own) es ≡ Some places → behind f es ≡ behind g (set_value (bytes_eq own) es (places ++ place ∷ []))) → (b : Bool) → bytes_eq own e.0 ≡ b → cond b (Some e.1) (lookup (bytes_eq own) es) ≡ Some places
          → behind f (e ∷ es) ≡ behind g (cond b ((e.0, places ++ place ∷ []) ∷ es) (e ∷ set_value (bytes_eq own) es (places ++ place ∷ [])))
      by later true same h =
          let is : own ≡ e.0 = same_bytes own e.0 same in
          let first : e.1 ++ f e.0 ≡ (places ++ place ∷ []) ++ g e.0 =
          ap (λ before. before ++ f e.0) (same_Some e.1 places h) ∙ ap (λ after. places ++ after) (subst (λ p. f p ≡ place ∷ g p) is here) ∙ sym (append_assoc places (place ∷ []) (g e.0)) in
          let apart : AllByRecursion (λ prefix. bytes_eq own prefix ≡ false) (keys_of es) = subst (λ p. AllByRecursion (λ prefix. bytes_eq p prefix ≡ false) (keys_of es)) (sym is) (IsDistinct-head bytes_eq e.0 (keys_of es) distinct) in
          λ j. (e.0, first j) ∷ behind_others es apart j
      by later false other h = λ j. (e.0, e.1 ++ others e.0 other j) ∷ later h j

  -- the prefixes that aren't there, of which this one is no more
  new_others : (old new : List ℕ → Bool) → ((prefix : List ℕ) → new prefix ≡ (old prefix && not (bytes_eq own prefix))) → (more : List (List ℕ))
      → each_with f (filter old (filter (λ prefix. not (bytes_eq own prefix)) more)) ≡ each_with g (filter new more)
  new_others old new is [] = refl
  new_others old new is (p ∷ ps) = by (new_others old new is ps) (bytes_eq own p) refl (is p)
    where
      kept : (b : Bool) → new p ≡ b → each_with g (cond b (p ∷ filter new ps) (filter new ps)) ≡ each_with g (filter new (p ∷ ps))
      kept b e = ap (λ c. each_with g (cond c (p ∷ filter new ps) (filter new ps))) (sym e)

      there : each_with f (filter old (filter (λ prefix. not (bytes_eq own prefix)) ps)) ≡ each_with g (filter new ps)
          → bytes_eq own p ≡ false → (b : Bool) → new p ≡ b
          → each_with f (cond b (p ∷ filter old (filter (λ prefix. not (bytes_eq own prefix)) ps)) (filter old (filter (λ prefix. not (bytes_eq own prefix)) ps)))
          ≡ each_with g (filter new (p ∷ ps))
      there later e true n = (λ j. (p, others p e j) ∷ later j) ∙ kept true n
      there later e false n = later ∙ kept false n

      by : each_with f (filter old (filter (λ prefix. not (bytes_eq own prefix)) ps)) ≡ each_with g (filter new ps)
          → (same : Bool) → bytes_eq own p ≡ same → new p ≡ (old p && not same)
          → each_with f (filter old (cond (not same) (p ∷ filter (λ prefix. not (bytes_eq own prefix)) ps) (filter (λ prefix. not (bytes_eq own prefix)) ps)))
          ≡ each_with g (filter new (p ∷ ps))
      by later true e h = later ∙ kept false (h ∙ and_false (old p))
      by later false e h = there later e (old p) (h ∙ and_true (old p))

  -- this prefix at the front of those that come, and the place noted under it
  noted_here : (index : Index) (more : List (List ℕ)) → IsDistinct bytes_eq (keys_of index)
      → indexed_by f (own ∷ filter (λ prefix. not (bytes_eq own prefix)) more) index ≡ indexed_by g more (noted own place index)
  noted_here index more distinct = by (lookup (bytes_eq own) index) refl
    where
      by : (found : Option (List ℕ)) → lookup (bytes_eq own) index ≡ found
          → indexed_by f (own ∷ filter (λ prefix. not (bytes_eq own prefix)) more) index ≡ indexed_by g more (noted_behind found own place index)
      by None e =
          ap (λ o. behind f index ++ each_with f (cond (not (is_some o)) (own ∷ filter (is_new index) (filter (λ prefix. not (bytes_eq own prefix)) more)) (filter (is_new index) (filter (λ prefix. not (bytes_eq own prefix)) more)))) e
          ∙ (λ j. behind_new index e j ++ (own, here j) ∷ new_others (is_new index) (is_new (index ++ (own, place ∷ []) ∷ [])) (new_pushed own index (place ∷ [])) more j)
          ∙ sym (append_assoc (behind g index) ((own, place ∷ g own) ∷ []) (each_with g (filter (is_new (index ++ (own, place ∷ []) ∷ [])) more)))
          ∙ ap (λ front. front ++ each_with g (filter (is_new (index ++ (own, place ∷ []) ∷ [])) more)) (sym (map-append (λ entry. (entry.0, entry.1 ++ g entry.0)) index ((own, place ∷ []) ∷ [])))
      by (Some places) e =
          ap (λ o. behind f index ++ each_with f (cond (not (is_some o)) (own ∷ filter (is_new index) (filter (λ prefix. not (bytes_eq own prefix)) more)) (filter (is_new index) (filter (λ prefix. not (bytes_eq own prefix)) more)))) e
          ∙ (λ j. behind_known index places e distinct j ++ new_others (is_new index) (is_new (set_value (bytes_eq own) index (places ++ place ∷ []))) (new_set own index places (places ++ place ∷ []) e) more j)

-- ---- one record more

-- a record with no prefix
pub indexed_past : (n : ℕ) (index : Index) (r : Record) (rs : List Record) → own_prefix r ≡ None → indexed_from n index (r ∷ rs) ≡ indexed_from (n + 1) index rs
indexed_past n index r rs none =
    (λ j. indexed_by (λ prefix. places_past n prefix r rs none j) (once (cons_option (none j) (filter_map own_prefix rs))) index)

-- a record with this prefix, whose place is noted
pub indexed_noted : (n : ℕ) (index : Index) (r : Record) (rs : List Record) (own : List ℕ) → own_prefix r ≡ Some own → IsDistinct bytes_eq (keys_of index)
    → indexed_from n index (r ∷ rs) ≡ indexed_from (n + 1) (noted own n index) rs
indexed_noted n index r rs own has distinct =
    ap (λ o. indexed_by (λ prefix. places_from n (Some prefix) (r ∷ rs)) (once (cons_option o (filter_map own_prefix rs))) index) has
    ∙ noted_here (λ prefix. places_from n (Some prefix) (r ∷ rs)) (λ prefix. places_from (n + 1) (Some prefix) rs) own n (places_own n r rs own has) (λ prefix other. places_other n prefix r rs own has other) index (prefixes rs) distinct
