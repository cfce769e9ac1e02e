use Rattle.std.proofs.Common.{◌≡◌, ◌∙◌, sym, ap, ℕ, List, [], ◌∷◌, ◌++◌, Option, None}
use Rattle.std.specs.Borrow.{MutBor}
use Rattle.std.specs.Option.{option_copied_mut}
use Rattle.std.specs.Map.{lookup}
use Rattle.std.specs.Str.{bytes_eq}
use Rattle.indexmap.specs.IndexMap.{IndexMap, get_by, insert_entry}
use Rattle.indexmap.proofs.CallerLemmas.{insert_entry-new}
use Rattle.wrapped_prims.specs.Adding.{noted, noted_behind}
use Rattle.wrapped_prims.specs.Prefixes.{Index}
use Rattle.wrapped_prims.proofs.held.note.Goals as goal

-- the first place under a prefix
noted_first : {S : Type 0} (old index : IndexMap (List ℕ) (List ℕ) S) (prefix : List ℕ) (place : ℕ) (found : Option (MutBor (List ℕ))) (places : List ℕ) (new : Index)
    → option_copied_mut found ≡ get_by (bytes_eq prefix) old → found ≡ None → index ≡ old → places ≡ place ∷ [] → new ≡ insert_entry bytes_eq index.entries prefix places → new ≡ noted prefix place old.entries
noted_first old index prefix place found places new copied none same is inserted =
    let absent : lookup (bytes_eq prefix) old.entries ≡ None = sym copied ∙ ap option_copied_mut none in
    inserted ∙ (λ j. insert_entry bytes_eq (same j).entries prefix (is j)) ∙ insert_entry-new bytes_eq old prefix (place ∷ []) absent
    ∙ sym (ap (λ o. noted_behind o prefix place old.entries) absent)

pub returns-clause-noted : goal.returns-clause-noted
returns-clause-noted c =
    noted_first c.args.index.now _ c.args.prefix c.args.place c.get_mut.result _ _ c.get_mut.ensures.value c.in_default.is c.get_mut.follows.holds-at-none
    (c.in_ok-push-2.ensures ∙ ap (λ places. places ++ c.args.place ∷ []) c.new-places.ensures) c.in_ok-insert.ensures.entries
