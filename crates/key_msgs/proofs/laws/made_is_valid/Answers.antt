-- The keys of the templates keep every rule: keys of zeros do, and rules ask for no more than sizes of bytes.
use Rattle.std.proofs.Common.{◌≡◌, ℕ, ◌+◌, Bool, true, List, [], ◌∷◌, length, drop, take, Option, None, Some, refl, replicate}
use Rattle.std.specs.Prelude.{not, is_some}
use Rattle.std.specs.List.{AllByRecursion}
use Rattle.std.proofs.lemmas.List.{length-drop, length-replicate, length-take}
use Rattle.key_msgs.proofs.TableLemmas.{all_each}
use Rattle.key_msgs.proofs.laws.made_is_valid.Goals as goal
use Rattle.key_msgs.specs.Keys.{IsValid, contents_of, type_of}
use Rattle.key_msgs.specs.Rules.{first_broken}
use Rattle.key_msgs.specs.Templates.{Row, made, made_by, random_by, random_of, templates}
use Rattle.key_msgs.specs.declared.key.KeyKind.{KeyKind}
use Rattle.key_msgs.specs.declared.rule.Rule.{Rule}
use Rattle.key_msgs.specs.declared.template.Recipe.{Recipe}
use Rattle.key_msgs.specs.declared.template.Recipe.TheVariants.{Gcm, Eax, CtrHmac, Siv, Hmac, Cmac, HkdfPrf, HmacPrf, CmacPrf, GcmStream, CtrStream, GcmSiv}

-- the key of a recipe, of zeros
abbrev sample : Recipe → KeyKind
sample recipe = made_by recipe (replicate (random_by recipe) 0)

by_sample : (recipe : Recipe) (random : List ℕ) → IsValid (sample recipe) → length random ≡ random_by recipe → IsValid (made_by recipe random)
by_sample (Gcm size) random valid whole = rw whole (rw (length-replicate {A = ℕ} size 0) at valid)
by_sample (Eax size) random valid whole = rw whole (rw (length-replicate {A = ℕ} size 0) at valid)
by_sample (CtrHmac size tag) random valid whole =
    let zeros : List ℕ = replicate (size + 32) 0 in
    rw (length-take size random, length-drop size random, whole)
    (rw (length-take size zeros, length-drop size zeros, length-replicate {A = ℕ} (size + 32) 0) at valid)
by_sample Siv random valid whole = rw whole refl
by_sample (Hmac size hash tag) random valid whole = rw whole (rw (length-replicate {A = ℕ} size 0) at valid)
by_sample Cmac random valid whole = rw whole refl
by_sample HkdfPrf random valid whole = rw whole refl
by_sample (HmacPrf size hash) random valid whole = rw whole (rw (length-replicate {A = ℕ} size 0) at valid)
by_sample CmacPrf random valid whole = rw whole refl
by_sample (GcmStream size segment) random valid whole = rw whole (rw (length-replicate {A = ℕ} size 0) at valid)
by_sample (CtrStream size segment) random valid whole = rw whole (rw (length-replicate {A = ℕ} size 0) at valid)
by_sample (GcmSiv size) random valid whole = rw whole (rw (length-replicate {A = ℕ} size 0) at valid)

abbrev is_valid : KeyKind → Bool
is_valid key = not (is_some (first_broken (type_of key) (contents_of key)))

none_broken : (broken : Option Rule) → not (is_some broken) ≡ true → broken ≡ None
none_broken None e = refl
none_broken (Some rule) e = cc

each_valid : (rows : List Row) → AllByRecursion (λ row. is_valid (sample row.recipe) ≡ true) rows
    → AllByRecursion (λ row. (random : List ℕ) → length random ≡ random_of row → IsValid (made row random)) rows
each_valid [] valid = tt
each_valid (row ∷ rows) valid = (λ random whole. by_sample row.recipe random (none_broken _ valid.0) whole, each_valid rows valid.1)

pub returns : goal.returns
returns c = each_valid templates (all_each (λ row. is_valid (sample row.recipe)) templates refl)
