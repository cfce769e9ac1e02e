-- The words of a command line, one after another.
use Rattle.std.proofs.Common.{◌≡◌, sym, ◌∙◌, ap, subst, ℕ, zero, suc, ◌+◌, ◌-◌, ◌≤◌, ◌<◌, List, [], ◌∷◌, ◌++◌, length, take, drop, map, Some, None, IfSome, IfOk, IfErr, Result, Ok, Err, Option, slice_get, String, string_bytes, arith, inl, inr}
use Rattle.std.specs.Str.{IsUtf8}
use Rattle.std.proofs.lemmas.Str.{IsUtf8-string_bytes}
use Rattle.real_objects.specs.Words.{IsCause, IsCauseAt, IsCostly, IsFirstCostly, IsFound, IsLonger, IsNotText}
use Rattle.real_objects.specs.declared.args.NoWords.{NoWords}
use Rattle.real_objects.specs.declared.args.NoWords.TheVariants as whys
use Rattle.std.proofs.Math.Seq.{take-suc}
use Rattle.std.proofs.lemmas.Option.{slice_get_within, get_or_from_slice_get}
use Rattle.std.proofs.lemmas.List.{take_all, length-drop, map-append}

-- a list up to an element of it, and that element
pub take_and_next : {X : Type 0} (xs : List X) (k : ℕ) (x : X) → slice_get xs k ≡ Some x → take (suc k) xs ≡ take k xs ++ (x ∷ [])
take_and_next xs k x is =
    take-suc xs k x (slice_get_within xs k x is) ∙ ap (λ y. take k xs ++ (y ∷ [])) (get_or_from_slice_get xs k x x is)

-- the words before a place and the word of that place, but for the first
pub next_word : (told : List (List ℕ)) (place : ℕ) (word : List ℕ) (done : List (List ℕ)) → 1 ≤ place → slice_get told place ≡ Some word → done ≡ take (place - 1) (drop 1 told) → done ++ (word ∷ []) ≡ take ((place + 1) - 1) (drop 1 told)
next_word [] place word done after is so_far = cc
next_word (x ∷ xs) zero word done after is so_far = absurd (omega (arith, after))
next_word (x ∷ xs) (suc k) word done after is so_far =
    let up : (suc k + 1) - 1 ≡ suc k = omega arith in
    let down : suc k - 1 ≡ k = omega arith in
    rw up (ap (λ l. l ++ (word ∷ [])) (so_far ∙ ap (λ n. take n xs) down) ∙ sym (take_and_next xs k word is))

pub first_words : {A : Type 0} (told : Option (List (List ℕ))) (done : List (String A)) → done ≡ [] → IfSome told (λ t. map string_bytes done ≡ take (1 - 1) (drop 1 t))
first_words None done is = tt
first_words (Some t) done is = ap (λ l. map string_bytes l) is

pub one_more_word : {A : Type 0} (told : Option (List (List ℕ))) (place : ℕ) (before after : List (String A)) (text : String A) → 1 ≤ place → IfSome told (λ t. map string_bytes before ≡ take (place - 1) (drop 1 t)) → (found : Option (String A)) → IfSome told (λ t. IsFound t place found) → found ≡ Some text → after ≡ before ++ (text ∷ []) → IfSome told (λ t. map string_bytes after ≡ take ((place + 1) - 1) (drop 1 t))
one_more_word None place before after text behind so_far found is some all = tt
one_more_word (Some t) place before after text behind so_far found is some all =
    ap (λ l. map string_bytes l) all ∙ map-append string_bytes before (text ∷ []) ∙
    next_word t place (string_bytes text) (map string_bytes before) behind (subst (λ f. IsFound t place f) some is) so_far

-- what holds of the word of a place in any words holds where they are told
pub found_at : {X E : Type 0} (told : Option (List (List ℕ))) (at : ℕ) (word : List ℕ) (result : Result X E) (P : List (List ℕ) → X → Type 0) → IfSome told (λ t. slice_get t at ≡ Some word) → ((t : List (List ℕ)) → slice_get t at ≡ Some word → IfOk result (P t)) → IfOk result (λ x. IfSome told (λ t. P t x))
found_at None at word (Ok x) P there holds = tt
found_at None at word (Err e) P there holds = tt
found_at (Some t) at word result P there holds = holds t there

pub cause_at : {X E : Type 0} (told : Option (List (List ℕ))) (at : ℕ) (word : List ℕ) (result : Result X E) (P : List (List ℕ) → E → Type 0) → IfSome told (λ t. slice_get t at ≡ Some word) → ((t : List (List ℕ)) → slice_get t at ≡ Some word → IfErr result (P t)) → IfErr result (λ e. IfSome told (λ t. P t e))
cause_at None at word (Ok x) P there holds = tt
cause_at None at word (Err e) P there holds = tt
cause_at (Some t) at word result P there holds = holds t there

-- the words before a place that is behind the last one
pub all_words : {A : Type 0} (told : Option (List (List ℕ))) (place : ℕ) (done : List (String A)) (found : Option (String A)) → IfSome told (λ t. IsFound t place found) → found ≡ None → IfSome told (λ t. map string_bytes done ≡ take (place - 1) (drop 1 t)) → IfSome told (λ t. map string_bytes done ≡ drop 1 t)
all_words None place done found is none so_far = tt
all_words (Some t) place done found is none so_far =
    let behind : length t ≤ place = subst (λ f. IsFound t place f) none is in
    so_far ∙ take_all (place - 1) (drop 1 t) (omega (arith, behind, length-drop 1 t))

-- the words among these texts are UTF-8
pub texts_are_utf8 : {A : Type 0} (done : List (String A)) (words : List (List ℕ)) (n k : ℕ) (word : List ℕ) → map string_bytes done ≡ take n words → k < n → slice_get words k ≡ Some word → IsUtf8 word
texts_are_utf8 done [] n k word are below there = cc
texts_are_utf8 done (x ∷ words) zero k word are below there = absurd (omega (arith, below))
texts_are_utf8 [] (x ∷ words) (suc n) k word are below there = cc
texts_are_utf8 (text ∷ done) (x ∷ words) (suc n) zero word are below there =
    let same : string_bytes text ≡ word = cc in
    subst IsUtf8 same (IsUtf8-string_bytes text)
texts_are_utf8 (text ∷ done) (x ∷ words) (suc n) (suc k) word are below there =
    let less : k < n = omega (arith, below) in
    let tail : map string_bytes done ≡ take n words = cc in
    texts_are_utf8 done words n k word tail less there

-- the same of those after the program's name
texts_before : {A : Type 0} (words : List (List ℕ)) (place : ℕ) (done : List (String A)) → map string_bytes done ≡ take place (drop 1 words) → (k : ℕ) (word : List ℕ) → 1 ≤ k → k ≤ place → slice_get words k ≡ Some word → IsUtf8 word
texts_before [] place done are k word after within there = cc
texts_before (x ∷ words) place done are zero word after within there = absurd (omega (arith, after))
texts_before (x ∷ words) place done are (suc k) word after within there =
    let below : k < place = omega (arith, within) in
    texts_are_utf8 done words place k word are below there

-- memory may be wanted for a long word
pub long_costs : (told : Option (List (List ℕ))) (at : ℕ) → IfSome told (λ t. IsLonger t at 256) → IfSome told (λ t. IsCauseAt t at whys.NoMemory)
long_costs None at longer = tt
long_costs (Some t) at longer = record { word = longer.word; there = longer.there; costly = inr longer.longer }

-- memory may be wanted for the word of a place, where those before it are texts
first_costly : {A : Type 0} (t : List (List ℕ)) (at : ℕ) (done : List (String A)) → 1 ≤ at → map string_bytes done ≡ take (at - 1) (drop 1 t) → IsCostly t at → IsFirstCostly t at
first_costly t at done behind are costly = record {
  after = behind;
  at = costly;
  before = λ k word after before there. texts_before t (at - 1) done are k word after (omega (arith, before)) there;
}

-- why there is no word of a place is why there are no words, where those before it are texts
pub no_words : {A : Type 0} (told : Option (List (List ℕ))) (at : ℕ) (done : List (String A)) → 1 ≤ at → IfSome told (λ t. map string_bytes done ≡ take (at - 1) (drop 1 t)) → (why : NoWords) → IfSome told (λ t. IsCauseAt t at why) → IfSome told (λ t. IsCause t why)
no_words None at done behind are why there = tt
no_words (Some t) at done behind are whys.NoMemory there = (at, first_costly t at done behind are there)
no_words (Some t) at done behind are (whys.NotText place) there =
    let same : at - 1 ≡ place = omega (arith, there.0) in
    record {
      at = subst (IsNotText t) there.0 there.1;
      before = texts_before t place done (are ∙ ap (λ n. take n (drop 1 t)) same);
    }

-- memory may be wanted for a word that was found, where those before it are texts
pub no_memory : {A : Type 0} (told : Option (List (List ℕ))) (at : ℕ) (done : List (String A)) (found : Option (String A)) (text : String A) → 1 ≤ at → IfSome told (λ t. map string_bytes done ≡ take (at - 1) (drop 1 t)) → IfSome told (λ t. IsFound t at found) → found ≡ Some text → IfSome told (λ t. IsCause t whys.NoMemory)
no_memory None at done found text behind are is some = tt
no_memory (Some t) at done found text behind are is some =
    let there : slice_get t at ≡ Some (string_bytes text) = subst (λ f. IsFound t at f) some is in
    (at, first_costly t at done behind are record { word = string_bytes text; there = there; costly = inl (IsUtf8-string_bytes text) })
