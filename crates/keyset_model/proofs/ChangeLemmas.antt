-- Records that change in their places.
use Rattle.std.proofs.Common.{◌≡◌, ◌∙◌, ap, refl, sym, subst, ℕ, zero, suc, ◌<◌, List, [], ◌∷◌, length, get_or, set, arith, lit≤}
use Rattle.std.specs.List.{AllByRecursion}
use Rattle.keyset_model.specs.declared.record.Record.{Record}
use Rattle.keyset_model.specs.Changes.{changed_at}
use Rattle.keyset_model.specs.Keyset.{Keys, HasSizes}

-- the record of a place is written
pub set-changed_at : (change : Record → Record) (i : ℕ) (records : List Record) (default : Record) → i < length records → set records i (change (get_or records i default)) ≡ changed_at change i records
unfolding changed_at
set-changed_at change i [] d l = absurd (omega arith)
set-changed_at change zero (r ∷ later) d l = refl
set-changed_at change (suc i) (r ∷ later) d l = ap (λ rs. r ∷ rs) (set-changed_at change i later d (omega arith))

written : (change : Record → Record) (i : ℕ) (records : List Record) (r : Record) → i < length records → r ≡ get_or records i r → set records i (change r) ≡ changed_at change i records
written change i records r within is = ap (λ x. set records i (change x)) is ∙ set-changed_at change i records r within

-- so it is in a keyset
pub keys-written : (change : Record → Record) (keys : Keys) (primary : ℕ) (items : List Record) (i : ℕ) (r : Record) → record { primary = primary; records = items } ≡ keys → i < length keys.records → r ≡ get_or items i r
    → record { primary = primary; records = set items i (change r) } ≡ record keys { records = changed_at change i keys.records }
keys-written change keys primary items i r view within is = subst (λ (k : Keys). i < length k.records → record { primary = primary; records = set items i (change r) } ≡ record k { records = changed_at change i k.records }) view
    (λ l. ap (λ rs. record { primary = primary; records = rs }) (written change i items r l is)) within

-- what it keeps of its record it keeps of all
pub each-changed_at : (P : Record → Type 0) (change : Record → Record) (i : ℕ) (records : List Record) → ((r : Record) → P r → P (change r)) → AllByRecursion P records → AllByRecursion P (changed_at change i records)
unfolding changed_at
each-changed_at P change i [] keeps each = tt
each-changed_at P change zero (r ∷ later) keeps each = (keeps r each.0, each.1)
each-changed_at P change (suc i) (r ∷ later) keeps each = (each.0, each-changed_at P change i later keeps each.1)

pub sizes-written : (change : Record → Record) (keys : Keys) (primary : ℕ) (items : List Record) (i : ℕ) (r : Record) → record { primary = primary; records = items } ≡ keys → i < length keys.records → r ≡ get_or items i r
    → ((x : Record) → HasSizes x → HasSizes (change x)) → AllByRecursion HasSizes items → AllByRecursion HasSizes (set items i (change r))
sizes-written change keys primary items i r view within is keeps each =
    let l : i < length items = subst (λ (k : Keys). i < length k.records) (sym view) within in
    subst (AllByRecursion HasSizes) (sym (written change i items r l is)) (each-changed_at HasSizes change i items keeps each)

pub sizes-status : (status : ℕ) (r : Record) → HasSizes r → HasSizes (record r { status = status })
sizes-status status r h = record { url = h.url; value = h.value }

pub sizes-destroyed : (r : Record) → HasSizes r → HasSizes (record r { status = 3; url = []; value = []; material = 0 })
sizes-destroyed r h = record { url = lit≤ tt; value = lit≤ tt }
