-- A range of a stream in a file, opened, as a step.
use Rattle.std.proofs.Common.{arith, ◌≡◌, ◌∙◌, refl, sym, subst, inl, ℕ, ◌+◌, ◌-◌, ◌*◌, ◌≤◌, List, length, true, Option, Some, None, Result, Ok, Err}
use Rattle.std.specs.Global.{Vec}
use Rattle.std.specs.Prelude.{IfSome, IsErrOf}
use Rattle.std.specs.FinMap as map
use Rattle.segment_stream.specs.Opening.{choose}
use Rattle.segment_stream.specs.Range.{stream_failed, past_end}
use Rattle.stream_range.specs.Answers.{CoversUnder, IsRange, covering_by}
use Rattle.stream_range.specs.Stored.{bytes_in}
use Rattle.stream_range.specs.declared.range.RangeFault.{RangeFault}
use Rattle.stream_range.specs.declared.range.RangeFault.TheVariants as faults
use Rattle.tink_base.specs.Store.{HasSize}
use Rattle.tink_spec.specs.Files.{Files, HoldsSize, KeptFiles, StoreState}
use Rattle.tink_spec.specs.Outside.{Rose, Stood}
use Rattle.tinkey_plans.specs.declared.status.Status.TheVariants as status
use Rattle.tinkey_plans.specs.Ends.{World, Ends, GaveWithin, OnlyStore, ranged, range_failed, range_starved}
use Rattle.tinkey_plans.specs.Plan.{Plan, allocates, ranges}
use Rattle.tinkey_plans.specs.Ranging.{opened_or, range_status, with_range}
use Rattle.tinkey_plans.specs.Steps.{Passes}
use Rattle.tinkey_plans.specs.FileRange.{Opened, FileRange, GivesAtMost, HoldsRange, range_in}

-- the step
abbrev pub range_step : FileRange → (List ℕ → Plan) → Plan
range_step x next = allocates (ranges x status.StreamMissing tt (λ opened. with_range opened next))

-- a range of a file was opened, or not, over a store that was asked for the file's size before
pub record OpensFile (x : FileRange) (r : Result (Vec ℕ) RangeFault) (first mid last : StoreState) : Type 0 where
  pub size : ℕ
  pub held : HoldsSize first x.name size
  pub kept : KeptFiles first mid
  pub stood : Stood first.faults mid.faults
  pub none : GaveWithin first mid 0
  pub range : IfSome (bytes_in mid.files x.name) (λ bytes. IsRange r (range_in x bytes))
  pub kept' : KeptFiles mid last
  pub most : ℕ
  pub least : GivesAtMost mid.files x most
  pub past : IsErrOf r faults.PastEnd → most ≤ 2 * x.largest
  pub gave : GaveWithin mid last most
  pub no_fault : (IsErrOf r faults.ReadFault → ⊥) → Stood mid.faults last.faults
  pub failed : IsErrOf r faults.ReadFault → Rose mid.faults last.faults

only_store : (w : World) (first last : StoreState) → OnlyStore (record w { store = first }) (record w { store = last })
only_store w first last = record { source = refl; sink = refl; entropy = refl }

kept_both : (x : FileRange) (r : Result (Vec ℕ) RangeFault) (first mid last : StoreState) → OpensFile x r first mid last → KeptFiles first last
kept_both x r first mid last h = record { files = h.kept.files ∙ h.kept'.files; faults = omega (arith, h.kept.faults, h.kept'.faults) }

stood_both : (x : FileRange) (r : Result (Vec ℕ) RangeFault) (first mid last : StoreState) → OpensFile x r first mid last → (IsErrOf r faults.ReadFault → ⊥) → Stood first.faults last.faults
stood_both x r first mid last h other = h.no_fault other ∙ h.stood

gave_both : (x : FileRange) (r : Result (Vec ℕ) RangeFault) (first mid last : StoreState) (h : OpensFile x r first mid last) → GaveWithin first last h.most
gave_both x r first mid last h = omega (arith, h.none, h.gave)

-- the bound is over the same files
least_before : (x : FileRange) (r : Result (Vec ℕ) RangeFault) (first mid last : StoreState) (h : OpensFile x r first mid last) → GivesAtMost first.files x h.most
least_before x r first mid last h = subst (λ (f : Option Files). GivesAtMost f x h.most) (sym h.kept.files) h.least

-- a size that was told
pub held_of : (store : StoreState) (name : List ℕ) (found : Option ℕ) (size : ℕ) → found ≡ Some size → HasSize store name found → HoldsSize store name size
held_of store name found size is has = subst (λ (o : Option ℕ). HasSize store name o) is has

-- what was opened is the range of the file that is there
abbrev SaysOf : Result (Vec ℕ) RangeFault → FileRange → Opened → Type 0
SaysOf r x opened = (bytes : List ℕ) → IsRange r (range_in x bytes) → range_in x bytes ≡ opened

holds_range : (x : FileRange) (r : Result (Vec ℕ) RangeFault) (opened : Opened) (files : Option Files) (size : ℕ) → IfSome files (λ f. (bytes : List ℕ) × (map.get f x.name ≡ Some bytes) × (length bytes ≡ size)) → IfSome (bytes_in files x.name) (λ bytes. IsRange r (range_in x bytes)) → SaysOf r x opened → IfSome files (λ f. (bytes : List ℕ) × (map.get f x.name ≡ Some bytes) × (range_in x bytes ≡ opened))
holds_range x r opened None size held range says = tt
holds_range x r opened (Some f) size held range says =
    let here : IfSome (Some held.0) (λ bytes. IsRange r (range_in x bytes)) = rw held.1 at range in
    (held.0, held.1, says held.0 here)

range_held : (x : FileRange) (r : Result (Vec ℕ) RangeFault) (opened : Opened) (first mid last : StoreState) → OpensFile x r first mid last → SaysOf r x opened → HoldsRange first x opened
range_held x r opened first mid last h says =
    holds_range x r opened first.files h.size h.held (subst (λ (f : Option Files). IfSome (bytes_in f x.name) (λ bytes. IsRange r (range_in x bytes))) (sym h.kept.files) h.range) says

rose_behind : (first mid last : StoreState) → Stood first.faults mid.faults → Rose mid.faults last.faults → Rose first.faults last.faults
rose_behind first mid last stood rose = subst (λ (n : ℕ). Rose n last.faults) stood rose

none_least : (found : Option (List ℕ)) (x : FileRange) → IfSome found (λ bytes. 0 ≤ (covering_by (choose x.keys bytes true) x.from x.to + 2) * x.largest)
none_least None x = tt
none_least (Some bytes) x = omega arith

gives_none : (store : StoreState) (x : FileRange) → GivesAtMost store.files x 0
gives_none store x = record { told = none_least (bytes_in store.files x.name) x; covered = (0, inl refl, omega arith) }

opened_passes : (x : FileRange) (plain : Vec ℕ) (w : World) (first mid last : StoreState) → OpensFile x (Ok plain) first mid last → Passes (range_step x) (record w { store = first }) (Ok plain.items) (record w { store = last })
opened_passes x plain w first mid last h = λ next s end run.
    inl (ranged (Ok plain.items) last h.most (kept_both x _ first mid last h) (stood_both x _ first mid last h (λ e. cc)) (gave_both x _ first mid last h) (least_before x _ first mid last h) (λ e. absurd (cc))
    (range_held x _ (Ok plain.items) first mid last h (λ bytes is. is)) run)

refused_passes : (x : FileRange) (fault : RangeFault) (w : World) (first mid last : StoreState) → OpensFile x (Err fault) first mid last → (next : List ℕ → Plan) → Ends (range_step x next) (record w { store = first }) (range_status fault) (record w { store = last })
refused_passes x (faults.StreamFailed number) w first mid last h next =
    inl (ranged (Err (stream_failed number)) last h.most (kept_both x _ first mid last h) (stood_both x _ first mid last h (λ e. cc)) (gave_both x _ first mid last h) (least_before x _ first mid last h) (λ e. absurd (cc))
    (range_held x _ (Err (stream_failed number)) first mid last h (λ bytes is. is)) (refl, refl))
refused_passes x faults.PastEnd w first mid last h next =
    inl (ranged (Err past_end) last h.most (kept_both x _ first mid last h) (stood_both x _ first mid last h (λ e. cc)) (gave_both x _ first mid last h) (least_before x _ first mid last h) (λ e. h.past refl)
    (range_held x _ (Err past_end) first mid last h (λ bytes is. is)) (refl, refl))
refused_passes x faults.ReadFault w first mid last h next =
    inl (range_failed h.most refl (only_store w first last) (kept_both x _ first mid last h) (rose_behind first mid last h.stood (h.failed refl)) (gave_both x _ first mid last h) (least_before x _ first mid last h))
refused_passes x faults.NoMemory w first mid last h next =
    inl (range_starved h.most refl (only_store w first last) (kept_both x _ first mid last h) (stood_both x _ first mid last h (λ e. cc)) (gave_both x _ first mid last h) (least_before x _ first mid last h))

pub range_passes : (x : FileRange) (r : Result (Vec ℕ) RangeFault) (w : World) (first mid last : StoreState) → OpensFile x r first mid last → Passes (range_step x) (record w { store = first }) (opened_or r) (record w { store = last })
range_passes x (Ok plain) w first mid last h = opened_passes x plain w first mid last h
range_passes x (Err fault) w first mid last h = refused_passes x fault w first mid last h

-- ---- what the range of a device says of its store

pub same_kept : (old new : StoreState) → new.files ≡ old.files → old.faults ≤ new.faults → KeptFiles old new
same_kept old new files faults = record { files = sym files; faults = faults }

rise_within : (old new k : ℕ) → new ≤ old + k → new - old ≤ k
rise_within old new k within = omega (arith, within)

rise_told : (found : Option (List ℕ)) (k : List ℕ → ℕ) (old new : ℕ) → IfSome found (λ bytes. new ≤ old + k bytes) → IfSome found (λ bytes. new - old ≤ k bytes)
rise_told None k old new within = tt
rise_told (Some bytes) k old new within = rise_within old new (k bytes) within

pub gives_rise : (files : Option Files) (x : FileRange) (old new : ℕ) → IfSome (bytes_in files x.name) (λ bytes. new ≤ old + (covering_by (choose x.keys bytes true) x.from x.to + 2) * x.largest) → ((count : ℕ) × CoversUnder x.keys x.from x.to count × (new ≤ old + (count + 2) * x.largest)) → GivesAtMost files x (new - old)
gives_rise files x old new told covered = record {
  told = rise_told (bytes_in files x.name) (λ bytes. (covering_by (choose x.keys bytes true) x.from x.to + 2) * x.largest) old new told;
  covered = (covered.0, covered.1, rise_within old new ((covered.0 + 2) * x.largest) covered.2);
}

pub past_rise : (old new largest : ℕ) → new ≤ old + 2 * largest → new - old ≤ 2 * largest
past_rise old new largest within = rise_within old new (2 * largest) within

pub gave_rise : (old new : StoreState) → GaveWithin old new (new.given - old.given)
gave_rise old new = omega arith

pub look_ends : (x : FileRange) (w : World) (first last : StoreState) → KeptFiles first last → Rose first.faults last.faults → last.given ≡ first.given → (next : List ℕ → Plan) → Ends (range_step x next) (record w { store = first }) status.StoreFault (record w { store = last })
look_ends x w first last kept rose given next = inl (range_failed 0 refl (only_store w first last) kept rose (omega (arith, given)) (gives_none first x))
