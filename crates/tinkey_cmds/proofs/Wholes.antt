-- Ids are drawn whole.
use Rattle.std.proofs.Common.{◌≡◌, ℕ, ◌+◌, ◌*◌, ◌≤◌, List, [], ◌++◌, length, Result, Ok, Err, OnOk, OnErr, arith, length-append}
use Rattle.std.specs.Prelude.{IsErr}
use Rattle.std.proofs.lemmas.Bool.{false≢true}
use Rattle.tink_spec.specs.Outside.{Drew, EntropyState, RanShort}
use Rattle.tink_spec.proofs.Moves.{drew_more, drew_nothing, lost_later}
use Rattle.keyset_model.specs.Keyset.{Keys}
use Rattle.tinkey_cmds.specs.declared.command.EditError.{EditError}
use Rattle.tinkey_cmds.specs.declared.command.EditError.TheVariants.{Refused, EntropyFault, NoMemory}
use Rattle.tinkey_cmds.specs.Applying.{DrawsWhole, DrewIds, Edited, LostBehindIds, answer_with}
use Rattle.tinkey_cmds.specs.Draws.{Draw}

-- so many groups of four bytes were drawn
pub record DrewGroups (old new : EntropyState) (groups : ℕ) : Type 0 where
  pub drawn : List ℕ
  pub drew : Drew old new drawn
  pub whole : length drawn ≡ 4 * groups

pub groups-nothing : (s : EntropyState) → DrewGroups s s 0
groups-nothing s = record { drawn = []; drew = drew_nothing s; whole = omega arith }

pub groups-more : (old mid new : EntropyState) (group : List ℕ) (groups : ℕ) → DrewGroups old mid groups → Drew mid new group → length group ≡ 4 → DrewGroups old new (groups + 1)
groups-more old mid new group groups before drew four = record {
  drawn = before.drawn ++ group;
  drew = drew_more old mid new before.drawn group before.drew drew;
  whole = simp length-append (omega (arith, before.whole, four));
}

pub groups-ids : (old new : EntropyState) (groups : ℕ) → groups ≤ 64 → DrewGroups old new groups → DrewIds old new
groups-ids old new groups most before = record { drawn = before.drawn; drew = before.drew; ids = groups; most = most; whole = before.whole }

-- and then a fill failed
pub ids-lost : (old mid new : EntropyState) (asked most : ℕ) → asked ≤ most → DrewIds old mid → RanShort mid new asked → LostBehindIds old new most
ids-lost old mid new asked most bound before ran =
    let gone = lost_later old mid new before.drawn [] before.drew ran.gone in
    record {
      drawn = before.drawn ++ [];
      gone = gone;
      few = omega (arith, bound, ran.few);
      ids = before.ids;
      most_ids = before.most;
      whole = simp length-append (omega (arith, before.whole));
    }

pub groups-end : (old mid new : EntropyState) (groups : ℕ) → groups ≤ 64 → DrewGroups old mid groups → RanShort mid new 4 → LostBehindIds old new 4
groups-end old mid new groups most before ran = ids-lost old mid new 4 4 (omega arith) (groups-ids old mid groups most before) ran

-- an edit that draws nothing
pub edited-whole : (result : Result (Unit {0}) EditError) (new : Keys) (give : Draw Keys) (s : EntropyState) → Edited (answer_with result new) give → DrawsWhole result s s
edited-whole (Ok done) new give s is = tt
edited-whole (Err (Refused fault)) new give s is = tt
edited-whole (Err EntropyFault) new give s is = absurd is
edited-whole (Err NoMemory) new give s is = tt

-- an error of the new record is handed on
pub error-whole : (A B : Type 0) (error : EditError) (old new : EntropyState) → DrawsWhole {A = A} (Err error) old new → DrawsWhole {A = B} (Err error) old new
error-whole A B (Refused fault) old new whole = tt
error-whole A B EntropyFault old new whole = whole
error-whole A B NoMemory old new whole = tt

-- an error of the new id is no answer
pub on_error : {T E : Type 0} (result : Result T E) (P : Type 0) → IsErr result → OnOk result P
on_error (Ok x) P is = absurd (false≢true is)
on_error (Err e) P is = tt

pub in_all : {T E : Type 0} (result : Result T E) (P : Type 0) → P → OnErr result P
in_all (Ok x) P is = tt
in_all (Err e) P is = is

pub in_any : {T E : Type 0} (result : Result T E) (P : Type 0) → P → OnOk result P
in_any (Ok x) P is = is
in_any (Err e) P is = tt

-- but for the entropy's fault
pub id-fault : (old new : EntropyState) → LostBehindIds old new 4 → LostBehindIds old new 64
id-fault old new lost = record { drawn = lost.drawn; gone = lost.gone; few = omega (arith, lost.few); ids = lost.ids; most_ids = lost.most_ids; whole = lost.whole }
