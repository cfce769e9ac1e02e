-- How much was read of files, of every end of every plan; and so for srange.
use Rattle.std.proofs.Common.{arith, ◌≡◌, inl, inr, refl, sym, ap, subst, ℕ, ◌+◌, List, [], ◌∷◌, length, Option, true}
use Rattle.tink_spec.specs.Files.{Files, StoreState}
use Rattle.tinkey_session.proofs.StoreLemmas.{asks_given}
use Rattle.tinkey_session.specs.Saving.{Asks, FileAsked}
use Rattle.tinkey_plans.specs.declared.status.Status.{Status}
use Rattle.tinkey_plans.specs.Plan.{Plan, ends, writes, creates, looks, allocates, loads, reads_all, reads_front, ranges, draws, pumps, collects, exchanges}
use Rattle.tinkey_plans.specs.Ends.{World, Ends, GaveWithin, loaded, load_absent, load_long, load_failed, load_starved, ranged, range_absent, range_failed, range_starved, wrote, write_failed, made, name_taken, create_failed, create_starved, look_free, look_taken, look_failed, read, too_long, read_failed, read_starved, front_read, front_failed, settled, draw_failed, draw_starved, collected, collect_refused, collect_unread, collect_unkept, exchanged, exchange_ended}
use Rattle.tinkey_plans.specs.Promises.{AsksOver, MayGive, Reads}

-- nothing was given
pub none_given : (old new : StoreState) → old ≡ new → GaveWithin old new 0
none_given old new same = omega (arith, ap (λ (x : StoreState). x.given) same)

given_none : (p : Plan) (old new : World) → MayGive p old.store.files 0 → GaveWithin old.store new.store 0 → Reads p old new
given_none p old new may within = record { given = 0; may = may; within = within }

-- what a later part of the plan was given, behind a step that was given nothing
given_later : (p rest : Plan) (old mid new : World) → old.store.files ≡ mid.store.files → GaveWithin old.store mid.store 0 → ((given : ℕ) → MayGive rest old.store.files given → MayGive p old.store.files given) → Reads rest mid new → Reads p old new
given_later p rest old mid new files none may later = record {
  given = later.given;
  may = may later.given (subst (λ (f : Option Files). MayGive rest f later.given) (sym files) later.may);
  within = omega (arith, none, later.within);
}

-- and behind one that was given some
given_more : (p rest : Plan) (old mid new : World) (first : ℕ) → old.store.files ≡ mid.store.files → GaveWithin old.store mid.store first → ((more : ℕ) → MayGive rest old.store.files more → MayGive p old.store.files (first + more)) → Reads rest mid new → Reads p old new
given_more p rest old mid new first files some may later = record {
  given = first + later.given;
  may = may later.given (subst (λ (f : Option Files). MayGive rest f later.given) (sym files) later.may);
  within = omega (arith, some, later.within);
}

-- files that were asked for, of what the store holds
pub asks_over : (asked : List FileAsked) (old new : StoreState) → Asks asked old new → AsksOver asked old.files new.files
asks_over [] old new same = ap (λ (x : StoreState). x.files) same
asks_over (a ∷ asked) old new asks = (old, asks.0, refl, asks.1, asks_over asked asks.0 new asks.2)

-- nor is anything given by asking for files
asks_none : (asked : List FileAsked) (old new : StoreState) → Asks asked old new → GaveWithin old new 0
asks_none asked old new asks = omega (arith, asks_given asked old new asks)

pub reads : (p : Plan) (old : World) (s : Status) (new : World) → Ends p old s new → Reads p old new
reads (ends answered stated) old s new (is, same) = given_none _ old new refl (none_given _ _ (ap (λ (w : World). w.store) same))
reads (writes output) old s new (wrote is only stood took) = given_none _ old new refl (none_given _ _ only.store)
reads (writes output) old s new (write_failed is only rose front) = given_none _ old new refl (none_given _ _ only.store)
reads (creates name output taken stated) old s new (made is only stood given added) = given_none _ old new refl given
reads (creates name output taken stated) old s new (name_taken is only kept stood given there) = given_none _ old new refl given
reads (creates name output taken stated) old s new (create_failed is only rose given may) = given_none _ old new refl given
reads (creates name output taken stated) old s new (create_starved is only kept stood given) = given_none _ old new refl given
reads (looks name taken stated next) old s new (look_free store kept stood given holds run) =
    given_later _ next old (record old { store = store }) new kept.files given (λ n may. inr may) (reads next (record old { store = store }) s new run)
reads (looks name taken stated next) old s new (look_taken is only kept stood given there) = given_none _ old new (inl refl) given
reads (looks name taken stated next) old s new (look_failed is only kept rose given) = given_none _ old new (inl refl) given
reads (allocates next) old s new (inl run) = given_later _ next old old new refl (none_given old.store old.store refl) (λ n may. inr may) (reads next old s new run)
reads (allocates next) old s new (inr (is, same)) = given_none _ old new (inl refl) (none_given _ _ (ap (λ (w : World). w.store) same))
reads (loads name limit absent long a l next) old s new (loaded bytes store kept stood given within holds run) =
    given_more _ (next bytes) old (record old { store = store }) new (length bytes) kept.files given (λ more may. inr (inr (bytes, more, holds, within, refl, may))) (reads (next bytes) (record old { store = store }) s new run)
reads (loads name limit absent long a l next) old s new (load_absent is only kept stood given holds) = given_none _ old new (inl refl) given
reads (loads name limit absent long a l next) old s new (load_long is only kept stood given holds) = record { given = limit + 1; may = inr (inl refl); within = given }
reads (loads name limit absent long a l next) old s new (load_failed is only kept rose given) = record { given = limit + 1; may = inr (inl refl); within = given }
reads (loads name limit absent long a l next) old s new (load_starved is only kept stood given) = record { given = limit + 1; may = inr (inl refl); within = given }
reads (ranges x absent a next) old s new (ranged opened store most kept stood given least past holds run) =
    given_more _ (next opened) old (record old { store = store }) new most kept.files given (λ more may. inr (inr (opened, most, more, holds, least, past, refl, may))) (reads (next opened) (record old { store = store }) s new run)
reads (ranges x absent a next) old s new (range_absent is only kept stood given holds) = given_none _ old new (inl refl) given
reads (ranges x absent a next) old s new (range_failed most is only kept rose given least) = record { given = most; may = inr (inl least); within = given }
reads (ranges x absent a next) old s new (range_starved most is only kept stood given least) = record { given = most; may = inr (inl least); within = given }
reads (reads_all limit long stated next) old s new (read all source gave stood within end run) =
    given_later _ (next all) old (record old { source = source }) new refl (none_given old.store old.store refl) (λ n may. inr (all, may)) (reads (next all) (record old { source = source }) s new run)
reads (reads_all limit long stated next) old s new (too_long is only stood count) = given_none _ old new (inl refl) (none_given _ _ only.store)
reads (reads_all limit long stated next) old s new (read_failed is only rose upto) = given_none _ old new (inl refl) (none_given _ _ only.store)
reads (reads_all limit long stated next) old s new (read_starved is only stood upto) = given_none _ old new (inl refl) (none_given _ _ only.store)
reads (reads_front size next) old s new (front_read front source gave stood within end run) =
    given_later _ (next front) old (record old { source = source }) new refl (none_given old.store old.store refl) (λ n may. inr (front, may)) (reads (next front) (record old { source = source }) s new run)
reads (reads_front size next) old s new (front_failed piece is only rose gave few) = given_none _ old new (inl refl) (none_given _ _ only.store)
reads (draws kind give next) old s new (settled drawn entropy given drew stood settles run) =
    given_later _ (next given) old (record old { entropy = entropy }) new refl (none_given old.store old.store refl) (λ n may. inr (given, may)) (reads (next given) (record old { entropy = entropy }) s new run)
reads (draws kind give next) old s new (draw_failed is only out) = given_none _ old new (inl refl) (none_given _ _ only.store)
reads (draws kind give next) old s new (draw_starved parts is only drawn drew stood few) = given_none _ old new (inl refl) (none_given _ _ only.store)
reads (pumps part) old s new e = given_none _ old new refl (none_given _ _ e.only.store)
reads (collects part next) old s new (collected all source store gave stood kept quiet given end none run) =
    given_later _ (next (part.output all true)) old (record old { source = source; store = store }) new kept.files given (λ n may. inr (part.output all true, may)) (reads (next (part.output all true)) (record old { source = source; store = store }) s new run)
reads (collects part next) old s new (collect_refused taken ended refusal is kept_draft source store end decided lasting) = given_none _ old new (inl refl) kept_draft.given
reads (collects part next) old s new (collect_unread taken is kept_draft rose store none) = given_none _ old new (inl refl) kept_draft.given
reads (collects part next) old s new (collect_unkept taken ended is kept_draft source rose some) = given_none _ old new (inl refl) kept_draft.given
reads (exchanges exchange next) old s new (exchanged keys mid talk steady run) =
    let later = reads (next keys) mid s new run in
    record {
      given = later.given;
      may = inr (keys, talk.asked, mid.store.files, asks_over talk.asked old.store mid.store talk.asks, later.may);
      within = omega (arith, asks_none talk.asked old.store mid.store talk.asks, later.within);
    }
reads (exchanges exchange next) old s new (exchange_ended fault is talk steady) = given_none _ old new (inl refl) (asks_none talk.asked old.store new.store talk.asks)
