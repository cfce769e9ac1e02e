-- No run takes a file away, however it ends.
use Rattle.std.proofs.Common.{◌≡◌, ◌∙◌, inl, inr, refl, sym, ap, subst, ℕ, Bool, true, cond, Ordering, Less, Equal, Greater, List, [], ◌∷◌, Option, Some, None, option_map}
use Rattle.std.specs.Prelude.{IfSome}
use Rattle.std.specs.FinMap as map
use Rattle.std.specs.Ordering.{is_eq}
use Rattle.std.proofs.lemmas.Bool.{false_from_ne_true}
use Rattle.std.proofs.lemmas.Cmp.{nat_list_cmp_total}
use Rattle.std.proofs.lemmas.Map.Lookups.{exact_bytes}
use Rattle.std.proofs.lemmas.Option.{same_Some}
use Rattle.tink_spec.specs.Files.{Added, Files, KeptFiles, MayAdd, StoreState}
use Rattle.tinkey_session.proofs.Options.{clash, no_truth}
use Rattle.tinkey_session.specs.Saving.{AsksFor, Asks, FileAsked}
use Rattle.tinkey_session.specs.Saving as saving
use Rattle.tinkey_plans.specs.Ends.{Ends, World, wrote, write_failed, made, name_taken, create_failed, create_starved, look_free, look_taken, look_failed, loaded, load_absent, load_long, load_failed, load_starved, ranged, range_absent, range_failed, range_starved, read, too_long, read_failed, read_starved, front_read, front_failed, settled, draw_failed, draw_starved, collected, collect_refused, collect_unread, collect_unkept, exchanged, exchange_ended}
use Rattle.tinkey_plans.specs.Plan.{Plan, ends, writes, creates, looks, allocates, loads, reads_all, reads_front, ranges, draws, pumps, collects, exchanges}
use Rattle.tinkey_plans.specs.declared.status.Status.{Status}
use Rattle.tinkey_readable.specs.KeptRuns.{FilesStay, Has}

-- ---- one file

equal_is : (o : Ordering) → is_eq o ≡ true → o ≡ Equal
equal_is Less e = no_truth e
equal_is Equal e = refl
equal_is Greater e = no_truth e

-- another file with a free name leaves it
pub inserted : (files : Files) (name bytes new output : List ℕ) → map.get files new ≡ None → map.get files name ≡ Some bytes → map.get (map.insert files new output) name ≡ Some bytes
inserted files name bytes new output free at =
    map.get-insert nat_list_cmp_total files new output name
    ∙ ap (λ (b : Bool). cond b (Some output) (map.get files name)) (false_from_ne_true _ (λ same.
    clash (sym free ∙ ap (map.get files) (sym (exact_bytes name new (equal_is _ same))) ∙ at)))
    ∙ at

kept_has : (old new : StoreState) (name bytes : List ℕ) → KeptFiles old new → Has old name bytes → Has new name bytes
kept_has old new name bytes kept (files, is, at) = (files, sym kept.files ∙ is, at)

same_has : (old new : StoreState) (name bytes : List ℕ) → old ≡ new → Has old name bytes → Has new name bytes
same_has old new name bytes same has = subst (λ (t : StoreState). Has t name bytes) same has

added_has : (old new : StoreState) (name bytes added output : List ℕ) → Added old new added output → Has old name bytes → Has new name bytes
added_has old new name bytes added output a (files, is, at) = (
  map.insert files added output,
  a.files ∙ ap (option_map (λ (f : Files). map.insert f added output)) is,
  inserted files name bytes added output (subst (λ (o : Option Files). IfSome o (λ files. map.get files added ≡ None)) is a.absent) at,
)

may_has : (old new : StoreState) (name bytes added output : List ℕ) → MayAdd old new added output → Has old name bytes → Has new name bytes
may_has old new name bytes added output (inl kept) has = kept_has old new name bytes kept has
may_has old new name bytes added output (inr front) has = added_has old new name bytes added front.front front.added has

pub asked_has : (a : FileAsked) (old new : StoreState) (name bytes : List ℕ) → AsksFor a old new → Has old name bytes → Has new name bytes
asked_has a old new name bytes (saving.made why added stood given) has = added_has old new name bytes a.name a.bytes added has
asked_has a old new name bytes (saving.there why holds same) has = same_has old new name bytes same has
asked_has a old new name bytes (saving.failed why may rose given) has = may_has old new name bytes a.name a.bytes may has

asks_has : (asked : List FileAsked) (old new : StoreState) (name bytes : List ℕ) → Asks asked old new → Has old name bytes → Has new name bytes
asks_has [] old new name bytes same has = same_has old new name bytes same has
asks_has (a ∷ asked) old new name bytes (mid, first, later) has = asks_has asked mid new name bytes later (asked_has a old mid name bytes first has)

pub has_once : (store : StoreState) (name a b : List ℕ) → Has store name a → Has store name b → a ≡ b
has_once store name a b (first, is, at) (second, too, there) =
    same_Some _ _ (sym at ∙ ap (λ (f : Files). map.get f name) (same_Some _ _ (sym is ∙ too)) ∙ there)

-- ---- a plan

pub stays : (p : Plan) (old : World) (s : Status) (new : World) (name bytes : List ℕ) → Ends p old s new → Has old.store name bytes → Has new.store name bytes
stays (ends answered stated) old s new name bytes (is, same) has = subst (λ (w : World). Has w.store name bytes) same has
stays (writes output) old s new name bytes (wrote is only stood took) has = same_has _ _ name bytes only.store has
stays (writes output) old s new name bytes (write_failed is only rose front) has = same_has _ _ name bytes only.store has
stays (creates added output taken stated) old s new name bytes (made is only stood given a) has = added_has _ _ name bytes added output a has
stays (creates added output taken stated) old s new name bytes (name_taken is only kept stood given there) has = kept_has _ _ name bytes kept has
stays (creates added output taken stated) old s new name bytes (create_failed is only rose given may) has = may_has _ _ name bytes added output may has
stays (creates added output taken stated) old s new name bytes (create_starved is only kept stood given) has = kept_has _ _ name bytes kept has
stays (looks other taken stated next) old s new name bytes (look_free store kept stood given holds run) has = stays next (record old { store = store }) s new name bytes run (kept_has _ _ name bytes kept has)
stays (looks other taken stated next) old s new name bytes (look_taken is only kept stood given there) has = kept_has _ _ name bytes kept has
stays (looks other taken stated next) old s new name bytes (look_failed is only kept rose given) has = kept_has _ _ name bytes kept has
stays (allocates next) old s new name bytes (inl run) has = stays next old s new name bytes run has
stays (allocates next) old s new name bytes (inr (is, same)) has = subst (λ (w : World). Has w.store name bytes) same has
stays (loads other limit absent long a l next) old s new name bytes (loaded all store kept stood given within holds run) has = stays (next all) (record old { store = store }) s new name bytes run (kept_has _ _ name bytes kept has)
stays (loads other limit absent long a l next) old s new name bytes (load_absent is only kept stood given holds) has = kept_has _ _ name bytes kept has
stays (loads other limit absent long a l next) old s new name bytes (load_long is only kept stood given holds) has = kept_has _ _ name bytes kept has
stays (loads other limit absent long a l next) old s new name bytes (load_failed is only kept rose given) has = kept_has _ _ name bytes kept has
stays (loads other limit absent long a l next) old s new name bytes (load_starved is only kept stood given) has = kept_has _ _ name bytes kept has
stays (ranges x absent a next) old s new name bytes (ranged opened store most kept stood given least past holds run) has = stays (next opened) (record old { store = store }) s new name bytes run (kept_has _ _ name bytes kept has)
stays (ranges x absent a next) old s new name bytes (range_absent is only kept stood given holds) has = kept_has _ _ name bytes kept has
stays (ranges x absent a next) old s new name bytes (range_failed most is only kept rose given least) has = kept_has _ _ name bytes kept has
stays (ranges x absent a next) old s new name bytes (range_starved most is only kept stood given least) has = kept_has _ _ name bytes kept has
stays (reads_all limit long stated next) old s new name bytes (read all source gave stood within end run) has = stays (next all) (record old { source = source }) s new name bytes run has
stays (reads_all limit long stated next) old s new name bytes (too_long is only stood count) has = same_has _ _ name bytes only.store has
stays (reads_all limit long stated next) old s new name bytes (read_failed is only rose upto) has = same_has _ _ name bytes only.store has
stays (reads_all limit long stated next) old s new name bytes (read_starved is only stood upto) has = same_has _ _ name bytes only.store has
stays (reads_front size next) old s new name bytes (front_read front source gave stood within end run) has = stays (next front) (record old { source = source }) s new name bytes run has
stays (reads_front size next) old s new name bytes (front_failed piece is only rose gave few) has = same_has _ _ name bytes only.store has
stays (draws kind give next) old s new name bytes (settled drawn entropy given drew stood settles run) has = stays (next given) (record old { entropy = entropy }) s new name bytes run has
stays (draws kind give next) old s new name bytes (draw_failed is only out) has = same_has _ _ name bytes only.store has
stays (draws kind give next) old s new name bytes (draw_starved parts is only drawn drew stood none) has = same_has _ _ name bytes only.store has
stays (pumps part) old s new name bytes e has = same_has _ _ name bytes e.only.store has
stays (collects part next) old s new name bytes (collected all source store gave stood kept quiet given end none run) has = stays (next (part.output all true)) (record old { source = source; store = store }) s new name bytes run (kept_has _ _ name bytes kept has)
stays (collects part next) old s new name bytes (collect_refused taken ended refusal is kept_draft source store end decided lasting) has = kept_has _ _ name bytes kept_draft.kept has
stays (collects part next) old s new name bytes (collect_unread taken is kept_draft rose store none) has = kept_has _ _ name bytes kept_draft.kept has
stays (collects part next) old s new name bytes (collect_unkept taken ended is kept_draft source rose some) has = kept_has _ _ name bytes kept_draft.kept has
stays (exchanges exchange next) old s new name bytes (exchanged keys mid talk steady run) has = stays (next keys) mid s new name bytes run (asks_has talk.asked old.store mid.store name bytes talk.asks has)
stays (exchanges exchange next) old s new name bytes (exchange_ended fault is talk steady) has = asks_has talk.asked old.store new.store name bytes talk.asks has

pub files_stay : FilesStay
files_stay table words old s new name bytes promised has = stays _ old s new name bytes promised.ends has
