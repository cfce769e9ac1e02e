-- The keys that a session keeps.
use Rattle.std.proofs.Common.{◌≡◌, ◌∙◌, sym, ap, subst, ℕ, List, Option, Some, None, Result, Ok, Err}
use Rattle.std.proofs.lemmas.Option.{same_Some}
use Rattle.key_msgs.specs.declared.primitive.Primitive.{Primitive}
use Rattle.key_msgs.specs.declared.primitive.Primitive.TheVariants.{Aead, Daead, Mac, Prf}
use Rattle.keyset_model.specs.Keyset.{Keys}
use Rattle.managers.specs.Table.{Table}
use Rattle.tink_spec.specs.Outside.{EntropyState}
use Rattle.tinkey_session.proofs.AnswerLemmas.{starved, undrawn}
use Rattle.tinkey_session.proofs.Options.{clash}
use Rattle.tinkey_session.specs.Answered.{Serves}
use Rattle.tinkey_session.specs.Keeping.{IsHeldFor, IsKept, ServesBy, needs, refusal_in}
use Rattle.tinkey_session.specs.Lines.{Line, Seal, Dseal, Open, Dopen, Reseal, Dreseal, Tag, Verify, Derive}
use Rattle.tinkey_session.specs.Serving.{cannot_serve, Served, answered, by_handle, serve, unless_unfit}
use Rattle.tinkey_session.specs.declared.reply.Reply.TheVariants.{Refuses}
use Rattle.tinkey_session.specs.declared.reply.Refusal.{Refusal}
use Rattle.tinkey_session.specs.declared.reply.Refusal.TheVariants as refusals
use Rattle.tinkey_session.specs.declared.reply.LineRefusal.TheVariants.{Refused}
use Rattle.tinkey_session.specs.declared.reply.Reply.{Reply}
use Rattle.tinkey_session.specs.declared.session.LineFault.{LineFault}
use Rattle.tinkey_session.specs.declared.session.LineFault.TheVariants as line_faults
use Rattle.wrapped_prims.specs.Fitness.{Unfit, unfit}
use Rattle.wrapped_prims.specs.Making.{IsFaultOf, IsOver}
use Rattle.wrapped_prims.specs.declared.handle.HandleError.{HandleError}
use Rattle.wrapped_prims.specs.declared.handle.HandleError.TheVariants as faults
use Rattle.wrapped_prims.specs.declared.held.Held.{Held}

-- ---- keysets that can't serve

refused : (needed primitive : Primitive) (table : Table) (keys : Keys) (random : List ℕ) (served : Option Served) (found : ℕ × Unfit) → Some needed ≡ Some primitive → unfit keys primitive table ≡ Some found → by_handle needed table keys random served ≡ Some (answered keys random (Refuses (Refused (cannot_serve found.0 found.1))))
refused needed primitive table keys random served found same is =
    ap (λ p. by_handle p table keys random served) (same_Some _ _ same) ∙ ap (λ u. unless_unfit u keys random served) is

pub unfit_served : (line : Line) (primitive : Primitive) (table : Table) (keys : Keys) (random : List ℕ) (found : ℕ × Unfit) → needs line ≡ Some primitive → unfit keys primitive table ≡ Some found → serve table keys line random ≡ Some (answered keys random (Refuses (Refused (cannot_serve found.0 found.1))))
unfolding serve
unfit_served (Seal plain ad) primitive table keys random found is unfits = refused Aead primitive table keys random _ found is unfits
unfit_served (Open sealed ad) primitive table keys random found is unfits = refused Aead primitive table keys random _ found is unfits
unfit_served (Dseal plain ad) primitive table keys random found is unfits = refused Daead primitive table keys random _ found is unfits
unfit_served (Dopen sealed ad) primitive table keys random found is unfits = refused Daead primitive table keys random _ found is unfits
unfit_served (Reseal sealed ad) primitive table keys random found is unfits = refused Aead primitive table keys random _ found is unfits
unfit_served (Dreseal sealed ad) primitive table keys random found is unfits = refused Daead primitive table keys random _ found is unfits
unfit_served (Tag body) primitive table keys random found is unfits = refused Mac primitive table keys random _ found is unfits
unfit_served (Verify tag body) primitive table keys random found is unfits = refused Mac primitive table keys random _ found is unfits
unfit_served (Derive size input) primitive table keys random found is unfits = refused Prf primitive table keys random _ found is unfits
unfit_served _ primitive table keys random found is unfits = clash is

-- what comes of such a line: it is refused so, or memory was refused
abbrev pub unserved : Option Refusal → Result Reply LineFault
unserved (Some why) = Ok (Refuses (Refused why))
unserved None = Err line_faults.NoMemory

fault_served : (line : Line) (primitive : Primitive) (table : Table) (keys : Keys) (fault : HandleError) (e : EntropyState) → needs line ≡ Some primitive → IsFaultOf (unfit keys primitive table) fault → Serves (serve table keys line) (unserved (refusal_in fault)) keys e e
fault_served line primitive table keys (faults.NoManager i) e is fault = undrawn (serve table keys line) (Refuses (Refused (refusals.NoManager i))) keys e (λ random. unfit_served line primitive table keys random _ is fault)
fault_served line primitive table keys (faults.BadKey i rule) e is fault = undrawn (serve table keys line) (Refuses (Refused (refusals.BadKey i rule))) keys e (λ random. unfit_served line primitive table keys random _ is fault)
fault_served line primitive table keys (faults.NotRaw i) e is fault = undrawn (serve table keys line) (Refuses (Refused (refusals.NotRaw i))) keys e (λ random. unfit_served line primitive table keys random _ is fault)
fault_served line primitive table keys faults.NoMemory e is fault = starved (serve table keys line) keys e

pub fit_refused : (line : Line) (primitive : Primitive) (table : Table) (keys : Keys) (fault : HandleError) (o : Option Refusal) (e : EntropyState) → needs line ≡ Some primitive → IsFaultOf (unfit keys primitive table) fault → o ≡ refusal_in fault → Serves (serve table keys line) (unserved o) keys e e
fit_refused line primitive table keys fault o e is unfits told = subst (λ o. Serves (serve table keys line) (unserved o) keys e e) (sym told) (fault_served line primitive table keys fault e is unfits)

-- ---- a handle that is kept

pub held_for : (table : Table) (needed : Option Primitive) (primitive : Primitive) (keys : Keys) (held : Held) → needed ≡ Some primitive → IsOver table primitive keys held → IsHeldFor needed table keys held
held_for table needed primitive keys held is over = subst (λ n. IsHeldFor n table keys held) (sym is) over

-- the keys that are held are those of a line that needs the handle's primitive
pub kept_held : (table own : Table) (primitive other : Primitive) (keys : Keys) (held : Held) (line : Line) → IsKept table own other keys held → other ≡ primitive → needs line ≡ Some primitive → IsHeldFor (needs line) own keys held
kept_held table own primitive other keys held line kept same is =
    held_for own (needs line) primitive keys held is (subst (λ p. IsOver own p keys held) same kept.over)

pub kept_serves : (first table own : Table) (primitive other : Primitive) (keys after : Keys) (held : Held) (line : Line) (result : Result Reply LineFault) (old new : EntropyState) → table ≡ first → after ≡ keys → IsKept table own other after held → other ≡ primitive → needs line ≡ Some primitive → ServesBy own held line result old new → Serves (serve first keys line) result after old new
kept_serves first table own primitive other keys after held line result old new tables same kept primitives is serves =
    subst (λ k. Serves (serve first k line) result after old new) same
    (subst (λ t. Serves (serve t after line) result after old new) (kept.same ∙ tables)
    (serves after (kept_held table own primitive other after held line kept primitives is)))
