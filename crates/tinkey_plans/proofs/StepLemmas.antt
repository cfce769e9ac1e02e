-- Steps of a plan, one behind another.
use Rattle.std.proofs.Common.{◌≡◌, refl, sym, subst, inl, inr, ℕ, List, Option, Some, None, Result, Ok, Err}
use Rattle.std.specs.Result.{IsErrAnd}
use Rattle.key_msgs.specs.Templates.{Row, is_asymmetric, row_named}
use Rattle.keyset_model.specs.declared.keyset.Keyset.{Keyset}
use Rattle.keyset_model.specs.Keyset.{Keys}
use Rattle.tink_spec.specs.Outside.{EntropyState}
use Rattle.tinkey_cmds.specs.Draws.{Draw}
use Rattle.tinkey_session.specs.Serving.{edit_named, or_refused, template_of, template_or}
use Rattle.tinkey_session.specs.declared.reply.Refusal.{Refusal}
use Rattle.tinkey_words.specs.Words.{AskedEdit}
use Rattle.tinkey_cmds.specs.Applying.{Applied}
use Rattle.tinkey_cmds.specs.declared.command.EditError.{EditError}
use Rattle.tinkey_cmds.specs.declared.command.EditError.TheVariants as errors
use Rattle.tinkey_plans.specs.declared.status.Status.{Status}
use Rattle.tinkey_plans.specs.declared.status.Status.TheVariants as status
use Rattle.tinkey_plans.specs.Ends.{World, Ends, settled, draw_failed}
use Rattle.tinkey_plans.specs.Plan.{Plan}
use Rattle.tinkey_plans.specs.Steps.{works_out, finds_edit, finds_template, makes_keyset, edit_refusal, refuses, with_row, Passes, PassesAs}

-- a step that gave a value, and then another
pub passes_then : {A B : Type 0} (first : (A → Plan) → Plan) (second : A → (B → Plan) → Plan) (old mid new : World) (value : A) (r : Result B Status) → Passes first old (Ok value) mid → Passes (second value) mid r new → Passes (λ next. first (λ x. second x next)) old r new
passes_then first second old mid new value (Ok given) one two = λ next s last run. one (λ x. second x next) s last (two next s last run)
passes_then first second old mid new value (Err s) one two = λ next. one (λ x. second x next) s new (two next)

-- a step that ended the whole, with the status that a `?` hands on
pub ends_there : {A B : Type 0} (first : (A → Plan) → Plan) (second : A → (B → Plan) → Plan) (old new : World) (r : Result B Status) (s : Status) → IsErrAnd r (λ e. e ≡ s) → Passes {A = A} first old (Err s) new → Passes (λ next. first (λ x. second x next)) old r new
ends_there first second old new (Ok given) s is one = absurd is
ends_there first second old new (Err e) s is one = λ next. rw is (one (λ x. second x next))

-- a status that a `?` hands on, of what ends the whole
pub handed_on : {A B : Type 0} (view : A → B) (step : (B → Plan) → Plan) (old new : World) (r : Result A Status) (s : Status) → IsErrAnd r (λ e. e ≡ s) → ((next : B → Plan) → Ends (step next) old s new) → PassesAs view step old r new
handed_on view step old new (Ok given) s is ended = absurd is
handed_on view step old new (Err e) s is ended = λ next. rw is (ended next)

-- a value that was worked out, or want of memory
pub worked_out : {A : Type 0} (value : A) (w : World) → Passes (works_out value) w (Ok value) w
worked_out value w = λ next s last run. inl run

pub starved_there : {A : Type 0} (value : A) (w : World) (r : Result A Status) → IsErrAnd r (λ e. e ≡ status.NoMemory) → Passes (works_out value) w r w
starved_there value w (Ok given) is = absurd is
starved_there value w (Err e) is = λ next. inr (is, refl)

-- ---- what is found by a name, or refused

-- what was found, or the status of its refusal
abbrev pub or_status : {A : Type 0} → Result A Refusal → Result A Status
or_status (Ok value) = Ok value
or_status (Err why) = Err (status.Refused why)

-- a step that gives it, or ends the whole
found_passes : {A : Type 0} (step : (A → Plan) → Plan) (found : Result A Refusal) (w : World) → ((next : A → Plan) → step next ≡ or_refused refuses found next) → Passes step w (or_status found) w
found_passes step (Ok value) w gives = λ next s last run. subst (λ p. Ends p w s last) (sym (gives next)) run
found_passes step (Err why) w gives = λ next. subst (λ p. Ends p w (status.Refused why) w) (sym (gives next)) (refl, refl)

finds_or_refuses : (name : List ℕ) (next : Row → Plan) → finds_template name next ≡ or_refused refuses (template_of name) next
finds_or_refuses name next = by (row_named name)
  where
    by : (found : Option Row) → with_row found name next ≡ or_refused refuses (template_or found (is_asymmetric name)) next
    by (Some row) = refl
    by None = refl

pub template_passes : (name : List ℕ) (w : World) → Passes (finds_template name) w (or_status (template_of name)) w
template_passes name w = found_passes (finds_template name) (template_of name) w (finds_or_refuses name)

pub edit_passes : (asked : AskedEdit) (w : World) → Passes (finds_edit asked) w (or_status (edit_named asked)) w
edit_passes asked w = found_passes (finds_edit asked) (edit_named asked) w (λ next. refl)

-- ---- keysets that are made

-- a keyset that random bytes gave, or why they gave none
pub made_passes : (give : Draw Keys) (old : World) (entropy : EntropyState) (keyset : Keyset) → Applied (Ok keyset) give old.entropy entropy → Passes (makes_keyset give) old (Ok keyset) (record old { entropy = entropy })
made_passes give old entropy keyset (stood, (drawn, drew, settles)) = λ next s last run. settled drawn entropy (Ok keyset) drew stood settles (inl run)

pub unmade_passes : (give : Draw Keys) (old : World) (entropy : EntropyState) (e : EditError) → Applied (Err e) give old.entropy entropy → (next : Keys → Plan) → Ends (makes_keyset give next) old (edit_refusal e) (record old { entropy = entropy })
unmade_passes give old entropy (errors.Refused fault) (stood, (drawn, drew, settles)) next = settled drawn entropy (Err fault) drew stood settles (inl (refl, refl))
unmade_passes give old entropy errors.EntropyFault out next = draw_failed refl (record { source = refl; sink = refl; store = refl }) out
unmade_passes give old entropy errors.NoMemory (stood, (given, (drawn, drew, settles))) next = settled drawn entropy given drew stood settles (inr (refl, refl))
