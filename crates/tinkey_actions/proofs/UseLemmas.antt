-- Work by the keys of a keyset, as steps.
use Rattle.std.proofs.Common.{◌≡◌, ◌∙◌, refl, sym, ap, subst, inl, inr, ℕ, ◌*◌, ◌<◌, Bool, true, false, List, [], ◌++◌, length, length-append, Option, Some, None, Result, Ok, Err, arith}
use Rattle.std.specs.Prelude.{IfSome, nat_lt, take, drop, option_map, if◌then◌else◌}
use Rattle.std.specs.Option.{option_and_then}
use Rattle.std.proofs.lemmas.Bool.Decides.{nat_tests}
use Rattle.std.proofs.lemmas.List.{take_at, drop_at}
use Rattle.hex.specs.Hex.{decode_of, decode_pairs}
use Rattle.hex.specs.declared.error.FromHexError.{FromHexError}
use Rattle.hex.specs.declared.error.FromHexError.TheVariants as hex_errors
use Rattle.hex.proofs.HexLemmas.{decode_pairs-ok}
use Rattle.key_msgs.specs.declared.key.KeyKind.{KeyKind}
use Rattle.key_msgs.specs.declared.primitive.Primitive.{Primitive}
use Rattle.key_msgs.specs.declared.primitive.Primitive.TheVariants.{Aead, Daead}
use Rattle.keyset_model.specs.Keyset.{Keys, primary_of}
use Rattle.keyset_model.specs.declared.record.Record.{Record}
use Rattle.managers.specs.Table.{Table}
use Rattle.managers.specs.Uses.{iv_size, seal_of}
use Rattle.tink_spec.specs.Outside.{EntropyState, Drew, Stood}
use Rattle.wrapped_prims.specs.Answers.{Sealed, dopen_answer, open_answer, primary_key, seal_behind, seal_under, seal_answer}
use Rattle.wrapped_prims.specs.Candidates.{prefix_of, prefix_bytes}
use Rattle.wrapped_prims.specs.Fitness.{key_of_record, unfit}
use Rattle.wrapped_prims.specs.Making.{IsFaultOf, IsOver}
use Rattle.wrapped_prims.specs.declared.handle.HandleError.{HandleError}
use Rattle.wrapped_prims.specs.declared.handle.HandleError.TheVariants as faults
use Rattle.wrapped_prims.specs.declared.held.Held.{Held}
use Rattle.wrapped_prims.specs.Sealing.{IsSealing, IsSealFault}
use Rattle.wrapped_prims.specs.declared.sealing.SealFault.TheVariants as seal_faults
use Rattle.tinkey_plans.specs.declared.status.Status.{Status}
use Rattle.tinkey_plans.specs.declared.status.Status.TheVariants as status
use Rattle.tinkey_plans.specs.Ends.{World, Ends, settled, draw_failed}
use Rattle.tinkey_cmds.specs.Draws.{Draw, Drawn}
use Rattle.tinkey_cmds.specs.declared.command.EditRefusal.{EditRefusal}
use Rattle.tinkey_plans.specs.Plan.{Plan, allocates, draws, sealings}
use Rattle.tinkey_plans.specs.Steps.{reads_input, Passes}
use Rattle.tinkey_words.specs.declared.words.rows.Format.{Format}
use Rattle.tinkey_plans.proofs.StepLemmas.{passes_then, ends_there}
use Rattle.std.specs.Result.{IsErrAnd}
use Rattle.tinkey_plans.specs.Handles.{handles, handle_refusal}
use Rattle.tinkey_plans.specs.Locks.{loads_locked}
use Rattle.tinkey_plans.specs.Sealers.{sealer_of}
use Rattle.tinkey_plans.specs.declared.sealer.Sealer.{Sealer}
use Rattle.tinkey_plans.specs.declared.sealer.Unopened.{Unopened}
use Rattle.tinkey_plans.specs.declared.sealer.Unopened.TheVariants as unopened
use Rattle.tinkey_plans.specs.Using.{as_drawn, dseals_plain, limit_for, seals_plain, with_opened, works, use_output}
use Rattle.tinkey_words.specs.Words.{AskedWork, Lock, to_seal, to_reseal, to_dreseal, primitive_for}
use Rattle.tinkey_plans.specs.UnfitKeys.{unfit_key}
use Rattle.tinkey_plans.specs.declared.origin.Origin.{Origin}
use Rattle.tinkey_plans.specs.declared.origin.Origin.TheVariants as origins

-- a keyset that can't serve, or want of memory
pub unfit_ends : (from : Origin) (table : Table) (primitive : Primitive) (keys : Keys) (fault : HandleError) (w : World) → IsFaultOf (unfit keys primitive table) fault → (next : Unit {0} → Plan) → Ends (handles from table primitive keys next) w (handle_refusal (unfit_key from keys) fault) w
unfit_ends from table primitive keys (faults.NoManager i) w is next = rw is (inl (refl, refl))
unfit_ends from table primitive keys (faults.BadKey i rule) w is next = rw is (inl (refl, refl))
unfit_ends from table primitive keys (faults.NotRaw i) w is next = rw is (inl (refl, refl))
unfit_ends from table primitive keys faults.NoMemory w is next = inr (refl, refl)

-- a step behind which memory isn't wanting
pub behind_memory : {A : Type 0} (step : (A → Plan) → Plan) (old new : World) (r : Result A Status) → Passes step old r new → Passes (λ next. allocates (step next)) old r new
behind_memory step old new (Ok value) passes = λ next s last run. inl (passes next s last run)
behind_memory step old new (Err s) passes = λ next. inl (passes next)

-- the plaintext that was found, or none
pub opened_passes : (what : Unopened) (sealer own : Sealer) (found answer : Option (List ℕ)) (old new : World) (r : Result (List ℕ) Status) → sealer ≡ own → found ≡ answer → Passes (with_opened what sealer found) old r new → Passes (λ next. allocates (with_opened what own answer next)) old r new
opened_passes what sealer own found answer old new r same is passes =
    subst (λ (s : Sealer). Passes (λ next. allocates (with_opened what s answer next)) old r new) same
    (subst (λ (o : Option (List ℕ)). Passes (λ next. allocates (with_opened what sealer o next)) old r new) is (behind_memory (with_opened what sealer found) old new r passes))

-- what opened under a handle is sealed
pub resealed_passes : (table : Table) (keys : Keys) (held : Held) (plain sealed ad : List ℕ) (old new : World) (r : Result (List ℕ) Status) → IsOver table Aead keys held → Some plain ≡ open_answer keys table sealed ad → Passes (seals_plain table keys plain ad) old r new → Passes (works table keys (to_reseal ad) sealed) old r new
resealed_passes table keys held plain sealed ad old new r over is passes =
    subst (λ (o : Option (List ℕ)). Passes (λ next. allocates (with_opened unopened.Text (sealer_of keys sealed) o (λ p. seals_plain table keys p ad next))) old r new) is (behind_memory (seals_plain table keys plain ad) old new r passes)

pub dresealed_passes : (table : Table) (keys : Keys) (held : Held) (plain sealed ad : List ℕ) (old new : World) (r : Result (List ℕ) Status) → IsOver table Daead keys held → Some plain ≡ dopen_answer keys table sealed ad → Passes (dseals_plain table keys plain ad) old r new → Passes (works table keys (to_dreseal ad) sealed) old r new
dresealed_passes table keys held plain sealed ad old new r over is passes =
    subst (λ (o : Option (List ℕ)). Passes (λ next. allocates (with_opened unopened.Text (sealer_of keys sealed) o (λ p. dseals_plain table keys p ad next))) old r new) is (behind_memory (dseals_plain table keys plain ad) old new r passes)

-- Sealing.

pub sealed_passes : (table : Table) (keys : Keys) (plain ad sealed : List ℕ) (old : World) (entropy : EntropyState) → IsSealing keys table plain ad old.entropy entropy sealed → Stood old.entropy.faults entropy.faults → Passes (works table keys (to_seal ad) plain) old (Ok sealed) (record old { entropy = entropy })
sealed_passes table keys plain ad sealed old entropy is stood = λ next s last run.
    inl (settled is.drawn entropy (Ok sealed) is.drew stood (λ more. ap (option_map as_drawn) (is.answer more)) (inl run))

-- what a sealing is under the primary key
pub sealed_with : (r : Record) (key : KeyKind) (table : Table) (keys : Keys) (plain ad random : List ℕ) → primary_of keys ≡ Some r → key_of_record table Aead r ≡ Some key → seal_answer keys table plain ad random ≡ seal_behind (prefix_bytes (prefix_of r)) plain ad random key
sealed_with r key table keys plain ad random primary there = ap (option_and_then (seal_under table plain ad random)) primary ∙ ap (option_and_then (seal_behind (prefix_bytes (prefix_of r)) plain ad random)) there

pub primary_is : (table : Table) (found : Option Record) (key : KeyKind) → option_and_then (key_of_record table Aead) found ≡ Some key → (r : Record) × (found ≡ Some r) × (key_of_record table Aead r ≡ Some key)
primary_is table None key is = absurd (cc)
primary_is table (Some r) key is = (r, refl, is)

-- too few random bytes seal nothing
pub too_few : (b : Bool) (sealed : Sealed) → b ≡ true → (if b then None else Some sealed) ≡ None
too_few true sealed is = refl
too_few false sealed is = absurd (cc)

pub short_random : (key : KeyKind) (table : Table) (keys : Keys) (plain ad random : List ℕ) → primary_key keys table Aead ≡ Some key → length random < iv_size key → seal_answer keys table plain ad random ≡ None
short_random key table keys plain ad random primary short =
    let under = primary_is table (primary_of keys) key primary in
    sealed_with under.0 key table keys plain ad random under.1 under.2 ∙ too_few (nat_lt (length random) (iv_size key)) _ (grind (arith, nat_tests))

-- what is made of a sealing: a text of its bytes
abbrev pub made_so : (List ℕ → List ℕ) → Sealed → Drawn (List ℕ)
made_so text sealed = record { answer = Ok (text sealed.bytes); left = sealed.left }

-- what is drawn so is made of the sealing of this plaintext
abbrev pub IsMadeSo : (List ℕ → List ℕ) → Keys → Table → (plain ad : List ℕ) → Draw (List ℕ) → Type 0
IsMadeSo text keys table plain ad give = (random : List ℕ) → give random ≡ option_map (made_so text) (seal_answer keys table plain ad random)

short_left : (key : KeyKind) (table : Table) (keys : Keys) (plain ad : List ℕ) (text : List ℕ → List ℕ) (give : Draw (List ℕ)) → IsMadeSo text keys table plain ad give → (left : Option (List ℕ)) → primary_key keys table Aead ≡ Some key → IfSome left (λ random. length random < iv_size key)
    → IfSome left (λ random. give random ≡ None)
short_left key table keys plain ad text give made None primary short = tt
short_left key table keys plain ad text give made (Some random) primary short = made random ∙ ap (option_map (made_so text)) (short_random key table keys plain ad random primary short)

-- the entropy failed at the IV
pub draw_failed_there : (table : Table) (keys : Keys) (plain ad : List ℕ) (text : List ℕ → List ℕ) (give : Draw (List ℕ)) → IsMadeSo text keys table plain ad give → (old : World) (entropy : EntropyState) → IsSealFault keys table old.entropy entropy seal_faults.EntropyFault
    → (next : Result (List ℕ) EditRefusal → Plan) → Ends (allocates (draws sealings give next)) old status.EntropyFault (record old { entropy = entropy })
draw_failed_there table keys plain ad text give made old entropy fault next =
    inl (draw_failed refl (record { source = refl; sink = refl; store = refl }) (record {
      rose = fault.entropy.1.rose;
      drawn = [];
      gone = fault.entropy.1.gone;
      undecided = made [] ∙ ap (option_map (made_so text)) (short_random fault.key table keys plain ad [] fault.primary fault.entropy.0);
      short = λ steady. short_left fault.key table keys plain ad text give made old.entropy.left fault.primary (fault.entropy.1.short steady);
    }))

-- an IV that was drawn whole
iv_test : (b : Bool) (sealed : Sealed) → b ≡ false → (if b then None else Some sealed) ≡ Some sealed
iv_test false sealed is = refl
iv_test true sealed is = absurd (cc)

pub whole_iv : (key : KeyKind) (prefix plain ad drawn more : List ℕ) → length drawn ≡ iv_size key → seal_behind prefix plain ad (drawn ++ more) key ≡ Some (record { bytes = prefix ++ seal_of key drawn plain ad; left = more })
whole_iv key prefix plain ad drawn more whole =
    let front : take (iv_size key) (drawn ++ more) ≡ drawn = take_at drawn more (iv_size key) whole in
    let rest : drop (iv_size key) (drawn ++ more) ≡ more = drop_at drawn more (iv_size key) whole in
    iv_test (nat_lt (length (drawn ++ more)) (iv_size key)) _ (grind (arith, nat_tests, length-append drawn more))
    ∙ ap (λ (iv : List ℕ). Some (record { bytes = prefix ++ seal_of key iv plain ad; left = drop (iv_size key) (drawn ++ more) })) front
    ∙ ap (λ (left : List ℕ). Some (record { bytes = prefix ++ seal_of key drawn plain ad; left = left })) rest

nothing_drawn : (left before : Option (List ℕ)) → before ≡ option_map (λ rest. [] ++ rest) left → before ≡ left
nothing_drawn None before is = is
nothing_drawn (Some rest) before is = is

-- an entropy that gave nothing and didn't fail is as it was
pub same_entropy : (old new : EntropyState) → Drew old new [] → Stood old.faults new.faults → old ≡ new
same_entropy old new drew stood =
    let left = nothing_drawn new.left old.left drew.left in
    let faults = sym stood in
    let steady = sym drew.steady in
    rw (← left, ← faults, ← steady) refl

-- memory was wanting, before the IV was drawn or behind it
pub starved_sealing : (table : Table) (keys : Keys) (plain ad : List ℕ) (text : List ℕ → List ℕ) (give : Draw (List ℕ)) → IsMadeSo text keys table plain ad give → (old : World) (entropy : EntropyState) → IsSealFault keys table old.entropy entropy seal_faults.NoMemory
    → (next : Result (List ℕ) EditRefusal → Plan) → Ends (allocates (draws sealings give (λ made. allocates (next made)))) old status.NoMemory (record old { entropy = entropy })
starved_sealing table keys plain ad text give made old entropy fault next = elim fault.entropy.1 [
  | inl none ↦ inr (refl, ap (λ (e : EntropyState). record old { entropy = e }) (same_entropy old.entropy entropy none fault.entropy.0))
  | inr iv ↦ inl (settled iv.drawn entropy (Ok (text (prefix_bytes (prefix_of under.0) ++ seal_of fault.key iv.drawn plain ad))) iv.drew fault.entropy.0 (settles iv.drawn iv.whole) (inr (refl, refl)))
]
  where
    under : (r : Record) × (primary_of keys ≡ Some r) × (key_of_record table Aead r ≡ Some fault.key)
    under = primary_is table (primary_of keys) fault.key fault.primary

    settles : (drawn : List ℕ) → length drawn ≡ iv_size fault.key → (more : List ℕ) → give (drawn ++ more) ≡ Some (record { answer = Ok (text (prefix_bytes (prefix_of under.0) ++ seal_of fault.key drawn plain ad)); left = more })
    settles drawn whole more =
        made (drawn ++ more)
        ∙ ap (option_map (made_so text)) (sealed_with under.0 fault.key table keys plain ad (drawn ++ more) under.1 under.2 ∙ whole_iv fault.key (prefix_bytes (prefix_of under.0)) plain ad drawn more whole)

-- The steps of work, one behind another.

-- the plan from the handle on, and from the keyset on: its records can serve, and then the rest
abbrev pub Rest : Type 0 → Type 0
Rest B = Keys → (B → Plan) → Plan

abbrev checks : {B : Type 0} → Table → Primitive → Rest B → Rest B
checks table primitive rest keys next = handles origins.Keyset table primitive keys (λ fit. rest keys next)

abbrev pub serves : {B : Type 0} → Table → Primitive → Lock → (name : List ℕ) → Format → Rest B → (B → Plan) → Plan
serves table primitive lock name form rest next = loads_locked table lock name form (λ keys. checks table primitive rest keys next)

-- no keyset was loaded
pub no_keyset : {B : Type 0} (table : Table) (p : Primitive) (lock : Lock) (name : List ℕ) (form : Format) (rest : Rest B) (old new : World) (r : Result B Status) (s : Status) → IsErrAnd r (λ e. e ≡ s) → Passes {A = Keys} (loads_locked table lock name form) old (Err s) new → Passes (serves table p lock name form rest) old r new
no_keyset table p lock name form rest old new r s is one = ends_there (loads_locked table lock name form) (checks table p rest) old new r s is one

-- its records can't serve
pub no_handle : {B : Type 0} (table : Table) (p : Primitive) (lock : Lock) (name : List ℕ) (form : Format) (rest : Rest B) (old mid : World) (keys : Keys) (primitive : Primitive) (r : Result B Status) (s : Status) → IsErrAnd r (λ e. e ≡ s) → primitive ≡ p → Passes (loads_locked table lock name form) old (Ok keys) mid
    → ((next : Unit {0} → Plan) → Ends (handles origins.Keyset table primitive keys next) mid s mid) → Passes (serves table p lock name form rest) old r mid
no_handle table p lock name form rest old mid keys primitive r s is same one two =
    passes_then (loads_locked table lock name form) (checks table p rest) old mid mid keys r one
    (ends_there (handles origins.Keyset table p keys) (λ fit. rest keys) mid mid r s is (λ next. subst (λ (p : Primitive). Ends (handles origins.Keyset table p keys next) mid s mid) same (two next)))

-- the records can serve, and the rest ended so
pub with_handle : {B : Type 0} (table : Table) (p : Primitive) (lock : Lock) (name : List ℕ) (form : Format) (rest : Rest B) (old mid new : World) (keys : Keys) (primitive : Primitive) (r : Result B Status) → primitive ≡ p → Passes (loads_locked table lock name form) old (Ok keys) mid → Passes (handles origins.Keyset table primitive keys) mid (Ok tt) mid
    → Passes (rest keys) mid r new → Passes (serves table p lock name form rest) old r new
with_handle table p lock name form rest old mid new keys primitive r same one two three =
    passes_then (loads_locked table lock name form) (checks table p rest) old mid new keys r one
    (passes_then (handles origins.Keyset table p keys) (λ fit. rest keys) mid mid new tt r (subst (λ (p : Primitive). Passes (handles origins.Keyset table p keys) mid (Ok tt) mid) same two) three)

-- the plan of work from the input on
abbrev pub reads : Table → AskedWork → Rest (List ℕ)
reads table work keys next = reads_input (limit_for work) (λ input. works table keys work input next)

pub use_no_keyset : (table : Table) (lock : Lock) (name : List ℕ) (form : Format) (work : AskedWork) (old new : World) (r : Result (List ℕ) Status) (s : Status) → IsErrAnd r (λ e. e ≡ s) → Passes {A = Keys} (loads_locked table lock name form) old (Err s) new → Passes (use_output table lock name form work) old r new
use_no_keyset table lock name form work old new r s is one = no_keyset table (primitive_for work) lock name form (reads table work) old new r s is one

pub use_no_handle : (table : Table) (lock : Lock) (name : List ℕ) (form : Format) (work : AskedWork) (old mid : World) (keys : Keys) (primitive : Primitive) (r : Result (List ℕ) Status) (s : Status) → IsErrAnd r (λ e. e ≡ s) → primitive ≡ primitive_for work → Passes (loads_locked table lock name form) old (Ok keys) mid
    → ((next : Unit {0} → Plan) → Ends (handles origins.Keyset table primitive keys next) mid s mid) → Passes (use_output table lock name form work) old r mid
use_no_handle table lock name form work old mid keys primitive r s is same one two = no_handle table (primitive_for work) lock name form (reads table work) old mid keys primitive r s is same one two

pub use_with_handle : (table : Table) (lock : Lock) (name : List ℕ) (form : Format) (work : AskedWork) (old mid new : World) (keys : Keys) (primitive : Primitive) (r : Result (List ℕ) Status) → primitive ≡ primitive_for work → Passes (loads_locked table lock name form) old (Ok keys) mid → Passes (handles origins.Keyset table primitive keys) mid (Ok tt) mid
    → Passes (reads table work keys) mid r new → Passes (use_output table lock name form work) old r new
use_with_handle table lock name form work old mid new keys primitive r same one two three = with_handle table (primitive_for work) lock name form (reads table work) old mid new keys primitive r same one two three

-- the input wasn't read
no_input : (table : Table) (work : AskedWork) (old new : World) (keys : Keys) (r : Result (List ℕ) Status) (s : Status) → IsErrAnd r (λ e. e ≡ s) → Passes {A = List ℕ} (reads_input (limit_for work)) old (Err s) new → Passes (reads table work keys) old r new
no_input table work old new keys r s is one = ends_there (reads_input (limit_for work)) (works table keys work) old new r s is one

pub use_no_input : (table : Table) (lock : Lock) (name : List ℕ) (form : Format) (work : AskedWork) (old mid new : World) (keys : Keys) (primitive : Primitive) (r : Result (List ℕ) Status) (s : Status) → primitive ≡ primitive_for work → Passes (loads_locked table lock name form) old (Ok keys) mid → Passes (handles origins.Keyset table primitive keys) mid (Ok tt) mid
    → IsErrAnd r (λ e. e ≡ s) → Passes {A = List ℕ} (reads_input (limit_for work)) mid (Err s) new → Passes (use_output table lock name form work) old r new
use_no_input table lock name form work old mid new keys primitive r s same one two is three = use_with_handle table lock name form work old mid new keys primitive r same one two (no_input table work mid new keys r s is three)

-- it was, and the work ended so
pub with_input : (table other : Table) (work : AskedWork) (old mid new : World) (keys : Keys) (input : List ℕ) (r : Result (List ℕ) Status) → other ≡ table → Passes (reads_input (limit_for work)) old (Ok input) mid → Passes (works other keys work input) mid r new → Passes (reads table work keys) old r new
with_input table other work old mid new keys input r same one two =
    passes_then (reads_input (limit_for work)) (works table keys work) old mid new input r one (subst (λ (t : Table). Passes (works t keys work input) mid r new) same two)

-- Data in hexadecimal.

even_test : (b : Bool) (digits bytes : List ℕ) (error : FromHexError) → (if b then Err error else decode_pairs 0 digits) ≡ Ok bytes → decode_pairs 0 digits ≡ Ok bytes
even_test true digits bytes error is = let clash : Err error ≡ Ok bytes = is in absurd (cc)
even_test false digits bytes error is = is

-- a datum has half as many bytes as digits
pub decoded_length : (digits bytes : List ℕ) → decode_of digits ≡ Ok bytes → length digits ≡ 2 * length bytes
decoded_length digits bytes is = (decode_pairs-ok 0 digits bytes (even_test _ digits bytes hex_errors.OddLength is)).1
