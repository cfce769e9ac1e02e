-- What was resealed opens as what was sealed does.
use Rattle.std.proofs.Common.{arith, ◌≡◌, ◌∙◌, sym, refl, ap, subst, ℕ, ◌≤◌, List, [], ◌∷◌, length, Option, Some, None, IsSome, option_map}
use Rattle.std.proofs.lemmas.Option.{same_Some}
use Rattle.key_msgs.specs.declared.primitive.Primitive.TheVariants.{Aead, Daead}
use Rattle.keyset_model.specs.Keyset.{Keys, primary_of}
use Rattle.keyset_model.specs.Writing.{ReadKeysFit}
use Rattle.keyset_model.specs.declared.record.Record.{Record}
use Rattle.managers.specs.Standard.{standard_table}
use Rattle.seal_wrap.specs.Sealings.{DsealingsFit, SealingsFit}
use Rattle.tinkey_cmds.specs.Draws.{Drawn}
use Rattle.tinkey_session.proofs.Options.{map_some, no_truth}
use Rattle.tinkey_session.specs.Laws.{KeptDopen, KeptOpen}
use Rattle.tinkey_session.specs.Lines.{Dreseal, Reseal}
use Rattle.tinkey_session.specs.Serving.{Served, answered, computed, if_opened, sealed_reply, serve}
use Rattle.tinkey_session.specs.declared.reply.LineRefusal.TheVariants.{OpenFailed}
use Rattle.tinkey_session.specs.declared.reply.Reply.TheVariants.{Gives, Refuses}
use Rattle.wrapped_prims.proofs.OpenedSizes.{opened-short}
use Rattle.wrapped_prims.specs.Answers.{Sealed, dopen_answer, dseal_answer, open_answer, seal_answer}
use Rattle.wrapped_prims.specs.Candidates.{prefix_of}
use Rattle.wrapped_prims.specs.Laws.{HasSameKey, IsKeyset}
use Rattle.tinkey_plans.specs.declared.status.Status.TheVariants as status
use Rattle.tinkey_plans.specs.Laws.{FitKeysetsAnswer}
use Rattle.tinkey_plans.specs.Plan.{Answer, Told, answer, draw_answer, refused, writes}
use Rattle.tinkey_plans.specs.Steps.{input_limit, sealed_limit, with_made}
use Rattle.tinkey_plans.specs.Sealers.{sealer_of}
use Rattle.tinkey_plans.specs.declared.sealer.Unopened.TheVariants as unopened
use Rattle.tinkey_plans.specs.Using.{as_drawn, dseals_plain, made_bytes, seals_plain, with_opened}
use Rattle.tinkey_readable.proofs.AnywhereLemmas.{Maker, dseal_maker, line_maker, maker, read_over, seal_maker}
use Rattle.ready_keysets.specs.Working.{answer as call_answer}
use Rattle.ready_keysets.specs.declared.work.Work.{Work}
use Rattle.tinkey_readable.proofs.CallLemmas.{no_dreseal, no_reseal}
use Rattle.tinkey_readable.proofs.LineRunLemmas.{MakesSeal, dopen_answers, gave, open_answers, same_bytes}
use Rattle.tinkey_readable.proofs.ReachLemmas.{IsDoneAnswer}
use Rattle.tinkey_readable.proofs.RunLemmas.{Started, dsealed_fits, sealed_fits}
use Rattle.tinkey_readable.specs.Anywhere.{IsReadAnywhere, WasMadeBy, by_call, by_line, by_locked, by_locked_line, by_run}
use Rattle.tinkey_readable.specs.Calls.{asked_by, input_of}
use Rattle.tinkey_readable.specs.LineRuns.{asks}
use Rattle.tinkey_readable.specs.Resealing.{AreResealed, IsResealed, ResealedDopens, ResealedOpens, SealedText, made_over}
use Rattle.tinkey_words.specs.Words.{AskedWork, to_dopen, to_dreseal, to_open, to_reseal}

-- ---- the keyset that made something

maker_over : (fit : ReadKeysFit) (work : AskedWork) (input output : List ℕ) (r : Record) (Makes : Keys → Type 0)
    → (of_run : (old : Keys) (told : Told) → IsKeyset old → Started work old told output → told.input ≡ input → Makes old)
    → (of_line : (keys : Keys) (random : List ℕ) (x : Served) → serve standard_table keys (asks work input) random ≡ Some x → x.reply ≡ Gives output → Makes keys)
    → (of_call : (keys : Keys) (call : Work) → asked_by call ≡ work → input_of call ≡ input → call_answer keys call ≡ Some output → Makes keys)
    → (was : WasMadeBy work input output r) → (maker fit work input output r Makes of_run of_line of_call was).old ≡ made_over was
unfolding maker line_maker
maker_over fit work input output r Makes of_run of_line of_call (by_run before old read told was same primary) = refl
maker_over fit work input output r Makes of_run of_line of_call (by_locked master text over old read gives told was same primary) = refl
maker_over fit work input output r Makes of_run of_line of_call (by_line before told t has short line reply primary) = refl
maker_over fit work input output r Makes of_run of_line of_call (by_locked_line master text told t has short line reply primary) = refl
maker_over fit work input output r Makes of_run of_line of_call (by_call was short) = refl

-- ---- what a keyset reseals

record MakesReseal (sealed ad resealed : List ℕ) (keys : Keys) : Type 0 where
  plain : List ℕ
  opens : open_answer keys standard_table sealed ad ≡ Some plain
  makes : MakesSeal plain ad resealed keys

sealed_from : (old : Keys) (ad plain output : List ℕ) (told : Told) → IsDoneAnswer (answer (seals_plain standard_table old plain ad writes) told) → (answer (seals_plain standard_table old plain ad writes) told).output ≡ output → MakesSeal plain ad output old
sealed_from old ad plain output told done gave = by (seal_answer old standard_table plain ad told.random) refl done gave
  where
    a : Option Sealed → Answer
    a o = draw_answer (option_map as_drawn o) (refused told status.EntropyFault) (λ (d : Drawn (List ℕ)). answer (with_made d.answer writes) (record told { random = d.left }))

    by : (o : Option Sealed) → seal_answer old standard_table plain ad told.random ≡ o → IsDoneAnswer (a o) → (a o).output ≡ output → MakesSeal plain ad output old
    by None is done gave = absurd (cc)
    by (Some s) is done gave = record { random = told.random; made = s; is = is; bytes = gave }

resealed_by : (old : Keys) (ad sealed resealed : List ℕ) (told : Told) → Started (to_reseal ad) old told resealed → told.input ≡ sealed → MakesReseal sealed ad resealed old
resealed_by old ad sealed resealed told x same = by (open_answer old standard_table told.input ad) refl x.status' x.gave
  where
    left : Told
    left = record told { input = [] }

    a : Option (List ℕ) → Answer
    a o = answer (with_opened unopened.Text (sealer_of old told.input) o (λ plain. seals_plain standard_table old plain ad writes)) left

    by : (o : Option (List ℕ)) → open_answer old standard_table told.input ad ≡ o → IsDoneAnswer (a o) → (a o).output ≡ resealed → MakesReseal sealed ad resealed old
    by (Some plain) is done gave = record { plain = plain; opens = ap (λ i. open_answer old standard_table i ad) (sym same) ∙ is; makes = sealed_from old ad plain resealed left done gave }
    by None is done gave = absurd (cc)

reseal_line : (keys : Keys) (ad sealed resealed random : List ℕ) (x : Served) → serve standard_table keys (Reseal sealed ad) random ≡ Some x → x.reply ≡ Gives resealed → MakesReseal sealed ad resealed keys
unfolding serve
reseal_line keys ad sealed resealed random x e reply = by (open_answer keys standard_table sealed ad) refl (gave Aead keys random (if_opened keys random (open_answer keys standard_table sealed ad) seals) x resealed e reply).1
  where
    seals : List ℕ → Option Served
    seals plain = option_map (sealed_reply keys) (seal_answer keys standard_table plain ad random)

    by : (o : Option (List ℕ)) → open_answer keys standard_table sealed ad ≡ o → if_opened keys random o seals ≡ Some x → MakesReseal sealed ad resealed keys
    by (Some plain) is k =
        let there = map_some (sealed_reply keys) (seal_answer keys standard_table plain ad random) x k in
        record { plain = plain; opens = is; makes = record { random = random; made = there.0; is = there.1; bytes = same_bytes _ _ (ap (λ y. y.reply) there.2 ∙ reply) } }
    by None is k = let e : Refuses OpenFailed ≡ Gives resealed = ap (λ y. y.reply) (same_Some _ _ k) ∙ reply in absurd (cc)

reseal_maker : ReadKeysFit → (ad : List ℕ) (old new : SealedText) → IsResealed (to_reseal ad) old new → (m : Maker old.bytes sealed_limit (MakesReseal old.bytes ad new.bytes) new.under') × HasSameKey old.under' m.old
reseal_maker fit ad old new is = (
  maker fit (to_reseal ad) old.bytes new.bytes new.under' (MakesReseal old.bytes ad new.bytes) (λ keys told k b same. resealed_by keys ad old.bytes new.bytes told b same) (λ keys random x e reply. reseal_line keys ad old.bytes new.bytes random x e reply) (λ keys call how takes is. no_reseal ad call how) is.made,
  subst (HasSameKey old.under') (sym (maker_over fit (to_reseal ad) old.bytes new.bytes new.under' (MakesReseal old.bytes ad new.bytes) (λ keys told k b same. resealed_by keys ad old.bytes new.bytes told b same) (λ keys random x e reply. reseal_line keys ad old.bytes new.bytes random x e reply) (λ keys call how takes is. no_reseal ad call how) is.made)) is.there,
)

-- ---- one text, and all of them

-- a keyset of which this record is the primary one sealed this plaintext so
abbrev HasSealed : (ad plain : List ℕ) → SealedText → Type 0
HasSealed ad plain text = Maker plain input_limit (MakesSeal plain ad text.bytes) text.under'

reseal_next : ReadKeysFit → KeptOpen → (ad plain : List ℕ) (old new : SealedText) → HasSealed ad plain old → IsResealed (to_reseal ad) old new → HasSealed ad plain new
reseal_next fit kept ad plain old new o is =
    let r = reseal_maker fit ad old new is in
    let p = r.0 in
    let m = o.makes in
    let opened : open_answer p.old standard_table old.bytes ad ≡ Some plain = ap (λ c. open_answer p.old standard_table c ad) (sym m.bytes) ∙ kept o.old p.old old.under' is.prefix plain ad m.random m.made r.1 o.primary is.has m.is in
    let same : p.makes.plain ≡ plain = same_Some _ _ (sym p.makes.opens ∙ opened) in
    record { old = p.old; primary = p.primary; short = o.short; makes = subst (λ t. MakesSeal t ad new.bytes p.old) same p.makes.makes }

reseal_all : ReadKeysFit → KeptOpen → (ad plain : List ℕ) (between : List SealedText) (first last : SealedText) → HasSealed ad plain first → AreResealed (to_reseal ad) first between last → HasSealed ad plain last
unfolding AreResealed
reseal_all fit kept ad plain [] first last o are = subst (HasSealed ad plain) are o
reseal_all fit kept ad plain (next ∷ later) first last o are = reseal_all fit kept ad plain later next last (reseal_next fit kept ad plain first next o are.0) are.1

pub resealed_opens : SealingsFit → ReadKeysFit → KeptOpen → ResealedOpens
resealed_opens sizes fit kept ad plain prefix first last between was are is =
    let o = reseal_all fit kept ad plain between first last (seal_maker fit ad plain first.bytes first.under' was) are in
    let m = o.makes in
    read_over (to_open ad) last.bytes plain last.under' (sealed_fits sizes o.old plain ad m.random m.made last.bytes m.is m.bytes o.short) (λ keys same.
    open_answers (λ other. other ≡ plain) keys last.bytes ad plain refl (ap (λ c. open_answer keys standard_table c ad) (sym m.bytes) ∙ kept o.old keys last.under' prefix plain ad m.random m.made same o.primary is m.is))

-- ---- the same without an IV

record MakesDreseal (sealed ad resealed : List ℕ) (keys : Keys) : Type 0 where
  plain : List ℕ
  opens : dopen_answer keys standard_table sealed ad ≡ Some plain
  makes : dseal_answer keys standard_table plain ad ≡ Some resealed

there_is : (o : Option (List ℕ)) → IsSome o → (bytes : List ℕ) × (o ≡ Some bytes)
there_is (Some bytes) some = (bytes, refl)
there_is None some = no_truth some

dresealed_by : FitKeysetsAnswer → (old : Keys) (ad sealed resealed : List ℕ) (told : Told) → IsKeyset old → Started (to_dreseal ad) old told resealed → told.input ≡ sealed → MakesDreseal sealed ad resealed old
dresealed_by fits old ad sealed resealed told keyset x same = by (dopen_answer old standard_table told.input ad) refl x.status' x.gave
  where
    left : Told
    left = record told { input = [] }

    a : Option (List ℕ) → Answer
    a o = answer (with_opened unopened.Text (sealer_of old told.input) o (λ plain. dseals_plain standard_table old plain ad writes)) left

    by : (o : Option (List ℕ)) → dopen_answer old standard_table told.input ad ≡ o → IsDoneAnswer (a o) → (a o).output ≡ resealed → MakesDreseal sealed ad resealed old
    by (Some plain) is done gave =
        let m = there_is (dseal_answer old standard_table plain ad) (fits.dseal standard_table old plain ad (record { faultless = keyset.faultless; fit = x.fit })) in
        record { plain = plain; opens = ap (λ i. dopen_answer old standard_table i ad) (sym same) ∙ is; makes = m.1 ∙ ap Some (sym (ap made_bytes m.1) ∙ gave) }
    by None is done gave = absurd (cc)

dreseal_line : (keys : Keys) (ad sealed resealed random : List ℕ) (x : Served) → serve standard_table keys (Dreseal sealed ad) random ≡ Some x → x.reply ≡ Gives resealed → MakesDreseal sealed ad resealed keys
unfolding serve
dreseal_line keys ad sealed resealed random x e reply = by (dopen_answer keys standard_table sealed ad) refl (gave Daead keys random (if_opened keys random (dopen_answer keys standard_table sealed ad) seals) x resealed e reply).1
  where
    seals : List ℕ → Option Served
    seals plain = computed keys random Gives (dseal_answer keys standard_table plain ad)

    by : (o : Option (List ℕ)) → dopen_answer keys standard_table sealed ad ≡ o → if_opened keys random o seals ≡ Some x → MakesDreseal sealed ad resealed keys
    by (Some plain) is k =
        let there = map_some (λ (value : List ℕ). answered keys random (Gives value)) (dseal_answer keys standard_table plain ad) x k in
        record { plain = plain; opens = is; makes = there.1 ∙ ap Some (same_bytes _ _ (ap (λ y. y.reply) there.2 ∙ reply)) }
    by None is k = let e : Refuses OpenFailed ≡ Gives resealed = ap (λ y. y.reply) (same_Some _ _ k) ∙ reply in absurd (cc)

abbrev HasDsealed : (ad plain : List ℕ) → SealedText → Type 0
HasDsealed ad plain text = Maker plain input_limit (λ keys. dseal_answer keys standard_table plain ad ≡ Some text.bytes) text.under'

dreseal_next : FitKeysetsAnswer → ReadKeysFit → KeptDopen → (ad plain : List ℕ) (old new : SealedText) → HasDsealed ad plain old → IsResealed (to_dreseal ad) old new → HasDsealed ad plain new
dreseal_next fits fit kept ad plain old new o is =
    let p = maker fit (to_dreseal ad) old.bytes new.bytes new.under' (MakesDreseal old.bytes ad new.bytes) (λ keys told k b same. dresealed_by fits keys ad old.bytes new.bytes told k b same) (λ keys random x e reply. dreseal_line keys ad old.bytes new.bytes random x e reply) (λ keys call how takes is. no_dreseal ad call how) is.made in
    let has = subst (HasSameKey old.under') (sym (maker_over fit (to_dreseal ad) old.bytes new.bytes new.under' (MakesDreseal old.bytes ad new.bytes) (λ keys told k b same. dresealed_by fits keys ad old.bytes new.bytes told k b same) (λ keys random x e reply. dreseal_line keys ad old.bytes new.bytes random x e reply) (λ keys call how takes is. no_dreseal ad call how) is.made)) is.there in
    let opened = kept o.old p.old old.under' is.prefix plain ad old.bytes has o.primary is.has o.makes in
    let same : p.makes.plain ≡ plain = same_Some _ _ (sym p.makes.opens ∙ opened) in
    record { old = p.old; primary = p.primary; short = o.short; makes = subst (λ t. dseal_answer p.old standard_table t ad ≡ Some new.bytes) same p.makes.makes }

dreseal_all : FitKeysetsAnswer → ReadKeysFit → KeptDopen → (ad plain : List ℕ) (between : List SealedText) (first last : SealedText) → HasDsealed ad plain first → AreResealed (to_dreseal ad) first between last → HasDsealed ad plain last
unfolding AreResealed
dreseal_all fits fit kept ad plain [] first last o are = subst (HasDsealed ad plain) are o
dreseal_all fits fit kept ad plain (next ∷ later) first last o are = dreseal_all fits fit kept ad plain later next last (dreseal_next fits fit kept ad plain first next o are.0) are.1

pub resealed_dopens : DsealingsFit → FitKeysetsAnswer → ReadKeysFit → KeptDopen → ResealedDopens
resealed_dopens sizes fits fit kept ad plain prefix first last between was are is =
    let o = dreseal_all fits fit kept ad plain between first last (dseal_maker fits fit ad plain first.bytes first.under' was) are in
    read_over (to_dopen ad) last.bytes plain last.under' (dsealed_fits sizes o.old plain ad last.bytes o.makes o.short) (λ keys same.
    dopen_answers (λ other. other ≡ plain) keys last.bytes ad plain refl (kept o.old keys last.under' prefix plain ad last.bytes same o.primary is o.makes))

-- ---- where a line resealed it

-- it opens to what the old text opened to, over each keyset that has the key
pub resealed_reads : SealingsFit → KeptOpen → (ad old new prefix : List ℕ) (r : Record) (keys : Keys) (random : List ℕ) (x : Served) → serve standard_table keys (Reseal old ad) random ≡ Some x → x.reply ≡ Gives new
    → primary_of keys ≡ Some r → prefix_of r ≡ Some prefix → length old ≤ input_limit
    → (plain : List ℕ) × (open_answer keys standard_table old ad ≡ Some plain) × IsReadAnywhere HasSameKey (to_open ad) new plain r
resealed_reads sizes kept ad old new prefix r keys random x e reply primary is short =
    let w = reseal_line keys ad old new random x e reply in
    let m = w.makes in
    let fits : length w.plain ≤ input_limit = (let less = opened-short Aead standard_table keys old ad w.plain w.opens in omega (arith, less, short)) in (
      w.plain,
      w.opens,
      read_over (to_open ad) new w.plain r (sealed_fits sizes keys w.plain ad m.random m.made new m.is m.bytes fits) (λ later same.
          open_answers (λ other. other ≡ w.plain) later new ad w.plain refl (ap (λ c. open_answer later standard_table c ad) (sym m.bytes) ∙ kept keys later r prefix w.plain ad m.random m.made same primary is m.is)),
    )

pub dresealed_reads : DsealingsFit → KeptDopen → (ad old new prefix : List ℕ) (r : Record) (keys : Keys) (random : List ℕ) (x : Served) → serve standard_table keys (Dreseal old ad) random ≡ Some x → x.reply ≡ Gives new
    → primary_of keys ≡ Some r → prefix_of r ≡ Some prefix → length old ≤ input_limit
    → (plain : List ℕ) × (dopen_answer keys standard_table old ad ≡ Some plain) × IsReadAnywhere HasSameKey (to_dopen ad) new plain r
dresealed_reads sizes kept ad old new prefix r keys random x e reply primary is short =
    let w = dreseal_line keys ad old new random x e reply in
    let fits : length w.plain ≤ input_limit = (let less = opened-short Daead standard_table keys old ad w.plain w.opens in omega (arith, less, short)) in (
      w.plain,
      w.opens,
      read_over (to_dopen ad) new w.plain r (dsealed_fits sizes keys w.plain ad new w.makes fits) (λ later same.
          dopen_answers (λ other. other ≡ w.plain) later new ad w.plain refl (kept keys later r prefix w.plain ad new same primary is w.makes)),
    )
