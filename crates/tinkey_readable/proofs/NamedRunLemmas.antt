-- What key-of tells of bytes that a run or a line of a session made under a key.
use Rattle.std.proofs.Common.{◌≡◌, ◌∙◌, ap, refl, sym, Bool, true, false, cond, ℕ, List, [], Option, Some, None}
use Rattle.std.specs.Prelude.{drop}
use Rattle.std.specs.List.{list_any}
use Rattle.key_msgs.specs.declared.primitive.Primitive.TheVariants.{Daead, Mac}
use Rattle.keyset_model.specs.Keyset.{Keys}
use Rattle.keyset_model.specs.Writing.{ReadKeysFit}
use Rattle.keyset_model.specs.declared.record.Record.{Record}
use Rattle.managers.specs.Standard.{standard_table}
use Rattle.managers.specs.Uses.{dseal_of, tag_of, tagged}
use Rattle.tinkey_plans.proofs.NamingLemmas.{Behind, alike, enclosed, envelope_front, five_bytes, key_of_tells, made_behind, names, sealed_behind, text_front}
use Rattle.tinkey_plans.specs.KeyOf.{front_of, front_size, key_of_answer, key_of_lines, tells_keys, tells_prefix, with_lines}
use Rattle.tinkey_plans.specs.Laws.{FitKeysetsAnswer}
use Rattle.tinkey_plans.specs.Naming.{IsPrimaryPrefix}
use Rattle.tinkey_plans.specs.Plan.{Answer, Plan, Told, answer, writes}
use Rattle.tinkey_plans.specs.Sealers.{may_have_made, named, raw_count}
use Rattle.tinkey_plans.specs.declared.status.Status.{Status}
use Rattle.tinkey_plans.specs.declared.status.Status.TheVariants as status
use Rattle.tinkey_readable.proofs.AnywhereLemmas.{dseal_maker, seal_maker, tag_maker, was_used}
use Rattle.tinkey_readable.proofs.EnvelopeRunLemmas.{sealed_by}
use Rattle.tinkey_readable.proofs.LyingLemmas.{loads_reached, taken_behind}
use Rattle.tinkey_readable.specs.Anywhere.{IsTaken}
use Rattle.tinkey_readable.specs.Lying.{Lying, lock_in}
use Rattle.tinkey_readable.specs.NamedRuns.{EndsSo, KeysAreNamed, NamesRecords}
use Rattle.tinkey_words.specs.declared.words.rows.SealedForm.{SealedForm}
use Rattle.tinkey_words.specs.declared.words.rows.SealedForm.TheVariants as forms
use Rattle.tinkey_words.specs.Words.{to_eseal}
use Rattle.wrapped_prims.specs.Candidates.{is_legacy, prefix_of}

-- of this form the prefix in front tells
abbrev ByPrefix : SealedForm → Type 0
ByPrefix kind = (ad : List ℕ) (keys : Keys) → tells_keys kind ad keys writes ≡ tells_prefix kind keys writes

-- what is told of the bytes is put out
ends_so : (kind : SealedForm) (lying : Lying) (keys : Keys) (output prefix lines : List ℕ) (ended : Status) (found : Option (List ℕ)) → ByPrefix kind → IsTaken lying keys → front_of kind output ≡ prefix → key_of_answer keys prefix ≡ found
    → ((told : Told) → ((answer (with_lines found writes) told).status ≡ ended) × ((answer (with_lines found writes) told).output ≡ lines)) → EndsSo kind lying output ended lines
ends_so kind lying keys output prefix lines ended found by taken front is ends told lock name ad there same =
    let told' = record told { input = drop (front_size kind) told.input } in
    let e = loads_reached standard_table (lock_in lying.master lock) name lying.text.form keys (λ k. tells_keys kind ad k writes) told (taken_behind lying keys told lock name taken there)
    ∙ ap (λ (p : Plan). answer p told) (by ad keys)
    ∙ ap (λ (i : List ℕ). answer (with_lines (key_of_answer keys (front_of kind i)) writes) told') same
    ∙ ap (λ (f : List ℕ). answer (with_lines (key_of_answer keys f) writes) told') front
    ∙ ap (λ (o : Option (List ℕ)). answer (with_lines o writes) told') is in
    let x = ends told' in
    (ap (λ (a : Answer). a.status) e ∙ x.0, ap (λ (a : Answer). a.output) e ∙ x.1)

-- of bytes with the prefix of a record
named_so : (kind : SealedForm) (output prefix : List ℕ) (r : Record) (lying : Lying) (keys : Keys) → ByPrefix kind → prefix_of r ≡ Some prefix → front_of kind output ≡ prefix → IsTaken lying keys → NamesRecords kind r prefix output lying keys
named_so kind output prefix r lying keys by has front taken = record {
  names = λ other. names prefix prefix keys other refl;
  alike = λ other ids types. alike other r ids types ∙ has;
  told = λ some. ends_so kind lying keys output prefix (key_of_lines keys prefix) status.Done (Some (key_of_lines keys prefix)) by taken front
      (some_named (list_any (may_have_made prefix) keys.records) refl some) (λ told. (refl, refl));
  untold = λ none raw. ends_so kind lying keys output prefix [] status.NoKeyOf None by taken front ((key_of_tells.untold keys prefix).1 (none, raw)) (λ told. (refl, refl));
}
  where
    some_named : (b : Bool) → list_any (may_have_made prefix) keys.records ≡ b → (named keys prefix ≡ [] → raw_count keys ≡ 0 → ⊥) → key_of_answer keys prefix ≡ Some (key_of_lines keys prefix)
    some_named true is some = ap (λ (b : Bool). cond b (Some (key_of_lines keys prefix)) None) is
    some_named false is some =
        let none = (key_of_tells.untold keys prefix).0 (ap (λ (b : Bool). cond b (Some (key_of_lines keys prefix)) None) is) in
        absurd (some none.0 none.1)

-- of bytes behind its prefix
text_named : (bytes output prefix : List ℕ) (r : Record) (lying : Lying) (keys : Keys) → prefix_of r ≡ Some prefix → Behind prefix bytes → bytes ≡ output → IsTaken lying keys → NamesRecords forms.Text r prefix output lying keys
text_named bytes output prefix r lying keys has behind same taken =
    named_so forms.Text output prefix r lying keys (λ ad keys. refl) has
    (ap (λ (l : List ℕ). front_of forms.Text l) (sym same) ∙ text_front prefix behind.rest bytes (five_bytes r prefix has) behind.is) taken

pub keys_are_named : FitKeysetsAnswer → ReadKeysFit → KeysAreNamed
keys_are_named fits fit = record {
  sealed = λ ad plain sealed prefix r other keys has was taken.
      let o = seal_maker fit ad plain sealed r was in
      let own : IsPrimaryPrefix o.old prefix = record { r = r; primary = o.primary; has = has } in
      text_named o.makes.made.bytes sealed prefix r other keys has (sealed_behind o.old standard_table prefix plain ad o.makes.random o.makes.made own o.makes.is) o.makes.bytes taken;
  dsealed = λ ad plain sealed prefix r other keys has was taken.
      let o = dseal_maker fits fit ad plain sealed r was in
      let own : IsPrimaryPrefix o.old prefix = record { r = r; primary = o.primary; has = has } in
      text_named sealed sealed prefix r other keys has (made_behind o.old standard_table Daead (λ key _. dseal_of key plain ad) prefix sealed own o.makes) refl taken;
  tagged = λ body tag prefix r other keys has was taken.
      let o = tag_maker fits fit tag body r was in
      let own : IsPrimaryPrefix o.old prefix = record { r = r; primary = o.primary; has = has } in
      text_named tag tag prefix r other keys has (made_behind o.old standard_table Mac (λ key r. tag_of key (tagged (is_legacy r) body)) prefix tag own o.makes) refl taken;
  enveloped = λ before other old keys r prefix template ad sealed told lies primary has was taken.
      let u = was_used fit (to_eseal ad) before old template sealed told lies was in
      let s = sealed_by old u.scheme u.row ad told sealed u.done u.gave in
      let own : IsPrimaryPrefix old prefix = record { r = r; primary = primary; has = has } in
      let e = enclosed old standard_table u.scheme u.row prefix told.input ad told.random sealed s.0 own s.1 in
      named_so forms.Envelope sealed prefix r other keys (λ ad keys. refl) has (envelope_front e.size prefix e.rest e.payload sealed (five_bytes r prefix has) e.is) taken;
}
