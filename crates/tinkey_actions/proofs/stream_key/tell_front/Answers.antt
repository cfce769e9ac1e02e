use Rattle.std.proofs.Common.{◌≡◌, ◌∙◌, refl, Option, Some, None, Err, List, ℕ, subst}
use Rattle.segment_stream.specs.Choosing.{Chooses}
use Rattle.segment_stream.specs.Segments.{ciphers_of}
use Rattle.tinkey_plans.specs.declared.status.Status.TheVariants as status
use Rattle.tinkey_words.specs.Words.{seen_datum}
use Rattle.tinkey_actions.proofs.StreamKeyLemmas.{IsOpenerOf, chosen_passes, unchosen_ends}
use Rattle.tinkey_actions.proofs.stream_key.tell_front.Goals as goal

pub returns-in-Ok-Some : goal.returns-in-Ok-Some
returns-in-Ok-Some g c = λ w.
    let old = record w { source = g.S.Source.state c.args.source.now } in
    let now = g.S.Source.state c.choose.new.source in
    let o : IsOpenerOf c.args.keyset.now c.args.keys.now (seen_datum c.args.ad) c.in-Ok-new.opener = record {
      of' = c.requires.keys;
      fit = c.requires.fit;
      other = c.as_slice.result.now;
      same = c.as_slice.ensures ∙ c.in-Ok.ensures.bytes;
      is = c.in-Ok-new.ensures;
    } in
    let place : c.in-Ok-Some.field-0 ≡ Some c.in-Ok-Some.place = cc in
    chosen_passes c.args.keyset.now c.args.keys.now (seen_datum c.args.ad) c.in-Ok-new.opener (Some c.in-Ok-Some.place) c.enabled_line.result old now o (rw place at c.in-Ok-Some.ensures.chooses) c.in-Ok-Some.ensures.no_fault
    (c.enabled_line.ensures (record old { source = now }))

pub returns-in-Ok-None : goal.returns-in-Ok-None
returns-in-Ok-None g c = λ w.
    let old = record w { source = g.S.Source.state c.args.source.now } in
    let now = g.S.Source.state c.choose.new.source in
    let o : IsOpenerOf c.args.keyset.now c.args.keys.now (seen_datum c.args.ad) c.in-Ok-new.opener = record {
      of' = c.requires.keys;
      fit = c.requires.fit;
      other = c.as_slice.result.now;
      same = c.as_slice.ensures ∙ c.in-Ok.ensures.bytes;
      is = c.in-Ok-new.ensures;
    } in
    let place : c.in-Ok-None.field-0 ≡ None = cc in
    chosen_passes c.args.keyset.now c.args.keys.now (seen_datum c.args.ad) c.in-Ok-new.opener None (Err status.NoKeyOf) old now o (rw place at c.in-Ok-None.ensures.chooses) c.in-Ok-None.ensures.no_fault
    (λ next. (refl, refl))

pub returns : goal.returns
returns g c = λ w.
    let old = record w { source = g.S.Source.state c.args.source.now } in
    let now = g.S.Source.state c.choose.new.source in
    let o : IsOpenerOf c.args.keyset.now c.args.keys.now (seen_datum c.args.ad) c.in-Ok-new.opener = record {
      of' = c.requires.keys;
      fit = c.requires.fit;
      other = c.as_slice.result.now;
      same = c.as_slice.ensures ∙ c.in-Ok.ensures.bytes;
      is = c.in-Ok-new.ensures;
    } in
    unchosen_ends c.args.keyset.now c.args.keys.now (seen_datum c.args.ad) c.in-Ok-new.opener old now o c.in-Err.ensures.fewer c.in-Err.ensures.failed
