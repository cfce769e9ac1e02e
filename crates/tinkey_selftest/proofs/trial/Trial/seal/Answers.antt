use Rattle.std.proofs.Common.{◌≡◌, ◌∙◌, sym, ap, Some}
use Rattle.std.specs.Prelude.{◌%◌}
use Rattle.std.specs.Int.{to_le_bytes, w32}
use Rattle.std.specs.List.{repeat}
use Rattle.std.proofs.lemmas.List.Elements.{same_from_all_zip}
use Rattle.tinkey_selftest.proofs.DrawnLemmas.{all_small, plain_small, sealed_done, word_small}
use Rattle.tinkey_selftest.specs.Ready.{trial_of}
use Rattle.tinkey_selftest.specs.Trial.{Seals, counted}
use Rattle.tinkey_selftest.proofs.trial.Trial.seal.Goals as goal

pub returns-clause-done : goal.returns-clause-done
returns-clause-done g c =
    let old = c.args.self.now in
    let reply = c.in_ok-reply.reply in
    let plain : c.own.result ≡ repeat (c.args.words.b % 64) (to_le_bytes w32 c.args.words.c)
    = c.own.ensures ∙ same_from_all_zip _ _ _ c.in_ok-plain.ensures.items (λ x y r. r) ∙ ap (repeat (c.args.words.b % 64)) c.to_le_bytes.ensures in
    let own : c.in_ok-ad.ad ≡ to_le_bytes w32 c.args.words.d = c.in_ok-ad.ensures ∙ c.to_le_bytes-2.ensures in
    sealed_done _ (trial_of old.session.keyset old.sealings.items old.entropy.left old.counts) c.args.words c.own.result c.in_ok-copy.field-0 c.in_ok-ad.ad c.in_ok-sealer.sealer reply _ _ _ _ _
    (c.primary_record.ensures.primary ∙ ap Some (sym c.in_ok-sealer.ensures)) plain (c.in_ok-copy.ensures ∙ c.as_slice.ensures ∙ own) own
    c.in_ok-reply.ensures.served (ap (λ v. v.items) c.in_ok-reply.ensures.sealings) c.in_ok-keep.ensures
    (c.with_seal-self.ensures old.session.keyset c.own.result c.in_ok-copy.field-0 ∙ ap (counted old.session.keyset (Seals c.own.result c.in_ok-copy.field-0) reply) c.in_ok-reply.ensures.counts)

pub returns-clause-ready : goal.returns-clause-ready
returns-clause-ready g c =
    let old = c.args.self.now in
    let ready = c.in_ok-reply.ensures.ready in
    let plain : c.own.result ≡ repeat (c.args.words.b % 64) (to_le_bytes w32 c.args.words.c)
    = c.own.ensures ∙ same_from_all_zip _ _ _ c.in_ok-plain.ensures.items (λ x y r. r) ∙ ap (repeat (c.args.words.b % 64)) c.to_le_bytes.ensures in
    let own : c.in_ok-ad.ad ≡ to_le_bytes w32 c.args.words.d = c.in_ok-ad.ensures ∙ c.to_le_bytes-2.ensures in
    record {
      keyset = ready.keyset;
      steady = ready.steady;
      small = all_small _ old.session.keyset _ c.own.result c.in_ok-copy.field-0 c.in_ok-ad.ad old.entropy.left _ c.in_ok-sealer.sealer c.in_ok-reply.reply _ _
          c.requires.ready.keyset.faultless c.requires.enough (plain_small c.own.result c.args.words.b c.args.words.c plain) (word_small c.in_ok-ad.ad c.args.words.d own)
          c.in_ok-reply.ensures.served ready.small c.in_ok-keep.ensures;
    }
