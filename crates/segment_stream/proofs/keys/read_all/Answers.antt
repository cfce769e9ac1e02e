use Rattle.std.proofs.Common.{◌≡◌, ◌+◌, ◌++◌, refl, sym, ap, subst, arith, false}
use Rattle.std.specs.Prelude.{◌==◌, List}
use Rattle.std.specs.List.{AllByRecursion}
use Rattle.segment_stream.specs.Segments.{IsSound}
use Rattle.segment_stream.specs.StreamKeys.{IsUnfit, stream_keys, stream_unfit}
use Rattle.segment_stream.specs.declared.keys.StreamKeysFault.{StreamKeysFault}
use Rattle.segment_stream.specs.declared.key.StreamKey.{StreamKey}
use Rattle.segment_stream.proofs.KeysLemmas.{all_fit, all_push, fit_is, fit_more, key_is, key_off, keys_all, keys_from, keys_more, keys_skip, other_status, refused_at, unfit_off}
use Rattle.segment_stream.proofs.keys.read_all.Goals as goal
use Rattle.segment_stream.proofs.keys.read_all.Goals.{then-record-eq-ENABLED+in-Ok+in_ok-add-in-Ok, else-record-eq-ENABLED}

pub loop-i-init : goal.loop-i-init
unfolding stream_keys stream_unfit
loop-i-init c = record {
  keys = ap (λ l. l ++ keys_from c.args.keyset.now 0) c.new-keys.ensures.items;
  sound = subst (λ (l : List StreamKey). AllByRecursion IsSound l) (sym c.new-keys.ensures.items) tt;
  fit = refl;
}

pub returns-in-Err-clause-fault : goal.returns-in-Err-clause-fault
returns-in-Err-clause-fault c =
    subst (λ (f : StreamKeysFault). IsUnfit f (stream_unfit c.args.keyset.now)) (sym c.at_place.ensures)
    (refused_at c.args.keyset.now c.loop-i.i c.record_at-record.result.now c.in-Err.fault
    c.loop-i.invariant.fit c.record_at-record.ensures.record_there
    (omega (arith, c.if-record-eq-ENABLED.true)) c.in-Err.ensures.key)

pub loop-i-preserved : goal.loop-i-preserved
loop-i-preserved c =
    let keyset = c.args.keyset.now in
    let i = c.loop-i.i in
    let r = c.record_at-record.result.now in
    let there = c.record_at-record.ensures.record_there in
    elim c.if-record-eq-ENABLED.branch [
      | then-record-eq-ENABLED+in-Ok+in_ok-add-in-Ok w ↦
          let key = w.in-Ok.key in
          let enabled : r.status ≡ 1 = omega (arith, w.if-record-eq-ENABLED.true) in
          let read = w.in-Ok.ensures.key in
          let more = w.in_ok-add-in-Ok.ensures in
          let same : w.add.new.keys.items ≡ c.if-record-eq-ENABLED.keys.items = sym (ap (λ v. v.items) w.keys-is) in
          record {
            keys = subst (λ (l : List StreamKey). l ++ keys_from keyset (i + 1) ≡ stream_keys keyset)
                same
                (subst (λ (l : List StreamKey). l ++ keys_from keyset (i + 1) ≡ stream_keys keyset) (sym more)
                (keys_more keyset i r key c.loop-i.keys.items _ there (key_is r key enabled read) c.loop-i.invariant.keys));
            sound = subst (λ (l : List StreamKey). AllByRecursion IsSound l) same
                (subst (λ (l : List StreamKey). AllByRecursion IsSound l) (sym more)
                (all_push IsSound c.loop-i.keys.items key c.loop-i.invariant.sound w.in-Ok.ensures.sound));
            fit = fit_more keyset i r c.loop-i.invariant.fit there (fit_is r key enabled read);
          }
      | else-record-eq-ENABLED w ↦
          let off : (r.status == 1) ≡ false = other_status r.status w.if-record-eq-ENABLED.false in
          let same : c.loop-i.keys.items ≡ c.if-record-eq-ENABLED.keys.items = sym (ap (λ v. v.items) w.keys-is) in
          record {
            keys = subst (λ (l : List StreamKey). l ++ keys_from keyset (i + 1) ≡ stream_keys keyset) same
                (keys_skip keyset i r c.loop-i.keys.items _ there (key_off r off) c.loop-i.invariant.keys);
            sound = subst (λ (l : List StreamKey). AllByRecursion IsSound l) same c.loop-i.invariant.sound;
            fit = fit_more keyset i r c.loop-i.invariant.fit there (unfit_off r off);
          }
    ]

pub returns-clause-keys : goal.returns-clause-keys
returns-clause-keys c =
    keys_all c.args.keyset.now c.loop-i.i c.loop-i.keys.items _ (omega arith) c.loop-i.invariant.keys

pub returns-clause-fit : goal.returns-clause-fit
returns-clause-fit c =
    all_fit c.args.keyset.now c.loop-i.i (omega arith) c.loop-i.invariant.fit
