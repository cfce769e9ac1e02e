use Rattle.std.proofs.Common.{ap, sym, ◌∙◌}
use Rattle.segment_stream.specs.Streams.{StreamState}
use Rattle.segment_stream.proofs.SegmentLemmas.{gcm-seals, ctr_hmac-seals}
use Rattle.segment_stream.proofs.segments.Stream.seal.Goals as goal
use Rattle.segment_stream.proofs.segments.Stream.seal.Goals.{in-Gcm, in-CtrHmac}

pub returns-clause-sealed : goal.returns-clause-sealed
returns-clause-sealed c =
    let keys = ap (λ (s : StreamState). s.keys) (sym c.self.view_is) in
    let nonce = c.nonce-nonce.ensures ∙ ap (λ (s : StreamState). Rattle.segment_stream.specs.Segments.nonce s.prefix c.args.number c.args.last) c.self.view_is in
    elim c.match-self.branch [
      | in-Gcm w ↦
          let h = w.seal_in_place.ensures in
          rw (w.segment-is, w.tag-is)
          (gcm-seals c.args.self.now.keys w.in-Gcm.gcm c.args.self.now.prefix c.args.segment.now
          w.seal_in_place.new.body w.copy_from_slice.new.self c.args.number c.args.last
          c.nonce-nonce.result (keys ∙ w.in-Gcm.is) nonce h.text (w.copy_from_slice.ensures.after ∙ h.tag))
      | in-CtrHmac w ↦
          let h = w.ctr_hmac_seal_in_place.ensures in
          let k = w.in-CtrHmac.keys in
          rw (w.segment-is, w.tag-is)
          (ctr_hmac-seals c.args.self.now.keys k.aes k.hash k.mac k.tag_size c.args.self.now.prefix
          c.args.segment.now w.ctr_hmac_seal_in_place.new.body w.ctr_hmac_seal_in_place.new.tag
          c.args.number c.args.last c.nonce-nonce.result w.start-start.result _ (keys ∙ w.in-CtrHmac.is)
          nonce w.start-start.ensures c.requires.tag h.text h.tag)
    ]
