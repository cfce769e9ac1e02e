use Rattle.std.proofs.Common.{◌≡◌, ap, sym, ◌∙◌, true, false, Bool}
use Rattle.std.proofs.lemmas.Bool.{OnTrue_at, OnTrue_from, OnFalse_from, false≢true}
use Rattle.segment_stream.specs.Streams.{StreamState}
use Rattle.segment_stream.proofs.SegmentLemmas.{gcm-opens, gcm-closed, ctr_hmac-opens, ctr_hmac-closed}
use Rattle.segment_stream.proofs.segments.Stream.open_body.Goals as goal
use Rattle.segment_stream.proofs.segments.Stream.open_body.Goals.{in-Gcm, in-CtrHmac}

no : (b : Bool) → b ≡ false → b ≡ true → ⊥
no b e f = false≢true (sym e ∙ f)

pub returns-clause-opened : goal.returns-clause-opened
returns-clause-opened c =
    let keys = ap (λ (s : StreamState). s.keys) (sym c.self.view_is) in
    let nonce = c.nonce-nonce.ensures ∙ ap (λ (s : StreamState). Rattle.segment_stream.specs.Segments.nonce s.prefix c.args.number c.args.last) c.self.view_is in
    elim c.match-self.branch [
      | in-Gcm w ↦
          let h = w.open_in_place.ensures in
          rw (w.result-is, w.body-is) (OnTrue_from _ _ (λ e.
          gcm-opens c.args.self.now.keys w.in-Gcm.gcm c.args.self.now.prefix c.args.body.now c.args.tag.now
          w.open_in_place.new.body c.args.number c.args.last c.nonce-nonce.result (keys ∙ w.in-Gcm.is) nonce
          c.requires.tag (h.authentic.0 e ∙ w.copy_from_slice.ensures.after) (OnTrue_at e h.opened)))
      | in-CtrHmac w ↦
          let h = w.ctr_hmac_open_in_place.ensures in
          let k = w.in-CtrHmac.keys in
          rw (w.result-is, w.body-is) (OnTrue_from _ _ (λ e.
          ctr_hmac-opens c.args.self.now.keys k.aes k.hash k.mac k.tag_size c.args.self.now.prefix
          c.args.body.now c.args.tag.now w.ctr_hmac_open_in_place.new.body c.args.number c.args.last
          c.nonce-nonce.result w.start-start.result (keys ∙ w.in-CtrHmac.is) nonce w.start-start.ensures
          c.requires.tag (h.authentic.0 e) (OnTrue_at e h.opened)))
    ]

pub returns-clause-refused : goal.returns-clause-refused
returns-clause-refused c =
    let keys = ap (λ (s : StreamState). s.keys) (sym c.self.view_is) in
    let nonce = c.nonce-nonce.ensures ∙ ap (λ (s : StreamState). Rattle.segment_stream.specs.Segments.nonce s.prefix c.args.number c.args.last) c.self.view_is in
    elim c.match-self.branch [
      | in-Gcm w ↦
          let h = w.open_in_place.ensures in
          rw (w.result-is) (OnFalse_from _ _ (λ e.
          gcm-closed c.args.self.now.keys w.in-Gcm.gcm c.args.self.now.prefix c.args.body.now c.args.tag.now
          c.args.number c.args.last c.nonce-nonce.result (keys ∙ w.in-Gcm.is) nonce c.requires.tag
          (λ f. no _ e (h.authentic.1 (f ∙ sym w.copy_from_slice.ensures.after)))))
      | in-CtrHmac w ↦
          let h = w.ctr_hmac_open_in_place.ensures in
          let k = w.in-CtrHmac.keys in
          rw (w.result-is) (OnFalse_from _ _ (λ e.
          ctr_hmac-closed c.args.self.now.keys k.aes k.hash k.mac k.tag_size c.args.self.now.prefix
          c.args.body.now c.args.tag.now c.args.number c.args.last c.nonce-nonce.result w.start-start.result
          (keys ∙ w.in-CtrHmac.is) nonce w.start-start.ensures c.requires.tag (λ f. no _ e (h.authentic.1 f))))
    ]
