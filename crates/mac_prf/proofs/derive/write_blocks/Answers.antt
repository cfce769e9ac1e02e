-- One block more, as far as `out` goes.
use Rattle.std.proofs.Common.{◌≡◌, ◌+◌, ◌*◌, ◌-◌, ◌<◌, ◌≤◌, ◌++◌, ◌∷◌, ◌∙◌, [], List, ℕ, ap, arith, append-nil, drop, length, refl, sym, take}
use Rattle.std.proofs.lemmas.List.{drop_all, length-drop, length-take-le, take-append-le, take_all}
use Rattle.std.proofs.Math.Seq.{drop-append_seam}
use Rattle.tink_base.specs.Hash.{hash_size}
use Rattle.mac_prf.specs.Hmac.{hmac}
use Rattle.mac_prf.specs.Hkdf.{block, blocks}
use Rattle.mac_prf.specs.HmacState.{hash_of}
use Rattle.mac_prf.proofs.HkdfLemmas.{block-next, count_below, last_block, length-blocks, next_part, take-blocks-expand}
use Rattle.mac_prf.proofs.HmacLemmas.{hash_of-held}
use Rattle.mac_prf.proofs.derive.write_blocks.Goals as goal

pub loop-written-init : goal.loop-written-init
unfolding blocks
loop-written-init c = (omega arith, omega arith, λ _. omega arith, λ _ _ _. refl)

pub overflow_add-number : goal.overflow_add-number
overflow_add-number c =
    let i = c.loop-written.number in
    let hash = hash_of c.args.prk.now in
    let full = c.loop-written.invariant.2 (omega arith) in
    let below : i < 255 = count_below hash i (omega (arith, full, c.requires)) in
    omega (arith, below)

pub loop-written-preserved : goal.loop-written-preserved
loop-written-preserved c =
    let before = c.loop-written.invariant in
    let info = c.args.info.now in
    let old = c.args.out.now in
    let i = c.loop-written.number in
    let written = c.loop-written.written in
    let part = c.min-part.result in
    let done = c.split_at_mut-done.result.0.now in
    let rest = c.split_at_mut-done.result.1.now in
    let digest : ℕ = hash_size (hash_of c.args.prk.now) in
    let counted : written ≡ i * digest = before.2 (omega arith) in
    let fits : part ≤ length rest = omega (arith, c.min-part.ensures) in
    let within : part ≤ digest = omega (arith, c.min-part.ensures, c.tag_size-size.ensures) in
    let next_count : (i + 1) * digest ≡ i * digest + digest = omega arith in (
      omega (arith, fits, c.split_at_mut-done.ensures.back_len),
      omega (arith, counted, next_count, within),
      λ short. omega (
        arith,
        short,
        counted,
        next_count,
        c.min-part.ensures,
        c.tag_size-size.ensures,
        c.split_at_mut-done.ensures.back_len,
      ),
      λ hash key held.
          let same : hash_of c.args.prk.now ≡ hash = hash_of-held c.args.prk.now hash key [] held in
          let size : c.tag_size-size.result ≡ hash_size hash
          = c.tag_size-size.ensures ∙ ap hash_size same in
          let front = blocks hash key info i in
          let full : written ≡ length front
          = counted ∙ ap (λ h. i * hash_size h) same ∙ sym (length-blocks hash key info i) in
          let held_out = before.3 hash key held in
          let whole : take written front ≡ front = take_all written front (omega (arith, full)) in
          let done_is : done ≡ front
          = c.split_at_mut-done.ensures.front ∙ ap (take written) held_out
          ∙ ap (λ (u : List ℕ). take written (u ++ drop written old)) whole
          ∙ take-append-le written front (drop written old) (omega (arith, full)) ∙ whole in
          let rest_is : rest ≡ drop (length front) old
          = c.split_at_mut-done.ensures.back ∙ ap (drop written) held_out
          ∙ ap (λ (u : List ℕ). drop written (u ++ drop written old)) whole
          ∙ ap (λ n. drop n (front ++ drop n old)) full
          ∙ drop-append_seam front (drop (length front) old) in
          let from : c.saturating_sub.result ≡ length front - hash_size hash
          = omega (arith, c.saturating_sub.ensures, full, size) in
          let at = c.saturating_sub.result in
          let last = take (length done - at) (drop at done) in
          let previous : last ≡ block hash key info i
          = take_all (length done - at) (drop at done) (omega (arith, length-drop at done))
          ∙ ap (drop at) done_is ∙ ap (λ n. drop n front) from ∙ last_block hash key info i in
          let taken : c.write_block.new.out ≡ take part (block hash key info (i + 1))
          = c.write_block.ensures hash key held
          ∙ ap (λ n. take n (hmac hash key (last ++ info ++ (i + 1) ∷ [])))
          (length-take-le part rest fits)
          ∙ ap (λ (u : List ℕ). take part (hmac hash key (u ++ info ++ (i + 1) ∷ []))) previous
          ∙ ap (take part) (block-next hash key info i) in
          ap (λ (u : List ℕ). u ++ (c.write_block.new.out ++ drop part rest)) done_is
          ∙ ap (λ (u : List ℕ). front ++ (u ++ drop part rest)) taken
          ∙ ap (λ (u : List ℕ). front ++ (take part (block hash key info (i + 1)) ++ drop part u)) rest_is
          ∙ next_part hash key info old i part
          ∙ ap (λ n. take (n + part) (blocks hash key info (i + 1)) ++ drop (n + part) old) (sym full),
    )

pub returns : goal.returns
returns c = λ hash key held.
    let before = c.loop-written.invariant in
    let info = c.args.info.now in
    let out = c.args.out.now in
    let i = c.loop-written.number in
    let same : hash_of c.args.prk.now ≡ hash = hash_of-held c.args.prk.now hash key [] held in
    let room : i * hash_size (hash_of c.args.prk.now) ≡ length (blocks hash key info i)
    = ap (λ h. i * hash_size h) same ∙ sym (length-blocks hash key info i) in
    let end : c.loop-written.written ≡ length out = omega (arith, before.0) in
    let nothing : drop c.loop-written.written out ≡ [] = drop_all _ out (omega (arith, end)) in
    before.3 hash key held
    ∙ ap (λ (u : List ℕ). take c.loop-written.written (blocks hash key info i) ++ u) nothing
    ∙ append-nil _
    ∙ ap (λ n. take n (blocks hash key info i)) end
    ∙ take-blocks-expand hash key info (length out) i (omega (arith, end, before.1, room))
