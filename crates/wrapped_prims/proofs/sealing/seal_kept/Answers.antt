use Rattle.std.proofs.Common.{◌≡◌, ◌∙◌, ◌≤◌, ◌+◌, ◌-◌, ◌++◌, List, ℕ, ap, arith, drop, length, take}
use Rattle.std.proofs.lemmas.List.{drop-append-le, length-drop, length-take-le, take_all, take_at}
use Rattle.managers.proofs.SizeLemmas.{seal_facts}
use Rattle.managers.specs.Uses.{iv_size}
use Rattle.wrapped_prims.specs.Candidates.{prefix_bytes}
use Rattle.wrapped_prims.specs.Rooms.{kept_size, room_of}
use Rattle.wrapped_prims.proofs.SealLemmas.{drew_short, served_valid}
use Rattle.wrapped_prims.proofs.sealing.seal_kept.Goals as goal

-- the plaintext stands where it stood
still_there : (room n size : ℕ) (old more : List ℕ) → room + n ≡ length old → room + n ≤ size
    → take n (drop room (take size old ++ more)) ≡ drop room old
still_there room n size old more whole fits =
    ap (λ (l : List ℕ). take n (drop room (l ++ more))) (take_all size old (omega (arith, whole, fits)))
    ∙ ap (λ (l : List ℕ). take n l) (drop-append-le room old more (omega (arith, whole)))
    ∙ take_at (drop room old) more n (omega (arith, length-drop room old, whole))

pub returns-in-Err-clause-fault : goal.returns-in-Err-clause-fault
returns-in-Err-clause-fault g c =
    let key = c.args.kept.now.key in
    let short : c.iv_size.result ≤ 16 = omega (arith, c.iv_size.ensures, (seal_facts key).iv (served_valid _ key c.requires.served)) in
    let size = length-take-le c.iv_size.result _ short ∙ c.iv_size.ensures in
    drew_short key _ _ _ size c.in-Err.ensures.some c.in-Err.ensures.short

pub returns-clause-sealed : goal.returns-clause-sealed
returns-clause-sealed g c =
    let kept = c.args.kept.now in
    let key = kept.key in
    let prefix : List ℕ = prefix_bytes kept.prefix in
    let room : ℕ = room_of kept in
    let old = c.args.bytes.items in
    let n : ℕ = c.len.result - c.room_under.result in
    let iv : List ℕ = c.draw_iv.new.iv in
    let ad = c.args.ad.now in
    let new : List ℕ = c.seal_with.new.sealed in
    let lent : List ℕ = c.deref_mut.result.now in
    let short : c.iv_size.result ≤ 16 = omega (arith, c.iv_size.ensures, (seal_facts key).iv (served_valid _ key c.requires.served)) in
    let size : c.size_under.result ≡ kept_size kept n = c.size_under.ensures in
    let long : length lent ≡ kept_size kept n = omega (arith, c.deref_mut.ensures.len, c.in-Ok-resize.ensures.len, size) in
    let whole : room + n ≡ length old = omega (arith, c.len.ensures, c.room_under.ensures.room, c.requires.room) in
    let fits : length new ≡ c.resize.new.self.len = omega (arith, c.seal_with.auto.sealed, c.deref_mut.ensures.len) in
    record {
      drawn = iv;
      drew = c.in-Ok.ensures.drew;
      whole = c.in-Ok.ensures.size ∙ length-take-le c.iv_size.result _ short ∙ c.iv_size.ensures;
      made = take_at new _ _ fits
          ∙ c.seal_with.ensures n long
          ∙ ap (λ (b : List ℕ). prefix ++ b) ((seal_facts key).same n iv (take n (drop room lent)) (drop room old) ad
          (λ has. ap (λ (l : List ℕ). take n (drop room l)) (c.deref_mut.ensures.value ∙ c.in-Ok-resize.ensures.items)
          ∙ still_there room n c.size_under.result old _ whole (omega (arith, has, size))));
    }
