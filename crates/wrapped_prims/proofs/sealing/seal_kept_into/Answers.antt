use Rattle.std.proofs.Common.{◌≡◌, ◌∙◌, ◌≤◌, ◌++◌, List, ℕ, arith, length, refl}
use Rattle.std.proofs.lemmas.List.{length-append, length-take-le, take_at}
use Rattle.managers.proofs.SizeLemmas.{seal_facts}
use Rattle.managers.specs.Uses.{iv_size, seal_of}
use Rattle.wrapped_prims.specs.Candidates.{prefix_bytes}
use Rattle.wrapped_prims.proofs.SealLemmas.{drew_short, served_valid}
use Rattle.wrapped_prims.proofs.sealing.seal_kept_into.Goals as goal

pub returns-in-Err-clause-fault : goal.returns-in-Err-clause-fault
returns-in-Err-clause-fault g c =
    let key = c.args.kept.now.key in
    let short : c.iv_size.result ≤ 16 = omega (arith, c.iv_size.ensures, (seal_facts key).iv (served_valid _ key c.requires.served)) in
    let size = length-take-le c.iv_size.result _ short ∙ c.iv_size.ensures in
    drew_short key _ _ _ size c.in-Err.ensures.some c.in-Err.ensures.short

pub returns-then-out-size-clause-fault : goal.returns-then-out-size-clause-fault
returns-then-out-size-clause-fault g c =
    let key = c.args.kept.now.key in
    let valid = served_valid _ key c.requires.served in
    let prefix : List ℕ = prefix_bytes c.args.kept.now.prefix in
    let plain = c.args.plain.now in
    let ad = c.args.ad.now in
    let iv : List ℕ = c.draw_iv.new.iv in
    let sealed : List ℕ = seal_of key iv plain ad in
    let short : c.iv_size.result ≤ 16 = omega (arith, c.iv_size.ensures, (seal_facts key).iv valid) in
    let whole : length iv ≡ iv_size key = c.in-Ok.ensures.size ∙ length-take-le c.iv_size.result _ short ∙ c.iv_size.ensures in
    let size = (seal_facts key).size iv plain ad valid whole in
    let long = length-append prefix sealed in (
      prefix ++ sealed,
      record { drawn = iv; drew = c.in-Ok.ensures.drew; whole = whole; made = refl },
      omega (arith, c.if-out-size.true, c.size_under-size.ensures, size, long),
    )

pub returns-clause-sealed : goal.returns-clause-sealed
returns-clause-sealed g c =
    let key = c.args.kept.now.key in
    let short : c.iv_size.result ≤ 16 = omega (arith, c.iv_size.ensures, (seal_facts key).iv (served_valid _ key c.requires.served)) in
    let new : List ℕ = c.seal_copy.new.sealed in
    let size = c.size_under-size.result in
    let fits : length new ≡ size
    = c.seal_copy.auto.sealed ∙ length-take-le size c.args.out.now (omega (arith, c.if-out-size.false)) in
    record {
      drawn = c.draw_iv.new.iv;
      drew = c.in-Ok.ensures.drew;
      whole = c.in-Ok.ensures.size ∙ length-take-le c.iv_size.result _ short ∙ c.iv_size.ensures;
      made = take_at new _ size fits ∙ c.seal_copy.ensures;
    }
