-- A block of the text is done beside the one before it of the chain.
use Rattle.std.proofs.Common.{◌≡◌, ◌+◌, ◌*◌, ◌%◌, ◌≤◌, ◌++◌, ◌∙◌, ℕ, List, length, take, refl, sym, ap, subst, arith}
use Rattle.std.proofs.lemmas.List.{length-take-le}
use Rattle.std.proofs.lemmas.Simd.{length-chunk, length-zip2, take_more_put_chunk}
use Rattle.std.specs.Int.{w128, to_be_bytes}
use Rattle.std.specs.Simd.Lanes.{chunk, put_chunk, zip2}
use lib.Bits.{bit_xor}
use Rattle.aes_core.specs.Aes.{cipher}
use Rattle.aes_core.specs.Bytes.{xor_bytes}
use Rattle.aes_core.specs.Counter.{counter_plus}
use Rattle.aes_core.specs.declared.counter.CtrKind.TheVariants.{All128}
use Rattle.aes_core.proofs.ChainLemmas.{IsChained, chained-next, chained-none, zip2-bit_xor}
use Rattle.aes_core.proofs.CounterBlocks.{IsDone_next}
use Rattle.aes_core.proofs.CounterMode.{ctr_from_bytes, length-cipher}
use Rattle.tink_spec.proofs.BlockBytes.{to_be_bytes-from_be_bytes_16}
use Rattle.aes_core.proofs.cipher.Aes.ctr_chain.Goals as goal

pub loop-i-init : goal.loop-i-init
loop-i-init c = record {
  text = record { long = refl; done = λ k h. absurd (omega arith); left = λ k h. refl };
  chain = chained-none c.args.mac.now c.args.last.now c.args.held.now c.told-held;
}

pub loop-i-preserved : goal.loop-i-preserved
loop-i-preserved c =
    let key = c.args.self.now in
    let mac = c.args.mac.now in
    let start = c.args.start.now in
    let old = c.args.body.now in
    let i = c.loop-i.i in
    let body : List ℕ = c.loop-i.body in
    let before : List ℕ = c.loop-i.chain in
    let block : List ℕ = c.loop-i.block in
    let now = c.loop-i.invariant in
    let long : length body ≡ length old = now.text.long in
    let room : 16 * (i + 1) ≤ length old = omega arith in
    let first : to_be_bytes w128 c.from_be_bytes-first.result ≡ start =
    ap (to_be_bytes w128) c.from_be_bytes-first.ensures
    ∙ to_be_bytes-from_be_bytes_16 start c.told-start (λ k. omega (arith, c.fits-start k)) in
    let output : List ℕ = c.first_of.result in
    let chain : List ℕ = c.second_of-chain.result in
    let output_is : output ≡ cipher key (counter_plus All128 start i) =
    c.first_of.ensures ∙ c.encrypt_two-outputs.ensures.first
    ∙ ap (cipher key) (c.joined.ensures.first ∙ c.counter_lanes-counter.ensures
    ∙ ap (λ (t : List ℕ). counter_plus All128 t i) first) in
    let whole : length output ≡ 16 =
    ap length output_is ∙ length-cipher key (counter_plus All128 start i) in
    let chain_is : chain ≡ cipher mac (xor_bytes before block) =
    c.second_of-chain.ensures ∙ c.encrypt_two-outputs.ensures.second
    ∙ ap (cipher mac) (c.joined.ensures.second
    ∙ zip2-bit_xor before block (c.loop-i.auto.chain.0 ∙ sym now.chain.one)) in
    let taken : List ℕ = chunk (16 * i) 16 body in
    let next : List ℕ = zip2 bit_xor taken output in
    let size : length taken ≡ 16 = length-chunk (16 * i) 16 body (omega (arith, long, room)) in
    let one : length next ≡ 16 = length-zip2 bit_xor taken output (size ∙ sym whole) ∙ size in
    let new : List ℕ = put_chunk (16 * i) body next in
    let done : take (16 * (i + 1)) new ≡ take (16 * i) body ++ next =
    take_more_put_chunk (16 * i) body next (16 * (i + 1)) (omega (arith, one)) (omega (arith, long, room)) in
    let before_whole : length (take (16 * i) body) % 16 ≡ 0 =
    omega (arith, length-take-le (16 * i) body (omega (arith, long, room))) in
    let chains = chained-next mac c.args.last.now c.args.held.now (take (16 * i) body) block before next
    before_whole one now.chain in
    record {
      text = IsDone_next key start All128 old body output new i (16 * i) (16 * (i + 1)) refl
          (omega arith) room output_is refl now.text;
      chain = subst (λ (d : List ℕ). IsChained mac c.args.last.now c.args.held.now d next chain) (sym done)
          (subst (λ (l : List ℕ). IsChained mac c.args.last.now c.args.held.now (take (16 * i) body ++ next) next l)
          (sym chain_is) chains);
    }

pub returns-clause-text : goal.returns-clause-text
returns-clause-text c =
    let all : 16 * c.loop-i.i ≡ length c.args.body.now = omega (arith, c.requires.whole) in
    ctr_from_bytes c.args.self.now c.args.start.now All128 c.args.body.now c.loop-i.body
    c.loop-i.invariant.text.long
    (λ k h. c.loop-i.invariant.text.done k (omega (arith, all, h)))
