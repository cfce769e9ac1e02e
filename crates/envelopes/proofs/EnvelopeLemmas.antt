-- What sealing in an envelope says of the entropy, and what an envelope is made of.
use Rattle.std.proofs.Common.{◌≡◌, ◌≤◌, ◌∙◌, inl, inr, refl, sym, ap, subst, arith, ℕ, cond, Bool, false, List, [], ◌++◌, length, take, drop, Option, Some, None, Ok}
use Rattle.std.specs.Prelude.{slice_get, slice_range}
use Rattle.std.specs.Int.{to_be_bytes, w32}
use Rattle.std.specs.Option.{option_and_then, option_map}
use Rattle.std.specs.Str.{bytes_eq}
use Rattle.std.proofs.lemmas.List.{append_assoc, drop-append-le, drop_at, length-take-le, take-append-drop, take_at}
use Rattle.std.proofs.lemmas.List.Quantifiers.{position-Some}
use Rattle.std.proofs.lemmas.Option.{get_or_from_slice_get}
use Rattle.std.proofs.lemmas.Slice.{between_is, between_to_end}
use Rattle.std.proofs.lemmas.Slice.Eq.{bytes_eq-Decides}
use Rattle.key_msgs.specs.Templates.{Row, random_of}
use Rattle.key_msgs.specs.declared.key.KeyKind.{KeyKind}
use Rattle.keyset_model.specs.Keyset.{Keys}
use Rattle.managers.specs.Schemes.{Scheme, key_under}
use Rattle.managers.specs.Table.{Entry, Table, place_in}
use Rattle.managers.specs.Uses.{iv_size, seal_of}
use Rattle.tink_spec.proofs.Moves.{drew_more, drew_nothing, lost_behind, rose_later, short_later}
use Rattle.tink_spec.specs.Outside.{Drew, EntropyState, Stood}
use Rattle.wrapped_prims.proofs.SealLemmas.{enough, seal-drawn}
use Rattle.wrapped_prims.specs.Answers.{Sealed, seal_answer}
use Rattle.wrapped_prims.specs.Sealing.{IsKeySealing, IsSealFault, IsSealing}
use Rattle.wrapped_prims.specs.declared.sealing.SealFault.{SealFault}
use Rattle.wrapped_prims.specs.declared.sealing.SealFault.TheVariants as seals
use Rattle.envelopes.specs.Enveloped.{Enveloped, before_payload, behind_data_key, data_key_of, envelope, envelope_of, under_data_key}
use Rattle.envelopes.specs.EnvelopeSteps.{IsMakingFault, IsPayloadFault, IsResealing, Makes}
use Rattle.envelopes.specs.Enveloping.{Asks, FailedAtFill, IsEnvelopeFault, IsEnveloping, StoodAtFill}
use Rattle.envelopes.specs.declared.envelope.EnvelopeFault.{EnvelopeFault}
use Rattle.envelopes.specs.declared.envelope.EnvelopeFault.TheVariants as faults
use Rattle.seal_wrap.proofs.WrapLemmas.{has_sealed}

-- ---- what is taken of the random bytes

-- the first ones are those of the data key
pub envelope-drawn : (keys : Keys) (table : Table) (scheme : Scheme) (row : Row) (plain ad random rest : List ℕ) → length random ≡ random_of row
    → envelope_of keys table scheme row plain ad (random ++ rest) ≡ under_data_key keys table (data_key_of row random) plain ad rest (key_under scheme (data_key_of row random))
envelope-drawn keys table scheme row plain ad random rest whole =
    let n = random_of row in
    let by : List ℕ → List ℕ → Bool → Option Enveloped
    = λ front behind few. cond few None (under_data_key keys table (data_key_of row front) plain ad behind (key_under scheme (data_key_of row front))) in
    ap (by (take n (random ++ rest)) (drop n (random ++ rest))) (enough n random rest whole)
    ∙ ap (λ front. by front (drop n (random ++ rest)) false) (take_at random rest n whole)
    ∙ ap (λ behind. by random behind false) (drop_at random rest n whole)

-- ---- an envelope

both_assoc : (a b c more : List ℕ) → (a ++ b ++ c) ++ more ≡ a ++ (b ++ (c ++ more))
both_assoc a b c more = append_assoc (a ++ b) c more ∙ append_assoc a b (c ++ more)

pub enveloping : (keys : Keys) (table : Table) (scheme : Scheme) (row : Row) (plain ad : List ℕ) (old one two new : EntropyState) (value sealed front bytes : List ℕ) (key : KeyKind)
    → Makes scheme row old one value key → IsSealing keys table value [] one two sealed → front ≡ before_payload sealed → IsKeySealing key front plain ad two new bytes
    → IsEnveloping keys table scheme row plain ad old new bytes
enveloping keys table scheme row plain ad old one two new value sealed front bytes key made sealing before last =
    let payload : List ℕ = seal_of key last.drawn plain ad in
    let whole : bytes ≡ envelope sealed payload
    = last.made ∙ ap (λ (f : List ℕ). f ++ payload) before ∙ append_assoc (to_be_bytes w32 (length sealed)) sealed payload in
    record {
      drawn = made.drawn ++ sealing.drawn ++ last.drawn;
      drew = drew_more old two new (made.drawn ++ sealing.drawn) last.drawn (drew_more old one two made.drawn sealing.drawn made.drew sealing.drew) last.drew;
      answer = λ more.
          ap (envelope_of keys table scheme row plain ad) (both_assoc made.drawn sealing.drawn last.drawn more)
          ∙ envelope-drawn keys table scheme row plain ad made.drawn (sealing.drawn ++ (last.drawn ++ more)) made.makes.whole
          ∙ ap (under_data_key keys table (data_key_of row made.drawn) plain ad (sealing.drawn ++ (last.drawn ++ more))) made.makes.valid
          ∙ ap (λ (v : List ℕ). option_and_then (behind_data_key plain ad key) (seal_answer keys table v [] (sealing.drawn ++ (last.drawn ++ more)))) (sym made.message)
          ∙ ap (option_and_then (behind_data_key plain ad key)) (sealing.answer (last.drawn ++ more))
          ∙ ap (option_map (λ (p : Sealed). record { answer = Ok (envelope sealed p.bytes); left = p.left })) (seal-drawn [] plain ad last.drawn more key last.whole)
          ∙ ap (λ (b : List ℕ). Some (record { answer = Ok b; left = more })) (sym whole);
    }

-- what was sealed behind a longer front, cut where the envelope begins
pub cut_sealing : (key : KeyKind) (front plain ad : List ℕ) (old new : EntropyState) (bytes : List ℕ) (start : ℕ) → start ≤ length front → IsKeySealing key front plain ad old new bytes
    → IsKeySealing key (drop start front) plain ad old new (slice_range bytes start (length bytes))
cut_sealing key front plain ad old new bytes start within is = record {
  drawn = is.drawn;
  drew = is.drew;
  whole = is.whole;
  made = between_to_end bytes start (length bytes) (omega arith) ∙ ap (drop start) is.made ∙ drop-append-le start front (seal_of key is.drawn plain ad) within;
}

-- what stands in front of a payload, cut with it out of a longer list
pub cut_at : (room front payload : List ℕ) (start at : ℕ) → start ≤ at → at ≤ length room → slice_range room start at ≡ front → drop at room ≡ payload → slice_range room start (length room) ≡ front ++ payload
cut_at room front payload start at le within front_is payload_is =
    let long : start ≤ length (take at room) = omega (arith, le, length-take-le at room within) in
    between_to_end room start (length room) (omega arith)
    ∙ ap (drop start) (sym (take-append-drop at room))
    ∙ drop-append-le start (take at room) (drop at room) long
    ∙ ap (λ (l : List ℕ). l ++ drop at room) (sym (between_is room start at) ∙ front_is)
    ∙ ap (λ (l : List ℕ). front ++ l) payload_is

-- so are a data key that was sealed anew, and the payload
pub resealing : (keys : Keys) (table : Table) (value payload : List ℕ) (old new : EntropyState) (sealed bytes : List ℕ) → IsSealing keys table value [] old new sealed → bytes ≡ before_payload sealed ++ payload
    → IsResealing keys table (record { value = value; payload = payload }) old new bytes
resealing keys table value payload old new sealed bytes is made = record {
  sealed = sealed;
  sealing = is;
  joined = made ∙ append_assoc (to_be_bytes w32 (length sealed)) sealed payload;
}

-- ---- faults

asks_key : (keys : Keys) (table : Table) (scheme : Scheme) (row : Row) → Asks keys table scheme row [] (random_of row)
asks_key keys table scheme row = inl (refl, refl)

pub fault_making : (keys : Keys) (table : Table) (scheme : Scheme) (row : Row) (plain ad : List ℕ) (old new : EntropyState) (fault : EnvelopeFault) → IsMakingFault scheme row old new fault
    → IsEnvelopeFault keys table scheme row plain ad old new fault
fault_making keys table scheme row plain ad old new faults.EntropyFault is = record {
  before = [];
  asked = random_of row;
  asks = asks_key keys table scheme row;
  some = is.some;
  rose = is.short.rose;
  gone = is.short.gone;
  few = is.short.few;
  short = short_later old old new [] (random_of row) (drew_nothing old) is.short;
}
fault_making keys table scheme row plain ad old new (faults.Refused rule) is = record {
  drawn = is.drawn;
  drew = is.drawing.drew;
  whole = is.drawing.whole;
  answer = λ more. envelope-drawn keys table scheme row plain ad is.drawn more is.drawing.whole ∙ ap (under_data_key keys table (data_key_of row is.drawn) plain ad more) is.broken;
  stood = is.drawing.stood;
}
fault_making keys table scheme row plain ad old new faults.NoMemory is = record {
  before = [];
  asked = random_of row;
  asks = asks_key keys table scheme row;
  fill = is.fill;
  part = is.part;
  drew = is.drew;
  stood = is.stood;
}

asks_iv : (keys : Keys) (table : Table) (scheme : Scheme) (row : Row) (old one new : EntropyState) (value : List ℕ) (data_key : KeyKind) (fault : SealFault)
    → (made : Makes scheme row old one value data_key) → (is : IsSealFault keys table one new fault) → Asks keys table scheme row made.drawn (iv_size is.key)
asks_iv keys table scheme row old one new value data_key fault made is =
    inr (inl (record { data_key = data_key; makes = made.makes; key = is.key; primary = is.primary; size = refl }))

-- the entropy failed at the IV under the keyset
pub failed_sealing : (keys : Keys) (table : Table) (scheme : Scheme) (row : Row) (old one new : EntropyState) (value : List ℕ) (data_key : KeyKind)
    → Makes scheme row old one value data_key → IsSealFault keys table one new seals.EntropyFault → FailedAtFill keys table scheme row old new
failed_sealing keys table scheme row old one new value data_key made is = record {
  before = made.drawn;
  asked = iv_size is.key;
  asks = asks_iv keys table scheme row old one new value data_key _ made is;
  some = is.entropy.0;
  rose = rose_later old one new made.drawn made.drew is.entropy.1.rose;
  gone = lost_behind old one new made.drawn made.drew is.entropy.1.gone;
  few = is.entropy.1.few;
  short = short_later old one new made.drawn (iv_size is.key) made.drew is.entropy.1;
}

-- memory was wanting there
pub stood_sealing : (keys : Keys) (table : Table) (scheme : Scheme) (row : Row) (old one new : EntropyState) (value : List ℕ) (data_key : KeyKind)
    → Makes scheme row old one value data_key → IsSealFault keys table one new seals.NoMemory → StoodAtFill keys table scheme row old new
stood_sealing keys table scheme row old one new value data_key made is = elim is.entropy.1 [
  | inl nothing ↦ record {
    before = made.drawn;
    asked = iv_size is.key;
    asks = asks_iv keys table scheme row old one new value data_key _ made is;
    fill = [];
    part = inl refl;
    drew = drew_more old one new made.drawn [] made.drew nothing;
    stood = is.entropy.0 ∙ made.stood;
  }
  | inr iv ↦ record {
    before = made.drawn;
    asked = iv_size is.key;
    asks = asks_iv keys table scheme row old one new value data_key _ made is;
    fill = iv.drawn;
    part = inr iv.whole;
    drew = drew_more old one new made.drawn iv.drawn made.drew iv.drew;
    stood = is.entropy.0 ∙ made.stood;
  }
]

-- behind a sealing of the data key
pub record IsBehind (keys : Keys) (table : Table) (scheme : Scheme) (row : Row) (old new : EntropyState) (key : KeyKind) : Type 0 where
  pub before : List ℕ
  pub drew : Drew old new before
  pub stood : Stood old.faults new.faults
  pub asks : Asks keys table scheme row before (iv_size key)

pub behind_sealing : (keys : Keys) (table : Table) (scheme : Scheme) (row : Row) (old one new : EntropyState) (value sealed : List ℕ) (key : KeyKind)
    → Makes scheme row old one value key → IsSealing keys table value [] one new sealed → Stood one.faults new.faults → IsBehind keys table scheme row old new key
behind_sealing keys table scheme row old one new value sealed key made sealing stood =
    let has = has_sealed table keys value [] one new sealed sealing in
    record {
      before = made.drawn ++ sealing.drawn;
      drew = drew_more old one new made.drawn sealing.drawn made.drew sealing.drew;
      stood = stood ∙ made.stood;
      asks = inr (inr (record {
        random = made.drawn;
        iv = sealing.drawn;
        both = refl;
        data_key = key;
        makes = made.makes;
        key = has.key;
        primary = has.primary;
        whole = has.whole;
        size = refl;
      }));
    }

pub fault_payload : (keys : Keys) (table : Table) (scheme : Scheme) (row : Row) (plain ad : List ℕ) (old two new : EntropyState) (key : KeyKind) (fault : EnvelopeFault)
    → IsBehind keys table scheme row old two key → IsPayloadFault key two new fault → IsEnvelopeFault keys table scheme row plain ad old new fault
fault_payload keys table scheme row plain ad old two new key faults.EntropyFault behind is = record {
  before = behind.before;
  asked = iv_size key;
  asks = behind.asks;
  some = is.some;
  rose = rose_later old two new behind.before behind.drew is.short.rose;
  gone = lost_behind old two new behind.before behind.drew is.short.gone;
  few = is.short.few;
  short = short_later old two new behind.before (iv_size key) behind.drew is.short;
}
fault_payload keys table scheme row plain ad old two new key (faults.Refused rule) behind is = absurd is
fault_payload keys table scheme row plain ad old two new key faults.NoMemory behind is = record {
  before = behind.before;
  asked = iv_size key;
  asks = behind.asks;
  fill = is.fill;
  part = is.part;
  drew = drew_more old two new behind.before is.fill behind.drew is.drew;
  stood = is.stood ∙ behind.stood;
}

-- ---- the manager of a data key

placed_at : (entries : List Entry) (url asked : List ℕ) (place : ℕ) → Some place ≡ place_in entries asked → asked ≡ url → place_in entries url ≡ Some place
placed_at entries url asked place placed same = sym (placed ∙ ap (place_in entries) same)

pub scheme_found : (entries : List Entry) (url asked : List ℕ) (place : ℕ) (entry : Entry) → Some place ≡ place_in entries asked → asked ≡ url → slice_get entries place ≡ Some entry
    → option_map (λ (e : Entry). e.scheme) (option_and_then (slice_get entries) (place_in entries url)) ≡ Some entry.scheme
scheme_found entries url asked place entry placed same there =
    ap (λ (at : Option ℕ). option_map (λ (e : Entry). e.scheme) (option_and_then (slice_get entries) at)) (placed_at entries url asked place placed same)
    ∙ ap (option_map (λ (e : Entry). e.scheme)) there

pub url_found : (entries : List Entry) (url asked : List ℕ) (place : ℕ) (entry : Entry) → Some place ≡ place_in entries asked → asked ≡ url → slice_get entries place ≡ Some entry → entry.url ≡ url
url_found entries url asked place entry placed same there =
    let found = position-Some (λ (e : Entry). bytes_eq e.url url) entries place entry (placed_at entries url asked place placed same) in
    (bytes_eq-Decides entry.url url).0 (ap (λ (e : Entry). bytes_eq e.url url) (sym (get_or_from_slice_get entries place entry entry there)) ∙ found.1)
