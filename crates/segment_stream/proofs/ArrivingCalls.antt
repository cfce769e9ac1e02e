-- Calls of a stream that is opened as its bytes arrive, one after another.
use Rattle.std.proofs.Common.{◌≡◌, ℕ, zero, suc, ◌+◌, ◌-◌, ◌<◌, ◌≤◌, List, [], ◌∷◌, ◌++◌, length, take, drop, refl, sym, ◌∙◌, ap, subst, arith, append_assoc, append-nil}
use Rattle.std.specs.Prelude.{Bool, false, nat_lt, if◌then◌else◌}
use Rattle.std.specs.List.{AllByRecursion}
use Rattle.std.proofs.lemmas.Bool.Decides.{nat_tests}
use Rattle.std.proofs.lemmas.List.{drop-map, length-drop, take_all}
use Rattle.tink_spec.specs.Outside.{SinkState}
use Rattle.tink_spec.proofs.Moves.{took_nothing, took_more}
use Rattle.segment_stream.specs.Arriving.{HasOpened, OpenStops, OpeningState, Opens, StandsAt}
use Rattle.segment_stream.specs.Cipher.{SegmentCipher}
use Rattle.segment_stream.specs.Halting.{Halts}
use Rattle.segment_stream.specs.KeysModel.{KeysForStreams}
use Rattle.segment_stream.specs.Opening.{Choice, chosen, choose, decides_by, fits, released_by, undecided}
use Rattle.segment_stream.specs.Pumping.{opening_any}
use Rattle.segment_stream.specs.Segments.{IsSound, cipher_of, ciphers_of}
use Rattle.segment_stream.specs.Settling.{SettledOn}
use Rattle.segment_stream.specs.StreamKeys.{largest_of}
use Rattle.segment_stream.specs.declared.fault.OpenPumpFault.{OpenPumpFault}
use Rattle.segment_stream.specs.declared.key.StreamKey.{StreamKey}
use Rattle.segment_stream.specs.declared.settling.Stage.{Stage}
use Rattle.segment_stream.specs.declared.settling.Stage.TheVariants as stages
use Rattle.segment_stream.proofs.ArrivingLemmas.{halts_later, passed_none}
use Rattle.segment_stream.proofs.Followed.{halts_after}
use Rattle.segment_stream.proofs.CipherLemmas.{ciphers_of-are_ciphers}
use Rattle.segment_stream.proofs.Standing.{standing_more}

-- ---- keys, and the buffer

pub below_all : (most capacity : ℕ) (keys : List StreamKey) → most < capacity → AllByRecursion (λ (key : StreamKey). key.segment ≤ most) keys → AllByRecursion (λ (key : StreamKey). key.segment < capacity) keys
below_all most capacity [] room all = tt
below_all most capacity (key ∷ keys) room all = (omega (arith, all.0, room), below_all most capacity keys room all.1)

pub all_behind : {X : Type 0} (P : X → Type 0) (n : ℕ) (xs : List X) → AllByRecursion P xs → AllByRecursion P (drop n xs)
all_behind P zero xs all = all
all_behind P (suc n) [] all = tt
all_behind P (suc n) (x ∷ xs) all = all_behind P n xs all.1

-- the rest of a slice
pub left_is : {X : Type 0} (n : ℕ) (xs : List X) → take (length xs - n) (drop n xs) ≡ drop n xs
left_is n xs = take_all (length xs - n) (drop n xs) (omega (arith, length-drop n xs))

pub all_left : {X : Type 0} (P : X → Type 0) (n : ℕ) (xs : List X) → AllByRecursion P xs → AllByRecursion P (take (length xs - n) (drop n xs))
all_left P n xs all = subst (λ (l : List _). AllByRecursion P l) (sym (left_is n xs)) (all_behind P n xs all)

-- the ciphers of the keys that are left
pub ciphers_left : (ad : List ℕ) (keys : List StreamKey) (tried : ℕ) → ciphers_of ad (take (length keys - tried) (drop tried keys)) ≡ drop tried (ciphers_of ad keys)
ciphers_left ad keys tried = ap (ciphers_of ad) (left_is tried keys) ∙ sym (drop-map (cipher_of ad) tried keys)

-- some key has a segment, so there is one that waits for it
undecided_first : (ad : List ℕ) (keys : List StreamKey) → 0 < largest_of keys → choose (ciphers_of ad keys) [] false ≡ undecided
undecided_first ad [] some = absurd (omega arith)
undecided_first ad (key ∷ keys) some =
    let no : nat_lt key.segment 0 ≡ false = grind (arith, nat_tests) in
    ap (λ (b : Bool). if b then (if fits (cipher_of ad key) [] then chosen (cipher_of ad key) else choose (ciphers_of ad keys) [] false) else undecided) no

-- nothing was taken yet
pub begins_opened : (s : OpeningState) (ad : List ℕ) (keys : KeysForStreams) → s.keys ≡ keys → s.ad ≡ ad → s.stage ≡ stages.Trying 0 → s.held ≡ [] → 0 < largest_of keys.keys → AllByRecursion IsSound keys.keys → HasOpened s (ciphers_of ad keys.keys) [] []
begins_opened s ad keys k a stage held some sound =
    let c = undecided_first ad keys.keys some in
    record {
      under = ap (λ (l : List ℕ). ciphers_of l keys.keys) (sym a) ∙ ap (λ (x : KeysForStreams). ciphers_of s.ad x.keys) (sym k);
      are = ciphers_of-are_ciphers ad keys.keys sound;
      stands = subst (λ (x : Stage). StandsAt (ciphers_of ad keys.keys) x [] s.held []) (sym stage) (record { passed = passed_none (ciphers_of ad keys.keys) [] false; all = held; none = refl });
      output = ap (λ (x : Choice). released_by x [] false) c;
      waits = ap (λ (x : Choice). decides_by x [] false) c;
    }

-- ---- bytes taken

-- more bytes are held
stands_more : (ciphers : List SegmentCipher) (stage : Stage) (taken held written front : List ℕ) → StandsAt ciphers stage taken held written → StandsAt ciphers stage (taken ++ front) (held ++ front) written
stands_more ciphers (stages.Trying tried) taken held written front t = record {
  passed = λ more e f. ap (λ (l : List ℕ). choose ciphers l e) (append_assoc taken front more) ∙ t.passed (front ++ more) e (λ n. absurd cc) ∙ ap (λ (l : List ℕ). choose (drop tried ciphers) l e) (sym (append_assoc taken front more));
  all = ap (λ (l : List ℕ). l ++ front) t.all;
  none = t.none;
}
stands_more ciphers (stages.Under stream number) taken held written front x = record {
  key = x.key;
  header = x.header;
  under = x.under;
  choice = λ more e f. ap (λ (l : List ℕ). choose ciphers l e) (append_assoc taken front more) ∙ x.choice (front ++ more) e (λ n. absurd cc);
  stands = standing_more x.key x.header taken number held written front x.under.is x.stands;
}

pub opens_taken : (s later : OpeningState) (front : List ℕ) (old new : SinkState) → later.keys ≡ s.keys → later.ad ≡ s.ad
    → ((taken written : List ℕ) → StandsAt (ciphers_of s.ad s.keys.keys) s.stage taken (s.held ++ front) written → SettledOn (ciphers_of s.ad s.keys.keys) later.stage taken later.held written old new) → Opens s later front old new
opens_taken s later front old new k a settled = λ ciphers taken written h.
    let stands = subst (λ (c : List SegmentCipher). StandsAt c s.stage (taken ++ front) (s.held ++ front) written) h.under (stands_more ciphers s.stage taken s.held written front h.stands) in
    let o = subst (λ (c : List SegmentCipher). SettledOn c later.stage (taken ++ front) later.held written old new) (sym h.under) (settled (taken ++ front) written stands) in
    record {
      more = o.more;
      took = o.took;
      has = record {
        under = h.under ∙ ap (λ (l : List ℕ). ciphers_of l s.keys.keys) (sym a) ∙ ap (λ (x : KeysForStreams). ciphers_of later.ad x.keys) (sym k);
        are = h.are;
        stands = o.stands;
        output = o.output;
        waits = o.waits;
      };
    }

-- some of the bytes were taken, and that doesn't go on
pub stops_taken : (s : OpeningState) (fault : OpenPumpFault) (front rest bytes : List ℕ) (old new : SinkState) → front ++ rest ≡ bytes
    → ((taken written : List ℕ) → StandsAt (ciphers_of s.ad s.keys.keys) s.stage taken (s.held ++ front) written → Halts (opening_any (ciphers_of s.ad s.keys.keys)) fault taken written false old new) → OpenStops fault s bytes old new
stops_taken s fault front rest bytes old new whole halts = λ ciphers taken written h.
    let stands = subst (λ (c : List SegmentCipher). StandsAt c s.stage (taken ++ front) (s.held ++ front) written) h.under (stands_more ciphers s.stage taken s.held written front h.stands) in
    let o = subst (λ (c : List SegmentCipher). Halts (opening_any c) fault (taken ++ front) written false old new) (sym h.under) (halts (taken ++ front) written stands) in
    subst (λ (l : List ℕ). Halts (opening_any ciphers) fault l written false old new) (append_assoc taken front rest ∙ ap (λ (l : List ℕ). taken ++ l) whole)
    (halts_later ciphers fault (taken ++ front) rest written old new h.are o)

pub opens_nothing : (s : OpeningState) (sink : SinkState) → Opens s s [] sink sink
opens_nothing s sink = λ ciphers taken written h. record {
  more = [];
  took = took_nothing sink;
  has = subst (λ (l : List ℕ). HasOpened s ciphers l (written ++ [])) (sym (append-nil taken)) (subst (λ (l : List ℕ). HasOpened s ciphers taken l) (sym (append-nil written)) h);
}

pub opens_more : (s t u : OpeningState) (old mid new : SinkState) (p q : List ℕ) → Opens s t p old mid → Opens t u q mid new → Opens s u (p ++ q) old new
opens_more s t u old mid new p q first second = λ ciphers taken written h.
    let a = first ciphers taken written h in
    let b = second ciphers (taken ++ p) (written ++ a.more) a.has in
    record {
      more = a.more ++ b.more;
      took = took_more _ _ _ _ _ a.took b.took;
      has = subst (λ (l : List ℕ). HasOpened u ciphers l (written ++ (a.more ++ b.more))) (append_assoc taken p q)
          (subst (λ (l : List ℕ). HasOpened u ciphers ((taken ++ p) ++ q) l) (append_assoc written a.more b.more) b.has);
    }

pub stops_more : (fault : OpenPumpFault) (s t : OpeningState) (old mid new : SinkState) (p q : List ℕ) → Opens s t p old mid → OpenStops fault t q mid new → OpenStops fault s (p ++ q) old new
stops_more fault s t old mid new p q first stops = λ ciphers taken written h.
    let a = first ciphers taken written h in
    subst (λ (l : List ℕ). Halts (opening_any ciphers) fault l written false old new) (append_assoc taken p q)
    (halts_after (opening_any ciphers) fault ((taken ++ p) ++ q) written a.more false old mid new a.took (stops ciphers (taken ++ p) (written ++ a.more) a.has))
