-- Drawing from an entropy, one step after another.
use Rattle.std.proofs.Common.{◌≡◌, ◌∙◌, inl, inr, ℕ, suc, ◌+◌, ◌%◌, ◌^◌, ◌<◌, ◌≤◌, Bool, true, false, cond, List, [], ◌++◌, length, Option, Some, None, Result, Ok, Err, refl, sym, ap, arith, subst, lit<}
use Rattle.std.specs.Prelude.{IfSome, IsTrue, option_map, is_some, position, ◌≢◌, ◌||◌, ◌-◌, IsErr}
use Rattle.std.proofs.Math.Nat.{mod-eq_of_lt}
use Rattle.std.specs.Int.{w32, from_be_bytes}
use Rattle.tink_base.specs.declared.faults.Failed.{Failed}
use Rattle.std.proofs.lemmas.Bool.{lt-ltb, ne_eqb, false≢true}
use Rattle.std.proofs.lemmas.List.{append_assoc}
use Rattle.tink_spec.specs.Outside.{EntropyState, Drew, RanShort}
use Rattle.tink_spec.proofs.Moves.{drew_nothing, drew_more, lost_later, rose_later}
use Rattle.key_msgs.specs.Templates.{Row, random_of}
use Rattle.keyset_model.specs.declared.record.Record.{Record}
use Rattle.keyset_model.specs.Keyset.{has_id, is_in}
use Rattle.tinkey_cmds.specs.declared.command.EditRefusal.{EditRefusal}
use Rattle.tinkey_cmds.specs.declared.command.EditRefusal.TheVariants.{IdsExhausted}
use Rattle.tinkey_cmds.specs.Draws.{Draw, answered, fill, and_then}
use Rattle.tinkey_cmds.specs.Edits.{id_of, is_taken, new_id, with_key, new_record, record_of}
use Rattle.tinkey_cmds.specs.Applying.{Draws, RanOut, DrewId}
use Rattle.tinkey_cmds.proofs.Fronts.{fill-more}
use Rattle.tinkey_cmds.proofs.Lists.{some-position}

-- what was drawn of f leaves g to be drawn
pub record Continues {A : Type 0} (f : Draw A) (g : Draw A) (old new : EntropyState) : Type 0 where
  pub drawn : List ℕ
  pub drew : Drew old new drawn
  pub same : (more : List ℕ) → f (drawn ++ more) ≡ g more

pub continues-nothing : {A : Type 0} (f : Draw A) (s : EntropyState) → Continues f f s s
continues-nothing f s = record { drawn = []; drew = drew_nothing s; same = λ more. refl }

pub continues-more : {A : Type 0} (f g h : Draw A) (old mid new : EntropyState) → Continues f g old mid → Continues g h mid new → Continues f h old new
continues-more f g h old mid new one two = record {
  drawn = one.drawn ++ two.drawn;
  drew = drew_more old mid new one.drawn two.drawn one.drew two.drew;
  same = λ more. ap f (append_assoc one.drawn two.drawn more) ∙ one.same (two.drawn ++ more) ∙ two.same more;
}

pub continues-draws : {A : Type 0} (f g : Draw A) (old mid new : EntropyState) (answer : Result A EditRefusal) → Continues f g old mid → Draws g mid new answer → Draws f old new answer
continues-draws f g old mid new answer one two = (
  one.drawn ++ two.0,
  drew_more old mid new one.drawn two.0 one.drew two.1,
  λ more. ap f (append_assoc one.drawn two.0 more) ∙ one.same (two.0 ++ more) ∙ two.2 more,
)

none_behind : {A : Type 0} (f g : Draw A) (drawn : List ℕ) (o : Option (List ℕ)) → ((more : List ℕ) → f (drawn ++ more) ≡ g more)
    → IfSome o (λ left. g left ≡ None) → IfSome (option_map (λ rest. drawn ++ rest) o) (λ left. f left ≡ None)
none_behind f g drawn None same none = tt
none_behind f g drawn (Some rest) same none = same rest ∙ none

pub continues-ran_out : {A : Type 0} (f g : Draw A) (old mid new : EntropyState) → Continues f g old mid → RanOut g mid new → RanOut f old new
continues-ran_out f g old mid new one two = record {
  rose = rose_later old mid new one.drawn one.drew two.rose;
  drawn = one.drawn ++ two.drawn;
  gone = lost_later old mid new one.drawn two.drawn one.drew two.gone;
  undecided = one.same two.drawn ∙ two.undecided;
  short = λ steady. subst (λ (o : Option (List ℕ)). IfSome o (λ left. f left ≡ None)) (sym one.drew.left)
      (none_behind f g one.drawn mid.left one.same (two.short (subst IsTrue (sym one.drew.steady) steady)));
}

-- ---- so many bytes

few_bytes : (random : List ℕ) (count : ℕ) → length random < count → fill count random ≡ None
few_bytes random count few = rw (lt-ltb (length random) count few) refl

few_left : (o : Option (List ℕ)) (count : ℕ) → IfSome o (λ left. length left < count) → IfSome o (λ left. fill count left ≡ None)
few_left None count few = tt
few_left (Some left) count few = few_bytes left count few

pub ran_out-fill : (old new : EntropyState) (count : ℕ) → RanShort old new count → 0 < count → RanOut (fill count) old new
ran_out-fill old new count ran some = record {
  rose = ran.rose;
  drawn = [];
  gone = ran.gone;
  undecided = few_bytes [] count some;
  short = λ steady. few_left old.left count (ran.short steady);
}

-- ---- one step behind another

pub continues-and_then : {A B : Type 0} (f : Draw A) (next : A → Draw B) (x : A) (old new : EntropyState) → Draws f old new (Ok x) → Continues (λ random. and_then (f random) next) (next x) old new
continues-and_then f next x old new one = record { drawn = one.0; drew = one.1; same = λ more. ap (λ d. and_then d next) (one.2 more) }

pub draws-refused : {A B : Type 0} (f : Draw A) (next : A → Draw B) (fault : EditRefusal) (old new : EntropyState) → Draws f old new (Err fault) → Draws (λ random. and_then (f random) next) old new (Err fault)
draws-refused f next fault old new one = (one.0, one.1, λ more. ap (λ d. and_then d next) (one.2 more))

none_then : {A B : Type 0} (f : Draw A) (next : A → Draw B) (o : Option (List ℕ)) → IfSome o (λ left. f left ≡ None) → IfSome o (λ left. and_then (f left) next ≡ None)
none_then f next None none = tt
none_then f next (Some left) none = ap (λ d. and_then d next) none

pub ran_out-first : {A B : Type 0} (f : Draw A) (next : A → Draw B) (old new : EntropyState) → RanOut f old new → RanOut (λ random. and_then (f random) next) old new
ran_out-first f next old new ran = record {
  rose = ran.rose;
  drawn = ran.drawn;
  gone = ran.gone;
  undecided = ap (λ d. and_then d next) ran.undecided;
  short = λ steady. none_then f next old.left (ran.short steady);
}

-- an answer that needs no byte
pub draws-answered : {A : Type 0} (answer : Result A EditRefusal) (s : EntropyState) → Draws (answered answer) s s answer
draws-answered answer s = ([], drew_nothing s, λ more. refl)

-- ---- ids

pub next_id : (tries : ℕ) (records : List Record) (group more : List ℕ) → length group ≡ 4
    → new_id (suc tries) records (group ++ more) ≡ cond (is_taken records (id_of group)) (new_id tries records more) (answered (Ok (id_of group)) more)
unfolding new_id
next_id tries records group more four = ap (λ d. and_then d (λ part left. cond (is_taken records (id_of part)) (new_id tries records left) (answered (Ok (id_of part)) left))) (fill-more group more 4 four)

-- a draw that is taken
pub continues-taken : (tries : ℕ) (records : List Record) (group : List ℕ) (old new : EntropyState) → Drew old new group → length group ≡ 4
    → is_taken records (id_of group) ≡ true → Continues (new_id (suc tries) records) (new_id tries records) old new
continues-taken tries records group old new drew four taken = record {
  drawn = group;
  drew = drew;
  same = λ more. next_id tries records group more four ∙ ap (λ b. cond b (new_id tries records more) (answered (Ok (id_of group)) more)) taken;
}

-- a draw that is free
pub draws-free : (tries : ℕ) (records : List Record) (group : List ℕ) (old new : EntropyState) → Drew old new group → length group ≡ 4
    → is_taken records (id_of group) ≡ false → Draws (new_id (suc tries) records) old new (Ok (id_of group))
draws-free tries records group old new drew four free =
    (group, drew, λ more. next_id tries records group more four ∙ ap (λ b. cond b (new_id tries records more) (answered (Ok (id_of group)) more)) free)

-- no draw at all
pub draws-exhausted : (records : List Record) (s : EntropyState) → Draws (new_id 0 records) s s (Err IdsExhausted)
unfolding new_id
draws-exhausted records s = draws-answered (Err IdsExhausted) s

-- a draw that failed
pub ran_out-id : (tries : ℕ) (records : List Record) (old new : EntropyState) → RanShort old new 4 → RanOut (new_id (suc tries) records) old new
unfolding new_id
ran_out-id tries records old new ran = ran_out-first (fill 4) _ old new (ran_out-fill old new 4 ran (lit< tt))

-- an id that isn't 0 is taken where it is found
pub found-taken : (records : List Record) (id : ℕ) (found : Option ℕ) (some : Bool) → id ≢ 0 → found ≡ position (has_id id) records → some ≡ is_some found → some ≡ is_taken records id
found-taken records id found some other place is =
    is ∙ ap is_some place ∙ some-position (has_id id) records ∙ ap (λ b. b || is_in records id) (sym (ne_eqb id 0 other))

-- ---- records

-- the id was drawn, and the key wasn't
pub ran_out-key : (row : Row) (records : List Record) (id asked : ℕ) (old mid new : EntropyState) → Draws (new_id 64 records) old mid (Ok id)
    → asked ≡ random_of row → 1 ≤ random_of row → RanShort mid new asked → RanOut (new_record row records) old new
ran_out-key row records id asked old mid new one is some ran = continues-ran_out (new_record row records) (with_key row id) old mid new
    (continues-and_then (new_id 64 records) (with_key row) id old mid one)
    (ran_out-first (fill (random_of row)) _ mid new (ran_out-fill mid new (random_of row) (subst (RanShort mid new) is ran) some))

-- both were drawn
pub draws-key : (row : Row) (records : List Record) (id : ℕ) (key : List ℕ) (old mid new : EntropyState) → Draws (new_id 64 records) old mid (Ok id)
    → Drew mid new key → length key ≡ random_of row → Draws (new_record row records) old new (Ok (record_of row id key))
draws-key row records id key old mid new one drew size = continues-draws (new_record row records) (with_key row id) old mid new _
    (continues-and_then (new_id 64 records) (with_key row) id old mid one)
    (key, drew, λ more. ap (λ d. and_then d (λ part left. answered (Ok (record_of row id part)) left)) (fill-more key more (random_of row) size))

-- ---- the loop of draws

tries_left : (i : ℕ) → i < 64 → 64 - i ≡ suc (63 - i)
tries_left i l = omega arith

id_group : (group : List ℕ) (id : ℕ) → id ≡ from_be_bytes w32 group → id < 2 ^ 32 → id_of group ≡ id
id_group group id is word = ap (λ n. n % 2 ^ 32) (sym is) ∙ mod-eq_of_lt word

-- the draw of this number was free
pub loop-free : (i : ℕ) (records : List Record) (group : List ℕ) (id : ℕ) (old mid new : EntropyState) → i < 64
    → Continues (new_id 64 records) (new_id (64 - i) records) old mid → Drew mid new group → length group ≡ 4
    → id ≡ from_be_bytes w32 group → id < 2 ^ 32 → is_taken records id ≡ false → Draws (new_id 64 records) old new (Ok id)
loop-free i records group id old mid new l before drew four is word free =
    let same = id_group group id is word in
    continues-draws (new_id 64 records) (new_id (suc (63 - i)) records) old mid new (Ok id)
    (subst (λ n. Continues (new_id 64 records) (new_id n records) old mid) (tries_left i l) before)
    (subst (λ n. Draws (new_id (suc (63 - i)) records) mid new (Ok n)) same (draws-free (63 - i) records group mid new drew four (ap (is_taken records) same ∙ free)))

-- it was taken
pub loop-taken : (i : ℕ) (records : List Record) (group : List ℕ) (id : ℕ) (old mid new : EntropyState) → i < 64
    → Continues (new_id 64 records) (new_id (64 - i) records) old mid → Drew mid new group → length group ≡ 4
    → id ≡ from_be_bytes w32 group → id < 2 ^ 32 → is_taken records id ≡ true → Continues (new_id 64 records) (new_id (64 - (i + 1)) records) old new
loop-taken i records group id old mid new l before drew four is word taken =
    let fewer : 63 - i ≡ 64 - (i + 1) = omega arith in
    subst (λ n. Continues (new_id 64 records) (new_id n records) old new) fewer
    (continues-more (new_id 64 records) (new_id (suc (63 - i)) records) (new_id (63 - i) records) old mid new
    (subst (λ n. Continues (new_id 64 records) (new_id n records) old mid) (tries_left i l) before)
    (continues-taken (63 - i) records group mid new drew four (ap (is_taken records) (id_group group id is word) ∙ taken)))

-- it failed
pub loop-failed : (i : ℕ) (records : List Record) (old mid new : EntropyState) → i < 64
    → Continues (new_id 64 records) (new_id (64 - i) records) old mid → RanShort mid new 4 → RanOut (new_id 64 records) old new
loop-failed i records old mid new l before ran =
    continues-ran_out (new_id 64 records) (new_id (suc (63 - i)) records) old mid new
    (subst (λ n. Continues (new_id 64 records) (new_id n records) old mid) (tries_left i l) before)
    (ran_out-id (63 - i) records mid new ran)

-- all were taken
pub loop-end : (i : ℕ) (records : List Record) (old new : EntropyState) → 64 ≤ i
    → Continues (new_id 64 records) (new_id (64 - i) records) old new → Draws (new_id 64 records) old new (Err IdsExhausted)
loop-end i records old new past before =
    let none : 64 - i ≡ 0 = omega arith in
    continues-draws (new_id 64 records) (new_id 0 records) old new new (Err IdsExhausted)
    (subst (λ n. Continues (new_id 64 records) (new_id n records) old new) none before) (draws-exhausted records new)

pub failed-id : (result : Result (Option ℕ) Failed) (give : Draw ℕ) (old new : EntropyState) → IsErr result → RanOut give old new → DrewId result give old new
failed-id (Ok id) give old new is ran = absurd (false≢true is)
failed-id (Err failed) give old new is ran = ran
