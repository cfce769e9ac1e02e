-- One piece of a session's input after another.
use Rattle.std.proofs.Common.{◌≡◌, ◌≢◌, ◌∙◌, refl, sym, ap, subst, ℕ, suc, ◌+◌, ◌-◌, ◌<◌, ◌≤◌, take, drop, Bool, true, false, List, [], ◌∷◌, ◌++◌, length, Option, Some, None, arith, append_assoc, append-nil, length-append}
use Rattle.std.specs.Prelude.{◌==◌, nat_le, slice_index}
use Rattle.std.proofs.lemmas.List.{get_or-take, length-take-le, take_more, take-append-drop}
use Rattle.std.proofs.lemmas.Bool.{eq-eqb, le-leb, lt-leb}
use Rattle.keyset_model.specs.Keyset.{Keys}
use Rattle.managers.specs.Table.{Table}
use Rattle.tink_spec.proofs.Moves.{drew_more, drew_nothing, lost_later, took_more, took_nothing}
use Rattle.tink_spec.specs.Files.{StoreState}
use Rattle.tink_spec.specs.Outside.{SinkState, EntropyState, Drew, Rose, Stood, Took, TookPrefix}
use Rattle.tinkey_session.proofs.StoreLemmas.{rose_later}
use Rattle.tinkey_session.proofs.TalkLemmas.{byte_by, over-append, over-more, over-stopped, saving_settled, with_more}
use Rattle.tinkey_session.specs.Answered.{DrewSome}
use Rattle.tinkey_session.specs.Saving.{Agrees, FileAsked, Asks, Form, StoreAnswers}
use Rattle.tinkey_session.specs.Talking.{AreSettled, Given, Limit, long_line, many_lines, Replies, Stop, goes, wants, passes, Talk, replied, line_ended, byte_taken, count_limit, line_limit, on_go, over, last_line, going, saving}
use Rattle.tinkey_session.specs.Talks.{limit_fault}
use Rattle.tinkey_session.specs.Texts.{reply_text}
use Rattle.tinkey_session.specs.declared.talk.TalkFault.{TalkFault}
use Rattle.tinkey_session.specs.declared.talk.TalkFault.TheVariants as faults
use Rattle.tinkey_talk.specs.Feeding.{Begins, Ended, Fed, Finished, InLine, InPiece, IsReplied, IsUndrawn, Outside, RepliesBy, Stands, Start, Stopped, HoldsBack, IsInLine, all_told, cut_off, dry, ending, full, given, outside, Point, from, past, taking, torn}

-- ---- stops

pub wants≢goes : wants ≢ goes
wants≢goes e = cc

pub passes≢goes : (limit : Limit) → passes limit ≢ goes
passes≢goes limit e = cc

-- ---- replies that are held back

pub held_nothing : (s : SinkState) (held : List ℕ) → HoldsBack s s held held []
held_nothing s held = record { piece = []; took = took_nothing s; whole = sym (append-nil held) }

pub held_more : (a b c : SinkState) (h i j p q : List ℕ) → HoldsBack a b h i p → HoldsBack b c i j q → HoldsBack a c h j (p ++ q)
held_more a b c h i j p q first second = record {
  piece = first.piece ++ second.piece;
  took = took_more _ _ _ _ _ first.took second.took;
  whole = append_assoc first.piece second.piece j ∙ ap (λ l. first.piece ++ l) second.whole ∙ sym (append_assoc first.piece i q) ∙ ap (λ l. l ++ q) first.whole ∙ append_assoc h p q;
}

-- with more replies behind, which are held back
pub held_with : (a b : SinkState) (h i p q : List ℕ) → HoldsBack a b h i p → HoldsBack a b h (i ++ q) (p ++ q)
held_with a b h i p q held_back = record {
  piece = held_back.piece;
  took = held_back.took;
  whole = sym (append_assoc held_back.piece i q) ∙ ap (λ l. l ++ q) held_back.whole ∙ append_assoc h p q;
}

-- what was held back is written
pub held_written : (a b c : SinkState) (h i p : List ℕ) → HoldsBack a b h i p → Took b c i → Took a c (h ++ p)
held_written a b c h i p held_back took = subst (Took a c) held_back.whole (took_more _ _ _ _ _ held_back.took took)

pub held_all : (a b c : SinkState) (h i p : List ℕ) → HoldsBack a b h i p → Took b c i → HoldsBack a c h [] p
held_all a b c h i p held_back took = record { piece = h ++ p; took = held_written a b c h i p held_back took; whole = append-nil (h ++ p) }

-- what was held back is written in part
pub held_cut : (a b c : SinkState) (h i p : List ℕ) → HoldsBack a b h i p → TookPrefix b c i → TookPrefix a c (h ++ p)
held_cut a b c h i p held_back front = record {
  front = held_back.piece ++ front.front;
  rest = front.rest;
  some = front.some;
  whole = append_assoc held_back.piece front.front front.rest ∙ ap (λ l. held_back.piece ++ l) front.whole ∙ held_back.whole;
  took = took_more _ _ _ _ _ held_back.took front.took;
}

-- nothing is held back
pub held_took : (a b : SinkState) (h p : List ℕ) → HoldsBack a b h [] p → Took a b (h ++ p)
held_took a b h p held_back = subst (Took a b) (sym (append-nil held_back.piece) ∙ held_back.whole) held_back.took

pub prefix_more : (a b : SinkState) (bytes more : List ℕ) → TookPrefix a b bytes → TookPrefix a b (bytes ++ more)
prefix_more a b bytes more front = record {
  front = front.front;
  rest = front.rest ++ more;
  some = let some = front.some in omega (arith, some, length-append front.rest more);
  whole = sym (append_assoc front.front front.rest more) ∙ ap (λ l. l ++ more) front.whole;
  took = front.took;
}

-- with no reply behind those that are held back
none_behind : (a b : SinkState) (held : List ℕ) → Took a b held → Took a b (held ++ [])
none_behind a b held took = subst (Took a b) (sym (append-nil held)) took

-- ---- the store

-- what was asked for later comes after what was asked for before
pub asks_more : (first second : List FileAsked) (a b c : StoreState) → Asks first a b → Asks second b c → Asks (first ++ second) a c
asks_more [] second a b c same later = subst (λ s. Asks second s c) (sym same) later
asks_more (x ∷ first) second a b c asks later = (asks.0, asks.1, asks_more first second asks.0 b c asks.2 later)

pub agrees_first : (answers : StoreAnswers) (before first second : List FileAsked) → Agrees answers before (first ++ second) → Agrees answers before first
agrees_first answers before [] second so = tt
agrees_first answers before (x ∷ first) second so = (so.0, agrees_first answers (before ++ x ∷ []) first second so.1)

pub agrees_second : (answers : StoreAnswers) (before first second : List FileAsked) → Agrees answers before (first ++ second) → Agrees answers (before ++ first) second
agrees_second answers before [] second so = subst (λ l. Agrees answers l second) (sym (append-nil before)) so
agrees_second answers before (x ∷ first) second so = subst (λ l. Agrees answers l second) (append_assoc before (x ∷ []) first) (agrees_second answers (before ++ x ∷ []) first second so.1)

-- ---- how a session stands

stands_as : (x y : Talk) (stop : Stop) (output : List ℕ) (asked : List FileAsked) → y ≡ x → Stands x stop output asked → Stands y stop output asked
stands_as x y stop output asked same so = subst (λ z. Stands z stop output asked) (sym same) so

-- with nothing more
stands_only : (x : Talk) (stop : Stop) (output : List ℕ) (asked : List FileAsked) → x.stop ≡ stop → x.output ≡ output → x.asked ≡ asked → x.random ≡ [] → Stands x stop (output ++ []) (asked ++ [])
stands_only x stop output asked a b c d = record { stop' = a; output' = b ∙ sym (append-nil output); asked' = c ∙ sym (append-nil asked); random' = d }

stands_on : (x : Talk) (stop : Stop) (output p q : List ℕ) (asked xs ys : List FileAsked) → Stands x stop ((output ++ p) ++ q) ((asked ++ xs) ++ ys) → Stands x stop (output ++ (p ++ q)) (asked ++ (xs ++ ys))
stands_on x stop output p q asked xs ys so = record { stop' = so.stop'; output' = so.output' ∙ append_assoc output p q; asked' = so.asked' ∙ append_assoc asked xs ys; random' = so.random' }

-- ---- the replies and the files asked for only grow

begins_as : (x : Talk) (output : List ℕ) (asked : List FileAsked) → x.output ≡ output → x.asked ≡ asked → Begins x output asked
begins_as x output asked a b = record { more = []; later = []; output' = a ∙ sym (append-nil output); asked' = b ∙ sym (append-nil asked) }

begins_only : (x : Talk) (output : List ℕ) (asked : List FileAsked) → Begins x output asked → Begins x (output ++ []) (asked ++ [])
begins_only x output asked b = record {
  more = b.more;
  later = b.later;
  output' = b.output' ∙ ap (λ l. l ++ b.more) (sym (append-nil output));
  asked' = b.asked' ∙ ap (λ l. l ++ b.later) (sym (append-nil asked));
}

begins_on : (x y : Talk) (output : List ℕ) (asked : List FileAsked) → Begins x output asked → Begins y x.output x.asked → Begins y output asked
begins_on x y output asked a b = record {
  more = a.more ++ b.more;
  later = a.later ++ b.later;
  output' = b.output' ∙ ap (λ l. l ++ b.more) a.output' ∙ append_assoc output a.more b.more;
  asked' = b.asked' ∙ ap (λ l. l ++ b.later) a.asked' ∙ append_assoc asked a.later b.later;
}

begins_then : (x : Talk) (output p q : List ℕ) (asked xs ys : List FileAsked) → Begins x ((output ++ p) ++ q) ((asked ++ xs) ++ ys) → Begins x (output ++ (p ++ q)) (asked ++ (xs ++ ys))
begins_then x output p q asked xs ys b = record {
  more = b.more;
  later = b.later;
  output' = b.output' ∙ ap (λ l. l ++ b.more) (append_assoc output p q);
  asked' = b.asked' ∙ ap (λ l. l ++ b.later) (append_assoc asked xs ys);
}

replied_grows : (x : Talk) (o : Option Given) → Begins (replied x o) x.output x.asked
replied_grows x None = begins_as _ _ _ refl refl
replied_grows x (Some g) = record { more = reply_text g.served.reply; later = g.asked; output' = refl; asked' = refl }

byte_grows : (give : Replies) (x : Talk) (b : ℕ) → Begins (byte_taken give x b) x.output x.asked
byte_grows give x b = by (nat_le count_limit x.count) (b == 10) (nat_le line_limit (length x.line))
  where
    by : (many ends long : Bool) → Begins (byte_by many ends long give x b) x.output x.asked
    by true ends long = begins_as _ _ _ refl refl
    by false true long = replied_grows x (give x.asked x.unsaved x.keys x.line x.random)
    by false false true = begins_as _ _ _ refl refl
    by false false false = begins_as _ _ _ refl refl

next_grows : (t : Stop) (x next : Talk) → Begins next x.output x.asked → Begins (on_go t x next) x.output x.asked
next_grows goes x next b = b
next_grows wants x next b = begins_as _ _ _ refl refl
next_grows (passes limit) x next b = begins_as _ _ _ refl refl

over_grows : (give : Replies) (x : Talk) (bytes : List ℕ) → Begins (over give x bytes) x.output x.asked
unfolding over
over_grows give x [] = begins_as _ _ _ refl refl
over_grows give x (b ∷ bytes) =
    let next = on_go x.stop x (byte_taken give x b) in
    begins_on next (over give next bytes) x.output x.asked (next_grows x.stop x (byte_taken give x b) (byte_grows give x b)) (over_grows give next bytes)

-- ---- a line

same_going : (keys : Keys) (line line' : List ℕ) (count count' : ℕ) (unsaved : Bool) (output output' : List ℕ) (asked : List FileAsked) → line ≡ line' → count ≡ count' → output ≡ output' → going keys line count unsaved output asked [] ≡ going keys line' count' unsaved output' asked []
same_going keys line line' count count' unsaved output output' asked a b c =
    ap (λ l. going keys l count unsaved output asked []) a ∙ ap (λ n. going keys line' n unsaved output asked []) b ∙ ap (λ l. going keys line' count' unsaved l asked []) c

-- what a line gives of the bytes drawn for it
gave_line : (give : RepliesBy) (unsaved : Bool) (keys : Keys) (line text : List ℕ) (later : Bool) (last : Keys) (d e : EntropyState) (s t : StoreState) (r : IsReplied give unsaved keys line text later last d e s t) (answers : StoreAnswers) (before : List FileAsked) → Agrees answers before r.asked
    → give answers before unsaved keys line r.drawn ≡ Some (given r.reply later last [] r.asked)
gave_line give unsaved keys line text later last d e s t r answers before agrees = ap (give answers before unsaved keys line) (sym (append-nil r.drawn)) ∙ r.is answers before agrees []

-- the line was answered, and its reply written or held back
pub fed_line : (give : RepliesBy) (old last : Point) (line text written : List ℕ) (a b : Outside) → line ≡ old.line → written ≡ text → last.line ≡ [] → last.count ≡ old.count + 1
    → IsReplied give old.unsaved old.keys line text last.unsaved last.keys a.entropy b.entropy a.store b.store → HoldsBack a.sink b.sink a.held b.held written → Stood a.sink.faults b.sink.faults
    → Fed give (from old) last line_ended a b
fed_line give old last line text written a b is whole cleared counted so held stood =
    let r : IsReplied give old.unsaved old.keys old.line text last.unsaved last.keys a.entropy b.entropy a.store b.store = subst (λ l. IsReplied give old.unsaved old.keys l text last.unsaved last.keys a.entropy b.entropy a.store b.store) is so in
    record {
      drawn = r.drawn;
      written = written;
      asked = r.asked;
      drew = r.drew;
      held_back = held;
      asks = r.asks;
      no_draw_fault = r.stood;
      no_write_fault = stood;
      is = λ answers output before agrees.
          ap (replied (from old output before r.drawn)) (gave_line give old.unsaved old.keys old.line text last.unsaved last.keys _ _ _ _ r answers before agrees)
          ∙ same_going last.keys [] last.line (suc old.count) last.count last.unsaved (output ++ reply_text r.reply) (output ++ written) (before ++ r.asked) (sym cleared) (omega (arith, counted)) (ap (λ l. output ++ l) (sym (whole ∙ r.spelled)));
    }

-- it was answered, but not all of the reply written
pub torn_line : (give : RepliesBy) (old : Point) (later : Bool) (last : Keys) (line text written : List ℕ) (a b : Outside) → line ≡ old.line → written ≡ text
    → IsReplied give old.unsaved old.keys line text later last a.entropy b.entropy a.store b.store → TookPrefix a.sink b.sink (a.held ++ written) → Rose a.sink.faults b.sink.faults
    → Stopped give (from old) line_ended InLine faults.WriteFault a b
torn_line give old later last line text written a b is whole so took rose =
    let r : IsReplied give old.unsaved old.keys old.line text later last a.entropy b.entropy a.store b.store = subst (λ l. IsReplied give old.unsaved old.keys l text later last a.entropy b.entropy a.store b.store) is so in
    torn r.drawn written r.asked refl r.drew took r.asks
    (λ answers output before agrees.
    let e = ap (replied (from old output before r.drawn)) (gave_line give old.unsaved old.keys old.line text later last _ _ _ _ r answers before agrees) in
    begins_as _ _ _ (ap (λ x. x.output) e ∙ ap (λ l. output ++ l) (sym (whole ∙ r.spelled))) (ap (λ x. x.asked) e))
    r.stood rose

-- it wants more random bytes
pub dry_line : (give : RepliesBy) (old : Point) (line : List ℕ) (a b : Outside) → line ≡ old.line → Took a.sink b.sink a.held → Stood a.sink.faults b.sink.faults → a.store ≡ b.store
    → IsUndrawn give old.unsaved old.keys line a.entropy b.entropy
    → Stopped give (from old) line_ended InLine faults.EntropyFault a b
dry_line give old line a b is took stood still so =
    let r : IsUndrawn give old.unsaved old.keys old.line a.entropy b.entropy = subst (λ l. IsUndrawn give old.unsaved old.keys l a.entropy b.entropy) is so in
    dry r.drawn [] [] refl r.gone (none_behind _ _ _ took) still
    (λ answers output before agrees.
    let e = ap (replied (from old output before r.drawn)) (r.undecided answers before) in
    stands_only _ wants output before (ap (λ x. x.stop) e) (ap (λ x. x.output) e) (ap (λ x. x.asked) e) (ap (λ x. x.random) e))
    r.rose stood

-- the same, of a session that is as it was
pub undrawn_as : (give own : RepliesBy) (unsaved : Bool) (keys other : Keys) (line : List ℕ) (d e f : EntropyState) → own ≡ give → other ≡ keys → d ≡ e → IsUndrawn own unsaved other line d f → IsUndrawn give unsaved keys line e f
undrawn_as give own unsaved keys other line d e f g k s so =
    subst (λ x. IsUndrawn x unsaved keys line e f) g (subst (λ x. IsUndrawn own unsaved x line e f) k (subst (λ x. IsUndrawn own unsaved other line x f) s so))

-- and what it gives
pub replied_as : (give own : RepliesBy) (unsaved : Bool) (keys other : Keys) (line text : List ℕ) (later : Bool) (last : Keys) (d e f : EntropyState) (s t u : StoreState) → own ≡ give → other ≡ keys → d ≡ e → s ≡ t → IsReplied own unsaved other line text later last d f s u → IsReplied give unsaved keys line text later last e f t u
replied_as give own unsaved keys other line text later last d e f s t u g k same still so =
    subst (λ x. IsReplied x unsaved keys line text later last e f t u) g (subst (λ x. IsReplied own unsaved x line text later last e f t u) k (subst (λ x. IsReplied own unsaved other line text later last x f t u) same (subst (λ x. IsReplied own unsaved other line text later last d f x u) still so)))

-- memory was refused
pub full_line : (give : RepliesBy) (takes : Replies → Talk → Talk) (start : Start) (a b : Outside) → Took a.sink b.sink a.held → Stood a.sink.faults b.sink.faults → a.store ≡ b.store → DrewSome a.entropy b.entropy → Stopped give start takes InLine faults.NoMemory a b
full_line give takes start a b took stood still r = full [] r.drawn [] [] refl r.drew (none_behind _ _ _ took) still (refl, refl, refl) r.stood stood

-- a write failed before the bytes were taken
cut_before : (give : RepliesBy) (takes : Replies → Talk → Talk) (start : Start) (Leaves : List ℕ → List ℕ → List FileAsked → Type 0) (fault : TalkFault) (s t : SinkState) (held : List ℕ) (e : EntropyState) (u : StoreState) → fault ≡ faults.WriteFault
    → ((answers : StoreAnswers) (output : List ℕ) (before : List FileAsked) → Begins (takes (give answers) (start output before [])) output before)
    → TookPrefix s t held → Rose s.faults t.faults → Stopped give start takes Leaves fault (outside s held e u) (outside t [] e u)
cut_before give takes start Leaves fault s t held e u same grows front rose =
    torn [] [] [] same (drew_nothing e) (prefix_more s t held [] front) refl (λ answers output before agrees. begins_only _ _ _ (grows answers output before)) refl rose

-- memory was refused, or a write failed, before the line was answered
pub ended_line : (give : RepliesBy) (old : Point) (fault : TalkFault) (s t : SinkState) (held : List ℕ) (d e : EntropyState) (u v : StoreState) → d ≡ e → v ≡ u → Ended faults.NoMemory fault s t held
    → Stopped give (from old) line_ended InLine fault (outside s held e u) (outside t [] d v)
ended_line give old fault s t held d e u v stays still ended =
    subst (λ x. Stopped give (from old) line_ended InLine fault (outside s held e u) (outside t [] x v)) (sym stays)
    (subst (λ x. Stopped give (from old) line_ended InLine fault (outside s held e u) (outside t [] e x)) (sym still) (by ended))
  where
    by : Ended faults.NoMemory fault s t held → Stopped give (from old) line_ended InLine fault (outside s held e u) (outside t [] e u)
    by (all_told same took stood) = full [] [] [] [] same (drew_nothing e) (none_behind _ _ _ took) refl (refl, refl, refl) refl stood
    by (cut_off same front rose) = cut_before give line_ended (from old) InLine fault s t held e u same (λ answers output before. replied_grows (from old output before []) (give answers before old.unsaved old.keys old.line [])) front rose

-- ---- a byte

over_byte : (give : Replies) (old : Point) (b : ℕ) (output : List ℕ) (before : List FileAsked) (drawn : List ℕ) → over give (from old output before drawn) (b ∷ []) ≡ byte_taken give (from old output before drawn) b
unfolding over
over_byte give old b output before drawn = refl

by_tests : (give : Replies) (old : Point) (b : ℕ) (output : List ℕ) (before : List FileAsked) (drawn : List ℕ) (many ends long : Bool) → nat_le count_limit old.count ≡ many → (b == 10) ≡ ends → nat_le line_limit (length old.line) ≡ long
    → over give (from old output before drawn) (b ∷ []) ≡ byte_by many ends long give (from old output before drawn) b
by_tests give old b output before drawn many ends long m e l =
    over_byte give old b output before drawn
    ∙ ap (λ t. byte_by t (b == 10) (nat_le line_limit (length old.line)) give (from old output before drawn) b) m
    ∙ ap (λ t. byte_by many t (nat_le line_limit (length old.line)) give (from old output before drawn) b) e
    ∙ ap (λ t. byte_by many ends t give (from old output before drawn) b) l

newline : (give : Replies) (old : Point) (b : ℕ) (output : List ℕ) (before : List FileAsked) (drawn : List ℕ) → b ≡ 10 → old.count < count_limit → over give (from old output before drawn) (b ∷ []) ≡ line_ended give (from old output before drawn)
newline give old b output before drawn is less = by_tests give old b output before drawn false true (nat_le line_limit (length old.line)) (lt-leb _ _ less) (eq-eqb b 10 is) refl

-- where bytes are taken by what does the same
fed_as : (give : RepliesBy) (start : Start) (last : Point) (takes other : Replies → Talk → Talk) (a b : Outside) → ((answers : StoreAnswers) (output : List ℕ) (before : List FileAsked) (drawn : List ℕ) → other (give answers) (start output before drawn) ≡ takes (give answers) (start output before drawn))
    → Fed give start last takes a b → Fed give start last other a b
fed_as give start last takes other a b same fed = record {
  drawn = fed.drawn;
  written = fed.written;
  asked = fed.asked;
  drew = fed.drew;
  held_back = fed.held_back;
  asks = fed.asks;
  no_draw_fault = fed.no_draw_fault;
  no_write_fault = fed.no_write_fault;
  is = λ answers output before agrees. same answers output before fed.drawn ∙ fed.is answers output before agrees;
}

pub fed_newline : (give : RepliesBy) (old last : Point) (byte : ℕ) (a b : Outside) → byte ≡ 10 → old.count < count_limit → Fed give (from old) last line_ended a b → Fed give (from old) last (taking (byte ∷ [])) a b
fed_newline give old last byte a b is less fed =
    fed_as give (from old) last line_ended (taking (byte ∷ [])) a b (λ answers output before drawn. newline (give answers) old byte output before drawn is less) fed

-- where a session is stopped by what it takes, it is by what does the same
pub stopped_as : (give : RepliesBy) (start : Start) (takes other : Replies → Talk → Talk) (Leaves Others : List ℕ → List ℕ → List FileAsked → Type 0) (fault : TalkFault) (a b : Outside)
    → ((answers : StoreAnswers) (output : List ℕ) (before : List FileAsked) (drawn : List ℕ) → other (give answers) (start output before drawn) ≡ takes (give answers) (start output before drawn))
    → ((drawn written : List ℕ) (asked : List FileAsked) → Leaves drawn written asked → Others drawn written asked) → Stopped give start takes Leaves fault a b → Stopped give start other Others fault a b
stopped_as give start takes other Leaves Others fault a b same leaves (past drawn written asked limit is drew took asks stands no_draw_fault no_write_fault) =
    past drawn written asked limit is drew took asks (λ answers output before agrees. stands_as _ _ _ _ _ (same answers output before drawn) (stands answers output before agrees)) no_draw_fault no_write_fault
stopped_as give start takes other Leaves Others fault a b same leaves (dry drawn written asked is drew took asks stands rose no_write_fault) =
    dry drawn written asked is drew took asks (λ answers output before agrees. stands_as _ _ _ _ _ (same answers output before drawn) (stands answers output before agrees)) rose no_write_fault
stopped_as give start takes other Leaves Others fault a b same leaves (torn drawn written asked is drew took asks begins no_draw_fault rose) =
    torn drawn written asked is drew took asks
    (λ answers output before agrees. subst (λ x. Begins x (output ++ written) (before ++ asked)) (sym (same answers output before drawn)) (begins answers output before agrees)) no_draw_fault rose
stopped_as give start takes other Leaves Others fault a b same leaves (full drawn part written asked is drew took asks inside no_draw_fault no_write_fault) =
    full drawn part written asked is drew took asks (leaves drawn written asked inside) no_draw_fault no_write_fault

-- memory is refused in front of a byte
in_front : (give : RepliesBy) (old : Point) (bytes : List ℕ) (drawn written : List ℕ) (asked : List FileAsked) → InLine drawn written asked → InPiece give (from old) bytes drawn written asked
unfolding over
in_front give old bytes drawn written asked inside = record {
  first = [];
  more = bytes;
  whole = refl;
  goes' = λ answers output before agrees. record {
    stop' = refl;
    output' = sym (append-nil output) ∙ ap (λ l. output ++ l) (sym inside.1);
    asked' = sym (append-nil before) ∙ ap (λ l. before ++ l) (sym inside.2);
    random' = inside.0;
  };
}

pub stopped_newline : (give : RepliesBy) (old : Point) (byte : ℕ) (fault : TalkFault) (a b : Outside) → byte ≡ 10 → old.count < count_limit → Stopped give (from old) line_ended InLine fault a b
    → Stopped give (from old) (taking (byte ∷ [])) (InPiece give (from old) (byte ∷ [])) fault a b
stopped_newline give old byte fault a b is less stopped =
    stopped_as give (from old) line_ended (taking (byte ∷ [])) InLine (InPiece give (from old) (byte ∷ [])) fault a b (λ answers output before drawn. newline (give answers) old byte output before drawn is less) (in_front give old (byte ∷ [])) stopped

-- a byte past a limit
stopped_past : (give : RepliesBy) (old : Point) (byte : ℕ) (limit : Limit) (fault : TalkFault) (s t : SinkState) (held : List ℕ) (d : EntropyState) (u : StoreState)
    → ((answers : StoreAnswers) (output : List ℕ) (before : List FileAsked) → over (give answers) (from old output before []) (byte ∷ []) ≡ record (from old output before []) { stop = passes limit }) → Ended (limit_fault limit) fault s t held
    → Stopped give (from old) (taking (byte ∷ [])) (InPiece give (from old) (byte ∷ [])) fault (outside s held d u) (outside t [] d u)
stopped_past give old byte limit fault s t held d u e (all_told same took stood) =
    past [] [] [] limit same (drew_nothing d) (none_behind _ _ _ took) refl
    (λ answers output before agrees. let k = e answers output before in stands_only _ (passes limit) output before (ap (λ x. x.stop) k) (ap (λ x. x.output) k) (ap (λ x. x.asked) k) (ap (λ x. x.random) k))
    refl stood
stopped_past give old byte limit fault s t held d u e (cut_off same front rose) =
    cut_before give (taking (byte ∷ [])) (from old) (InPiece give (from old) (byte ∷ [])) fault s t held d u same (λ answers output before. over_grows (give answers) (from old output before []) (byte ∷ [])) front rose

pub stopped_many : (give : RepliesBy) (old : Point) (byte : ℕ) (fault : TalkFault) (s t : SinkState) (held : List ℕ) (d : EntropyState) (u : StoreState) → count_limit ≤ old.count → Ended faults.TooManyLines fault s t held
    → Stopped give (from old) (taking (byte ∷ [])) (InPiece give (from old) (byte ∷ [])) fault (outside s held d u) (outside t [] d u)
stopped_many give old byte fault s t held d u le ended =
    stopped_past give old byte many_lines fault s t held d u (λ answers output before. by_tests (give answers) old byte output before [] true (byte == 10) (nat_le line_limit (length old.line)) (le-leb _ _ le) refl refl) ended

pub stopped_long : (give : RepliesBy) (old : Point) (byte : ℕ) (fault : TalkFault) (s t : SinkState) (held : List ℕ) (d : EntropyState) (u : StoreState) → old.count < count_limit → (byte == 10) ≡ false → line_limit ≤ length old.line → Ended faults.LineTooLong fault s t held
    → Stopped give (from old) (taking (byte ∷ [])) (InPiece give (from old) (byte ∷ [])) fault (outside s held d u) (outside t [] d u)
stopped_long give old byte fault s t held d u less other le ended =
    stopped_past give old byte long_line fault s t held d u (λ answers output before. by_tests (give answers) old byte output before [] false false true (lt-leb _ _ less) other (le-leb _ _ le)) ended

-- memory was refused for a byte
pub full_byte : (give : RepliesBy) (old : Point) (byte : ℕ) (fault : TalkFault) (s t : SinkState) (held : List ℕ) (d : EntropyState) (u : StoreState) → Ended faults.NoMemory fault s t held
    → Stopped give (from old) (taking (byte ∷ [])) (InPiece give (from old) (byte ∷ [])) fault (outside s held d u) (outside t [] d u)
full_byte give old byte fault s t held d u (all_told same took stood) = full [] [] [] [] same (drew_nothing d) (none_behind _ _ _ took) refl (in_front give old (byte ∷ []) [] [] [] (refl, refl, refl)) refl stood
full_byte give old byte fault s t held d u (cut_off same front rose) =
    cut_before give (taking (byte ∷ [])) (from old) (InPiece give (from old) (byte ∷ [])) fault s t held d u same (λ answers output before. over_grows (give answers) (from old output before []) (byte ∷ [])) front rose

-- bytes of the line
over_in_line : (give : Replies) (keys : Keys) (line : List ℕ) (count : ℕ) (unsaved : Bool) (output : List ℕ) (before : List FileAsked) (bytes : List ℕ) → count < count_limit → IsInLine bytes → length line + length bytes ≤ line_limit
    → over give (going keys line count unsaved output before []) bytes ≡ going keys (line ++ bytes) count unsaved output before []
unfolding over
over_in_line give keys line count unsaved output before [] less other short = ap (λ l. going keys l count unsaved output before []) (sym (append-nil line))
over_in_line give keys line count unsaved output before (b ∷ bytes) less other short =
    let old : Point = record { keys = keys; line = line; count = count; unsaved = unsaved } in
    ap (λ x. over give x bytes) (sym (over_byte give old b output before [])
    ∙ by_tests give old b output before [] false false false (lt-leb _ _ less) (other 0 (omega arith)) (lt-leb _ _ (omega arith)))
    ∙ over_in_line give keys (line ++ b ∷ []) count unsaved output before bytes less (λ k h. other (suc k) (omega (arith, h))) (omega (arith, length-append line (b ∷ [])))
    ∙ ap (λ l. going keys l count unsaved output before []) (append_assoc line (b ∷ []) bytes)

pub fed_in_line : (give : RepliesBy) (old last : Point) (bytes : List ℕ) (a : Outside) → old.count < count_limit → IsInLine bytes → length old.line + length bytes ≤ line_limit
    → last.keys ≡ old.keys → last.count ≡ old.count → last.unsaved ≡ old.unsaved → last.line ≡ old.line ++ bytes
    → Fed give (from old) last (taking bytes) a a
fed_in_line give old last bytes a less other short keys count unsaved line = record {
  drawn = [];
  written = [];
  asked = [];
  drew = drew_nothing a.entropy;
  held_back = held_nothing a.sink a.held;
  asks = refl;
  no_draw_fault = refl;
  no_write_fault = refl;
  is = λ answers output before agrees.
      over_in_line (give answers) old.keys old.line old.count old.unsaved output before bytes less other short
      ∙ ap (λ k. going k (old.line ++ bytes) old.count old.unsaved output before []) (sym keys)
      ∙ ap (λ u. going last.keys (old.line ++ bytes) old.count u output before []) (sym unsaved)
      ∙ same_going last.keys (old.line ++ bytes) last.line old.count last.count last.unsaved output (output ++ []) before (sym line) (sym count) (sym (append-nil output))
      ∙ ap (λ l. from last (output ++ []) l []) (sym (append-nil before));
}

-- ---- one piece behind another

-- more random bytes behind are only that
abbrev pub IsStart : Start → Type 0
IsStart start = (output : List ℕ) (before : List FileAsked) (drawn more : List ℕ) → start output before (drawn ++ more) ≡ with_more more (start output before drawn)

pub start_seen : (old : Point) → IsStart (from old)
start_seen old output before drawn more = refl

pub fed_over : (give : Replies) → AreSettled give → (start : Start) (mid : Point) (p output : List ℕ) (before : List FileAsked) (drawn written : List ℕ) (asked : List FileAsked) (more : List ℕ) → IsStart start
    → over give (start output before drawn) p ≡ from mid written asked [] → over give (start output before (drawn ++ more)) p ≡ from mid written asked more
fed_over give settled start mid p output before drawn written asked more is e =
    ap (λ x. over give x p) (is output before drawn more)
    ∙ over-more give settled (start output before drawn) more p (λ h. wants≢goes (sym h ∙ ap (λ x. x.stop) e))
    ∙ ap (with_more more) e

-- the same, and then more bytes
fed_then : (give : Replies) → AreSettled give → (start : Start) (mid : Point) (p q output : List ℕ) (before : List FileAsked) (drawn written : List ℕ) (asked : List FileAsked) (more : List ℕ) → IsStart start
    → over give (start output before drawn) p ≡ from mid written asked [] → over give (start output before (drawn ++ more)) (p ++ q) ≡ over give (from mid written asked more) q
fed_then give settled start mid p q output before drawn written asked more is e =
    over-append give (start output before (drawn ++ more)) p q ∙ ap (λ x. over give x q) (fed_over give settled start mid p output before drawn written asked more is e)

-- all of what lines give is settled
abbrev pub AllSettled : RepliesBy → Type 0
AllSettled give = (answers : StoreAnswers) → AreSettled (give answers)

pub all_settled : (table : Table) (form : Form) → AllSettled (saving table form)
all_settled table form answers = saving_settled table form answers

pub fed_more : (give : RepliesBy) → AllSettled give → (start : Start) (mid last : Point) (p q : List ℕ) (a b c : Outside) → IsStart start → Fed give start mid (taking p) a b → Fed give (from mid) last (taking q) b c
    → Fed give start last (taking (p ++ q)) a c
fed_more give settled start mid last p q a b c is first second = record {
  drawn = first.drawn ++ second.drawn;
  written = first.written ++ second.written;
  asked = first.asked ++ second.asked;
  drew = drew_more _ _ _ _ _ first.drew second.drew;
  held_back = held_more _ _ _ _ _ _ _ _ first.held_back second.held_back;
  asks = asks_more first.asked second.asked _ _ _ first.asks second.asks;
  no_draw_fault = second.no_draw_fault ∙ first.no_draw_fault;
  no_write_fault = second.no_write_fault ∙ first.no_write_fault;
  is = λ answers output before agrees.
      fed_then (give answers) (settled answers) start mid p q output before first.drawn (output ++ first.written) (before ++ first.asked) second.drawn is (first.is answers output before (agrees_first answers before first.asked second.asked agrees))
      ∙ second.is answers (output ++ first.written) (before ++ first.asked) (agrees_second answers before first.asked second.asked agrees)
      ∙ ap (λ l. from last l ((before ++ first.asked) ++ second.asked) []) (append_assoc output first.written second.written)
      ∙ ap (λ l. from last (output ++ (first.written ++ second.written)) l []) (append_assoc before first.asked second.asked);
}

stopped_at : (give : Replies) → AreSettled give → (start : Start) (mid : Point) (p q r piece output : List ℕ) (before : List FileAsked) (drawn written : List ℕ) (asked : List FileAsked) (more : List ℕ) → IsStart start → piece ≡ (p ++ q) ++ r
    → over give (start output before drawn) p ≡ from mid written asked [] → (over give (from mid written asked more) q).stop ≢ goes → over give (start output before (drawn ++ more)) piece ≡ over give (from mid written asked more) q
stopped_at give settled start mid p q r piece output before drawn written asked more is whole e still =
    ap (over give (start output before (drawn ++ more))) whole
    ∙ over-append give (start output before (drawn ++ more)) (p ++ q) r
    ∙ ap (λ x. over give x r) (fed_then give settled start mid p q output before drawn written asked more is e)
    ∙ over-stopped give (over give (from mid written asked more) q) r still

-- a write failed behind bytes that were taken
pub cut_behind : (give : RepliesBy) (start : Start) (last : Point) (takes : Replies → Talk → Talk) (Leaves : List ℕ → List ℕ → List FileAsked → Type 0) (s t u : SinkState) (h i : List ℕ) (d e : EntropyState) (v w : StoreState) → Fed give start last takes (outside s h d v) (outside t i e w)
    → TookPrefix t u i → Rose t.faults u.faults → Stopped give start takes Leaves faults.WriteFault (outside s h d v) (outside u [] e w)
cut_behind give start last takes Leaves s t u h i d e v w fed front rose =
    torn fed.drawn fed.written fed.asked refl fed.drew (held_cut _ _ _ _ _ _ fed.held_back front) fed.asks
    (λ answers output before agrees. let k = fed.is answers output before agrees in begins_as _ _ _ (ap (λ x. x.output) k) (ap (λ x. x.asked) k))
    fed.no_draw_fault (rose_later _ _ _ fed.held_back.took.faults rose)

-- what is held back behind bytes that were taken is written
pub fed_written : (give : RepliesBy) (start : Start) (last : Point) (takes : Replies → Talk → Talk) (s t u : SinkState) (h i j : List ℕ) (d e : EntropyState) (v w : StoreState) → j ≡ [] → Fed give start last takes (outside s h d v) (outside t i e w)
    → Took t u i → Stood t.faults u.faults → Fed give start last takes (outside s h d v) (outside u j e w)
fed_written give start last takes s t u h i j d e v w none fed took stood = record {
  drawn = fed.drawn;
  written = fed.written;
  asked = fed.asked;
  drew = fed.drew;
  held_back = subst (λ l. HoldsBack s u h l fed.written) (sym none) (held_all _ _ _ _ _ _ fed.held_back took);
  asks = fed.asks;
  no_draw_fault = fed.no_draw_fault;
  no_write_fault = stood ∙ fed.no_write_fault;
  is = fed.is;
}

-- a stop in the next bytes, whatever follows them
pub stopped_more : (give : RepliesBy) → AllSettled give → (start : Start) (mid : Point) (p q r piece : List ℕ) (fault : TalkFault) (a b c : Outside) → IsStart start → piece ≡ (p ++ q) ++ r
    → Fed give start mid (taking p) a b → Stopped give (from mid) (taking q) (InPiece give (from mid) q) fault b c
    → Stopped give start (taking piece) (InPiece give start piece) fault a c
stopped_more give settled start mid p q r piece fault a b c is whole first (past drawn written asked limit same drew took asks stands no_draw_fault no_write_fault) =
    past (first.drawn ++ drawn) (first.written ++ written) (first.asked ++ asked) limit same (drew_more _ _ _ _ _ first.drew drew) (held_written _ _ _ _ _ _ (held_with _ _ _ _ _ written first.held_back) took) (asks_more first.asked asked _ _ _ first.asks asks)
    (λ answers output before agrees.
    let so = stands answers (output ++ first.written) (before ++ first.asked) (agrees_second answers before first.asked asked agrees) in
    stands_as _ _ _ _ _ (stopped_at (give answers) (settled answers) start mid p q r piece output before first.drawn (output ++ first.written) (before ++ first.asked) drawn is whole (first.is answers output before (agrees_first answers before first.asked asked agrees)) (λ g. passes≢goes limit (sym so.stop' ∙ g)))
    (stands_on _ _ output first.written written before first.asked asked so))
    (no_draw_fault ∙ first.no_draw_fault) (no_write_fault ∙ first.no_write_fault)
stopped_more give settled start mid p q r piece fault a b c is whole first (dry drawn written asked same drew took asks stands rose no_write_fault) =
    dry (first.drawn ++ drawn) (first.written ++ written) (first.asked ++ asked) same (lost_later _ _ _ _ _ first.drew drew) (held_written _ _ _ _ _ _ (held_with _ _ _ _ _ written first.held_back) took) (asks_more first.asked asked _ _ _ first.asks asks)
    (λ answers output before agrees.
    let so = stands answers (output ++ first.written) (before ++ first.asked) (agrees_second answers before first.asked asked agrees) in
    stands_as _ _ _ _ _ (stopped_at (give answers) (settled answers) start mid p q r piece output before first.drawn (output ++ first.written) (before ++ first.asked) drawn is whole (first.is answers output before (agrees_first answers before first.asked asked agrees)) (λ g. wants≢goes (sym so.stop' ∙ g)))
    (stands_on _ _ output first.written written before first.asked asked so))
    (rose_later _ _ _ first.drew.faults rose) (no_write_fault ∙ first.no_write_fault)
stopped_more give settled start mid p q r piece fault a b c is whole first (torn drawn written asked same drew took asks begins no_draw_fault rose) =
    torn (first.drawn ++ drawn) (first.written ++ written) (first.asked ++ asked) same (drew_more _ _ _ _ _ first.drew drew) (held_cut _ _ _ _ _ _ (held_with _ _ _ _ _ written first.held_back) took) (asks_more first.asked asked _ _ _ first.asks asks)
    (λ answers output before agrees.
    let x = over (give answers) (from mid (output ++ first.written) (before ++ first.asked) drawn) q in
    let e = ap (over (give answers) (start output before (first.drawn ++ drawn))) whole
    ∙ over-append (give answers) (start output before (first.drawn ++ drawn)) (p ++ q) r
    ∙ ap (λ y. over (give answers) y r) (fed_then (give answers) (settled answers) start mid p q output before first.drawn (output ++ first.written) (before ++ first.asked) drawn is (first.is answers output before (agrees_first answers before first.asked asked agrees))) in
    subst (λ y. Begins y (output ++ (first.written ++ written)) (before ++ (first.asked ++ asked))) (sym e)
    (begins_then _ output first.written written before first.asked asked
    (begins_on x (over (give answers) x r) _ _ (begins answers (output ++ first.written) (before ++ first.asked) (agrees_second answers before first.asked asked agrees)) (over_grows (give answers) x r))))
    (no_draw_fault ∙ first.no_draw_fault) (rose_later _ _ _ first.held_back.took.faults rose)
stopped_more give settled start mid p q r piece fault a b c is whole first (full drawn part written asked same drew took asks inside no_draw_fault no_write_fault) =
    full (first.drawn ++ drawn) part (first.written ++ written) (first.asked ++ asked) same
    (subst (Drew a.entropy c.entropy) (sym (append_assoc first.drawn drawn part)) (drew_more _ _ _ _ _ first.drew drew)) (held_written _ _ _ _ _ _ (held_with _ _ _ _ _ written first.held_back) took) (asks_more first.asked asked _ _ _ first.asks asks)
    (record {
      first = p ++ inside.first;
      more = inside.more ++ r;
      whole = append_assoc p inside.first (inside.more ++ r) ∙ ap (λ l. p ++ l) (sym (append_assoc inside.first inside.more r) ∙ ap (λ l. l ++ r) inside.whole) ∙ sym (append_assoc p q r) ∙ sym whole;
      goes' = λ answers output before agrees.
          stands_as _ _ _ _ _ (fed_then (give answers) (settled answers) start mid p inside.first output before first.drawn (output ++ first.written) (before ++ first.asked) drawn is (first.is answers output before (agrees_first answers before first.asked asked agrees)))
          (stands_on _ _ output first.written written before first.asked asked (inside.goes' answers (output ++ first.written) (before ++ first.asked) (agrees_second answers before first.asked asked agrees)));
    })
    (no_draw_fault ∙ first.no_draw_fault) (no_write_fault ∙ first.no_write_fault)

-- ---- the last line

last_some : (give : Replies) (line : List ℕ) (x : Talk) → 0 < length line → last_line give line x ≡ line_ended give x
last_some give [] x some = absurd (omega (arith, some))
last_some give (b ∷ bytes) x some = refl

last_none : (give : Replies) (line : List ℕ) (x : Talk) → length line ≡ 0 → last_line give line x ≡ x
last_none give [] x none = refl
last_none give (b ∷ bytes) x none = absurd (omega (arith, none))

pub finished_line : (give : RepliesBy) (old last : Point) (a b : Outside) → 0 < length old.line → b.held ≡ [] → Fed give (from old) last line_ended a b → Finished give (from old) last.keys a b
finished_line give old last a b some none fed = record {
  drawn = fed.drawn;
  written = fed.written;
  asked = fed.asked;
  drew = fed.drew;
  took = held_took _ _ _ _ (subst (λ l. HoldsBack a.sink b.sink a.held l fed.written) none fed.held_back);
  asks = fed.asks;
  no_draw_fault = fed.no_draw_fault;
  no_write_fault = fed.no_write_fault;
  goes' = λ answers output before agrees.
      let e = last_some (give answers) old.line (from old output before fed.drawn) some ∙ fed.is answers output before agrees in
      record { stop' = ap (λ x. x.stop) e; output' = ap (λ x. x.output) e; asked' = ap (λ x. x.asked) e; random' = ap (λ x. x.random) e };
  last = λ answers output before agrees. ap (λ x. x.keys) (last_some (give answers) old.line (from old output before fed.drawn) some ∙ fed.is answers output before agrees);
}

pub finished_none : (give : RepliesBy) (old : Point) (s : SinkState) (d : EntropyState) (u : StoreState) → length old.line ≡ 0 → Finished give (from old) old.keys (outside s [] d u) (outside s [] d u)
finished_none give old s d u none = record {
  drawn = [];
  written = [];
  asked = [];
  drew = drew_nothing d;
  took = took_nothing s;
  asks = refl;
  no_draw_fault = refl;
  no_write_fault = refl;
  goes' = λ answers output before agrees.
      let e = last_none (give answers) old.line (from old output before []) none in
      stands_only _ goes output before (ap (λ x. x.stop) e) (ap (λ x. x.output) e) (ap (λ x. x.asked) e) (ap (λ x. x.random) e);
  last = λ answers output before agrees. ap (λ x. x.keys) (last_none (give answers) old.line (from old output before []) none);
}

pub stopped_last : (give : RepliesBy) (old : Point) (fault : TalkFault) (a b : Outside) → 0 < length old.line → Stopped give (from old) line_ended InLine fault a b → Stopped give (from old) ending InLine fault a b
stopped_last give old fault a b some stopped =
    stopped_as give (from old) line_ended ending InLine InLine fault a b (λ answers output before drawn. last_some (give answers) old.line (from old output before drawn) some) (λ drawn written asked inside. inside) stopped

-- ---- a piece, part by part, by replies that are the same

pub fed_none : (give : RepliesBy) (at : Point) (a : Outside) → Fed give (from at) at (taking []) a a
unfolding over
fed_none give at a = record {
  drawn = [];
  written = [];
  asked = [];
  drew = drew_nothing a.entropy;
  held_back = held_nothing a.sink a.held;
  asks = refl;
  no_draw_fault = refl;
  no_write_fault = refl;
  is = λ answers output before agrees. ap (λ l. from at l before []) (sym (append-nil output)) ∙ ap (λ l. from at (output ++ []) l []) (sym (append-nil before));
}

pub fed_piece : (give own : RepliesBy) → AllSettled give → (old mid last : Point) (p q piece : List ℕ) (a b c : Outside) → own ≡ give → piece ≡ p ++ q → Fed give (from old) mid (taking p) a b → Fed own (from mid) last (taking q) b c
    → Fed give (from old) last (taking piece) a c
fed_piece give own settled old mid last p q piece a b c same whole first second =
    subst (λ l. Fed give (from old) last (taking l) a c) (sym whole)
    (fed_more give settled (from old) mid last p q a b c (start_seen old) first (subst (λ g. Fed g (from mid) last (taking q) b c) same second))

pub stopped_piece : (give own : RepliesBy) → AllSettled give → (old mid : Point) (p q r piece : List ℕ) (fault : TalkFault) (a b c : Outside) → own ≡ give → piece ≡ (p ++ q) ++ r → Fed give (from old) mid (taking p) a b
    → Stopped own (from mid) (taking q) (InPiece own (from mid) q) fault b c → Stopped give (from old) (taking piece) (InPiece give (from old) piece) fault a c
stopped_piece give own settled old mid p q r piece fault a b c same whole first second =
    stopped_more give settled (from old) mid p q r piece fault a b c (start_seen old) whole first
    (subst (λ g. Stopped g (from mid) (taking q) (InPiece g (from mid) q) fault b c) same second)

pub fed_all : (give : RepliesBy) (old last : Point) (p piece : List ℕ) (a b : Outside) → p ≡ piece → Fed give (from old) last (taking p) a b → Fed give (from old) last (taking piece) a b
fed_all give old last p piece a b same fed = subst (λ l. Fed give (from old) last (taking l) a b) same fed

-- ---- the first of some bytes

-- a stop at the first byte, whatever follows it
pub stopped_first : (give : RepliesBy) → AllSettled give → (old : Point) (bytes : List ℕ) (fault : TalkFault) (a b : Outside) → 0 < length bytes
    → ((byte : ℕ) → slice_index bytes 0 ≡ byte → Stopped give (from old) (taking (byte ∷ [])) (InPiece give (from old) (byte ∷ [])) fault a b)
    → Stopped give (from old) (taking bytes) (InPiece give (from old) bytes) fault a b
stopped_first give settled old [] fault a b some stopped = absurd (omega (arith, some))
stopped_first give settled old (byte ∷ bytes) fault a b some stopped =
    stopped_piece give give settled old old [] (byte ∷ []) bytes (byte ∷ bytes) fault a a b refl refl (fed_none give old a) (stopped byte refl)

-- a byte too many behind bytes of the line
pub stopped_in_line : (give : RepliesBy) → AllSettled give → (old : Point) (bytes : List ℕ) (front : ℕ) (fault : TalkFault) (s t : SinkState) (held : List ℕ) (d : EntropyState) (u : StoreState) → old.count < count_limit → length old.line ≤ line_limit
    → front ≤ length bytes → IsInLine (take front bytes) → line_limit < length old.line + front → Ended faults.LineTooLong fault s t held
    → Stopped give (from old) (taking bytes) (InPiece give (from old) bytes) fault (outside s held d u) (outside t [] d u)
stopped_in_line give settled old bytes front fault s t held d u less fits within other many ended =
    let room = line_limit - length old.line in
    let some : room < length bytes = omega (arith, fits, within, many) in
    let inside : room < front = omega (arith, fits, many) in
    let line : List ℕ = take room bytes in
    let size : length line ≡ room = length-take-le room bytes (omega (arith, some)) in
    let mid : Point = record { keys = old.keys; line = old.line ++ line; count = old.count; unsaved = old.unsaved } in
    let full : length mid.line ≡ line_limit = length-append old.line line ∙ omega (arith, size, fits) in
    let byte = slice_index bytes room in
    let here : slice_index (take front bytes) room ≡ byte = get_or-take front bytes room 0 inside in
    let newline : (byte == 10) ≡ false = ap (λ b. b == 10) (sym here) ∙ other room (omega (arith, inside, length-take-le front bytes within)) in
    let before : IsInLine line = λ k h. ap (λ b. b == 10) (get_or-take room bytes k 0 (omega (arith, h, size)) ∙ sym (get_or-take front bytes k 0 (omega (arith, h, size, inside)))) ∙ other k (omega (arith, h, size, inside, length-take-le front bytes within)) in
    stopped_piece give give settled old mid line (byte ∷ []) (drop (room + 1) bytes) bytes fault (outside s held d u) (outside s held d u) (outside t [] d u) refl
    (sym (ap (λ l. l ++ drop (room + 1) bytes) (sym (take_more bytes room 0 some)) ∙ take-append-drop (room + 1) bytes))
    (fed_in_line give old mid line (outside s held d u) less before (omega (arith, size, fits)) refl refl refl refl)
    (stopped_long give mid byte fault s t held d u less newline (omega (arith, full)) ended)

-- the first byte is a newline
pub fed_first : (give : RepliesBy) (old last : Point) (bytes : List ℕ) (a b : Outside) → 0 < length bytes → slice_index bytes 0 ≡ 10 → old.count < count_limit
    → Fed give (from old) last line_ended a b → Fed give (from old) last (taking (take 1 bytes)) a b
fed_first give old last [] a b some is less fed = absurd (omega (arith, some))
fed_first give old last (byte ∷ bytes) a b some is less fed = fed_newline give old last byte a b is less fed
