-- How the session over the outside objects ends.
use Rattle.std.proofs.Common.{◌≡◌, ◌∙◌, refl, sym, ap, subst, ℕ, true, false, List, [], ◌∷◌, ◌++◌, Result, Ok, Err, IfOk, IfErr, Option, Some, None, IfSome, Bool, append-nil}
use Rattle.keyset_model.specs.Keyset.{Keys}
use Rattle.tink_spec.proofs.Moves.{drew_more, drew_nothing, gave_more, gave_nothing, lost_later, took_more}
use Rattle.tink_spec.specs.Files.{StoreState}
use Rattle.tink_spec.specs.Outside.{SourceState, Drew, Gave, IsAtEnd, Rose, Stood, Took, TookPrefix}
use Rattle.tinkey_session.proofs.StoreLemmas.{rose_later}
use Rattle.tinkey_session.specs.Saving.{FileAsked, StoreAnswers}
use Rattle.tinkey_session.specs.Talking.{AreSettled, Given, Limit, Replies, goes, passes, Talk, replied, last_line, finish, going, over, talk_by}
use Rattle.tinkey_session.specs.Talks.{Sides, TalksWith, passed, starved, talked, undrawn, unread, unwritten}
use Rattle.tinkey_session.specs.declared.talk.TalkFault.{TalkFault}
use Rattle.tinkey_session.specs.declared.talk.TalkFault.TheVariants as faults
use Rattle.tinkey_talk.proofs.FeedLemmas.{AllSettled, IsStart, agrees_first, agrees_second, asks_more, fed_more, fed_over, held_cut, held_nothing, held_took, held_with, prefix_more, stopped_more}
use Rattle.tinkey_talk.specs.Feeding.{Fed, Finished, InLine, InPiece, Outside, RepliesBy, Start, Stopped, dry, ending, full, Point, from, outside, past, taking, torn}

-- a session from its beginning
abbrev pub begun : Keys → Start
begun keys output before random = going keys [] 0 false output before random

begun_start : (keys : Keys) → IsStart (begun keys)
begun_start keys output before drawn more = refl

-- where no reply is held back
abbrev pub outside_of : Sides → StoreState → Outside
outside_of x store = outside x.sink [] x.entropy store

-- what a session is over this keyset, by what its store answers
abbrev pub session_by : RepliesBy → Keys → StoreAnswers → (taken random : List ℕ) → (ended : Bool) → Talk
session_by give keys answers = talk_by (give answers) keys

-- so far each line that has ended was answered
pub record Talking (give : RepliesBy) (keys : Keys) (at : Point) (old new : Sides) (before after : StoreState) : Type 0 where
  pub taken : List ℕ
  pub gave : Gave old.source new.source taken
  pub no_read_fault : Stood old.source.faults new.source.faults
  pub fed : Fed give (begun keys) at (taking taken) (outside_of old before) (outside_of new after)

-- nothing was read
pub talking_none : (give : RepliesBy) (keys : Keys) (at : Point) (old : Sides) (store : StoreState) → at.keys ≡ keys → at.line ≡ [] → at.count ≡ 0 → at.unsaved ≡ false → Talking give keys at old old store store
unfolding over
talking_none give keys at old store same line count saved = record {
  taken = [];
  gave = gave_nothing old.source;
  no_read_fault = refl;
  fed = record {
    drawn = [];
    written = [];
    asked = [];
    drew = drew_nothing old.entropy;
    held_back = held_nothing old.sink [];
    asks = refl;
    no_draw_fault = refl;
    no_write_fault = refl;
    is = λ answers output before agrees.
        ap (λ k. going k [] 0 false output before []) (sym same) ∙ ap (λ l. going at.keys l 0 false output before []) (sym line) ∙ ap (λ n. going at.keys at.line n false output before []) (sym count)
        ∙ ap (λ u. going at.keys at.line at.count u output before []) (sym saved)
        ∙ ap (λ l. from at l before []) (sym (append-nil output)) ∙ ap (λ l. from at (output ++ []) l []) (sym (append-nil before));
  };
}

written_of : (give : RepliesBy) (keys : Keys) (at : Point) (old mid : Sides) (s t : StoreState) (so : Talking give keys at old mid s t) → Took old.sink mid.sink so.fed.written
written_of give keys at old mid s t so = held_took old.sink mid.sink [] so.fed.written so.fed.held_back

-- one piece more
pub talking_more : (give own : RepliesBy) → AllSettled give → (keys : Keys) (at last : Point) (piece : List ℕ) (old mid new : Sides) (s t u : StoreState) → own ≡ give → Talking give keys at old mid s t → Gave mid.source new.source piece → Stood mid.source.faults new.source.faults
    → Fed own (from at) last (taking piece) (outside_of mid t) (outside_of new u) → Talking give keys last old new s u
talking_more give own settled keys at last piece old mid new s t u same so gave stood fed = record {
  taken = so.taken ++ piece;
  gave = gave_more _ _ _ _ _ so.gave gave;
  no_read_fault = stood ∙ so.no_read_fault;
  fed = fed_more give settled (begun keys) at last so.taken piece _ _ _ (begun_start keys) so.fed (subst (λ g. Fed g (from at) last (taking piece) (outside_of mid t) (outside_of new u)) same fed);
}

-- what the session is at the end of the bytes taken
ended_as : (give : Replies) → AreSettled give → (keys : Keys) (at : Point) (taken drawn written : List ℕ) (asked : List FileAsked) (more : List ℕ) → over give (begun keys [] [] drawn) taken ≡ from at written asked [] → talk_by give keys taken (drawn ++ more) true ≡ finish give true (from at written asked more)
ended_as give settled keys at taken drawn written asked more e = ap (finish give true) (fed_over give settled (begun keys) at taken [] [] drawn written asked more (begun_start keys) e)

gave_all : (old mid new : SourceState) (taken : List ℕ) → Gave old mid taken → Gave mid new [] → Gave old new taken
gave_all old mid new taken a b = subst (Gave old new) (append-nil taken) (gave_more old mid new taken [] a b)

-- a read failed
pub ends_unread : (give : RepliesBy) (keys : Keys) (at : Point) (old mid new : Sides) (s t : StoreState) → Talking give keys at old mid s t → Gave mid.source new.source [] → Rose mid.source.faults new.source.faults → mid.sink ≡ new.sink → mid.entropy ≡ new.entropy
    → TalksWith (session_by give keys) (Err faults.ReadFault) old new s t
ends_unread give keys at old mid new s t so gave rose sink entropy = record {
  asked = so.fed.asked;
  asks = so.fed.asks;
  talks = λ answers agrees.
      let e = so.fed.is answers [] [] agrees in (
        unread so.taken so.fed.drawn refl
            (record {
              gave = gave_all _ _ _ so.taken so.gave gave;
              drew = subst (λ d. Drew old.entropy d so.fed.drawn) entropy so.fed.drew;
              took = subst (λ k. Took old.sink k (talk_by (give answers) keys so.taken so.fed.drawn false).output) sink (subst (Took old.sink mid.sink) (sym (ap (λ x. x.output) e)) (written_of give keys at old mid s t so));
              stands = ap (λ x. x.stop) e;
              used = ap (λ x. x.random) e;
              end = λ never. absurd cc;
            })
            (rose_later _ _ _ so.gave.faults rose)
            (ap (λ k. k.faults) (sym sink) ∙ so.fed.no_write_fault)
            (ap (λ d. d.faults) (sym entropy) ∙ so.fed.no_draw_fault),
        ap (λ x. x.asked) e,
      );
}

-- the end was seen, and the last line answered
ends_talked : (give : RepliesBy) → AllSettled give → (keys last : Keys) (at : Point) (old mid new : Sides) (s t u : StoreState) → Talking give keys at old mid s t → Gave mid.source new.source [] → Stood mid.source.faults new.source.faults → IsAtEnd new.source
    → Finished give (from at) last (outside_of mid t) (outside_of new u) → TalksWith (session_by give keys) (Ok last) old new s u
ends_talked give settled keys last at old mid new s t u so gave stood end f = record {
  asked = so.fed.asked ++ f.asked;
  asks = asks_more so.fed.asked f.asked _ _ _ so.fed.asks f.asks;
  talks = λ answers agrees.
      let first = agrees_first answers [] so.fed.asked f.asked agrees in
      let second = agrees_second answers [] so.fed.asked f.asked agrees in
      let e = ended_as (give answers) (settled answers) keys at so.taken so.fed.drawn so.fed.written so.fed.asked f.drawn (so.fed.is answers [] [] first) in
      let k = f.goes' answers so.fed.written so.fed.asked second in (
        talked so.taken (so.fed.drawn ++ f.drawn) (ap Ok (sym (ap (λ x. x.keys) e ∙ f.last answers so.fed.written so.fed.asked second)))
            (record {
              gave = gave_all _ _ _ so.taken so.gave gave;
              drew = drew_more _ _ _ _ _ so.fed.drew f.drew;
              took = subst (Took old.sink new.sink) (sym (ap (λ x. x.output) e ∙ k.output')) (took_more _ _ _ _ _ (written_of give keys at old mid s t so) f.took);
              stands = ap (λ x. x.stop) e ∙ k.stop';
              used = ap (λ x. x.random) e ∙ k.random';
              end = λ seen. end;
            })
            (record { read = stood ∙ so.no_read_fault; write = f.no_write_fault ∙ so.fed.no_write_fault; draw = f.no_draw_fault ∙ so.fed.no_draw_fault }),
        ap (λ x. x.asked) e ∙ k.asked',
      );
}

-- something of the bytes taken ended it
stopped_ends : (give : RepliesBy) (keys : Keys) (taken : List ℕ) (fault : TalkFault) (old new : Sides) (s u : StoreState) → Gave old.source new.source taken → Stood old.source.faults new.source.faults
    → Stopped give (begun keys) (taking taken) (InPiece give (begun keys) taken) fault (outside_of old s) (outside_of new u) → TalksWith (session_by give keys) (Err fault) old new s u
stopped_ends give keys taken fault old new s u all read (past drawn written asked limit same drew took asks stands no_draw_fault no_write_fault) = record {
  asked = asked;
  asks = asks;
  talks = λ answers agrees.
      let k = stands answers [] [] agrees in (
        passed taken drawn limit (ap Err same)
            (record { gave = all; drew = drew; took = subst (Took old.sink new.sink) (sym k.output') took; stands = k.stop'; used = k.random'; end = λ never. absurd cc })
            (record { read = read; write = no_write_fault; draw = no_draw_fault }),
        k.asked',
      );
}
stopped_ends give keys taken fault old new s u all read (dry drawn written asked same drew took asks stands rose no_write_fault) = record {
  asked = asked;
  asks = asks;
  talks = λ answers agrees.
      let k = stands answers [] [] agrees in (
        undrawn taken drawn false (ap Err same)
            (record { gave = all; drew = drew; took = subst (Took old.sink new.sink) (sym k.output') took; stands = k.stop'; used = k.random'; end = λ never. absurd cc })
            rose read no_write_fault,
        k.asked',
      );
}
stopped_ends give keys taken fault old new s u all read (torn drawn written asked same drew took asks begins no_draw_fault rose) = record {
  asked = asked;
  asks = asks;
  talks = λ answers agrees.
      let k = begins answers [] [] agrees in (
        unwritten taken drawn false (ap Err same) all drew (subst (TookPrefix old.sink new.sink) (sym k.output') (prefix_more old.sink new.sink written k.more took)) (λ never. absurd cc) rose read no_draw_fault,
        (k.later, k.asked'),
      );
}
stopped_ends give keys taken fault old new s u all read (full drawn part written asked same drew took asks inside no_draw_fault no_write_fault) = record {
  asked = asked;
  asks = asks;
  talks = λ answers agrees.
      let k = inside.goes' answers [] [] agrees in (
        starved inside.first inside.more drawn part (ap Err same) (subst (Gave old.source new.source) (sym inside.whole) all) drew
            (subst (Took old.sink new.sink) (sym k.output') took) k.stop'
            (record { read = read; write = no_write_fault; draw = no_draw_fault }),
        k.asked',
      );
}

-- something of a piece ended it
pub ends_stopped : (give own : RepliesBy) → AllSettled give → (keys : Keys) (at : Point) (piece : List ℕ) (fault : TalkFault) (old mid new : Sides) (s t u : StoreState) → own ≡ give → Talking give keys at old mid s t → Gave mid.source new.source piece → Stood mid.source.faults new.source.faults
    → Stopped own (from at) (taking piece) (InPiece own (from at) piece) fault (outside_of mid t) (outside_of new u) → TalksWith (session_by give keys) (Err fault) old new s u
ends_stopped give own settled keys at piece fault old mid new s t u same so gave stood stopped =
    stopped_ends give keys (so.taken ++ piece) fault old new s u (gave_more _ _ _ _ _ so.gave gave) (stood ∙ so.no_read_fault)
    (stopped_more give settled (begun keys) at so.taken piece [] (so.taken ++ piece) fault _ _ _ (begun_start keys) (sym (append-nil (so.taken ++ piece))) so.fed
    (subst (λ g. Stopped g (from at) (taking piece) (InPiece g (from at) piece) fault (outside_of mid t) (outside_of new u)) same stopped))

replied_passes : {P : Type 0} (x : Talk) (o : Option Given) (limit : Limit) → (replied x o).stop ≡ passes limit → P
replied_passes x None limit e = absurd cc
replied_passes x (Some g) limit e = absurd cc

last_passes : {P : Type 0} (give : Replies) (line : List ℕ) (x : Talk) (limit : Limit) → x.stop ≡ goes → (last_line give line x).stop ≡ passes limit → P
last_passes give [] x limit is e = let k : goes ≡ passes limit = sym is ∙ e in absurd cc
last_passes give (b ∷ bytes) x limit is e = replied_passes x (give x.asked x.unsaved x.keys x.line x.random) limit e

-- the end was seen, and the last line ended it
ends_last : (give : RepliesBy) → AllSettled give → (keys : Keys) (at : Point) (fault : TalkFault) (old mid new : Sides) (s t u : StoreState) → Talking give keys at old mid s t → Gave mid.source new.source [] → Stood mid.source.faults new.source.faults → IsAtEnd new.source
    → Stopped give (from at) ending InLine fault (outside_of mid t) (outside_of new u) → TalksWith (session_by give keys) (Err fault) old new s u
ends_last give settled keys at fault old mid new s t u so gave stood end stopped = by stopped
  where
    all : Gave old.source new.source so.taken
    all = gave_all _ _ _ so.taken so.gave gave

    read : Stood old.source.faults new.source.faults
    read = stood ∙ so.no_read_fault

    by : Stopped give (from at) ending InLine fault (outside_of mid t) (outside_of new u) → TalksWith (session_by give keys) (Err fault) old new s u
    by (past drawn written asked limit same drew took asks stands no_draw_fault no_write_fault) = record {
      asked = so.fed.asked ++ asked;
      asks = asks_more so.fed.asked asked _ _ _ so.fed.asks asks;
      talks = λ answers agrees.
          let k = stands answers so.fed.written so.fed.asked (agrees_second answers [] so.fed.asked asked agrees) in
          last_passes (give answers) at.line (from at so.fed.written so.fed.asked drawn) limit refl k.stop';
    }
    by (dry drawn written asked same drew took asks stands rose no_write_fault) = record {
      asked = so.fed.asked ++ asked;
      asks = asks_more so.fed.asked asked _ _ _ so.fed.asks asks;
      talks = λ answers agrees.
          let e = ended_as (give answers) (settled answers) keys at so.taken so.fed.drawn so.fed.written so.fed.asked drawn (so.fed.is answers [] [] (agrees_first answers [] so.fed.asked asked agrees)) in
          let k = stands answers so.fed.written so.fed.asked (agrees_second answers [] so.fed.asked asked agrees) in (
            undrawn so.taken (so.fed.drawn ++ drawn) true (ap Err same)
                (record {
                  gave = all;
                  drew = lost_later _ _ _ _ _ so.fed.drew drew;
                  took = subst (Took old.sink new.sink) (sym (ap (λ x. x.output) e ∙ k.output')) (took_more _ _ _ _ _ (written_of give keys at old mid s t so) took);
                  stands = ap (λ x. x.stop) e ∙ k.stop';
                  used = ap (λ x. x.random) e ∙ k.random';
                  end = λ seen. end;
                })
                (rose_later _ _ _ so.fed.drew.faults rose) read (no_write_fault ∙ so.fed.no_write_fault),
            ap (λ x. x.asked) e ∙ k.asked',
          );
    }
    by (torn drawn written asked same drew took asks begins no_draw_fault rose) = record {
      asked = so.fed.asked ++ asked;
      asks = asks_more so.fed.asked asked _ _ _ so.fed.asks asks;
      talks = λ answers agrees.
          let e = ended_as (give answers) (settled answers) keys at so.taken so.fed.drawn so.fed.written so.fed.asked drawn (so.fed.is answers [] [] (agrees_first answers [] so.fed.asked asked agrees)) in
          let k = begins answers so.fed.written so.fed.asked (agrees_second answers [] so.fed.asked asked agrees) in (
            unwritten so.taken (so.fed.drawn ++ drawn) true (ap Err same) all (drew_more _ _ _ _ _ so.fed.drew drew)
                (subst (TookPrefix old.sink new.sink) (sym (ap (λ x. x.output) e ∙ k.output'))
                (prefix_more old.sink new.sink (so.fed.written ++ written) k.more (held_cut _ _ _ _ _ _ (held_with _ _ _ _ _ written so.fed.held_back) took)))
                (λ seen. end) (rose_later _ _ _ so.fed.held_back.took.faults rose) read (no_draw_fault ∙ so.fed.no_draw_fault),
            (k.later, ap (λ x. x.asked) e ∙ k.asked'),
          );
    }
    by (full drawn part written asked same drew took asks inside no_draw_fault no_write_fault) = record {
      asked = so.fed.asked ++ asked;
      asks = asks_more so.fed.asked asked _ _ _ so.fed.asks asks;
      talks = λ answers agrees.
          let e = so.fed.is answers [] [] (agrees_first answers [] so.fed.asked asked agrees) in (
            starved so.taken [] so.fed.drawn (drawn ++ part) (ap Err same) (subst (Gave old.source new.source) (sym (append-nil so.taken)) all) (drew_more _ _ _ _ _ so.fed.drew drew)
                (subst (Took old.sink new.sink) (append-nil so.fed.written ∙ sym (ap (λ x. x.output) e)) (took_more _ _ _ _ _ (written_of give keys at old mid s t so) (subst (Took mid.sink new.sink) inside.1 took)))
                (ap (λ x. x.stop) e)
                (record { read = read; write = no_write_fault ∙ so.fed.no_write_fault; draw = no_draw_fault ∙ so.fed.no_draw_fault }),
            ap (λ x. x.asked) e ∙ sym (append-nil so.fed.asked) ∙ ap (λ l. so.fed.asked ++ l) (sym inside.2),
          );
    }

-- the end was seen
pub ends_finished : (give own : RepliesBy) → AllSettled give → (keys : Keys) (at : Point) (r : Result Keys TalkFault) (old mid new : Sides) (s t u : StoreState) → own ≡ give → Talking give keys at old mid s t → Gave mid.source new.source [] → Stood mid.source.faults new.source.faults → IsAtEnd new.source
    → IfOk r (λ last. Finished own (from at) last (outside_of mid t) (outside_of new u))
    → IfErr r (λ fault. Stopped own (from at) ending InLine fault (outside_of mid t) (outside_of new u))
    → TalksWith (session_by give keys) r old new s u
ends_finished give own settled keys at (Ok last) old mid new s t u same so gave stood end finished stopped =
    ends_talked give settled keys last at old mid new s t u so gave stood end (subst (λ g. Finished g (from at) last (outside_of mid t) (outside_of new u)) same finished)
ends_finished give own settled keys at (Err fault) old mid new s t u same so gave stood end finished stopped =
    ends_last give settled keys at fault old mid new s t u so gave stood end (subst (λ g. Stopped g (from at) ending InLine fault (outside_of mid t) (outside_of new u)) same stopped)

pub if_none : {A : Type 0} (P : A → Type 0) (o : Option A) → o ≡ None → IfSome o P
if_none P o e = subst (λ x. IfSome x P) (sym e) tt
