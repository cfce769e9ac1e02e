-- What answering a line says of the random bytes.
use Rattle.std.specs.Prelude.{◌≡◌, ℕ, List, ◌++◌, Option, Some, None, IfSome, IsTrue, Result, Ok, Err}
use Rattle.keyset_model.specs.Keyset.{Keys}
use Rattle.tink_spec.specs.Outside.{EntropyState, Drew, DrewLosing, Rose, Stood}
use Rattle.tinkey_session.specs.Serving.{Served}
use Rattle.tinkey_session.specs.declared.reply.Reply.{Reply}
use Rattle.tinkey_session.specs.declared.session.LineFault.{LineFault}
use Rattle.tinkey_session.specs.declared.session.LineFault.TheVariants as faults

-- what a line gives, of these random bytes
abbrev pub Gives : Type 0
Gives = (random : List ℕ) → Option Served

-- these bytes were drawn, and whatever stands behind them, the line gives this
pub record IsAnswered (gives : Gives) (reply : Reply) (keys : Keys) (old new : EntropyState)
    : Type 0 where
  pub drawn : List ℕ
  pub drew : Drew old new drawn
  pub stood : Stood old.faults new.faults
  pub is : (more : List ℕ)
      → gives (drawn ++ more) ≡ Some (record { reply = reply; keys = keys; left = more })

-- The entropy failed: its count of faults rose, the line wants more than was drawn, and where the
-- entropy is steady and tells its bytes, more than there are. Some behind those drawn may be lost.
pub record IsUnanswered (gives : Gives) (old new : EntropyState) : Type 0 where
  pub rose : Rose old.faults new.faults
  pub drawn : List ℕ
  pub gone : DrewLosing old new drawn
  pub undecided : gives drawn ≡ None
  pub short : IsTrue old.steady → IfSome old.left (λ left. gives left ≡ None)

-- some bytes were drawn
pub record DrewSome (old new : EntropyState) : Type 0 where
  pub drawn : List ℕ
  pub drew : Drew old new drawn
  pub stood : Stood old.faults new.faults

-- what came of a line, with this keyset after it
abbrev pub Serves : Gives → Result Reply LineFault → Keys → (old new : EntropyState) → Type 0
Serves gives (Ok reply) keys old new = IsAnswered gives reply keys old new
Serves gives (Err faults.EntropyFault) keys old new = IsUnanswered gives old new
Serves gives (Err faults.NoMemory) keys old new = DrewSome old new
