-- The outcome of a connection: a reply was written, or a prefix of it, or nothing.
use Rattle.std.specs.Prelude.{◌≡◌, ◌≢◌, Bool, true, ℕ, ◌+◌, ◌≤◌, ℤ, List, length, take, Option}
use Rattle.std.specs.Prelude.{Result, Err, IfOk, IfErr}
use Rattle.std.specs.Io.KnownBytes.{Appends}
use Rattle.cells.specs.declared.event.CellEvent.{CellEvent}
use Rattle.net_io.specs.declared.counted.Counted.{Counted}
use Rattle.hot_swap.specs.Published.{KnownPrefix}
use Rattle.http_front.specs.Post.{AnswersPost}
use Rattle.http_front.specs.Reply.{code_of}
use Rattle.http_front.specs.declared.post_fault.PostFault.TheVariants as fault
use Rattle.answering.specs.Answer.{RepliesByRuns, WritesNothing}
use Rattle.answering.specs.Reply.{HttpReply, message_bytes, refusal_line}
use Rattle.answering.specs.declared.answering.AnswerFault.{AnswerFault}
use Rattle.answering.specs.declared.answering.AnswerFault.TheVariants as answer
use Rattle.answering.specs.declared.sent.Sent.{Sent}

-- The parameters, in order: whether a reply may be withheld; how a pass (a ghost token) grows, what
-- a reader has left, and what a writer holds; what the watcher knows, and the moment; the pass, the
-- reader and the writer, each before and after; and the outcome.
pub record Answers {P R W : Type 0} (withholds : Bool) (grew : P → CellEvent → P → Type 0)
    (remaining : R → Option (List ℕ)) (contents : W → Option (List ℕ))
    (known : KnownPrefix) (moment : ℤ) (pass pass' : P) (reader reader' : Counted R)
    (writer writer' : Counted W) (outcome : Result Sent AnswerFault) : Type 0 where
  -- what was written is the reply to what was read, under the ruleset that the watcher read
  pub replied : IfOk outcome (λ sent. (reply : HttpReply)
      × (code_of reply.status ≡ sent.status) × (sent.line.now ≡ refusal_line reply)
      × RepliesByRuns withholds grew (remaining reader.inner) known moment pass pass' reply
      × Appends (contents writer.inner) (contents writer'.inner) (message_bytes reply))
  -- a refused request makes no run
  pub idle : IfOk outcome (λ sent. sent.status ≢ 200 → sent.status ≢ 500
      → (withholds ≡ true → sent.status ≢ 503) → pass' ≡ pass)
  -- or a prefix of it was written, and the failure was counted
  pub begun : (n : ℕ) → outcome ≡ Err (answer.Writing n)
      → (reply : HttpReply) × (n ≤ length (message_bytes reply))
      × RepliesByRuns withholds grew (remaining reader.inner) known moment pass pass' reply
      × Appends (contents writer.inner) (contents writer'.inner) (take n (message_bytes reply))
  pub unwritable : (n : ℕ) → outcome ≡ Err (answer.Writing n)
      → writer'.failures ≡ writer.failures + 1
  -- or nothing was, and nothing else happened
  pub unread : IfErr outcome (λ e. WritesNothing e → (pass' ≡ pass) × (writer' ≡ writer))
  pub ended : outcome ≡ Err answer.Ended
      → AnswersPost (remaining reader.inner) (Err fault.Ended)
  pub unreadable : outcome ≡ Err answer.Reading → reader'.failures ≡ reader.failures + 1
