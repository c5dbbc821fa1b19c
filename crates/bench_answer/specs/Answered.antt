-- The result of serving one request over and over.
use Rattle.std.specs.Prelude.{◌≡◌, false, ℕ, ◌+◌, ℤ, pos, List, [], length, Some}
use Rattle.attrs.specs.Hash.{fnv1a}
use Rattle.cells.specs.Events.{AreZeros, IsEvent}
use Rattle.cells.specs.declared.event.CellEvent.{CellEvent}
use Rattle.hot_swap.specs.Published.{KnownPrefix}
use Rattle.http_front.specs.Reply.{code_of}
use Rattle.answering.specs.Answer.{RepliesByRuns}
use Rattle.answering.specs.Reply.{HttpReply, message_bytes}
use Rattle.bench_answer.specs.declared.answers.ReplyTally.{ReplyTally}

-- 2026-03-02 01:00:00 UTC, the moment of each reply
abbrev pub moment : ℤ
moment = pos 1772413200

-- these bytes are a reply of status 200 to the request, and the pass (a ghost token) grew by the
-- events of its runs
pub record IsSuccess {P : Type 0} (grew : P → CellEvent → P → Type 0) (request : List ℕ)
    (watcher : KnownPrefix) (before after : P) (written : List ℕ) : Type 0 where
  pub reply : HttpReply
  pub success : code_of reply.status ≡ 200
  pub is_reply : RepliesByRuns false grew (Some request) watcher moment before after reply
  pub bytes : written ≡ message_bytes reply

-- n replies, one after the other, by one pass: the pass after them, the bytes of all replies, and
-- the last reply
pub data AreAnswers {P : Type 0} (grew : P → CellEvent → P → Type 0) (request : List ℕ) (opened : P)
    : ℕ → P → ℕ → List ℕ → Type 0 where
  none : AreAnswers grew request opened 0 opened 0 []
  more : {n bytes : ℕ} {before after : P} {last written : List ℕ} {watcher : KnownPrefix}
      → AreAnswers grew request opened n before bytes last
      → IsSuccess grew request watcher before after written
      → AreAnswers grew request opened (n + 1) after (bytes + length written) written

-- the tally of n replies by a pass that was `before` before them, and `after` after them
pub record IsReplyTally {P : Type 0} (grew : P → CellEvent → P → Type 0) (request : List ℕ) (n : ℕ)
    (before after : P) (t : ReplyTally) : Type 0 where
  pub last : List ℕ
  pub answers : AreAnswers grew request before n after t.bytes last
  pub hash : t.reply ≡ fnv1a last

-- the tally of n replies on cells that open at 0
pub record IsTallyFromZeros (request : List ℕ) (n : ℕ) (t : ReplyTally) : Type 0 where
  pub opened : List ℕ
  pub zero : AreZeros 8192 opened
  pub cells : List ℕ
  pub tally : IsReplyTally IsEvent request n opened cells t
