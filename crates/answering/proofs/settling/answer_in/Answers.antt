use Rattle.std.proofs.Common.{◌∙◌, sym}
use Rattle.answering.specs.Reply.{settled_reply}
use Rattle.answering.proofs.Replies.{idle}
use Rattle.answering.proofs.settling.answer_in.Goals as goal

pub returns-in-Ok-clause-answers : goal.returns-in-Ok-clause-answers
returns-in-Ok-clause-answers g c =
    let sent = c.in-Ok.ensures in
    let is = sym sent.status in
    let settles = c.in_ok-outcome.ensures.settles in
    record {
      replied =
          (settled_reply c.in_ok-outcome.outcome, sent.status, sent.line, settles, sent.bytes);
      idle = λ h k n. idle _ (g.C.CellSteps.grew) _ _ _ settles (λ e. h (is ∙ e))
          (λ e. k (is ∙ e)) (λ w e. n w (is ∙ e));
      begun = λ n e. absurd cc;
      unwritable = λ n e. absurd cc;
      unread = tt;
      ended = λ e. absurd cc;
      unreadable = λ e. absurd cc;
    }
