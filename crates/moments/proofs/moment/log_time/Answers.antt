use Rattle.std.proofs.Common.{◌∙◌, ap, Bool, Option, Some, ℕ}
use Rattle.moments.proofs.moment.log_time.Goals as goal

pub returns : goal.returns
returns c = record {
  printer = c.precision.result;
  form = c.precision.ensures ∙ ap (λ (o : Bool × ℕ × Option ℕ). (o.0, o.1, Some 3)) c.new.ensures;
  text_is = c.timestamp_text.ensures;
}
