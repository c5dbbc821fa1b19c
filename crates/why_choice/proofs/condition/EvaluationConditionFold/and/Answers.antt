use Rattle.std.proofs.Common.{◌≡◌, rules}
use Rattle.why_choice.specs.Reading.{read_tree}
use Rattle.why_choice.proofs.Reading.{both_made}
use Rattle.why_choice.proofs.condition.EvaluationConditionFold.and.Goals as goal

pub returns : goal.returns
returns c = λ b d before between first second.
    let a = c.args.self.now.attrs.now in
    let s = c.args.self.now.shape.now in
    let holds : c.first.inside.holds ≡ c.args.first.holds = search rules in
    both_made a s b d c.args.first c.first.inside.holds holds c.joined.result before between
    c.joined.new.counters first
    (c.joined.ensures (read_tree a s before b) (read_tree a s between d) before between first
    second)
