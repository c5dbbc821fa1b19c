use Rattle.why_refused_program.proofs.refused.explain_refusal.Goals as goal

pub returns : goal.returns
returns c = record {
  rule = c.in-Some-Rule.rule;
  refused = rw c.in-Some-Rule.is-1 at c.requires;
  cited = c.in_ok-sentence.ensures;
}
