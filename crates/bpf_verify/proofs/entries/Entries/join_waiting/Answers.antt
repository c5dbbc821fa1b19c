use Rattle.std.proofs.Common.{Some, ap, ◌∙◌}
use Rattle.bpf_verify.proofs.entries.Entries.join_waiting.Goals as goal

pub returns-then-self-clause-here : goal.returns-then-self-clause-here
returns-then-self-clause-here c =
    let found = c.in-Some.ensures in
    rw (c.if-self.true, ← found)
    (ap Some (c.join_in.ensures ∙ c.joins_commute.ensures c.args.self.now.here c.in-Some.found.now))
