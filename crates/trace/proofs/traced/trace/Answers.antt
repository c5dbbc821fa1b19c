use Rattle.trace.proofs.traced.trace.Goals as goal

pub returns-clause-run : goal.returns-clause-run
returns-clause-run c = record {
  zeros = c.in-Ok.counters;
  opens = c.in-Ok.ensures.opening;
  left = c.trace_on.new.counters;
  run = c.in_ok-run.ensures.run;
}
