use Rattle.cli_programs.specs.Programs.IsRefusedUnder.{of_file, of_bytes}
use Rattle.cli_inspection.proofs.explanation.explain_file.Goals as goal

pub returns-in-Err-clause-fault : goal.returns-in-Err-clause-fault
returns-in-Err-clause-fault g c =
    of_file c.in_ok-shape.ensures.shape c.in-Err.ensures.fault

pub returns-clause-fault : goal.returns-clause-fault
returns-clause-fault g c = of_bytes c.in_ok-shape.ensures.shape (record {
  bytes = c.in-Ok.bytes.items;
  given = c.in-Ok.ensures.bytes;
  holds = rw c.deref.ensures.value at c.in-Err-explanation.ensures.fault;
})
