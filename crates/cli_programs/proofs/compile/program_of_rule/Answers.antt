use Rattle.cli_programs.proofs.Unread.{no_file}
use Rattle.cli_programs.specs.Programs.IsRefusedUnder.{of_file, of_bytes}
use Rattle.cli_programs.proofs.compile.program_of_rule.Goals as goal

pub returns-in-Err-clause-fault : goal.returns-in-Err-clause-fault
returns-in-Err-clause-fault g c =
    of_file c.in_ok-shape.ensures.shape (no_file _ _ c.in-Err.fault c.in-Err.ensures.read)

pub returns-clause-fault : goal.returns-clause-fault
returns-clause-fault g c = of_bytes c.in_ok-shape.ensures.shape (record {
  bytes = c.in-Ok.bytes.items;
  given = c.in-Ok.ensures.read;
  holds = (
    c.in-Ok.ensures.short,
    rw c.as_slice.ensures.value at c.in-Err-rule_program.ensures.fault,
  );
})
