use Rattle.server_counters.proofs.SameContents.{same_contents}
use Rattle.server_counters.proofs.counters.Counters.of.Goals as goal

pub returns : goal.returns
returns c =
    let parts = c.into_parts-halted.result in
    let are = c.into_parts-halted.ensures in
    same_contents c.args.contents (record {
      halted = parts.halted;
      directory = parts.directory;
      values = parts.values;
    }) are.halted are.arrays are.values
