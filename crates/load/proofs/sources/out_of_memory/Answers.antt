use Rattle.std.proofs.Common.{refl}
use Rattle.load.specs.Load.{of_bytes}
use Rattle.load.proofs.sources.out_of_memory.Goals as goal

pub returns-clause-refused_sources : goal.returns-clause-refused_sources
returns-clause-refused_sources c = λ old bytes are. record {
  fault_is = λ known. of_bytes tt;
  arrays_are = are;
  parsed_is = refl;
}
