use Rattle.std.proofs.Common.{inl}
use Rattle.manifest.specs.Parsed.{IsNoManifest}
use Rattle.manifest.specs.declared.refused.RefusedManifest.TheVariants.{Fault}
use Rattle.load.specs.Load.{of_bytes}
use Rattle.load.proofs.sources.parse.Goals as goal

pub returns-in-Err-Fault-clause-fault : goal.returns-in-Err-Fault-clause-fault
returns-in-Err-Fault-clause-fault c =
    let is : IsNoManifest c.args.bytes.now (Fault c.in-Err-Fault.fault c.in-Err-Fault.parsed) =
    rw c.in-Err-Fault.field-0-is at c.in-Err-Fault.ensures.refused in
    λ old. record {
      fault_is = λ known. of_bytes is.0;
      arrays_are = c.new.ensures.items;
      parsed_is = is.1;
    }

pub returns-in-Err-Memory-clause-fault : goal.returns-in-Err-Memory-clause-fault
returns-in-Err-Memory-clause-fault c = λ old.
    c.out_of_memory.ensures.refused_sources old c.args.bytes.now
    (inl c.new-in-Err-Memory.ensures.items)
