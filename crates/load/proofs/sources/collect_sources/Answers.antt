use Rattle.std.proofs.Common.{inr, rules}
use Rattle.load.specs.Load.{RefusesArrays, of_arrays}
use Rattle.load.proofs.Early.{known_arrays, nothing_parsed}
use Rattle.load.proofs.sources.collect_sources.Goals as goal

pub returns-in-Err-clause-fault : goal.returns-in-Err-clause-fault
returns-in-Err-clause-fault g c = c.in-Err.ensures.fault c.args.directory.now

pub returns-in_default-clause-fault : goal.returns-in_default-clause-fault
returns-in_default-clause-fault g c =
    c.out_of_memory.ensures.refused_sources c.args.directory.now c.args.manifest.now
    (inr (c.in-Ok.manifest, c.in-Ok.ensures.manifest, c.into_parts-server.ensures.arrays))

pub returns-in-Err-declare_arrays-clause-fault : goal.returns-in-Err-declare_arrays-clause-fault
returns-in-Err-declare_arrays-clause-fault g c =
    let fault : RefusesArrays c.args.directory.now c.in-Ok.manifest.arrays
    c.in-Err-declare_arrays.fault = search rules in
    record {
      fault_is = λ known. of_arrays c.in-Ok.ensures.manifest fault;
      arrays_are = known_arrays c.args.manifest.now c.args.directory.now _ _ _ fault
          (c.in-Ok.manifest, c.in-Ok.ensures.manifest, c.into_parts-server.ensures.arrays);
      parsed_is = nothing_parsed c.args.manifest.now c.args.directory.now _ _ fault;
    }

pub returns-in-Err-collect_apps-clause-fault : goal.returns-in-Err-collect_apps-clause-fault
returns-in-Err-collect_apps-clause-fault g c =
    c.out_of_memory-in-Err-collect_apps.ensures.refused_sources c.args.directory.now
    c.args.manifest.now
    (inr (c.in-Ok.manifest, c.in-Ok.ensures.manifest, c.into_parts-server.ensures.arrays))
