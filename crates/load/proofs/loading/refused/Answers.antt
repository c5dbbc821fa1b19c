use Rattle.std.proofs.Common.{rules, ◌≡◌, List, sym, subst}
use Rattle.cells.specs.Directory.{Declaration}
use Rattle.load.specs.Sources.{AreArraysWithFault}
use Rattle.load.proofs.Causes.{cause_told}
use Rattle.load.proofs.loading.refused.Goals as goal

pub returns-clause-cause : goal.returns-clause-cause
returns-clause-cause c =
    let arrays = c.deref.result.now in
    let same : arrays ≡ c.args.refused_sources.arrays.items = search rules in
    λ known bytes un. record {
      fault_is = un.fault_is known;
      cause_is = cause_told c.args.directory.now bytes arrays c.args.refused_sources.fault
          c.cause_of-cause.result
          (subst (λ (l : List Declaration).
          AreArraysWithFault bytes c.args.refused_sources.fault l) (sym same) un.arrays_are)
          c.cause_of-cause.ensures;
    }
