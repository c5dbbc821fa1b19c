use Rattle.std.proofs.Common.{List, ap, sym, ◌∙◌, subst, arith}
use Rattle.cells.specs.Directory.{IsDirectory}
use Rattle.cells.specs.declared.array.CellArray.{CellArray}
use Rattle.load.specs.declared.load_fault.LoadFault.{LoadFault}
use Rattle.load.specs.declared.load_fault.LoadFault.TheVariants.{Memory}
use Rattle.load.specs.Judged.{RefusesFirst}
use Rattle.ruleset.specs.declared.loaded.LoadedRuleset.{LoadedRuleset}
use Rattle.load.proofs.Failing.{all_read, early_counts, judged_counts}
use Rattle.load.proofs.Making.{knows, made_once, made_over, made_shaped}
use Rattle.load.proofs.loading.load_bytes.Goals as goal

pub make_ruleset-requires-clause-shaped : goal.make_ruleset-requires-clause-shaped
make_ruleset-requires-clause-shaped g c =
    made_shaped _ _ _ c.in-Ok-judge_sources.ensures.judged
    (c.sources_are_loaded.ensures.manifest _ _ _ _ c.in-Ok.ensures.sources).shaped

pub make_ruleset-requires-clause-once : goal.make_ruleset-requires-clause-once
make_ruleset-requires-clause-once g c =
    made_once c.sources_are_made.ensures _ _ _ _ _ c.in-Ok.ensures.sources
    c.in-Ok-judge_sources.ensures.judged

pub returns-in-Ok-make_ruleset-clause-made : goal.returns-in-Ok-make_ruleset-clause-made
returns-in-Ok-make_ruleset-clause-made g c =
    made_over _ _ _ _ _ _ c.in-Ok.ensures.sources c.in-Ok-judge_sources.ensures.judged
    c.in-Ok-make_ruleset.ensures

pub returns-in-Ok-make_ruleset-clause-rules : goal.returns-in-Ok-make_ruleset-clause-rules
returns-in-Ok-make_ruleset-clause-rules g c =
    let over = returns-in-Ok-make_ruleset-clause-made g c in
    (c.sources_are_made.ensures _ _ _ _ over.are_sources).made _ over.made_of

pub returns-in-Ok-make_ruleset-clause-only : goal.returns-in-Ok-make_ruleset-clause-only
returns-in-Ok-make_ruleset-clause-only g c =
    let directory_is = ap (λ (made : LoadedRuleset). made.directory) c.in-Ok-make_ruleset.ensures
    ∙ c.in-Ok-judge_sources.ensures.judged.directory_is in
    let directory = subst (λ (d : List CellArray). IsDirectory d)
    (c.arrays-arrays.ensures.arrays ∙ sym directory_is) c.arrays-arrays.ensures.directory in
    knows c.arrays_preserved.ensures.numbered _ _ _ _ _ directory
    (returns-in-Ok-make_ruleset-clause-rules g c)

pub returns-in-Ok-make_ruleset-clause-count : goal.returns-in-Ok-make_ruleset-clause-count
returns-in-Ok-make_ruleset-clause-count g c =
    let none =
    all_read c.in-Ok.sources.apps.items _ c.in-Ok-judge_sources.ensures.judged.programs_are in
    omega (arith, c.in-Ok.ensures.count, none)

pub returns-in-Err-make_ruleset-clause-fault : goal.returns-in-Err-make_ruleset-clause-fault
returns-in-Err-make_ruleset-clause-fault g c =
    let load = c.sources_are_loaded.ensures.manifest _ _ _ _ c.in-Ok.ensures.sources in
    record { fault_is = load.refused Memory tt; cause_is = tt }

pub returns-in-Err-judge_sources-clause-fault : goal.returns-in-Err-judge_sources-clause-fault
returns-in-Err-judge_sources-clause-fault g c =
    let load = c.sources_are_loaded.ensures.manifest _ _ _ _ c.in-Ok.ensures.sources in
    record {
      fault_is = load.refused _ (subst
          (λ (f : LoadFault). RefusesFirst c.in-Ok.sources.apps.items f)
          (sym c.into_fault.ensures) c.in-Err-judge_sources.ensures.fault);
      cause_is = tt;
    }

pub returns-in-Err-judge_sources-clause-failed : goal.returns-in-Err-judge_sources-clause-failed
returns-in-Err-judge_sources-clause-failed g c =
    judged_counts _ _ _ _ _ c.in-Ok.sources c.into_fault.result c.in-Ok.ensures.sources
    c.in-Ok.ensures.count
    (subst (λ (f : LoadFault). RefusesFirst c.in-Ok.sources.apps.items f)
    (sym c.into_fault.ensures) c.in-Err-judge_sources.ensures.fault)

pub returns-in-Err-clause-fault : goal.returns-in-Err-clause-fault
returns-in-Err-clause-fault g c =
    c.refused.ensures.cause _ c.args.manifest.now c.in-Err.ensures.fault

pub returns-in-Err-clause-failed : goal.returns-in-Err-clause-failed
returns-in-Err-clause-failed g c =
    rw c.refused.ensures.fault
    (early_counts _ c.args.directory.now c.args.manifest.now _ _ c.in-Err.refused_sources.fault _
    c.in-Err.ensures.fault.arrays_are c.in-Err.ensures.uncounted)
