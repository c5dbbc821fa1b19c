use Rattle.std.proofs.Common.{List, ℕ, subst, sym}
use Rattle.load.specs.declared.load_fault.LoadFault.{LoadFault}
use Rattle.load.specs.Judged.{RefusesFirst}
use Rattle.load.specs.JudgedApps.{IsJudgedOf}
use Rattle.load.proofs.Making.{made_shaped}
use Rattle.load.proofs.opened.open_manifest.Goals as goal

pub returns-in-Ok-judge_sources-clause-opened : goal.returns-in-Ok-judge_sources-clause-opened
returns-in-Ok-judge_sources-clause-opened g c =
    let collected = c.in-Ok.ensures.collected in
    record {
      bytes = c.in-Ok.collected.bytes.items;
      given = collected.given;
      sources = c.in-Ok.collected.sources;
      are_sources = collected.are_sources;
      judged_of = subst (λ (bytes : List ℕ). IsJudgedOf bytes c.in-Ok.collected.sources
          c.in-Ok-judge_sources.judged) c.deref.ensures.value
          c.in-Ok-judge_sources.ensures.judged;
    }

pub returns-in-Ok-judge_sources-clause-shaped : goal.returns-in-Ok-judge_sources-clause-shaped
returns-in-Ok-judge_sources-clause-shaped g c =
    let is = c.in-Ok.ensures.collected.are_sources in
    made_shaped _ _ _ c.in-Ok-judge_sources.ensures.judged
    (c.sources_are_loaded.ensures.manifest _ _ _ _ is).shaped

pub returns-in-Err-judge_sources-clause-fault : goal.returns-in-Err-judge_sources-clause-fault
returns-in-Err-judge_sources-clause-fault g c =
    let collected = c.in-Ok.ensures.collected in
    let load = c.sources_are_loaded.ensures.manifest _ _ _ _ collected.are_sources in (
      c.in-Ok.collected.bytes.items,
      collected.given,
      load.refused _ (subst
          (λ (f : LoadFault). RefusesFirst c.in-Ok.collected.sources.apps.items f)
          (sym c.into_fault.ensures) c.in-Err-judge_sources.ensures.fault),
    )
