use Rattle.std.proofs.Common.{[], List, subst}
use Rattle.std.proofs.lemmas.Result.{IfErr-weaker, IfOk-weaker}
use Rattle.cells.specs.declared.array.CellArray.{CellArray}
use Rattle.load.specs.Sources.{AreSources, IsSourcesRefusal}
use Rattle.why_refused_manifest.proofs.Passing.{fails, fails_early, passes}
use Rattle.why_refused_manifest.proofs.checking.check.Goals as goal

pub check_apps-requires : goal.check_apps-requires
check_apps-requires g c =
    (c.sources_are_loaded.ensures.manifest _ _ _ _ c.in-Ok.ensures.sources).shaped

pub returns-in-Ok-clause-passes : goal.returns-in-Ok-clause-passes
returns-in-Ok-clause-passes g c =
    let is = subst (λ (old : List CellArray).
    AreSources (g.F.Files.known c.args.files.now) old c.args.manifest.now c.in-Ok.sources)
    c.new-directory.ensures c.in-Ok.ensures.sources in
    let load = c.sources_are_loaded.ensures.manifest _ [] _ _ is in
    IfOk-weaker c.check_apps.result _ _ (passes _ _ _ is load) c.check_apps.ensures.passes

pub returns-in-Ok-clause-fails : goal.returns-in-Ok-clause-fails
returns-in-Ok-clause-fails g c =
    let is = subst (λ (old : List CellArray).
    AreSources (g.F.Files.known c.args.files.now) old c.args.manifest.now c.in-Ok.sources)
    c.new-directory.ensures c.in-Ok.ensures.sources in
    let load = c.sources_are_loaded.ensures.manifest _ [] _ _ is in
    IfErr-weaker c.check_apps.result _ _ (fails _ _ _ is load) c.check_apps.ensures.fails

pub returns-clause-fails : goal.returns-clause-fails
returns-clause-fails g c =
    fails_early _ _ c.in-Err.refused_sources _
    (subst (λ (old : List CellArray). IsSourcesRefusal old c.args.manifest.now
    c.in-Err.refused_sources)
    c.new-directory.ensures c.in-Err.ensures.fault) c.refuse_without_sources.ensures.fault
    c.refuse_without_sources.ensures.reported
