use Rattle.std.proofs.Common.{Bor, refl, sym, ap, subst, ◌∙◌}
use Rattle.std.specs.Prelude.{ℕ}
use Rattle.workers.specs.Back.{ConnectionsBack}
use Rattle.workers.proofs.Served.{none_taken, one_on}
use Rattle.workers.proofs.worker.attend_all.Goals as goal

pub loop-init : goal.loop-init
loop-init g c = (refl, none_taken _ _ (g.C.CellSteps.grew) _ _ _ c.requires.belongs)

pub loop-preserved : goal.loop-preserved
loop-preserved g c = let inv = c.loop.invariant in (
  ap (λ (b : Bor g.row.C.Denot). b.now) c.attend-attended.ensures.cells ∙ inv.0,
  one_on (g.K.Cover.withholds c.args.crew.now.cover.now) (g.C.CellSteps.belongs)
      (g.C.CellSteps.grew) c.growth.ensures.append _ _ inv.0 _ _
      c.in-Some-take.ensures.one _ _ _ inv.1 c.attend-attended.ensures.back,
)

pub returns-in_default : goal.returns-in_default
returns-in_default g c =
    let old = c.args.seat.now in
    let here = c.loop.seat in
    subst
    (λ (taken : ℕ). ConnectionsBack (g.K.Cover.withholds c.args.crew.now.cover.now)
    (g.C.CellSteps.belongs old.cells.now) (g.C.CellSteps.grew) taken
    (old.pass, old.watcher) (here.pass, here.watcher))
    (sym c.in_default.ensures.none) c.loop.invariant.1
