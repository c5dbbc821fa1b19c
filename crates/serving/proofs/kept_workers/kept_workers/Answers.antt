use Rattle.std.proofs.Common.{All, [], ◌≡◌, ap, subst}
use Rattle.std.proofs.lemmas.List.Elements.{All-tail}
use Rattle.shared_cells.specs.Passes.{PassView}
use Rattle.hot_swap.specs.Published.{KnownPrefix}
use Rattle.serving.proofs.Moved.{moved}
use Rattle.serving.proofs.kept_workers.kept_workers.Goals as goal

pub loop-pass-preserved : goal.loop-pass-preserved
loop-pass-preserved c =
    let P : PassView × KnownPrefix → Type 0 = λ w. w.0.events ≡ [] in
    let split = c.in-Some.ensures.steps.0 in
    record {
      all = moved _ _ _ _ _ _ _ c.loop-pass.invariant.all split c.in-Ok-push.ensures.items
          (ap (λ (p : PassView). (p, c.in-Some.watcher)) c.in-Ok.ensures);
      new = All-tail P _ _ (subst (All P) split c.loop-pass.invariant.new);
    }
