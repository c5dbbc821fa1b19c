use Rattle.std.proofs.Common.{◌∙◌, Bool, List, ap, subst, sym}
use Rattle.std.specs.Arc.{arc_value}
use Rattle.std.specs.Option.{is_some}
use Rattle.std.specs.Prelude.{option_map}
use Rattle.hot_swap.specs.Published.{KnownPrefix}
use Rattle.shared_cells.specs.Passes.{Gained, IsPassOf, PassView}
use Rattle.workers.specs.Back.{ServerBack}
use Rattle.serving.proofs.Covers.{both_or_neither, has_same}
use Rattle.serving.proofs.stored.run_stored.Goals as goal

pub run-requires-clause-waits : goal.run-requires-clause-waits
run-requires-clause-waits g c κs within =
    both_or_neither _ _ _ _ (ap (λ kept. option_map arc_value kept) c.of-cover.ensures
    ∙ c.in-Ok-shared_of.ensures ∙ sym c.thread_of-thread.ensures)

pub run-requires-clause-stores : goal.run-requires-clause-stores
run-requires-clause-stores g c κs within =
    has_same _ _ _ _ (ap (λ kept. option_map arc_value kept) c.of-cover.ensures
    ∙ c.in-Ok-shared_of.ensures ∙ sym c.thread_of-thread.ensures)

-- a cover withholds replies if there is a store; the passes are those that were given
pub returns-in-Ok-run-clause-back : goal.returns-in-Ok-run-clause-back
returns-in-Ok-run-clause-back g c =
    let Back = λ (withholds : Bool) (pass : PassView) (workers : List (PassView × KnownPrefix)).
    ServerBack withholds (IsPassOf c.args.cells.now) Gained (g.L.Loader.loads c.args.loader.now)
    pass workers c.args.control.now c.in-Ok-run.back in
    let withheld = both_or_neither _ _ _ _ (ap (λ kept. option_map arc_value kept)
    c.of-cover.ensures ∙ c.in-Ok-shared_of.ensures) in
    let kept = is_some c.of-cover.result.kept in
    subst (λ withholds. Back withholds c.args.pass c.args.workers.items) withheld
    (subst (λ pass. Back kept pass c.args.workers.items) c.plain-pass.ensures
    (subst (λ workers. Back kept c.plain-pass.result workers) c.in-Ok.ensures.same
    c.in-Ok-run.ensures.back))
