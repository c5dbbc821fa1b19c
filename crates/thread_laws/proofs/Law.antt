-- Runs that share a legal history can be run by one world.
use Rattle.std.proofs.Common.{List, ◌∷◌, get_or, map, sym, subst, ◌∙◌}
use Rattle.std.proofs.lemmas.List.{length-map}
use Rattle.std.proofs.lemmas.List.Elements.{All-from_recursion, recursion_from_All}
use Rattle.cells.specs.declared.event.CellEvent.{CellEvent}
use Rattle.ruleset.specs.Rules.{IsRuleset}
use Rattle.world.specs.World.{Idle}
use Rattle.thread_laws.specs.OneWorld.{OneWorld, OpensRuns, IsStepEvent}
use Rattle.thread_laws.specs.Runs.{IsRunUnder, at_start, as_far}
use Rattle.thread_laws.proofs.Works.{Works, Counts, all_work}
use Rattle.thread_laws.proofs.Playing.{played}
use Rattle.thread_laws.proofs.Opening.{all_open}

pub one_world : Counts → OneWorld
one_world law first later runs opening history values sound all shared =
    let published = first ∷ later in
    let each = recursion_from_All (IsRunUnder published) runs all in
    let opens = all_open first later runs opening each
    (recursion_from_All IsRuleset published sound).1 in
    let legal = shared.legal in
    let goes = played published values (map as_far runs) history opening (map at_start runs)
    (length-map runs at_start ∙ sym (length-map runs as_far)) legal.grown
    (λ k. subst (λ (es : List CellEvent).
    Works (get_or (map at_start runs) k Idle) es (get_or (map as_far runs) k Idle))
    (sym (shared.own k)) (all_work law published runs each k)) in
    record {
      starts = record {
        events = opens.events;
        answers = opens.answers;
        plays = opens.plays;
        of_kind = All-from_recursion OpensRuns opens.events opens.kinds;
      };
      steps = record {
        events = goes.events;
        answers = goes.answers;
        plays = goes.plays;
        of_kind = All-from_recursion IsStepEvent goes.events goes.kinds;
      };
      history_is = goes.history_is;
    }
