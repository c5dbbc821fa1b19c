-- Runs one after the other: none, more, and under a longer list of rulesets.
use Rattle.std.proofs.Common.{◌≡◌, ℕ, zero, suc, List, [], ◌∷◌, ◌++◌, Some, refl, sym, ap, ◌∙◌}
use Rattle.std.specs.Prelude.{slice_get}
use Rattle.std.proofs.lemmas.Grind.{flat_map-append}
use Rattle.std.proofs.lemmas.List.Elements.{All-nil, All-append, All-weaker}
use Rattle.cells.specs.declared.event.CellEvent.{CellEvent}
use Rattle.bpf_semantics.specs.Program.{ShapedProgram}
use Rattle.ruleset.specs.Rules.{Rules, appid_of}
use Rattle.world.specs.World.{ruleset_at, HasProgram}
use Rattle.thread_laws.specs.InTurn.{events_in_turn, NoneAreOfRuns, OfRunsAppend, OfRunsStay}
use Rattle.thread_laws.specs.Runs.{AppRun, IsWholeRun}

pub none_of_runs : NoneAreOfRuns
none_of_runs published = record { each = All-nil (IsWholeRun published); events_are = refl }

pub of_runs_append : OfRunsAppend
of_runs_append published runs more first second of then_of = record {
  each = All-append (IsWholeRun published) runs more of.each then_of.each;
  events_are =
      ap (λ (es : List CellEvent). es ++ second) of.events_are
      ∙ ap (λ (es : List CellEvent). events_in_turn runs ++ es) then_of.events_are
      ∙ sym (flat_map-append (λ run. run.events) runs more);
}

still_got : (rs later : List Rules) (k : ℕ) (r : Rules) → slice_get rs k ≡ Some r
    → slice_get (rs ++ later) k ≡ Some r
still_got [] later k r is = absurd cc
still_got (a ∷ rs) later zero r is = is
still_got (a ∷ rs) later (suc k) r is = still_got rs later k r is

still_at : (rs later : List Rules) (n : ℕ) (r : Rules) → ruleset_at rs n ≡ Some r
    → ruleset_at (rs ++ later) n ≡ Some r
still_at rs later zero r is = absurd cc
still_at rs later (suc k) r is = still_got rs later k r is

still_offered : (published later : List Rules) (number : ℕ) (appid : List ℕ)
    (program : ShapedProgram) → HasProgram published number appid program
    → HasProgram (published ++ later) number appid program
still_offered published later number appid program is = record {
  app = is.app;
  has = record {
    rules = is.has.rules;
    ruleset_is = still_at published later number is.has.rules is.has.ruleset_is;
    known = is.has.known;
  };
  program_is = is.program_is;
}

still_run : (published later : List Rules) (run : AppRun) → IsWholeRun published run
    → IsWholeRun (published ++ later) run
unfolding still_offered
still_run published later run is = let appid = appid_of run.attributes in record {
  under = record {
    offered = still_offered published later run.number appid run.program is.under.offered;
    texts_are_short = is.under.texts_are_short;
    comes = is.under.comes;
  };
  choice = is.choice;
  instructions = is.instructions;
  ended = is.ended;
  safe = record {
    offered = still_offered published later run.number appid run.program is.safe.offered;
    release = is.safe.release;
    short = is.safe.short;
  };
}

pub of_runs_stay : OfRunsStay
of_runs_stay published later runs events of = record {
  each = All-weaker (IsWholeRun published) (IsWholeRun (published ++ later))
      (still_run published later) runs of.each;
  events_are = of.events_are;
}
