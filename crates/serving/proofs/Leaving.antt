-- The arrays that a server's rulesets know, when it begins and when it ends.
use Rattle.std.proofs.Common.{◌≡◌, Bool, ℕ, List, [], ◌∷◌, All, refl, sym, subst}
use Rattle.std.proofs.lemmas.List.Elements.{All-cons, All-nil, All-same}
use Rattle.cells.specs.Directory.{IsDirectory}
use Rattle.cells.specs.declared.array.CellArray.{CellArray}
use Rattle.thread_laws.specs.Quotas.{ThreadsGrantQuotas}
use Rattle.cells.specs.declared.event.CellEvent.{CellEvent}
use Rattle.shared_cells.specs.Passes.{CellsView, ClosedView, AreClosed, events_made}
use Rattle.restart_laws.specs.Servers.{EachCountsOn, IsExact}
use Rattle.halts.specs.Halts.{KeepsArrays, served}
use Rattle.operator.specs.Control.{Controlled, Loading, KnowOnlyItsArrays}
use Rattle.operator.specs.Leading.{AnsweredLine, LinesLead, LinesKeepToArrays}
use Rattle.hot_swap.specs.Published.{KnownPrefix}
use Rattle.ruleset.specs.Rules.{Rules, IsRuleset, KnowsOnly}
use Rattle.serving.specs.Ended.{LeavesOneWorld, runs_by_pass}
use Rattle.serving.proofs.Turns.{DidInTurn}

-- the first ruleset, as it is loaded and as it is served, knows only the arrays that it was loaded
-- with
pub knows_first : KeepsArrays → (control : Controlled) (arrays : List CellArray) (rules : Rules)
    (halted : List (List ℕ)) → control.arrays ≡ arrays → control.last.rules ≡ rules
    → control.publishing.known.rulesets ≡ served halted rules ∷ []
    → KnowsOnly arrays rules → KnowOnlyItsArrays control
knows_first keep control arrays rules halted same loaded listed only =
    let P = KnowsOnly control.arrays in
    let knows : P rules = subst (λ (a : List CellArray). KnowsOnly a rules) (sym same) only in
    record {
      loaded = subst P (sym loaded) knows;
      published = All-same P control.publishing.known.rulesets (served halted rules ∷ []) listed
          (All-cons P (served halted rules) [] (keep rules halted control.arrays knows)
          (All-nil P));
    }

-- and all published rulesets know only the server's arrays at its end
pub leaves : {F : Type 0} (withholds : Bool) (loads : Loading F) → LinesKeepToArrays loads
    → ThreadsGrantQuotas → EachCountsOn → (cells : CellsView) (control end : Controlled)
    (lines : List (AnsweredLine F)) (reads : List CellEvent) (published : KnownPrefix)
    (closed : ClosedView)
    → AreClosed cells closed → LinesLead loads control lines reads end → IsDirectory end.arrays
    → KnowOnlyItsArrays control → published ≡ end.publishing.known
    → All IsRuleset published.rulesets
    → DidInTurn withholds control.publishing.known published cells.opening closed
    → LeavesOneWorld withholds loads cells control end.halted end.arrays closed.values
leaves withholds loads keep grant on cells control end lines reads published closed own led
    directory knows same sound did =
    let sound_now = subst (λ (b : KnownPrefix). All IsRuleset b.rulesets) same sound in
    let now =
    subst
    (λ (b : KnownPrefix). DidInTurn withholds control.publishing.known b cells.opening closed)
    same did in
    let world = now.did in
    let only = keep control end lines reads led knows in
    let granted = grant end.publishing.known.rulesets closed.passes 0 cells.opening
    world.left.history closed.values (runs_by_pass now.answers) end.arrays world.world
    world.counters sound_now only.published directory in
    record {
      closed = closed;
      own = own;
      values_are = refl;
      end = end;
      arrays_are = refl;
      halted_are = refl;
      lines = lines;
      reads = reads;
      led = led;
      by_worker = now.answers;
      in_turn = now.in_turn;
      did = world;
      sound = sound_now;
      directory = directory;
      only = only;
      granted = granted;
      counts_on = λ array cell listed quota has.
          on cell closed
          (subst
          (λ (c : CellsView). IsExact cell c.opening closed.values (events_made closed.passes))
          (sym own.same) (granted array cell listed quota has).exact);
    }

-- the halted apps, the arrays and the values that are handed back are these
pub hands_back : {F : Type 0} (withholds : Bool) (loads : Loading F) (cells : CellsView)
    (control : Controlled) (halted last : List (List ℕ)) (arrays ended : List CellArray)
    (values closed : List ℕ) → halted ≡ last → arrays ≡ ended → values ≡ closed
    → LeavesOneWorld withholds loads cells control last ended closed
    → LeavesOneWorld withholds loads cells control halted arrays values
hands_back withholds loads cells control halted last arrays ended values closed same_halted
    same_arrays same_values left =
    subst (λ (h : List (List ℕ)). LeavesOneWorld withholds loads cells control h arrays values)
    (sym same_halted)
    (subst (λ (a : List CellArray). LeavesOneWorld withholds loads cells control last a values)
    (sym same_arrays)
    (subst (LeavesOneWorld withholds loads cells control last ended) (sym same_values) left))
