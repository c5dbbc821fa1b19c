-- Workers' answers in turn, put together: one world does their runs.
use Rattle.std.proofs.Common.{◌≡◌, ◌≢◌, ℕ, zero, suc, List, [], ◌∷◌, length, get_or, All, map}
use Rattle.std.proofs.Common.{Bool, refl, sym, ap, subst, ◌∙◌}
use Rattle.std.specs.List.{AllZip}
use Rattle.std.proofs.lemmas.List.{length-map}
use Rattle.std.proofs.lemmas.List.Elements.{All-nil, All-cons, All-append, All-head, All-tail}
use Rattle.std.proofs.lemmas.List.Elements.{All-map, All-weaker}
use mathlib.Core.List.{IsPrefix}
use Rattle.shared_cells.specs.Passes.{CellsView, PassView, IsPassOf, Gained}
use Rattle.shared_cells.specs.Passes.{ClosedView, PassesGainLists, AreLeftBy, lists_of}
use Rattle.shared_cells.specs.Quotas.{QuotasAreExact}
use Rattle.thread_laws.specs.InTurn.{AreOfRuns, events_in_turn}
use Rattle.thread_laws.specs.Passes.{AreLoads, DidRuns, PassesAreOneWorld, all_runs}
use Rattle.thread_laws.specs.Runs.{AppRun, IsRunUnder, IsWholeRun}
use Rattle.hot_swap.specs.Published.{KnownPrefix, Extends, HasLast}
use Rattle.ruleset.specs.Rules.{Rules, IsRuleset}
use Rattle.workers.specs.Answers.{WorkerAnswer, AreInTurn, made_in_turn}
use Rattle.workers.specs.Answers.{AnswersGoOnwards, AnswersStayInTurn}
use Rattle.workers.specs.Back.{WorkerBack}
use Rattle.workers.specs.Runs.{AnswersAreOfRuns, runs_in_turn}
use Rattle.serving.specs.Ended.{AreLeftByOneWorld, passes_of, runs_by_pass}
use Rattle.serving.specs.Staff.{IsNewWorker}
use Rattle.serving.proofs.Closing.{All-reverse, turned}
use Rattle.serving.proofs.Ending.{all_made, are_of_server, zipped}

-- ---- a worker's answers, and their runs

pub record Laws : Type 0 where
  pub gain : PassesGainLists
  pub onwards : AnswersGoOnwards
  pub runs : AnswersAreOfRuns
  pub stay : AnswersStayInTurn
  pub world : PassesAreOneWorld

module _ (withholds : Bool) where
  -- what a pass did is the runs of answers in turn
  record HasAnswered (from to : KnownPrefix) (pass : PassView) : Type 0 where
    pub answers : List (WorkerAnswer withholds)
    pub in_turn : AreInTurn from answers to
    pub ran : AreOfRuns to.rulesets (runs_in_turn answers) pass.events

  -- a worker that has read only what was published
  has_answered : Laws → (cells : CellsView) (known to : KnownPrefix)
      (old new : PassView × KnownPrefix)
      → IsNewWorker cells.table known old → WorkerBack withholds (IsPassOf cells) Gained old new
      → Extends new.1 to → HasAnswered known to new.0
  has_answered laws cells known to old new is back seen =
      let answers = back.answers in
      let first =
      subst (λ (from : KnownPrefix). AreInTurn from answers new.1) is.watches back.in_turn in
      let turn = laws.stay withholds known new.1 to answers first seen in
      let made =
      all_made laws.gain cells.table old.0 (made_in_turn answers) new.0 is.pass back.grown in
      record {
        answers = answers;
        in_turn = turn;
        ran = subst (AreOfRuns to.rulesets (runs_in_turn answers)) (sym made)
            (laws.runs withholds known to answers turn);
      }

  all_answered : Laws → (cells : CellsView) (known to : KnownPrefix)
      (old new : List (PassView × KnownPrefix)) → to.publisher ≡ known.publisher
      → All (IsNewWorker cells.table known) old
      → AllZip (WorkerBack withholds (IsPassOf cells) Gained) old new
      → All (λ w. IsPrefix w.1.rulesets to.rulesets) new
      → All (λ w. HasAnswered known to w.0) new
  all_answered laws cells known to old new same is back seen =
      let own =
      are_of_server withholds laws.onwards cells known to.publisher old new same is back in
      let Q : PassView × KnownPrefix → Type 0 =
      λ (w : PassView × KnownPrefix). Extends w.1 to → HasAnswered known to w.0 in
      let each : All Q new =
      zipped (IsNewWorker cells.table known) (WorkerBack withholds (IsPassOf cells) Gained) Q
      (λ x y. has_answered laws cells known to x y) old new is back in
      λ k d less. each k d less (record {
        publisher = (own k d less).watcher;
        onwards = seen k d less;
      })

  -- ---- pass after pass

  record HaveAnswered (from to : KnownPrefix) (passes : List PassView) : Type 0 where
    pub answers : List (List (WorkerAnswer withholds))
    pub as_many : length answers ≡ length passes
    pub in_turn : All (λ given. AreInTurn from given to) answers
    pub whole : All (IsWholeRun to.rulesets) (all_runs (map runs_in_turn answers))
    pub ran : (k : ℕ) → get_or (lists_of passes) k []
        ≡ events_in_turn (get_or (map runs_in_turn answers) k [])

  none_answered : (from to : KnownPrefix) → HaveAnswered from to []
  none_answered from to = record {
    answers = [];
    as_many = refl;
    in_turn = All-nil (λ (given : List (WorkerAnswer withholds)). AreInTurn from given to);
    whole = All-nil (IsWholeRun to.rulesets);
    ran = λ k. refl;
  }

  one_answered : (from to : KnownPrefix) (pass : PassView) (passes : List PassView)
      → HasAnswered from to pass → HaveAnswered from to passes
      → HaveAnswered from to (pass ∷ passes)
  one_answered from to pass passes first rest = record {
    answers = first.answers ∷ rest.answers;
    as_many = ap (λ (n : ℕ). suc n) rest.as_many;
    in_turn = All-cons (λ (given : List (WorkerAnswer withholds)). AreInTurn from given to)
        first.answers rest.answers first.in_turn rest.in_turn;
    whole = All-append (IsWholeRun to.rulesets) (runs_in_turn first.answers)
        (all_runs (map runs_in_turn rest.answers)) first.ran.each rest.whole;
    ran = ran_at;
  }
    where
      ran_at : (k : ℕ) → get_or (lists_of (pass ∷ passes)) k []
          ≡ events_in_turn (get_or (map runs_in_turn (first.answers ∷ rest.answers)) k [])
      ran_at zero = first.ran.events_are
      ran_at (suc k) = rest.ran k

  have_answered : (from to : KnownPrefix) (passes : List PassView)
      → All (HasAnswered from to) passes → HaveAnswered from to passes
  have_answered from to [] all = none_answered from to
  have_answered from to (p ∷ ps) all =
      one_answered from to p ps (All-head (HasAnswered from to) p ps all)
      (have_answered from to ps (All-tail (HasAnswered from to) p ps all))

  -- the operator did no runs
  all_did : (from to : KnownPrefix) (operator : PassView) (others : List PassView)
      (have : HaveAnswered from to others) → AreLoads operator.events
      → DidRuns (lists_of (operator ∷ others)) 0 (runs_by_pass have.answers)
  all_did from to operator others have looked = record {
    as_many = ap (λ (n : ℕ). suc n) (length-map have.answers runs_in_turn ∙ have.as_many
        ∙ sym (length-map others (λ (p : PassView). p.events)));
    looked = looked;
    no_runs = refl;
    others = others_at;
  }
    where
      others_at : (p : ℕ) → p ≢ 0 → get_or (lists_of (operator ∷ others)) p []
          ≡ events_in_turn (get_or (runs_by_pass have.answers) p [])
      others_at zero other = absurd (other refl)
      others_at (suc k) other = have.ran k

  -- ---- one world

  by_runs : PassesAreOneWorld → (published : List Rules) (last : Rules) (runs : List (List AppRun))
      (closed : ClosedView) → HasLast published last → All IsRuleset published
      → DidRuns (lists_of closed.passes) 0 runs → All (IsWholeRun published) (all_runs runs)
      → (opening : List ℕ) → AreLeftBy opening closed.passes closed.values
      → QuotasAreExact opening closed.passes closed.values
      → AreLeftByOneWorld published runs opening closed
  by_runs world [] last runs closed is sound did whole opening left counters = absurd cc
  by_runs world (first ∷ later) last runs closed is sound did whole opening left counters =
      let published = first ∷ later in
      record {
        left = left;
        whole = whole;
        world = world first later closed.passes 0 opening closed.values left runs sound did
            (All-weaker (IsWholeRun published) (IsRunUnder published) (λ run one. one.under)
            (all_runs runs) whole);
        counters = counters;
      }

  -- the answers of a server's workers, in turn, and what their runs did to the counters
  pub record DidInTurn (from to : KnownPrefix) (opening : List ℕ) (closed : ClosedView)
      : Type 0 where
    pub answers : List (List (WorkerAnswer withholds))
    pub in_turn : All (λ given. AreInTurn from given to) answers
    pub did : AreLeftByOneWorld to.rulesets (runs_by_pass answers) opening closed

  pub did_in_turn : Laws → (cells : CellsView) (from to : KnownPrefix) (last : Rules)
      (operator : PassView) (old new : List (PassView × KnownPrefix)) (closed : ClosedView)
      → HasLast to.rulesets last → All IsRuleset to.rulesets → AreLoads operator.events
      → to.publisher ≡ from.publisher → All (IsNewWorker cells.table from) old
      → AllZip (WorkerBack withholds (IsPassOf cells) Gained) old new
      → All (λ w. IsPrefix w.1.rulesets to.rulesets) new
      → closed.passes ≡ passes_of operator new → AreLeftBy cells.opening closed.passes closed.values
      → QuotasAreExact cells.opening closed.passes closed.values
      → DidInTurn from to cells.opening closed
  did_in_turn laws cells from to last operator old new closed is sound looked publisher fresh back
      seen same left counters =
      let others = turned new in
      let have = have_answered from to others
      (All-reverse (HasAnswered from to) (map (λ (w : PassView × KnownPrefix). w.0) new)
      (All-map (HasAnswered from to) (λ (w : PassView × KnownPrefix). w.0) new
      (all_answered laws cells from to old new publisher fresh back seen))) in
      let runs = runs_by_pass have.answers in
      let did = subst (λ (ps : List PassView). DidRuns (lists_of ps) 0 runs) (sym same)
      (all_did from to operator others have looked) in
      record {
        answers = have.answers;
        in_turn = have.in_turn;
        did = by_runs laws.world to.rulesets last runs closed is sound did have.whole cells.opening
            left counters;
      }
