-- A run with given replies chooses as the run in a state does, if each take is granted alike.
use Rattle.std.proofs.Common.{◌≡◌, ◌∙◌, ℕ, ◌^◌, ◌<◌, ◌≤◌, List, [], ◌∷◌, ◌++◌, refl, ap, sym}
use Rattle.std.proofs.Common.{subst, append_assoc, arith}
use Rattle.std.specs.Prelude.{Bool, true, false, cond, ◌==◌, nat_lt, Option, Some, None}
use Rattle.std.specs.Prelude.{if◌then◌else◌}
use Rattle.std.specs.List.{count_by}
use Rattle.std.proofs.lemmas.Bool.{le-ltb, lt-ltb}
use Rattle.std.proofs.lemmas.List.Sums.{sum_by-cons, sum_by_push}
use Rattle.attrs.specs.Attributes.{Attributes}
use Rattle.cells.specs.Arrays.{AppShape}
use Rattle.cells.specs.declared.event.CellEvent.{CellEvent}
use Rattle.cells.specs.declared.event.CellOp.TheVariants.{Add}
use Rattle.rule_lang.specs.Meaning.{Operates, Behaviour, Chooses, HasTrace, add_one_then, cell_used}
use Rattle.rule_lang.specs.Meaning.{decide, decide_one, test_holds, test_then}
use Rattle.rule_lang.specs.Trees.{Tree, Leaf, Negated, Both, Either}
use Rattle.rule_lang.specs.declared.test.Test.{Test}
use Rattle.diff_space.specs.Machines.{chooses_in, reply_after, takes_of}
use Rattle.diff_rules.specs.Replies.{RisesOn, on_cell}
use Rattle.diff_rules.proofs.Rising.{granted_in, granted_is}

-- the run has added to these cells
abbrev pub AreTaken : List CellEvent → List ℕ → Type 0
AreTaken done taken = (cell : ℕ) → takes_of cell taken ≡ count_by (on_cell cell) done

taken_more : (done : List CellEvent) (taken : List ℕ) (e : CellEvent) → AreTaken done taken
    → AreTaken (done ++ e ∷ []) (e.cell ∷ taken)
taken_more done taken e are cell =
    let on : ℕ → ℕ = λ c. cond (c == cell) 1 0 in
    let front = sum_by-cons on e.cell taken in
    let back = sum_by_push (λ (f : CellEvent). on f.cell) done e in
    let same = are cell in
    omega (arith, front, back, same)

reply_is : (quota : ℕ) → 0 < quota → quota ≤ 2 ^ 63 → (granted : Bool)
    → nat_lt (if granted then 0 else 2 ^ 63) quota ≡ granted
reply_is quota some few true = lt-ltb 0 quota some
reply_is quota some few false = le-ltb (2 ^ 63) quota few

module _ (a : Attributes) (s : AppShape) (left : ℕ → ℕ) (events : List CellEvent) where
  -- a test uses no cell, or takes from one that grants as many as have replies below the quota
  pub data IsPlayed : Test → Type 0 where
    no_cell : (t : Test) → cell_used s t ≡ None → IsPlayed t
    a_take : (t : Test) (cell quota : ℕ) → cell_used s t ≡ Some cell
        → ((reply : ℕ) → test_holds a s reply t ≡ nat_lt reply quota) → 0 < quota
        → quota ≤ 2 ^ 63 → left cell ≡ granted_in cell quota events → RisesOn cell events
        → IsPlayed t

  -- with the remaining events it chooses what it chooses in the state
  abbrev pub Plays : Behaviour → Type 0
  Plays b = (done rest : List CellEvent) (taken : List ℕ) (choice : ℕ) → events ≡ done ++ rest
      → AreTaken done taken → HasTrace b rest choice → chooses_in left taken b ≡ choice

  chooses_plays : (k : ℕ) → Plays (Chooses k)
  chooses_plays k done [] taken choice is are trace = trace
  chooses_plays k done (e ∷ es) taken choice is are trace = absurd trace

  either_plays : (b : Bool) (met unmet : Behaviour) → Plays met → Plays unmet
      → Plays (if b then met else unmet)
  either_plays true met unmet f g = f
  either_plays false met unmet f g = g

  -- an addition, after which the reply and that of the state lead to the same behaviour
  asks_plays : (cell : ℕ) (next : ℕ → Behaviour) → ((reply : ℕ) → Plays (next reply))
      → ((done rest : List CellEvent) (e : CellEvent) (taken : List ℕ)
      → events ≡ done ++ e ∷ rest → e.cell ≡ cell → AreTaken done taken
      → next e.reply ≡ next (reply_after (left cell) (takes_of cell taken)))
      → Plays (Operates cell (Add 1) next)
  asks_plays cell next plays same done [] taken choice is are trace = absurd trace
  asks_plays cell next plays same done (e ∷ es) taken choice is are trace =
      let here = trace.0 in
      plays (reply_after (left cell) (takes_of cell taken)) (done ++ e ∷ []) es (cell ∷ taken)
      choice (is ∙ sym (append_assoc done (e ∷ []) es))
      (subst (λ (c : ℕ). AreTaken (done ++ e ∷ []) (c ∷ taken)) here
      (taken_more done taken e are))
      (subst (λ (b : Behaviour). HasTrace b es choice) (same done es e taken is here are)
      trace.3)

  test_plays : {t : Test} → IsPlayed t → (met unmet : Behaviour) → Plays met → Plays unmet
      → Plays (test_then a s t met unmet)
  test_plays (no_cell t none) met unmet f g =
      subst (λ (o : Option ℕ).
      Plays (add_one_then o (λ reply. if test_holds a s reply t then met else unmet))) (sym none)
      (either_plays (test_holds a s 0 t) met unmet f g)
  test_plays (a_take t cell quota asked holds some few left_is rise) met unmet f g =
      subst (λ (o : Option ℕ).
      Plays (add_one_then o (λ reply. if test_holds a s reply t then met else unmet))) (sym asked)
      (asks_plays cell (λ reply. if test_holds a s reply t then met else unmet)
      (λ reply. either_plays (test_holds a s reply t) met unmet f g)
      (λ done rest e taken is here are. ap (λ (b : Bool). if b then met else unmet)
      (holds e.reply
      ∙ granted_is cell quota done rest e here
      (subst (λ (es : List CellEvent). RisesOn cell es) is rise)
      ∙ ap (λ (n : ℕ). nat_lt n (granted_in cell quota (done ++ e ∷ rest))) (sym (are cell))
      ∙ ap (λ (es : List CellEvent). nat_lt (takes_of cell taken) (granted_in cell quota es))
      (sym is)
      ∙ ap (λ (n : ℕ). nat_lt (takes_of cell taken) n) (sym left_is)
      ∙ sym (reply_is quota some few (nat_lt (takes_of cell taken) (left cell)))
      ∙ sym (holds (reply_after (left cell) (takes_of cell taken))))))

  abbrev pub ArePlayed : Tree → Type 0
  ArePlayed (Leaf line t) = IsPlayed t
  ArePlayed (Negated c) = ArePlayed c
  ArePlayed (Both b c) = ArePlayed b × ArePlayed c
  ArePlayed (Either b c) = ArePlayed b × ArePlayed c

  tree_plays : (c : Tree) → ArePlayed c → (met unmet : Behaviour) → Plays met → Plays unmet
      → Plays (decide a s c met unmet)
  tree_plays (Leaf line t) is met unmet f g = test_plays is met unmet f g
  tree_plays (Negated c) is met unmet f g = tree_plays c is unmet met g f
  tree_plays (Both b c) is met unmet f g =
      tree_plays b is.0 (decide a s c met unmet) unmet (tree_plays c is.1 met unmet f g) g
  tree_plays (Either b c) is met unmet f g =
      tree_plays b is.0 met (decide a s c met unmet) f (tree_plays c is.1 met unmet f g)

  abbrev pub AllPlayed : List Tree → Type 0
  AllPlayed [] = Unit {0}
  AllPlayed (c ∷ cs) = ArePlayed c × AllPlayed cs

  abbrev pub SomePlayed : Option (List Tree) → Type 0
  SomePlayed None = Unit {0}
  SomePlayed (Some cs) = AllPlayed cs

  pub one_plays : (trees : Option (List Tree)) → SomePlayed trees → (release : ℕ)
      (rest : Behaviour) → Plays rest → Plays (decide_one a s trees (Chooses release) rest)
  one_plays None are release rest plays = plays
  one_plays (Some []) are release rest plays = plays
  one_plays (Some (c ∷ [])) are release rest plays =
      tree_plays c are.0 (Chooses release) rest (chooses_plays release) plays
  one_plays (Some (b ∷ c ∷ cs)) are release rest plays = plays

  pub count_plays : (cell : ℕ) (rest : Behaviour) → Plays rest
      → Plays (Operates cell (Add 1) (λ reply. rest))
  count_plays cell rest plays =
      asks_plays cell (λ reply. rest) (λ reply. plays) (λ done es e taken is here are. refl)

  pub none_plays : Plays (Chooses 0)
  none_plays = chooses_plays 0
