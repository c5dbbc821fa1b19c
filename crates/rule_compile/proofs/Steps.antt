-- The loop over the steps of a condition, from the last to the first.
use Rattle.std.proofs.Common.{◌≡◌, ℕ, zero, suc, ◌+◌, ◌-◌, ◌*◌, ◌<◌, ◌≤◌, List, [], ◌∷◌, ◌++◌}
use Rattle.std.proofs.Common.{take, drop, length, get_or, Option, Some, None, Bool, true}
use Rattle.std.proofs.Common.{false, refl, sym, ap, subst, ◌∙◌, arith, add-one, drop-cons}
use Rattle.std.specs.Prelude.{not, option_and_then, if◌then◌else◌}
use Rattle.std.proofs.lemmas.List.Elements.{All-nil, All-cons, All-head, All-tail}
use Rattle.bpf_insn.specs.Program.{Program}
use Rattle.cells.specs.Arrays.{AppShape}
use Rattle.rule_lang.specs.declared.condition.Step.{Step}
use Rattle.rule_lang.specs.declared.condition.Step.TheVariants as step
use Rattle.rule_lang.specs.Trees.{Tree, with_step, trees_from}
use Rattle.rule_compile.specs.declared.goals.Goal.{Goal}
use Rattle.rule_compile.specs.Code.{test_code, made_code, goal, steps_code, step_goals, step_code}
use Rattle.rule_compile.specs.Ranges.{IsStepInRange, AreInRange}
use Rattle.rule_compile.specs.Writing.{HaveGoals, LieWithin, AreWritten}
use Rattle.rule_lang.specs.Cost.{tests_in}
use Rattle.rule_compile.proofs.Before.{test_longer, made_longer}
use Rattle.rule_compile.proofs.Costs.{step_length, tests_cons, tests_left}

-- ---- one step

pub record IsStepBack (s : AppShape) (x : Step) (o : Option (List Tree)) (gs : List Goal)
    (rest : Program) : Type 0 where
  pub code : made_code s o (step_goals x gs rest) (step_code s x gs rest) ≡ made_code s
      (option_and_then (with_step x) o) gs rest
  pub goals : HaveGoals o (step_goals x gs rest)
  pub some : 0 < length gs

pub step_back : (s : AppShape) (x : Step) (o : Option (List Tree)) (gs : List Goal) (rest : Program)
    → HaveGoals (option_and_then (with_step x) o) gs → IsStepBack s x o gs rest
step_back s x None gs rest h = absurd h
step_back s (step.Test line t) (Some us) [] rest h = absurd (omega (arith, h))
step_back s (step.Test line t) (Some us) (g ∷ gs) rest h =
    record { code = refl; goals = omega (arith, h); some = omega arith }
step_back s step.Not (Some []) gs rest h = absurd h
step_back s step.Not (Some (c ∷ us)) [] rest h = absurd (omega (arith, h))
step_back s step.Not (Some (c ∷ us)) (g ∷ gs) rest h =
    record { code = refl; goals = h; some = omega arith }
step_back s step.And (Some []) gs rest h = absurd h
step_back s step.And (Some (b ∷ [])) gs rest h = absurd h
step_back s step.And (Some (b ∷ a ∷ us)) [] rest h = absurd (omega (arith, h))
step_back s step.And (Some (b ∷ a ∷ us)) (g ∷ gs) rest h =
    record { code = refl; goals = omega (arith, h); some = omega arith }
step_back s step.Or (Some []) gs rest h = absurd h
step_back s step.Or (Some (b ∷ [])) gs rest h = absurd h
step_back s step.Or (Some (b ∷ a ∷ us)) [] rest h = absurd (omega (arith, h))
step_back s step.Or (Some (b ∷ a ∷ us)) (g ∷ gs) rest h =
    record { code = refl; goals = omega (arith, h); some = omega arith }

-- ---- labels

within_more : (q' q : Program) (gs : List Goal) → length q ≤ length q' → LieWithin q gs
    → LieWithin q' gs
within_more q' q [] le h = All-nil (λ (g : Goal). g.label ≤ length q')
within_more q' q (g ∷ gs) le h =
    let low = All-head (λ (g : Goal). g.label ≤ length q) g gs h in
    All-cons (λ (g : Goal). g.label ≤ length q') g gs (omega (arith, low, le))
    (within_more q' q gs le (All-tail (λ (g : Goal). g.label ≤ length q) g gs h))

one_within : (q : Program) (g : Goal) (gs : List Goal) → g.label ≤ length q → LieWithin q gs
    → LieWithin q (g ∷ gs)
one_within q g gs le h = All-cons (λ (g : Goal). g.label ≤ length q) g gs le h

either_within : (b : Bool) (k l n : ℕ) → k ≤ n → l ≤ n → (if b then k else l) ≤ n
either_within true k l n h g = h
either_within false k l n h g = g

pub labels_back : (s : AppShape) (x : Step) (gs : List Goal) (rest : Program) → LieWithin rest gs
    → LieWithin (step_code s x gs rest) (step_goals x gs rest)
labels_back s (step.Test line t) [] rest h = h
labels_back s step.Not [] rest h = h
labels_back s step.And [] rest h = h
labels_back s step.Or [] rest h = h
labels_back s (step.Test line t) (g ∷ gs) rest h =
    within_more (test_code s t g.sense g.label rest) rest gs (test_longer s t g.sense g.label rest)
    (All-tail (λ (g : Goal). g.label ≤ length rest) g gs h)
labels_back s step.Not (g ∷ gs) rest h =
    one_within rest (goal (not g.sense) g.label) gs
    (All-head (λ (g : Goal). g.label ≤ length rest) g gs h)
    (All-tail (λ (g : Goal). g.label ≤ length rest) g gs h)
labels_back s step.And (g ∷ gs) rest h =
    let low = All-head (λ (g : Goal). g.label ≤ length rest) g gs h in
    let later = All-tail (λ (g : Goal). g.label ≤ length rest) g gs h in
    let out : ℕ = if g.sense then length rest else g.label in
    one_within rest (goal g.sense g.label) (goal false out ∷ gs) low
    (one_within rest (goal false out) gs
    (either_within g.sense (length rest) g.label (length rest) (omega arith) low) later)
labels_back s step.Or (g ∷ gs) rest h =
    let low = All-head (λ (g : Goal). g.label ≤ length rest) g gs h in
    let later = All-tail (λ (g : Goal). g.label ≤ length rest) g gs h in
    let out : ℕ = if g.sense then g.label else length rest in
    one_within rest (goal g.sense g.label) (goal true out ∷ gs) low
    (one_within rest (goal true out) gs
    (either_within g.sense g.label (length rest) (length rest) low (omega arith)) later)

-- ---- the steps before the k-th

trees_append : (ts : List Tree) (xs ys : List Step)
    → trees_from ts (xs ++ ys) ≡ option_and_then (λ us. trees_from us ys) (trees_from ts xs)
trees_append ts [] ys = refl
trees_append ts (x ∷ xs) ys = on_made (with_step x ts) (λ us. trees_append us xs ys)
  where
    on_made : (o : Option (List Tree))
        → ((us : List Tree) → trees_from us (xs ++ ys) ≡ option_and_then (λ vs. trees_from vs ys)
        (trees_from us xs))
        → option_and_then (λ us. trees_from us (xs ++ ys)) o ≡ option_and_then
        (λ vs. trees_from vs ys) (option_and_then (λ us. trees_from us xs) o)
    on_made None h = refl
    on_made (Some us) h = h us

one_tree : (x : Step) (o : Option (List Tree))
    → option_and_then (λ us. trees_from us (x ∷ [])) o ≡ option_and_then (with_step x) o
one_tree x None = refl
one_tree x (Some us) = on_made (with_step x us)
  where
    on_made : (o : Option (List Tree)) → option_and_then (λ vs. Some vs) o ≡ o
    on_made None = refl
    on_made (Some vs) = refl

take_one : (steps : List Step) (k : ℕ) (x : Step) → k < length steps → x ≡ get_or steps k x
    → take (k + 1) steps ≡ take k steps ++ (x ∷ [])
take_one [] k x lt is = absurd (omega (arith, lt))
take_one (y ∷ steps) zero x lt is = ap (λ (z : Step). z ∷ []) (sym is)
take_one (y ∷ steps) (suc k) x lt is = let e : suc k + 1 ≡ suc (k + 1) = omega arith in
    ap (λ (n : ℕ). take n (y ∷ steps)) e
    ∙ ap (λ (zs : List Step). y ∷ zs) (take_one steps k x (omega (arith, lt)) is)

trees_one : (steps : List Step) (k : ℕ) (x : Step) → k < length steps → x ≡ get_or steps k x
    → trees_from [] (take (k + 1) steps) ≡ option_and_then (with_step x)
    (trees_from [] (take k steps))
trees_one steps k x lt is = ap (trees_from []) (take_one steps k x lt is)
    ∙ trees_append [] (take k steps) (x ∷ []) ∙ one_tree x (trees_from [] (take k steps))

drop_one : (steps : List Step) (k : ℕ) (x : Step) → k < length steps → x ≡ get_or steps k x
    → drop k steps ≡ x ∷ drop (k + 1) steps
drop_one steps k x lt here = drop-cons steps k x lt
    ∙ ap (λ (v : Step). v ∷ drop (suc k) steps) (sym here)
    ∙ ap (λ (n : ℕ). x ∷ drop n steps) (sym (add-one k))

-- ---- the loop

module _ (s : AppShape) (steps : List Step) (label : ℕ) (first : Program) (k : ℕ) (x : Step)
    (gs : List Goal) (rest : Program)
    (lt : k < length steps) (here : x ≡ get_or steps k x)
    (h : AreWritten s steps label first (k + 1) gs rest) where
  back : IsStepBack s x (trees_from [] (take k steps)) gs rest
  back = step_back s x (trees_from [] (take k steps)) gs rest
      (subst (λ (o : Option (List Tree)). HaveGoals o gs) (trees_one steps k x lt here) h.goals)

  pub some_goal : 0 < length gs
  some_goal = back.some

  whole : made_code s (trees_from [] (take k steps)) (step_goals x gs rest)
      (step_code s x gs rest) ≡ steps_code s steps true label first
  whole = back.code ∙ ap (λ (o : Option (List Tree)). made_code s o gs rest)
      (sym (trees_one steps k x lt here)) ∙ h.code

  size_back : IsStepInRange x → length (step_code s x gs rest) ≤ length first + 22 * tests_in
      (drop k steps)
  size_back range =
      let one = step_length s x gs rest range in
      let next = ap tests_in (drop_one steps k x lt here) in
      let sum = tests_cons x (drop (k + 1) steps) in
      let so_far = h.size in
      omega (arith, one, next, sum, so_far)

  pub one_costs : IsStepInRange x → 4096 < length (step_code s x gs rest)
      → 4096 < length first + 22 * tests_in steps
  one_costs range long = let size = size_back range in let left = tests_left steps k in
      omega (arith, long, size, left)

  pub one_written : IsStepInRange x
      → AreWritten s steps label first k (step_goals x gs rest) (step_code s x gs rest)
  one_written range = record {
    code = whole;
    goals = back.goals;
    labels = labels_back s x gs rest h.labels;
    range = subst AreInRange (sym (drop_one steps k x lt here)) (range, h.range);
    size = size_back range;
  }

  pub too_long : 4096 < length (step_code s x gs rest)
      → 4096 < length (steps_code s steps true label first)
  too_long long =
      let more = made_longer s (trees_from [] (take k steps)) (step_goals x gs rest)
      (step_code s x gs rest) in
      let same = ap (λ (p : Program). length p) whole in
      omega (arith, long, more, same)

nothing_left : (steps : List Step) → drop (length steps) steps ≡ []
nothing_left [] = refl
nothing_left (x ∷ steps) = nothing_left steps

pub all_written : (s : AppShape) (steps : List Step) (label : ℕ) (first : Program) (gs : List Goal)
    (rest : Program) → AreWritten s steps label first 0 gs rest
    → (rest ≡ steps_code s steps true label first) × (gs ≡ []) × AreInRange steps
all_written s steps label first [] rest h = (h.code, refl, h.range)
all_written s steps label first (g ∷ gs) rest h = absurd (omega (arith, h.goals))

-- ---- the loop, counting down

module _ (s : AppShape) (steps : List Step) (label : ℕ) (first : Program) (k : ℕ) (x : Step)
    (gs : List Goal) (rest : Program)
    (some : 0 < k) (le : k ≤ length steps) (here : x ≡ get_or steps (k - 1) x)
    (h : AreWritten s steps label first k gs rest) where
  earlier : AreWritten s steps label first (k - 1 + 1) gs rest
  earlier = let e : k ≡ k - 1 + 1 = omega (arith, some) in
      subst (λ (n : ℕ). AreWritten s steps label first n gs rest) e h

  pub goal_left : 0 < length gs
  goal_left = some_goal s steps label first (k - 1) x gs rest (omega (arith, some, le)) here earlier

  pub step_written : (gs' : List Goal) (rest' : Program) → gs' ≡ step_goals x gs rest
      → rest' ≡ step_code s x gs rest → IsStepInRange x
      → AreWritten s steps label first (k - 1) gs' rest'
  step_written gs' rest' goals code range =
      subst (λ (g : List Goal). AreWritten s steps label first (k - 1) g rest') (sym goals)
      (subst (λ (p : Program). AreWritten s steps label first (k - 1) (step_goals x gs rest) p)
      (sym code) (one_written s steps label first (k - 1) x gs rest
      (omega (arith, some, le)) here earlier range))

  pub step_long : 4096 < length (step_code s x gs rest)
      → 4096 < length (steps_code s steps true label first)
  step_long = too_long s steps label first (k - 1) x gs rest (omega (arith, some, le)) here earlier

  pub step_costs : IsStepInRange x → 4096 < length (step_code s x gs rest)
      → 4096 < length first + 22 * tests_in steps
  step_costs = one_costs s steps label first (k - 1) x gs rest
      (omega (arith, some, le)) here earlier
