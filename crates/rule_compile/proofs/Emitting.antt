-- The loop over the statements of a rule, from the last to the first.
use Rattle.std.proofs.Common.{◌≡◌, ℕ, zero, suc, ◌+◌, ◌-◌, ◌*◌, ◌<◌, ◌≤◌, List, [], ◌∷◌, drop}
use Rattle.std.proofs.Common.{length, get_or, refl, sym, ap, subst, ◌∙◌, arith, add-one, drop-cons}
use Rattle.bpf_insn.specs.Program.{Program}
use Rattle.cells.specs.Arrays.{AppShape}
use Rattle.rule_lang.specs.declared.rule.Statement.{Statement}
use Rattle.rule_compile.specs.declared.goals.Goal.{Goal}
use Rattle.rule_compile.specs.Code.{statement_code, statements_code, rule_code}
use Rattle.rule_compile.specs.Ranges.{IsStatementInRange, IsRuleInRange, IsMade, AreMade}
use Rattle.rule_compile.specs.Writing.{IsWrittenFrom}
use Rattle.rule_lang.specs.Cost.{tests_of, cost}
use Rattle.rule_compile.proofs.Costs.{statement_costs}
use Rattle.rule_compile.proofs.Before.{statement_longer, end_before}

drop_one : (xs : List Statement) (k : ℕ) (x : Statement) → k < length xs → x ≡ get_or xs k x
    → drop k xs ≡ x ∷ drop (k + 1) xs
drop_one xs k x lt here = drop-cons xs k x lt
    ∙ ap (λ (v : Statement). v ∷ drop (suc k) xs) (sym here)
    ∙ ap (λ (n : ℕ). x ∷ drop n xs) (sym (add-one k))

nothing_left : (xs : List Statement) → drop (length xs) xs ≡ []
nothing_left [] = refl
nothing_left (x ∷ xs) = nothing_left xs

pub end_longer : (s : AppShape) (xs : List Statement) → 2 ≤ length (statements_code s xs)
end_longer s xs = (end_before s xs).longer

behind_longer : (s : AppShape) (xs : List Statement) (k : ℕ)
    → length (statements_code s (drop k xs)) ≤ length (statements_code s xs)
behind_longer s xs zero = omega arith
behind_longer s [] (suc k) = omega arith
behind_longer s (x ∷ xs) (suc k) =
    let f = behind_longer s xs k in
    let g = statement_longer s x (statements_code s xs) in
    omega (arith, f, g)

pub end_stands : (s : AppShape) (xs : List Statement) (k : ℕ) (gs : List Goal) (rest : Program)
    → IsWrittenFrom s xs k gs rest → 2 ≤ length rest
end_stands s xs k gs rest h = subst (λ (p : Program). 2 ≤ length p) (sym h.code)
    (end_longer s (drop k xs))

module _ (s : AppShape) (xs : List Statement) (k : ℕ) (x : Statement) (gs : List Goal)
    (rest : Program)
    (some : 0 < k) (le : k ≤ length xs) (here : x ≡ get_or xs (k - 1) x)
    (h : IsWrittenFrom s xs k gs rest) where
  next : drop (k - 1) xs ≡ x ∷ drop k xs
  next = let e : k - 1 + 1 ≡ k = omega (arith, some) in
      drop_one xs (k - 1) x (omega (arith, some, le)) here ∙ ap (λ (n : ℕ). x ∷ drop n xs) e

  pub statement_written : (gs' : List Goal) (rest' : Program) → gs' ≡ []
      → rest' ≡ statement_code s x rest → IsStatementInRange x → IsMade x
      → IsWrittenFrom s xs (k - 1) gs' rest'
  statement_written gs' rest' none is range made = record {
    code = is ∙ ap (statement_code s x) h.code ∙ ap (statements_code s) (sym next);
    goals = none;
    range = subst IsRuleInRange (sym next) (range, h.range);
    made = subst AreMade (sym next) (made, h.made);
  }

  pub statement_long : 4096 < length (statement_code s x rest) → 4096 < length (rule_code s xs)
  statement_long long =
      let same : statement_code s x rest ≡ statements_code s (drop (k - 1) xs) =
      ap (statement_code s x) h.code ∙ ap (statements_code s) (sym next) in
      let more = behind_longer s xs (k - 1) in
      let sizes = ap (λ (p : Program). length p) same in
      omega (arith, long, more, sizes)

  pub statement_cost : 4096 < length rest + 8 + 22 * tests_of (x ∷ []) → 4096 < cost xs
  statement_cost long = statement_costs s xs (k - 1) x (drop k xs) rest next h.code h.range long

pub all_written : (s : AppShape) (xs : List Statement) (gs : List Goal) (rest : Program)
    → IsWrittenFrom s xs 0 gs rest → rest ≡ statements_code s xs
all_written s xs gs rest h = h.code
