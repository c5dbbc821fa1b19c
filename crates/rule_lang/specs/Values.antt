-- The value of a rule's tokens for a shape, by their productions: its statements, or the first
-- unknown name (L3) or number out of range (L4).
use Rattle.std.specs.Prelude.{ℕ, ◌+◌, nat_lt, false, List, [], ◌∷◌, ◌++◌, Ok, Err, if◌then◌else◌}
use Rattle.cells.specs.Arrays.{AppShape}
use Rattle.rule_lang.specs.declared.condition.Step.{Step}
use Rattle.rule_lang.specs.declared.condition.Step.TheVariants as step
use Rattle.rule_lang.specs.declared.rule.Statement.{Statement}
use Rattle.rule_lang.specs.declared.rule.Statement.TheVariants.{Count, When}
use Rattle.rule_lang.specs.declared.test.Test.{Test}
use Rattle.rule_lang.specs.Grammar as g
use Rattle.rule_lang.specs.Lexed.{Placed}
use Rattle.rule_lang.specs.Parts.{OrFault, ◌>>?◌, part, array, index, release, out_of_range}
use Rattle.rule_lang.specs.Tests as tests
use Rattle.rule_lang.specs.Trees.{Tree, Leaf, Negated, Both, Either}

-- the test of the productions, or the first wrong name or number
abbrev pub test_value : AppShape → {ts rest : List Placed} → g.IsTest ts rest → OrFault Test
test_value s (g.of k {ts = ts} h) = (tests.row k).spelled s ts

-- `not` and parentheses are at most 32 deep: an opener at `depth`, and what it opens
abbrev pub within_depth : (depth : ℕ) → Placed → OrFault Tree → OrFault Tree
within_depth depth p inside = if nat_lt depth 32 then inside else Err (out_of_range p)

abbrev mutual
  -- the value of a fact at `depth`; a test has its first token's line
  pub fact_value : AppShape → (depth : ℕ) → {ts rest : List Placed} → g.IsFact ts rest
      → OrFault Tree
  fact_value s depth (g.denied {p = p} is f) =
      within_depth depth p (fact_value s (depth + 1) f >>? λ c. Ok (Negated c))
  fact_value s depth (g.enclosed {p = p} is c closes) =
      within_depth depth p (cond_value s (depth + 1) c)
  fact_value s depth (g.leaf {p = p} t) = test_value s t >>? λ x. Ok (Leaf p.line x)

  pub term_value : AppShape → (depth : ℕ) → {ts rest : List Placed} → g.IsTerm ts rest
      → OrFault Tree
  term_value s depth (g.fact f) = fact_value s depth f
  term_value s depth (g.and_fact t is f) =
      term_value s depth t >>? λ a. fact_value s depth f >>? λ b. Ok (Both a b)

  pub cond_value : AppShape → (depth : ℕ) → {ts rest : List Placed} → g.IsCond ts rest
      → OrFault Tree
  cond_value s depth (g.term t) = term_value s depth t
  cond_value s depth (g.or_term c is t) =
      cond_value s depth c >>? λ a. term_value s depth t >>? λ b. Ok (Either a b)

-- the steps of a tree, in post-fix order
abbrev pub steps_of : Tree → List Step
steps_of (Leaf line t) = step.Test line t ∷ []
steps_of (Negated c) = steps_of c ++ (step.Not ∷ [])
steps_of (Both a b) = steps_of a ++ (steps_of b ++ (step.And ∷ []))
steps_of (Either a b) = steps_of a ++ (steps_of b ++ (step.Or ∷ []))

-- the statement `count`, whose array must have no quota
abbrev pub count_of : AppShape → List Placed → OrFault Statement
count_of s ts =
    array s false (part ts 1) >>? λ a.
    index a (part ts 3) >>? λ i.
    Ok (Count a.name i)

abbrev pub statement_value : AppShape → {ts rest : List Placed} → g.IsStatement ts rest
    → OrFault Statement
statement_value s (g.count {ts = ts} h) = count_of s ts
statement_value s (g.when {mid = mid} is c h) =
    cond_value s 0 c >>? λ condition.
    release s (part mid 1) >>? λ k.
    Ok (When (steps_of condition) k)

-- the statements of the productions, or the first wrong name or number
abbrev pub rule_value : AppShape → {ts : List Placed} → g.IsRule ts → OrFault (List Statement)
rule_value s (g.otherwise h) = Ok []
rule_value s (g.stmt x r) = statement_value s x >>? λ a. rule_value s r >>? λ rest. Ok (a ∷ rest)
