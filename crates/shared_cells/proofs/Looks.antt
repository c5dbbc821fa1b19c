-- A look keeps the rule: its new seat knows no account.
use Rattle.std.proofs.Common.{◌≡◌, ℕ, List, [], ◌∷◌, ◌++◌, refl, subst, ⊎_elim, ◌∙◌, arith}
use Rattle.std.specs.Prelude.{All, length, sum_by}
use Rattle.std.proofs.lemmas.List.Sums.{sum_by_push}
use Rattle.std.proofs.lemmas.List.Elements.{All-nil}
use mathlib.Core.Option.{some}
use lib.ListN.{get_elem?}
use Rattle.atomic_table.specs.Table.{Me, Enters}
use Rattle.atomic_table.proofs.Lists.{at_snoc}
use Rattle.shared_cells.specs.declared.rule.Account.{Account}
use Rattle.shared_cells.specs.Rule.{AgreesWith, accounts_of, HasHistory}

pub enters : {S : Type 0} (o : List ℕ) (n slots cell : ℕ)
    → Enters (HasHistory {S = S} o n) slots cell (λ found view. Unit {0})
enters {S} o n slots cell s rule homes small =
    let none : List Account = [] in
    let sum : (f : List Account → ℕ) → f none ≡ 0
    → sum_by f (s.views ++ none ∷ []) ≡ sum_by f s.views
    = λ f zero. let more = sum_by_push f s.views none in omega (arith, more, zero) in (
      none,
      record {
        history = rule.history;
        values = rule.values;
        legal = rule.legal;
        cells = rule.cells;
        words = rule.words;
        stored = rule.stored;
        agrees = λ j u there.
            ⊎_elim
            (λ (old : get_elem? s.views j ≡ some u). rule.agrees j u old)
            (λ (new : none ≡ u). subst (All (AgreesWith rule.history)) new
            (All-nil (AgreesWith rule.history)))
            (at_snoc s.views none u j there);
        once = λ p. sum (accounts_of p) refl ∙ rule.once p;
        whole = sum (λ (u : List Account). length u) refl ∙ rule.whole;
        known = rule.known;
      },
      tt,
    )
