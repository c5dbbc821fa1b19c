-- The code of a statement, and of a whole rule, is typed in front of the code that follows.
use Rattle.std.proofs.Common.{◌≡◌, ℕ, zero, suc, ◌≤◌, List, [], ◌∷◌, length}
use Rattle.std.proofs.Common.{Option, Some, true, refl, sym, subst, arith}
use Rattle.std.specs.Prelude.{nat_le}
use Rattle.std.specs.List.{list_all, AllByRecursion}
use Rattle.bpf_insn.specs.declared.insn.Insn.TheVariants.{Exit}
use Rattle.bpf_insn.specs.declared.reg.Reg.TheVariants.{R0, R1, R6, R7}
use Rattle.bpf_insn.specs.Program.{Program}
use Rattle.flow_check.specs.Flow.{IsFlow}
use Rattle.cells.specs.Arrays.{AppShape, IsShape}
use Rattle.abs_value.specs.declared.value.Abs.TheVariants.{Unusable, Ctx, Stk}
use Rattle.abs_value.specs.Values.{places}
use Rattle.abs_value.specs.States.{register_at, value_at, opening_state}
use Rattle.bpf_verify.specs.Table.{SlotFacts, IsWider, HasFacts, IsTable}
use Rattle.rule_lang.specs.declared.rule.Statement.{Statement}
use Rattle.rule_lang.specs.declared.rule.Statement.TheVariants.{Count, When}
use Rattle.rule_lang.specs.Fits.{step_fits, statement_fits, is_release, fits}
use Rattle.rule_lang.specs.Shapes.{array_named, cell_of}
use Rattle.rule_lang.specs.Trees.{Tree, trees_from}
use Rattle.rule_compile.specs.Instructions as insn
use Rattle.rule_compile.specs.Code.{place_named, made_code, goal, steps_code, array_size}
use Rattle.rule_compile.specs.Code.{end_code, none_code, statements_code, rule_code}
use Rattle.rule_compile.specs.Ranges.{IsRuleInRange, AreMade}
use Rattle.rule_compile.specs.Writing.{CanEncode}
use Rattle.rule_compile.proofs.Arrays.{can_count_is, both_true}
use Rattle.rule_compile.proofs.RuleRuns.{Suits, MadeSuit, all_suit}
use Rattle.rule_compile.proofs.Typed.{IsTyped, entry_at, is_table}
use Rattle.rule_compile.proofs.FlowGraphs.{is_flow}
use Rattle.rule_compile.proofs.Entries.{none_set, frame, choice, chosen, Takes}
use Rattle.rule_compile.proofs.Narrowings.{le_of}
use Rattle.rule_compile.proofs.InsnSteps.{set_step, copy_step, exit_step}
use Rattle.rule_compile.proofs.CellSteps.{no_quota, contains_at}
use Rattle.rule_compile.proofs.Fronts.{IsLabel, IsRest, IsFront, takes_here}
use Rattle.rule_compile.proofs.Fronts.{takes_more, first_label, tail_itself, put_first}
use Rattle.rule_compile.proofs.TextFronts.{count_front}
use Rattle.rule_compile.proofs.RuleFronts.{tree_front}

module _ (shape : AppShape) (is_shape : IsShape shape) where
  -- ---- statements

  -- the rest of a rule: label 2 is its end
  record IsWhole (q : Program) : Type 0 where
    entries : List SlotFacts
    rest : IsRest shape q entries
    exit : IsLabel shape q entries 2

  -- R0 has the choice
  abbrev given : SlotFacts
  given = frame (choice shape) Unusable Unusable Unusable Unusable (choice shape) none_set

  end_rest : IsRest shape end_code (chosen shape ∷ given ∷ [])
  end_rest = record {
    typed = (
      copy_step shape R0 R7 (choice shape) (chosen shape) (Some Exit ∷ [])
          (given ∷ []) refl refl refl (takes_here Exit [] given []),
      (exit_step shape given [] refl, tt),
    );
    first = takes_here insn.give_choice (Some Exit ∷ []) (chosen shape) (given ∷ []);
  }

  choice_front : (k : ℕ) (q : Program) (ds : List SlotFacts) → k ≤ shape.releases
      → IsRest shape q ds
      → IsFront shape (Some (insn.set_choice k) ∷ q) q ds
  choice_front k q ds le h = put_first shape (insn.set_choice k) q q ds (tail_itself shape q ds h)
      (set_step shape R7 k (choice shape) (chosen shape) q ds refl
      (omega arith, omega arith, le) h.first)

  none_whole : IsWhole none_code
  none_whole =
      let front = choice_front 0 end_code (chosen shape ∷ given ∷ []) (omega arith) end_rest in
      record {
        entries = front.entries;
        rest = front.rest;
        exit = front.keeps 2 (first_label shape end_code (chosen shape ∷ given ∷ []) end_rest);
      }

  made_front : (o : Option (List Tree)) (t : Tree) (l : ℕ) (q : Program) (ds : List SlotFacts)
      → o ≡ Some (t ∷ []) → Suits shape t → IsRest shape q ds → IsLabel shape q ds l
      → IsFront shape (made_code shape o (goal true l ∷ []) q) q ds
  made_front o t l q ds is suit h label =
      subst (λ (o : Option (List Tree)). IsFront shape
      (made_code shape o (goal true l ∷ []) q) q ds) (sym is)
      (tree_front shape is_shape t true l q ds suit h label)

  statements_whole : (xs : List Statement) → IsRuleInRange xs → fits shape xs ≡ true → AreMade xs
      → IsWhole (statements_code shape xs)
  statements_whole [] range fit made = none_whole
  statements_whole (Count name index ∷ xs) range fit made =
      let two = both_true (statement_fits shape (Count name index))
      (list_all (statement_fits shape) xs) fit in
      let can = can_count_is shape.arrays name index is_shape.arrays two.0 in
      let later = statements_whole xs range.1 two.1 made.1 in
      let front = count_front shape (array_size (array_named name shape.arrays))
      (place_named name shape.arrays) index
      (cell_of (array_named name shape.arrays) index) can.array
      (statements_code shape xs) later.entries
      can.found.place can.within can.sum can.cell
      (no_quota shape can.array (cell_of (array_named name shape.arrays) index) is_shape
      (contains_at shape.arrays (place_named name shape.arrays) can.array can.found.place)
      can.free (omega (arith, can.sum), omega (arith, can.sum, can.within))) later.rest in
      record { entries = front.entries; rest = front.rest; exit = front.keeps 2 later.exit }
  statements_whole (When steps release ∷ xs) range fit made =
      let rest : Program = statements_code shape xs in
      let two = both_true (statement_fits shape (When steps release))
      (list_all (statement_fits shape) xs) fit in
      let both = both_true (list_all (step_fits shape) steps) (is_release shape release) two.0 in
      let le = le_of release shape.releases
      (both_true (nat_le 1 release) (nat_le release shape.releases) both.1).1 in
      let later = statements_whole xs range.1 two.1 made.1 in
      let suit = all_suit shape [] steps range.0 both.0 tt in
      let front = made_front (trees_from [] steps) made.0.0 2 rest later.entries made.0.1
      (subst (MadeSuit shape) made.0.1 suit).0 later.rest later.exit in
      let set = choice_front release (steps_code shape steps true 2 rest) front.entries le
      front.rest in
      record {
        entries = set.entries;
        rest = set.rest;
        exit = set.keeps 2 (front.keeps 2 later.exit);
      }

  -- ---- the rule

  -- the start of a run, and with the context in R6
  abbrev opened : SlotFacts
  opened = record {
    registers =
        Unusable ∷ Ctx (places 0 0) ∷ Unusable ∷ Unusable ∷ Unusable ∷ Unusable ∷ Unusable ∷
        Unusable ∷ Unusable ∷ Unusable ∷ Stk 512 ∷ [];
    set = none_set;
  }

  abbrev kept : SlotFacts
  kept = frame Unusable (Ctx (places 0 0)) Unusable Unusable Unusable Unusable none_set

  opened_start : HasFacts opened opening_state
  opened_start = record { long = refl; wide = refl; each = each; bytes = λ place lt set. absurd cc }
    where
      each : (r : ℕ) → IsWider (register_at opened.registers r) (value_at opening_state r)
      each zero = tt
      each (suc zero) = (omega arith, omega arith, omega arith)
      each (suc (suc zero)) = tt
      each (suc (suc (suc zero))) = tt
      each (suc (suc (suc (suc zero)))) = tt
      each (suc (suc (suc (suc (suc zero))))) = tt
      each (suc (suc (suc (suc (suc (suc zero)))))) = tt
      each (suc (suc (suc (suc (suc (suc (suc zero))))))) = tt
      each (suc (suc (suc (suc (suc (suc (suc (suc zero)))))))) = tt
      each (suc (suc (suc (suc (suc (suc (suc (suc (suc zero))))))))) = tt
      each (suc (suc (suc (suc (suc (suc (suc (suc (suc (suc zero)))))))))) = refl
      each (suc (suc (suc (suc (suc (suc (suc (suc (suc (suc (suc r))))))))))) = tt

  record IsCompiled (xs : List Statement) : Type 0 where
    entries : List SlotFacts
    typed : IsTyped shape (rule_code shape xs) (opened ∷ entries)

  compiled : (xs : List Statement) → IsRuleInRange xs → fits shape xs ≡ true → AreMade xs
      → IsCompiled xs
  compiled xs range fit made =
      let whole = statements_whole xs range fit made in
      let rest : Program = statements_code shape xs in
      let later : Takes rest whole.entries 0
      (frame Unusable (Ctx (places 0 0)) Unusable Unusable Unusable (choice shape) none_set) =
      takes_more shape Unusable (Ctx (places 0 0)) Unusable Unusable Unusable none_set rest
      whole.entries 0 whole.rest.first in
      record {
        entries = kept ∷ whole.entries;
        typed = (
          copy_step shape R6 R1 (Ctx (places 0 0)) opened (Some (insn.set_choice 0) ∷ rest)
              (kept ∷ whole.entries) refl refl refl
              (takes_here (insn.set_choice 0) rest kept whole.entries),
          (
            set_step shape R7 0 (choice shape) kept rest whole.entries refl
                (omega arith, omega arith, omega arith) later,
            whole.rest.typed,
          ),
        );
      }

  pub rule_flow : (xs : List Statement) → IsRuleInRange xs → fits shape xs ≡ true → AreMade xs
      → AllByRecursion CanEncode (rule_code shape xs) → length (rule_code shape xs) ≤ 4096
      → IsFlow (rule_code shape xs)
  rule_flow xs range fit made encodable short =
      let done = compiled xs range fit made in
      is_flow shape (rule_code shape xs) (opened ∷ done.entries) done.typed encodable refl
      (omega arith) short

  pub rule_table : (xs : List Statement) → IsRuleInRange xs → fits shape xs ≡ true → AreMade xs
      → (table : ℕ → SlotFacts) × IsTable (rule_code shape xs) shape table
  rule_table xs range fit made =
      let done = compiled xs range fit made in (
        entry_at (opened ∷ done.entries),
        is_table shape (rule_code shape xs)
            (opened ∷ done.entries) done.typed opened_start,
      )
