-- Two reports that the same value spells count the same lines.
use Rattle.std.proofs.Common.{◌≡◌, ◌∙◌, refl, sym, ap, subst, ℕ, suc, ◌<◌, ◌≤◌, List, [], ◌∷◌}
use Rattle.std.proofs.Common.{length, Bool, true, false, cond, Option, Some, None, is_none}
use Rattle.std.proofs.Common.{count_by, codes}
use Rattle.std.proofs.Common.{string_bytes}
use Rattle.std.specs.BTreeMap.{btree_map_len, get_by_text, is_at}
use Rattle.std.specs.Cmp.Lexicographic.{slice_cmp}
use Rattle.std.specs.Map.{lookup}
use Rattle.std.specs.Ordering.{is_eq, nat_cmp}
use Rattle.std.specs.Prelude.{IsSomeAnd}
use Rattle.json_value.specs.Bytes.{json_of}
use Rattle.report.specs.Counts.{Counts, all_names}
use Rattle.report.specs.LogEvents.{list_in}
use Rattle.report.specs.Questions.{AreTallies, limit_of, member_of, names_of}
use Rattle.report.specs.Tallies.{RowName, Rows, capped, has_no_row, IsTally}
use Rattle.report.specs.declared.counting.Report.{Report}
use Rattle.report.specs.declared.question.Question.{Question}
use Rattle.report.specs.declared.question.TheConstants.{QUESTIONS}
use Rattle.report.specs.declared.tally.Tally.{Tally}
use Rattle.report.specs.declared.window.Window.{Window}
use Rattle.report_state.specs.Laws.{CountsContinue}
use Rattle.report_state.specs.States.{AreRows, HasCounts, HasTables, IsReport, IsRow, IsTableIf}
use Rattle.report_state.specs.States.{may_lack}
use Rattle.serde_json.specs.Data.{Data, Items, no_items, item}
use Rattle.serde_json.specs.Find.{get}

some_is : {A : Type 0} (o : Option A) (x y : A) → o ≡ Some x → o ≡ Some y → x ≡ y
some_is o x y one other = cc

-- ---- the rows of a table

-- the count of a name in rows
abbrev found : List ℕ → Rows → Option ℕ
found name rows = lookup (is_at (λ key. slice_cmp nat_cmp name (string_bytes key))) rows

same_row : (name : List ℕ) (d : Data) (n m : List ℕ) (k l : ℕ) (o p : Option ℕ)
    → IsRow d n k → IsRow d m l → o ≡ p
    → cond (is_eq (slice_cmp nat_cmp name n)) (Some k) o
    ≡ cond (is_eq (slice_cmp nat_cmp name m)) (Some l) p
same_row name d n m k l o p one other rest =
    let names : n ≡ m = some_is _ n m one.name_is other.name_is in
    let counts : k ≡ l = some_is _ k l one.count_is other.count_is in
    ap (λ (t : List ℕ). cond (is_eq (slice_cmp nat_cmp name t)) (Some k) o) names
    ∙ ap (λ (c : ℕ). cond (is_eq (slice_cmp nat_cmp name m)) (Some c) o) counts
    ∙ ap (λ (q : Option ℕ). cond (is_eq (slice_cmp nat_cmp name m)) (Some l) q) rest

same_found : (name : List ℕ) (ds : Items) (xs ys : Rows) → AreRows ds xs → AreRows ds ys
    → found name xs ≡ found name ys
same_found name no_items [] [] one other = refl
same_found name no_items [] (y ∷ ys) one other = absurd other
same_found name no_items (x ∷ xs) ys one other = absurd one
same_found name (item d ds) [] ys one other = absurd one
same_found name (item d ds) (x ∷ xs) [] one other = absurd other
same_found name (item d ds) (x ∷ xs) (y ∷ ys) one other =
    same_row name d _ _ _ _ _ _ one.0 other.0 (same_found name ds xs ys one.1 other.1)

same_length : (ds : Items) (xs ys : Rows) → AreRows ds xs → AreRows ds ys
    → length xs ≡ length ys
same_length no_items [] [] one other = refl
same_length no_items [] (y ∷ ys) one other = absurd other
same_length no_items (x ∷ xs) ys one other = absurd one
same_length (item d ds) [] ys one other = absurd one
same_length (item d ds) (x ∷ xs) [] one other = absurd other
same_length (item d ds) (x ∷ xs) (y ∷ ys) one other =
    ap suc (same_length ds xs ys one.1 other.1)

-- ---- a table

module _ (limit : ℕ) (names : List RowName) (a b : Tally) where
  moved : (look : (name : RowName) → get_by_text a.rows name ≡ get_by_text b.rows name)
      → btree_map_len a.rows ≡ btree_map_len b.rows → a.others ≡ b.others → a.limit ≡ b.limit
      → IsTally limit names a → IsTally limit names b
  moved look len others limits t =
      let same : (name : RowName) → has_no_row a name ≡ has_no_row b name =
      λ name. ap is_none (look name) in
      let rowless : count_by (has_no_row a) names ≡ count_by (has_no_row b) names =
      ap (λ (p : RowName → Bool). count_by p names) (λ i. λ name. same name i) in
      record {
        rows = λ name n has. t.rows name n (look name ∙ has);
        others = sym others ∙ t.others ∙ ap capped rowless;
        full = λ some. subst (λ (k : ℕ). limit ≤ k) len
            (t.full (subst (λ (k : ℕ). 0 < k) (sym others) some));
        within = subst (λ (k : ℕ). k ≤ limit) len t.within;
        limit_is = sym limits ∙ t.limit_is;
      }

  with_rows : (o : Option Items)
      → IsSomeAnd o (λ ds. AreRows ds a.rows.entries)
      → IsSomeAnd o (λ ds. AreRows ds b.rows.entries)
      → a.others ≡ b.others → a.limit ≡ b.limit → IsTally limit names a → IsTally limit names b
  with_rows None one other others limits = absurd one
  with_rows (Some ds) one other others limits =
      moved (λ name. same_found name ds a.rows.entries b.rows.entries one other)
      (same_length ds a.rows.entries b.rows.entries one other) others limits

  pub table_continues : (may_be_missing : Bool) (o : Option Data) → IsTableIf may_be_missing o a
      → IsTableIf may_be_missing o b → IsTally limit names a → IsTally limit names b
  table_continues false None one other = absurd one
  table_continues true None one other =
      moved (λ name. same_found name no_items a.rows.entries b.rows.entries one.rows other.rows)
      (same_length no_items a.rows.entries b.rows.entries one.rows other.rows)
      (one.others ∙ sym other.others) (one.limit ∙ sym other.limit)
  table_continues may_be_missing (Some d) one other =
      with_rows (list_in (codes "rows") d) one.rows other.rows
      (some_is _ _ _ one.others other.others) (some_is _ _ _ one.limit other.limit)

module _ (d : Data) (names : Question → List RowName) where
  tables_continue : (questions : List Question) (xs ys : List Tally) → HasTables d questions xs
      → HasTables d questions ys → AreTallies names questions xs → AreTallies names questions ys
  tables_continue [] [] [] one other counted = tt
  tables_continue [] [] (y ∷ ys) one other counted = absurd other
  tables_continue [] (x ∷ xs) ys one other counted = absurd one
  tables_continue (q ∷ questions) [] ys one other counted = absurd one
  tables_continue (q ∷ questions) (x ∷ xs) [] one other counted = absurd other
  tables_continue (q ∷ questions) (x ∷ xs) (y ∷ ys) one other counted = (
    table_continues (limit_of q) (names q) x y (may_lack q) (get (member_of q) d) one.0 other.0
        counted.0,
    tables_continue questions xs ys one.1 other.1 counted.1,
  )

-- ---- all counts

module _ (window : Window) (lines : List (List ℕ)) (drawn : Bool) (a b : Report) where
  report_continues : (d : Data) → IsReport a d → IsReport b d → Counts window lines drawn a
      → Counts window lines drawn b
  report_continues d one other c = record {
    drawn_is = some_is _ _ _ other.drawn one.drawn ∙ c.drawn_is;
    lines_counted = some_is _ _ _ other.numbers.lines one.numbers.lines ∙ c.lines_counted;
    foreign = some_is _ _ _ other.numbers.foreign one.numbers.foreign ∙ c.foreign;
    lost = some_is _ _ _ other.numbers.lost one.numbers.lost ∙ c.lost;
    left_out = some_is _ _ _ other.numbers.left_out one.numbers.left_out ∙ c.left_out;
    offers_left_out =
        some_is _ _ _ other.numbers.offers_left_out one.numbers.offers_left_out
        ∙ c.offers_left_out;
    longest_wait =
        sym other.numbers.longest_wait ∙ one.numbers.longest_wait ∙ c.longest_wait;
    tallies = tables_continue d (λ question. all_names window lines (names_of drawn question))
        QUESTIONS a.tallies.items b.tallies.items one.tables other.tables c.tallies;
  }

  counts_continue : (o : Option Data) → IsSomeAnd o (IsReport a) → IsSomeAnd o (IsReport b)
      → Counts window lines drawn a → Counts window lines drawn b
  counts_continue None one other = absurd one
  counts_continue (Some d) one other = report_continues d one other

  state_continues : (o : Option Data) → IsSomeAnd o (HasCounts a) → IsSomeAnd o (HasCounts b)
      → Counts window lines drawn a → Counts window lines drawn b
  state_continues None one other = absurd one
  state_continues (Some d) one other = counts_continue (get (codes "counts") d) one other

pub continued : CountsContinue
continued bytes saved begun last one other window old new drawn counted reads =
    reads.extends drawn old
    (state_continues window old drawn saved begun (json_of bytes) one other counted)
