-- Sums of rows, row by row.
use Rattle.std.proofs.Common.{◌≡◌, ◌∙◌, refl, sym, ap, ℕ, ◌+◌, ◌-◌, ◌^◌, List, [], ◌∷◌, arith}
use Rattle.std.proofs.Common.{Bool, Option, Some, None, true, false, unwrap_or, min, string_bytes}
use Rattle.std.specs.BTreeMap.{get_by_text}
use Rattle.std.specs.Cmp.Lexicographic.{bytes_decides}
use Rattle.std.specs.Prelude.{String}
use Rattle.std.specs.Str.{bytes_eq}
use Rattle.std.specs.declared.alloc.Global.{Global}
use Rattle.std.proofs.lemmas.List.Sums.{sum_by-cons}
use Rattle.report.specs.Tallies.{Rows, capped, IsTally, Sets}
use Rattle.report.specs.declared.tally.Tally.{Tally}
use Rattle.report_state.specs.Courses.{AddsRow, AddsRows, adds, count_in, count_of, is_since}
use Rattle.report_state.specs.Courses.{IsSum, moment_of}

capped_both : (c k : ℕ) → min (capped c + k) (2 ^ 64 - 1) ≡ capped (c + k)
capped_both c k = grind arith

module _ (from : ℕ) where
  -- a row from `from` on
  pub row_added : (row : List ℕ) (n m : ℕ) (old new : Tally)
      → is_since from (moment_of row) ≡ true → m ≡ min (count_in old row + n) (2 ^ 64 - 1)
      → Sets old new row m → AddsRow from row n old new
  row_added row n m old new since m_is sets name before is = added (bytes_eq row name) refl
    where
      added : (b : Bool) → bytes_eq row name ≡ b
          → count_in new name ≡ capped (before + adds from name row n)
      added true same =
          let found = sets.row name in
          let counts : count_in new name ≡ m =
          ap (λ (o : Option ℕ). unwrap_or o 0) (rw same at found) in
          let old_is : count_in old row ≡ capped before =
          ap (λ (r : List ℕ). count_in old r) ((bytes_decides row name).0 same) ∙ is in
          let adds_is : adds from name row n ≡ n = rw since (rw same refl) in
          counts ∙ m_is ∙ ap (λ (k : ℕ). min (k + n) (2 ^ 64 - 1)) old_is ∙ capped_both before n
          ∙ ap (λ (k : ℕ). capped (before + k)) (sym adds_is)
      added false differs =
          let found = sets.row name in
          let counts : count_in new name ≡ count_in old name =
          ap (λ (o : Option ℕ). unwrap_or o 0) (rw differs at found) in
          let adds_is : adds from name row n ≡ 0 = rw since (rw differs refl) in
          counts ∙ is ∙ ap capped (omega arith) ∙ ap (λ (k : ℕ). capped (before + k)) (sym adds_is)

  -- an earlier row
  pub row_left_out : (row : List ℕ) (n : ℕ) (t : Tally) → is_since from (moment_of row) ≡ false
      → AddsRow from row n t t
  row_left_out row n t earlier name before is =
      let adds_is : adds from name row n ≡ 0 = rw earlier refl in
      is ∙ ap capped (omega arith) ∙ ap (λ (k : ℕ). capped (before + k)) (sym adds_is)

  pub no_rows : (t : Tally) → AddsRows from [] t t
  no_rows t name before is = is ∙ ap capped (omega arith)

  pub more_rows : (key : String Global) (n : ℕ) (rows : Rows) (a b c : Tally)
      → AddsRow from (string_bytes key) n a b → AddsRows from rows b c
      → AddsRows from ((key, n) ∷ rows) a c
  more_rows key n rows a b c one others name before is =
      others name _ (one name before is)
      ∙ ap capped (omega (arith, sum_by-cons (count_of from name) (key, n) rows))

-- ---- an empty table, and then the rows of both

module _ (from limit : ℕ) (rows : Rows) (empty one : Tally) (none : IsTally limit [] empty)
    (first : AddsRows from rows empty one) where
  not_counted : (name : List ℕ) (o : Option ℕ) → get_by_text empty.rows name ≡ o
      → count_in empty name ≡ capped 0
  not_counted name None is = rw is (omega arith)
  not_counted name (Some n) is = rw is ((none.rows name n is).1)

  pub sum_of_both : (part two : Tally) → AddsRows from part.rows.entries one two
      → IsSum from rows (Some part) two
  sum_of_both part two others name =
      others name _ (first name 0 (not_counted name (get_by_text empty.rows name) refl))
      ∙ ap capped (omega arith)

  pub sum_of_one : IsSum from rows None one
  sum_of_one name =
      first name 0 (not_counted name (get_by_text empty.rows name) refl) ∙ ap capped (omega arith)
