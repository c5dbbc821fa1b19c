-- What a report counts in the lines of a log.
use Rattle.std.specs.Prelude.{◌≡◌, ℕ, ◌+◌, List, [], ◌∷◌, codes, count_by, flat_map, sum_by}
use Rattle.std.specs.Prelude.{fold, max}
use Rattle.std.specs.Prelude.{Bool, Option, Some, None, is_some, is_none, unwrap_or}
use Rattle.std.specs.Prelude.{if◌then◌else◌}
use Rattle.report.specs.Names.{names_if}
use Rattle.report.specs.Questions.{AreTallies, member_of, names_of, tally_named}
use Rattle.report.specs.Responses.{longest_wait_in}
use Rattle.report.specs.Tallies.{RowName, capped, Notes}
use Rattle.report.specs.Members.{LineMembers}
use Rattle.report.specs.Windows.{event_in, event_in_window, is_kind}
use Rattle.report.specs.declared.counting.Report.{Report}
use Rattle.report.specs.declared.question.Question.{Question}
use Rattle.report.specs.declared.question.TheConstants.{QUESTIONS}
use Rattle.report.specs.declared.tally.Tally.{Tally}
use Rattle.report.specs.declared.window.Window.{Window}

-- ---- in one line, if it counts

abbrev pub number_if : (LineMembers → ℕ) → Option LineMembers → ℕ
number_if number (Some line) = number line
number_if number None = 0

-- a number of the lines of a kind, or 0
abbrev pub if_kind : (kind : List ℕ) → LineMembers → Option ℕ → ℕ
if_kind kind line number = if is_kind kind line then unwrap_or number 0 else 0

-- how many lines were lost before it
abbrev pub lost_in : LineMembers → ℕ
lost_in line = if_kind (codes "lost") line line.lines

-- how many apps it leaves out, and how many of these were offered a release
abbrev pub left_out_in : LineMembers → ℕ
left_out_in line = if_kind (codes "connection") line line.left_out

abbrev pub offers_left_out_in : LineMembers → ℕ
offers_left_out_in line = if_kind (codes "connection") line line.offers_left_out

-- ---- in all lines

module _ (window : Window) (lines : List (List ℕ)) where
  abbrev pub all_names : (LineMembers → List RowName) → List RowName
  all_names names = flat_map (λ line. names_if names (event_in_window window line)) lines

  abbrev pub total : (LineMembers → ℕ) → ℕ
  total number = capped (sum_by (λ line. number_if number (event_in_window window line)) lines)

  -- the greatest, or 0
  abbrev pub greatest : (LineMembers → ℕ) → ℕ
  greatest number = fold (λ n line. max n (number_if number (event_in_window window line))) 0 lines

  -- The table of each question counts the names in the lines that count: the server's, in the
  -- window. In other lines nothing is counted, but lines that aren't the server's are counted as
  -- `foreign`. The counts for a chart are made only if one is drawn.
  pub record Counts (drawn : Bool) (r : Report) : Type 0 where
    pub drawn_is : r.drawn ≡ drawn
    pub lines_counted : r.lines
        ≡ capped (count_by (λ line. is_some (event_in_window window line)) lines)
    pub foreign : r.foreign ≡ capped (count_by (λ line. is_none (event_in line)) lines)
    pub lost : r.lost ≡ total lost_in
    pub left_out : r.left_out ≡ total left_out_in
    pub offers_left_out : r.offers_left_out ≡ total offers_left_out_in
    pub longest_wait : r.longest_wait ≡ greatest longest_wait_in
    pub tallies :
        AreTallies (λ question. all_names (names_of drawn question)) QUESTIONS r.tallies.items

-- the table of a question
abbrev pub tally_of : Question → Report → Option Tally
tally_of question r = tally_named (member_of question) QUESTIONS r.tallies.items

-- ---- one more line

-- for any count before, the new count is greater by this number
abbrev pub GoesUp : ℕ → ℕ → ℕ → Type 0
GoesUp old new by = (before : ℕ) → old ≡ capped before → new ≡ capped (before + by)

abbrev pub one_if : Bool → ℕ
one_if holds = if holds then 1 else 0

-- each table counts its question's names in addition; other tables stay
abbrev pub NotesEach : (Question → List RowName) → List Question → List Tally → List Tally
    → Type 0
NotesEach names [] old new = new ≡ old
NotesEach names (question ∷ questions) [] new = new ≡ []
NotesEach names (question ∷ questions) (a ∷ old) [] = ⊥
NotesEach names (question ∷ questions) (a ∷ old) (b ∷ new) =
    Notes a b (names question) × NotesEach names questions old new

-- the counts after a line: `event` is its event, if it is one, and `line` the same, if it counts
pub record AddsLine (event line : Option LineMembers) (old new : Report) : Type 0 where
  pub lines_counted : GoesUp old.lines new.lines (one_if (is_some line))
  pub foreign : GoesUp old.foreign new.foreign (one_if (is_none event))
  pub lost : GoesUp old.lost new.lost (number_if lost_in line)
  pub left_out : GoesUp old.left_out new.left_out (number_if left_out_in line)
  pub offers_left_out :
      GoesUp old.offers_left_out new.offers_left_out (number_if offers_left_out_in line)
  pub longest_wait :
      new.longest_wait ≡ max old.longest_wait (number_if longest_wait_in line)
  pub drawn : new.drawn ≡ old.drawn
  pub tallies : NotesEach (λ question. names_if (names_of old.drawn question) line) QUESTIONS
      old.tallies.items new.tallies.items
