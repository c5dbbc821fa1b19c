-- What counting one more line changes.
use Rattle.std.proofs.Common.{◌≡◌, ℕ, ◌+◌, ◌^◌, ◌-◌, List, [], ◌∷◌, ◌++◌, refl, sym, ap, ◌∙◌, arith}
use Rattle.std.proofs.Common.{Bool, Some, None, min, append-nil, subst}
use Rattle.std.proofs.Common.{◌<◌, length}
use Rattle.std.proofs.Common.{sum_by, is_some, is_none, max}
use Rattle.std.specs.Prelude.{fold}
use Rattle.std.proofs.lemmas.List.Sums.{fold-append, sum_by_push}
use Rattle.std.proofs.lemmas.List.Concat.{flat_map-cons}
use Rattle.std.proofs.lemmas.Grind.{flat_map-append}
use Rattle.report.specs.Members.{LineMembers}
use Rattle.report.specs.Counts.{AddsLine, GoesUp, NotesEach, all_names, one_if}
use Rattle.report.specs.Names.{names_if}
use Rattle.report.specs.Questions.{AreTallies, limit_of, names_of}
use Rattle.report.specs.Reading.{AddsLines, CountsLines}
use Rattle.report.specs.Tallies.{RowName, capped, IsTally}
use Rattle.report.specs.Windows.{event_in, event_in_window}
use Rattle.report.specs.declared.counting.Report.{Report}
use Rattle.report.specs.declared.question.Question.{Question}
use Rattle.report.specs.declared.question.TheConstants.{QUESTIONS}
use Rattle.report.specs.declared.tally.Tally.{Tally}
use Rattle.report.specs.declared.window.Window.{Window}
use Rattle.report.proofs.Tallied.{notes_none}

pub capped_sum : (n by : ℕ) → GoesUp n (min (n + by) (2 ^ 64 - 1)) by
capped_sum n by before n_is = rw n_is (capped_both before by)
  where
    capped_both : (c k : ℕ) → min (capped c + k) (2 ^ 64 - 1) ≡ capped (c + k)
    capped_both c k = grind arith

pub stays : (n : ℕ) → GoesUp n n 0
stays n before n_is = omega (arith, n_is)

-- the sum with one more line
more_sum : (f : List ℕ → ℕ) (before : List (List ℕ)) (line : List ℕ) (old new by : ℕ)
    → GoesUp old new by → by ≡ f line → old ≡ capped (sum_by f before)
    → new ≡ capped (sum_by f (before ++ line ∷ []))
more_sum f before line old new by up by_is old_is =
    up (sum_by f before) old_is
    ∙ ap capped (ap (λ (k : ℕ). sum_by f before + k) by_is ∙ sym (sum_by_push f before line))

-- the greatest with one more line
more_greatest : (f : List ℕ → ℕ) (before : List (List ℕ)) (line : List ℕ) (old new : ℕ)
    → new ≡ max old (f line) → old ≡ fold (λ n l. max n (f l)) 0 before
    → new ≡ fold (λ n l. max n (f l)) 0 (before ++ line ∷ [])
more_greatest f before line old new up old_is =
    up ∙ ap (λ (n : ℕ). max n (f line)) old_is
    ∙ sym (fold-append (λ n l. max n (f l)) 0 before (line ∷ []))

module _ (window : Window) (before : List (List ℕ)) (line : List ℕ) where
  more_names : (names : LineMembers → List RowName)
      → all_names window (before ++ line ∷ []) names
      ≡ all_names window before names ++ names_if names (event_in_window window line)
  more_names names =
      flat_map-append (λ l. names_if names (event_in_window window l)) before (line ∷ [])
      ∙ ap (λ (t : List RowName). all_names window before names ++ t)
      (flat_map-cons (λ l. names_if names (event_in_window window l)) line []
      ∙ append-nil (names_if names (event_in_window window line)))

  more_tallies : (drawn : Bool) (questions : List Question) (old new : List Tally)
      → NotesEach (λ q. names_if (names_of drawn q) (event_in_window window line)) questions old new
      → AreTallies (λ q. all_names window before (names_of drawn q)) questions old
      → AreTallies (λ q. all_names window (before ++ line ∷ []) (names_of drawn q)) questions new
  more_tallies drawn [] [] new notes counted = rw notes tt
  more_tallies drawn [] (a ∷ old) new notes counted = absurd counted
  more_tallies drawn (q ∷ questions) [] new notes counted = absurd counted
  more_tallies drawn (q ∷ questions) (a ∷ old) [] notes counted = absurd notes
  more_tallies drawn (q ∷ questions) (a ∷ old) (b ∷ new) notes counted = (
    subst (λ (all : List RowName). IsTally (limit_of q) all b)
        (sym (more_names (names_of drawn q)))
        (notes.0.extends (limit_of q) (all_names window before (names_of drawn q)) counted.0),
    more_tallies drawn questions old new notes.1 counted.1,
  )

-- each question has its empty table
pub tables_made : (left questions : List Question) (made : List Tally) → length left < 1
    → ((last : List Tally) → AreTallies (λ q. []) left last
    → AreTallies (λ q. []) questions (made ++ last))
    → AreTallies (λ q. []) questions made
tables_made [] questions made none so_far =
    subst (AreTallies (λ q. []) questions) (append-nil made) (so_far [] tt)
tables_made (q ∷ left) questions made none so_far = absurd (omega (arith, none))

-- the greatest of a number and 0
pub max_zero : (n : ℕ) → n ≡ max n 0
max_zero n = omega arith

-- no name is counted
pub each_stays : (questions : List Question) (tallies : List Tally)
    → NotesEach (λ q. []) questions tallies tallies
each_stays [] tallies = refl
each_stays (q ∷ questions) [] = refl
each_stays (q ∷ questions) (t ∷ tallies) = (notes_none t, each_stays questions tallies)

pub adds_nothing : (event : LineMembers) (r : Report) → AddsLine (Some event) None r r
adds_nothing event r = record {
  lines_counted = stays r.lines;
  foreign = stays r.foreign;
  lost = stays r.lost;
  left_out = stays r.left_out;
  offers_left_out = stays r.offers_left_out;
  longest_wait = max_zero r.longest_wait;
  drawn = refl;
  tallies = each_stays QUESTIONS r.tallies.items;
}

one_added : (window : Window) (line : List ℕ) (old new : Report)
    → AddsLine (event_in line) (event_in_window window line) old new
    → AddsLines window (line ∷ []) old new
unfolding AddsLines
one_added window line old new adds = (new, adds, refl)

pub counts_one : (window : Window) (line : List ℕ) (old new : Report)
    → AddsLine (event_in line) (event_in_window window line) old new
    → CountsLines window (line ∷ []) old new
counts_one window line old new adds = record {
  adds = one_added window line old new adds;
  extends = λ drawn before counted. record {
    drawn_is = adds.drawn ∙ counted.drawn_is;
    lines_counted = more_sum (λ l. one_if (is_some (event_in_window window l))) before line _ _ _
        adds.lines_counted refl counted.lines_counted;
    foreign = more_sum (λ l. one_if (is_none (event_in l))) before line _ _ _
        adds.foreign refl counted.foreign;
    lost = more_sum _ before line _ _ _ adds.lost refl counted.lost;
    left_out = more_sum _ before line _ _ _ adds.left_out refl counted.left_out;
    offers_left_out =
        more_sum _ before line _ _ _ adds.offers_left_out refl counted.offers_left_out;
    longest_wait = more_greatest _ before line _ _ adds.longest_wait counted.longest_wait;
    tallies = more_tallies window before line drawn QUESTIONS old.tallies.items new.tallies.items
        (subst (λ (b : Bool). NotesEach
        (λ q. names_if (names_of b q) (event_in_window window line)) QUESTIONS old.tallies.items
        new.tallies.items) counted.drawn_is adds.tallies) counted.tallies;
  };
}
