-- The book of a published list, and what the step that appends a ruleset makes known.
use Rattle.std.specs.Prelude.{ℕ, ◌≡◌, ◌==◌, true, List, [], ◌∷◌, ◌++◌, length, MatchBool}
use Rattle.logbook.specs.Pages.{Cell, Step, View, Book, Named}
use Rattle.hot_swap.specs.declared.publisher_id.PublisherId.{PublisherId}
use Rattle.ruleset.specs.Rules.{Rules}

-- a publisher is identified by its book
abbrev pub id_of : Book → PublisherId
id_of book = record { number = book.number; log_name = book.log_name; cells_name = book.cells_name }

-- the first word is the number of rulesets; a book's second word stays 0 here
abbrev pub IsCounted : List Cell → List Rules → Type 0
IsCounted cells log = cells ≡ (length log, true) ∷ (0, true) ∷ []

-- the first word of a book
abbrev pub word_of : Book → Named
word_of book = record { tracked = true; key = 0; book = book }

-- the ruleset was appended to all that was known; or the list was longer, and is now known in full
abbrev pub EntersOrFinds : Step Rules → View Rules ℕ → ℕ → View Rules ℕ → Type 0
EntersOrFinds s v found w =
    MatchBool (found == s.old) (w.0 ≡ v.0 ++ s.ask ∷ []) (length w.0 ≡ found)
