-- The text of a file of counters: a heading, how the server that wrote it ended, its halted apps,
-- its arrays, those of their counters that aren't 0, and an ending.
use Rattle.std.specs.Prelude.{◌≡◌, ℕ, ◌+◌, ◌==◌, Bool, true, false, if◌then◌else◌, ◌&&◌}
use Rattle.std.specs.Prelude.{nat_lt, nat_le, List, [], ◌∷◌, ◌++◌, codes, All, map, flat_map}
use Rattle.std.specs.Prelude.{replicate, slice_index}
use Rattle.std.specs.Prelude.{Option, Some, None, Result, Ok, Err}
use Rattle.std.specs.List.{list_any, range_with_len, slice_split}
use Rattle.std.specs.Str.{bytes_eq}
use Rattle.cells.specs.declared.array.CellArray.{CellArray}
use Rattle.cells.specs.Directory.{IsDirectory}
use Rattle.cells.specs.Events.{AreCells}
use Rattle.cells.specs.Names.{IsName}
use Rattle.counters_file.specs.Halts.{IsText, CanBeHalted, halted_in, halted_line}
use Rattle.counters_file.specs.Lines.{Counters, CanCount, counters, array_line, counter_line}
use Rattle.counters_file.specs.Lines.{with_line}
use Rattle.counters_file.specs.Lines.{is_line_feed}

-- what a file says: whether its server was stopped, and the appids of the halted apps and the
-- counters with which the next one opens
pub record Contents : Type 0 where
  pub was_stopped : Bool
  pub halted : List (List ℕ)
  pub counters : Counters

abbrev pub contents : (was_stopped : Bool) → (halted : List (List ℕ)) → List CellArray
    → (values : List ℕ) → Contents
contents was_stopped halted arrays values = record {
  was_stopped = was_stopped;
  halted = halted;
  counters = counters arrays values;
}

abbrev pub heading : List ℕ
heading = codes "rollout counters 1"

abbrev pub stopped : List ℕ
stopped = codes "stopped"

abbrev pub serving : List ℕ
serving = codes "serving"

abbrev pub ending : List ℕ
ending = codes "end"

-- ---- as it is written

abbrev pub state_line : (was_stopped : Bool) → List ℕ
state_line true = stopped
state_line false = serving

-- the line of a counter, unless its value is 0
abbrev pub lines_of_counter : CellArray → (index value : ℕ) → List (List ℕ)
lines_of_counter a index value = if value == 0 then [] else counter_line a index value ∷ []

abbrev pub lines_of_array : (values : List ℕ) → CellArray → List (List ℕ)
lines_of_array values a =
    flat_map (λ index. lines_of_counter a index (slice_index values (a.base + index)))
    (range_with_len 0 a.length)

abbrev pub counter_lines : Counters → List (List ℕ)
counter_lines c =
    map array_line c.arrays ++ flat_map (lines_of_array c.values) c.arrays

abbrev pub file_lines : Contents → List (List ℕ)
file_lines k =
    heading ∷ state_line k.was_stopped
    ∷ (map halted_line k.halted ++ (counter_lines k.counters ++ ending ∷ []))

abbrev pub ended : (line : List ℕ) → List ℕ
ended line = line ++ 10 ∷ []

-- the lines, each ended by a line feed
abbrev pub file_text : Contents → List ℕ
file_text k = flat_map ended (file_lines k)

-- ---- as it is read

-- the last line is the ending, with its line feed
abbrev pub is_over : (line : List ℕ) → (others : List (List ℕ)) → Bool
is_over line ([] ∷ []) = bytes_eq line ending
is_over line others = false

-- what follows a line, unless it is wrong
abbrev pub when_right : Option Counters → (number : ℕ) → (Counters → Result Counters ℕ)
    → Result Counters ℕ
when_right (Some c) number rest = rest c
when_right None number rest = Err number

-- the counters after the lines from this number on, or the number of the first line that is wrong
abbrev pub counters_from : (number : ℕ) → List (List ℕ) → Counters → Result Counters ℕ
counters_from number [] c = Err number
counters_from number (line ∷ others) c =
    if is_over line others then Ok c
    else when_right (with_line line c) number (counters_from (number + 1) others)

-- 8192 zeros, and no arrays
unfoldable pub zeros : List ℕ
zeros = replicate 8192 0

abbrev pub nothing : Counters
nothing = counters [] zeros

abbrev pub state_of : List ℕ → Option Bool
state_of line =
    if bytes_eq line stopped then Some true
    else if bytes_eq line serving then Some false else None

abbrev pub with_counters : (was_stopped : Bool) → (halted : List (List ℕ)) → Result Counters ℕ
    → Result Contents ℕ
with_counters was_stopped halted (Ok c) =
    Ok (record { was_stopped = was_stopped; halted = halted; counters = c })
with_counters was_stopped halted (Err number) = Err number

-- what follows a line: more, if it names a halted app, or else others
abbrev pub when_halted : Option (List ℕ) → (List ℕ → Result Contents ℕ) → Result Contents ℕ
    → Result Contents ℕ
when_halted (Some appid) more others = more appid
when_halted None more others = others

-- what the lines from this number on say, after those of these halted apps: first come the lines of
-- all halted apps
abbrev pub contents_from : (was_stopped : Bool) → (number : ℕ) → List (List ℕ)
    → (halted : List (List ℕ)) → Result Contents ℕ
contents_from was_stopped number [] halted = Err number
contents_from was_stopped number (line ∷ others) halted =
    when_halted (halted_in line)
    (λ appid. contents_from was_stopped (number + 1) others (halted ++ appid ∷ []))
    (with_counters was_stopped halted (counters_from number (line ∷ others) nothing))

abbrev pub after_state : Option Bool → List (List ℕ) → Result Contents ℕ
after_state (Some was_stopped) lines = contents_from was_stopped 3 lines []
after_state None lines = Err 2

abbrev pub after_heading : List (List ℕ) → Result Contents ℕ
after_heading [] = Err 2
after_heading (line ∷ others) = after_state (state_of line) others

abbrev pub contents_of : List (List ℕ) → Result Contents ℕ
contents_of [] = Err 1
contents_of (line ∷ others) = if bytes_eq line heading then after_heading others else Err 1

-- what a text says, or the number of its first line that is wrong
abbrev pub contents_in : List ℕ → Result Contents ℕ
contents_in text = contents_of (slice_split is_line_feed text)

-- ---- the law

-- the cell is one of an array's
abbrev pub is_counter : List CellArray → (cell : ℕ) → Bool
is_counter arrays cell =
    list_any (λ a. nat_le a.base cell && nat_lt cell (a.base + a.length)) arrays

-- the values of the arrays' cells, and 0 for all others
unfoldable pub counted : List CellArray → (values : List ℕ) → List ℕ
counted arrays values =
    map (λ cell. if is_counter arrays cell then slice_index values cell else 0)
    (range_with_len 0 8192)

-- what is kept of these contents
abbrev pub kept : Contents → Contents
kept k =
    let c = k.counters in
    record {
      was_stopped = k.was_stopped;
      halted = k.halted;
      counters = counters c.arrays (counted c.arrays c.values);
    }

-- the arrays and values of a server
pub record AreCounters (c : Counters) : Type 0 where
  pub names : All (λ a. IsName a.name) c.arrays
  pub directory : IsDirectory c.arrays
  pub cells : AreCells c.values
  pub counted : All (CanCount c.values) c.arrays

-- what is read is what was written
abbrev pub ReadsBack : Type 0
ReadsBack =
    (k : Contents) → All IsText k.halted → All CanBeHalted k.halted → AreCounters k.counters
    → contents_in (file_text k) ≡ Ok (kept k)
