-- The forms of an operator's replies, by which an operator's port is recognized: what another port
-- sends, such as the clients' port, isn't a reply. An empty reply to `cells` means that all
-- counters are 0. So a port that closes without sending anything passes for a server with such
-- counters. A reply to `cells` or `show` that is cut at the end of a line passes for a whole one;
-- one to `state` doesn't, since its last line is `end`.
use Rattle.std.specs.Prelude.{ℕ, ◌-◌, List, [], ◌∷◌, length, take, drop, codes}
use Rattle.std.specs.Prelude.{Bool, false, ◌==◌, ◌&&◌, ◌||◌, IsTrue, nat_eq, nat_lt, nat_le}
use Rattle.std.specs.Char.{is_ascii_digit}
use Rattle.std.specs.Str.{bytes_eq}
use Rattle.std.specs.List.{starts_with, ends_with, list_all, before_first, after_first, slice_split}
use Rattle.cells.specs.Names.{is_spelled}
use Rattle.operator.specs.Line.{line_of}
use Rattle.operator_request.specs.Requests.{IsSendable, is_line_feed}
use Rattle.operator_request.specs.declared.request.OperatorRequest.{OperatorRequest}
use Rattle.operator_request.specs.declared.request.OperatorRequest.TheVariants.{Load, Show}
use Rattle.operator_request.specs.declared.request.OperatorRequest.TheVariants.{Cells, Stop}
use Rattle.operator_request.specs.declared.request.OperatorRequest.TheVariants.{Halt, Resume}
use Rattle.operator_request.specs.declared.request.OperatorRequest.TheVariants.{State}
use Rattle.ruleset.specs.Texts.{line}

-- lines, of which the first begins with this word
abbrev pub begins_lines : List ℕ → List ℕ → Bool
begins_lines word bytes = starts_with nat_eq bytes word && ends_with nat_eq bytes (codes "\n")

-- one digit or more
abbrev pub is_decimal : List ℕ → Bool
is_decimal text = nat_lt 0 (length text) && list_all is_ascii_digit text

-- the name of an array
abbrev pub is_array_name : List ℕ → Bool
is_array_name text = is_spelled text && nat_le (length text) 32

-- a space, and a number
abbrev pub is_blank_and_decimal : List ℕ → Bool
is_blank_and_decimal [] = false
is_blank_and_decimal (c ∷ rest) = (c == 32) && is_decimal rest

-- INDEX] VALUE
abbrev pub is_index_and_value : List ℕ → Bool
is_index_and_value text =
    is_decimal (before_first (λ c. c == 93) text)
    && is_blank_and_decimal (after_first (λ c. c == 93) text)

-- NAME[INDEX] VALUE
abbrev pub is_cell_line : List ℕ → Bool
is_cell_line text =
    is_array_name (before_first (λ c. c == 91) text)
    && is_index_and_value (after_first (λ c. c == 91) text)

-- generation NUMBER
abbrev pub is_generation_line : List ℕ → Bool
is_generation_line text =
    starts_with nat_eq text (codes "generation ") && is_decimal (drop 11 text)

-- the bytes end with a line feed, and those before it have this form
abbrev pub is_ended : (List ℕ → Bool) → List ℕ → Bool
is_ended has_form bytes =
    ends_with nat_eq bytes (codes "\n") && has_form (take (length bytes - 1) bytes)

-- lines, of which the first is that of a generation
abbrev pub begins_with_generation : List ℕ → Bool
begins_with_generation bytes =
    ends_with nat_eq bytes (codes "\n") && is_generation_line (line_of bytes)

-- the same, and the last line is `end`
abbrev pub is_state : List ℕ → Bool
is_state bytes = begins_with_generation bytes && ends_with nat_eq bytes (codes "\nend\n")

-- each line is that of a cell
abbrev pub are_cell_lines : List ℕ → Bool
are_cell_lines text = list_all is_cell_line (slice_split is_line_feed text)

-- lines of cells, or empty, as counters that are 0 have no line
abbrev pub are_cells : List ℕ → Bool
are_cells bytes = (length bytes == 0) || is_ended are_cell_lines bytes

-- the reply to a request that was done
abbrev pub is_answer : OperatorRequest → List ℕ → Bool
is_answer (Load path) bytes = is_ended is_generation_line bytes
is_answer Show bytes = begins_with_generation bytes
is_answer Cells bytes = are_cells bytes
is_answer Stop bytes = bytes_eq bytes (line (codes "stopping"))
is_answer (Halt appid) bytes = is_ended is_generation_line bytes
is_answer (Resume appid) bytes = is_ended is_generation_line bytes
is_answer State bytes = is_state bytes

-- any request may also be refused
abbrev pub is_reply : OperatorRequest → List ℕ → Bool
is_reply request bytes = begins_lines (codes "refused ") bytes || is_answer request bytes

-- the words of the request are a line, and the bytes are a reply to it
pub record IsReplyTo (request : OperatorRequest) (bytes : List ℕ) : Type 0 where
  pub sent : IsSendable request
  pub replied : IsTrue (is_reply request bytes)
