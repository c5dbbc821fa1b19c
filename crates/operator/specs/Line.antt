-- A line as its bytes arrive, and what it requests.
use Rattle.std.specs.Prelude.{◌≡◌, ℕ, ◌<◌, ◌≤◌, List, ◌++◌, length, take}
use Rattle.std.specs.Prelude.{Option, None, Some, IfSome}
use Rattle.std.specs.List.{before_first}
use Rattle.operator_request.specs.Requests.{SpellsRequest, SpellsNoRequest, is_line_feed}
use Rattle.operator_request.specs.declared.request.OperatorRequest.{OperatorRequest}
use Rattle.operator.specs.declared.request_line.Piece.{Piece}
use Rattle.operator.specs.declared.request_line.Piece.TheVariants.{Last, Further}

-- the line that a connection sends: the bytes before the first line feed, or before the end
abbrev pub line_of : List ℕ → List ℕ
line_of sent = before_first is_line_feed sent

-- what a line requests, if anything
abbrev pub IsRequestOfLine : List ℕ → Option OperatorRequest → Type 0
IsRequestOfLine line None = SpellsNoRequest line
IsRequestOfLine line (Some request) = SpellsRequest line request

-- the request of the first line of the bytes, if these are known
abbrev pub IsFirstRequest : Option (List ℕ) → Option OperatorRequest → Type 0
IsFirstRequest input line_request =
    IfSome input (λ sent. IsRequestOfLine (line_of sent) line_request)

-- the line of the reader's bytes is this
abbrev pub IsWhole : Option (List ℕ) → List ℕ → Type 0
IsWhole old bytes = IfSome old (λ sent. line_of sent ≡ bytes)

-- the line is these bytes, followed by the line of the reader's remaining bytes
abbrev pub LineGoesOn : Option (List ℕ) → Option (List ℕ) → List ℕ → Type 0
LineGoesOn None new bytes = Unit {0}
LineGoesOn (Some sent) None bytes = ⊥
LineGoesOn (Some sent) (Some rest) bytes = line_of sent ≡ bytes ++ line_of rest

-- a piece of the line is at the front of the buffer
abbrev pub IsPiece : Option (List ℕ) → Option (List ℕ) → List ℕ → Piece → Type 0
IsPiece old new room (Last n) = (n ≤ length room) × IsWhole old (take n room)
IsPiece old new room (Further n) =
    (0 < n) × (n ≤ length room) × LineGoesOn old new (take n room)
