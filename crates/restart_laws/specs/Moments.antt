-- What a start does with the number that a file has for a quota's cell, in the order of time. It
-- may be cut off at any moment.
use Rattle.std.specs.Prelude.{◌≡◌, ℕ, suc, ◌<◌, ◌≤◌, max, IsTrue, List, [], ◌∷◌, All, Contains}
use Rattle.cells.specs.declared.event.CellEvent.{CellEvent}
use Rattle.restart_laws.specs.Starts.{Start, Crashed, MayLeave, takes_place}

pub data Moment : Type 0 where
  -- a commit begins, which replaces the file by one with this number
  Begins : (number : ℕ) → Moment
  -- the last commit that began returns Ok
  Ends : Moment
  -- the first byte is written of a reply with this place
  Sends : (place : ℕ) → Moment

abbrev pub newest : List ℕ → List ℕ
newest [] = []
newest (number ∷ older) = number ∷ []

-- The numbers of which a crash leaves one, the newest first: that of the last commit that returned
-- Ok, and those of the commits that have begun since. This is the premise about the device
abbrev pub numbers_after : Moment → List ℕ → List ℕ
numbers_after (Begins number) numbers = number ∷ numbers
numbers_after Ends numbers = newest numbers
numbers_after (Sends place) numbers = numbers

-- the least number that isn't below the opening value, and is above each place that was sent
abbrev pub bound_after : Moment → ℕ → ℕ
bound_after (Begins number) bound = bound
bound_after Ends bound = bound
bound_after (Sends place) bound = max bound (suc place)

-- The rule of the store: no commit has a lower number than the bound. The rule of the workers: a
-- place is sent only if each number that a crash may leave is above it
abbrev pub IsAllowed : ℕ → List ℕ → Moment → Type 0
IsAllowed bound numbers (Begins number) = bound ≤ number
IsAllowed bound numbers Ends = Unit {0}
IsAllowed bound numbers (Sends place) = All (λ number. place < number) numbers

-- these moments keep the rules, and lead from one bound and numbers to others
abbrev pub GoOn : ℕ → List ℕ → List Moment → ℕ → List ℕ → Type 0
GoOn bound numbers [] bound' numbers' = (bound' ≡ bound) × (numbers' ≡ numbers)
GoOn bound numbers (moment ∷ moments) bound' numbers' = IsAllowed bound numbers moment
    × GoOn (bound_after moment bound) (numbers_after moment numbers) moments bound' numbers'

abbrev pub sent_by : Moment → List ℕ → List ℕ
sent_by (Begins number) sent = sent
sent_by Ends sent = sent
sent_by (Sends place) sent = place ∷ sent

-- the places that were sent
abbrev pub sent_in : List Moment → List ℕ
sent_in [] = []
sent_in (moment ∷ moments) = sent_by moment (sent_in moments)

-- a crash leaves a number that isn't below the opening value, and is above each place that was sent
abbrev pub CrashesLeaveEnough : Type 0
CrashesLeaveEnough = (opening bound : ℕ) (moments : List Moment) (numbers : List ℕ)
    → GoOn opening (opening ∷ []) moments bound numbers
    → All (λ number. (opening ≤ number) × All (λ place. place < number) (sent_in moments)) numbers

-- each place that the start sent has its moment
abbrev pub HaveMoments : ℕ → ℕ → List Moment → List CellEvent → Type 0
HaveMoments cell quota moments =
    All (λ e. IsTrue (takes_place cell quota e) → Contains (sent_in moments) e.reply)

-- so the next start may open the cell with whatever number a crash leaves
abbrev pub CrashesLeaveOpenings : Type 0
CrashesLeaveOpenings =
    (cell quota bound : ℕ) (start : Start) (moments : List Moment) (numbers : List ℕ)
    → GoOn start.opening (start.opening ∷ []) moments bound numbers
    → HaveMoments cell quota moments start.sent
    → All (MayLeave cell quota start Crashed) numbers
