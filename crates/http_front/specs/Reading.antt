-- The contents of a buffer while a request is read, and what a whole head in it requests.
use Rattle.std.specs.Prelude.{◌≡◌, ℕ, ◌+◌, ◌<◌, ◌≤◌, List, ◌++◌, length, map, take}
use Rattle.std.specs.Prelude.{Option, Some, None, Result, Ok, Err}
use Rattle.std.specs.Io.KnownBytes.{Consumes, Keeps, prepend_known}
use Rattle.httparse.specs.declared.spans.HeaderSpan.{HeaderSpan}
use Rattle.httparse.specs.declared.spans.RequestSpans.{RequestSpans}
use Rattle.httparse.specs.Spans.{span_bytes, header_bytes, IsRequestOf, IsRequestWithin}
use Rattle.http_front.specs.declared.post_fault.PostFault.{PostFault}
use Rattle.http_front.specs.declared.post_fault.PostFault.TheVariants as fault
use Rattle.http_front.specs.declared.head.Found.{Found}
use Rattle.http_front.specs.Head.{body_length, values_of}

-- some bytes were stored after the first ones of a buffer
abbrev pub GainsBytes :
    {E : Type 0} → Option (List ℕ) → Option (List ℕ) → List ℕ → List ℕ → ℕ
    → Result ℕ E → Type 0
GainsBytes old new first buf filled (Ok n) =
    (gained : List ℕ) × Consumes old new gained × (length gained ≡ n)
    × (take (filled + n) buf ≡ first ++ gained)
GainsBytes old new first buf filled (Err e) = Keeps old new

-- the bytes from a reader are the first ones of the buffer
pub record IsFilled (old new : Option (List ℕ)) (buf : List ℕ) (filled : ℕ) : Type 0 where
  pub fits : filled ≤ length buf
  pub bytes : Consumes old new (take filled buf)

-- a whole head is in the filled part of the buffer
pub record IsFound
    (old new : Option (List ℕ)) (buf : List ℕ) (headers : List HeaderSpan) (f : Found)
    : Type 0 where
  pub filled : IsFilled old new buf f.filled
  pub head : IsRequestOf (take f.filled buf) headers f.head
  pub within : IsRequestWithin (take f.filled buf) headers f.head

-- the values of a name among the header lines that the spans cover
abbrev pub values_at : List ℕ → List HeaderSpan → List ℕ → List (List ℕ)
values_at buf headers name = values_of name (map (header_bytes buf) headers)

-- what the head whose parts the spans cover requests
abbrev pub body_length_at : List ℕ → List HeaderSpan → RequestSpans → Result ℕ PostFault
body_length_at buf headers r =
    body_length (span_bytes buf r.path) (span_bytes buf r.method)
    (map (header_bytes buf) (take r.headers headers))

-- the body is the first n of these bytes, or there are fewer
abbrev pub IsBody : List ℕ → ℕ → Result (List ℕ) PostFault → Type 0
IsBody rest n (Ok body) = (n ≤ length rest) × (body ≡ take n rest)
IsBody rest n (Err fault.Ended) = length rest < n
IsBody rest n (Err fault.Device) = Unit {0}
IsBody rest n (Err fault.Memory) = Unit {0}
IsBody rest n (Err e) = ⊥

-- nothing is said of a reader whose bytes are unknown
abbrev pub IsBodyOf : Option (List ℕ) → ℕ → Result (List ℕ) PostFault → Type 0
IsBodyOf None n r = Unit {0}
IsBodyOf (Some rest) n r = IsBody rest n r

-- the body that follows, whatever was there before
abbrev pub FillsBody : Option (List ℕ) → List ℕ → ℕ → Result (List ℕ) PostFault → Type 0
FillsBody old buf filled r =
    (all : Option (List ℕ)) → IsFilled all old buf filled → IsBodyOf all (length buf) r

-- the body whose first bytes came with the head
abbrev pub IsBodyAfter : List ℕ → Option (List ℕ) → ℕ → Result (List ℕ) PostFault → Type 0
IsBodyAfter first old n r = IsBodyOf (prepend_known first old) n r
