-- Which results a reader's bytes have: a body, or why there is none (RFC 9112, sections 2 to 6).
--
-- A head is checked as its bytes arrive, and at most 16,384 of them, so `take k xs` are the bytes
-- that were checked. This relation allows two results only if httparse does. That is for a head of
-- more than 64 header lines that is malformed or cut short, and for a target that isn't UTF-8 and
-- is cut short.
use Rattle.std.specs.Prelude.{◌≡◌, ℕ, ◌+◌, ◌<◌, ◌≤◌, List, length, take}
use Rattle.std.specs.Prelude.{Option, Some, None, Result, Ok, Err, IfErr}
use Rattle.std.specs.Io.KnownBytes.{Consumes}
use Rattle.net_io.specs.declared.counted.Counted.{Counted}
use Rattle.httparse.specs.Grammar.{RequestHead, ReadsRequest, print_request}
use Rattle.httparse.specs.Grammar.{HasNoRequest, NeverHasRequest, MayBecomeRequest}
use Rattle.httparse.specs.Spans.{RequestExceeds}
use Rattle.http_front.specs.declared.post_fault.PostFault.{PostFault}
use Rattle.http_front.specs.declared.post_fault.PostFault.TheVariants as fault
use Rattle.http_front.specs.Head.{body_length_by}

abbrev pub head_limit : ℕ
head_limit = 16384

abbrev pub field_limit : ℕ
field_limit = 64

-- a whole head within its limits is at the front of the bytes, followed by the rest
pub record HasHead (xs : List ℕ) (h : RequestHead) (rest : List ℕ) : Type 0 where
  pub reads : ReadsRequest xs h rest
  pub short : length (print_request h) ≤ head_limit
  pub few : length h.fields ≤ field_limit

-- the bytes have no head yet, and more of them may make one
pub record IsBegun (xs : List ℕ) : Type 0 where
  pub not_yet : HasNoRequest xs
  pub may_become : MayBecomeRequest xs

-- which results bytes have: a body, or why there is none
pub data Posts (xs : List ℕ) : Result (List ℕ) PostFault → Type 0 where
  -- the body, of the length that the head gives; bytes after it are ignored
  whole : {h : RequestHead} {rest : List ℕ} {n : ℕ}
      → HasHead xs h rest → body_length_by h ≡ Ok n → n ≤ length rest
      → Posts xs (Ok (take n rest))
  -- the input ends before the body does
  cut_short : {h : RequestHead} {rest : List ℕ} {n : ℕ}
      → HasHead xs h rest → body_length_by h ≡ Ok n → length rest < n
      → Posts xs (Err fault.Ended)
  -- a rule that a whole head breaks
  refused : {h : RequestHead} {rest : List ℕ} {e : PostFault}
      → HasHead xs h rest → body_length_by h ≡ Err e → Posts xs (Err e)
  -- whatever bytes follow, they don't make a head
  malformed : (k : ℕ) → k ≤ head_limit → NeverHasRequest (take k xs) → Posts xs (Err fault.Head)
  -- 16,384 bytes, and still no head
  long : head_limit ≤ length xs → IsBegun (take head_limit xs) → Posts xs (Err fault.HeadTooLarge)
  -- the 65th header line
  many : (k : ℕ) → k ≤ head_limit → RequestExceeds field_limit (take k xs)
      → Posts xs (Err fault.HeadTooLarge)
  -- the input ends before the head does
  ended : length xs < head_limit → IsBegun xs → Posts xs (Err fault.Ended)

-- it is unspecified when a device or an allocation fails
abbrev pub IsPostAnswer : List ℕ → Result (List ℕ) PostFault → Type 0
IsPostAnswer xs (Err fault.Device) = Unit {0}
IsPostAnswer xs (Err fault.Memory) = Unit {0}
IsPostAnswer xs answer = Posts xs answer

-- nothing is said of a reader whose bytes are unknown
abbrev pub AnswersPost : Option (List ℕ) → Result (List ℕ) PostFault → Type 0
AnswersPost None answer = Unit {0}
AnswersPost (Some xs) answer = IsPostAnswer xs answer

-- at most `limit` bytes were taken from a reader; nothing is said if its bytes are unknown
pub record TakesAtMost (limit : ℕ) (old new : Option (List ℕ)) : Type 0 where
  pub taken : List ℕ
  pub consumed : Consumes old new taken
  pub short : length taken ≤ limit

-- if the head is refused, at most as many bytes were taken as a head may have
abbrev pub IsFrugal : Option (List ℕ) → Option (List ℕ) → PostFault → Type 0
IsFrugal old new fault.Ended = Unit {0}
IsFrugal old new fault.Device = Unit {0}
IsFrugal old new fault.Memory = Unit {0}
IsFrugal old new e = TakesAtMost head_limit old new

-- a failure is counted if it is the result, and only then
abbrev pub CountsDevice : {A : Type 0} → ℕ → ℕ → Result A PostFault → Type 0
CountsDevice old new (Err fault.Device) = new ≡ old + 1
CountsDevice old new answer = new ≡ old

-- the result of a call, with this body if it succeeds
abbrev pub post_answer : {A : Type 0}
    → Result A PostFault → (A → List ℕ) → Result (List ℕ) PostFault
post_answer (Ok a) body_of = Ok (body_of a)
post_answer (Err e) body_of = Err e

-- the effect of reading a request from a reader, given the reader before and after
pub record ReadsPost {R A : Type 0} (remaining : R → Option (List ℕ)) (old new : Counted R)
    (result : Result A PostFault) (body_of : A → List ℕ) : Type 0 where
  -- the result is one that the reader's bytes have
  pub answers : AnswersPost (remaining old.inner) (post_answer result body_of)
  -- if the head is refused, at most as many bytes were taken as a head may have
  pub frugal : IfErr result (IsFrugal (remaining old.inner) (remaining new.inner))
  -- and a failure was counted if it is the result
  pub count : CountsDevice old.failures new.failures result

-- what is wrong with the bytes of a head so far
abbrev pub IsHeadFault : List ℕ → PostFault → Type 0
IsHeadFault buf fault.Head = NeverHasRequest buf
IsHeadFault buf fault.HeadTooLarge = RequestExceeds field_limit buf
IsHeadFault buf e = ⊥
