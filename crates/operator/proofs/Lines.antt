-- The first line of a reader's bytes, piece by piece, and what it requests.
use Rattle.std.proofs.Common.{◌≡◌, ℕ, ◌+◌, ◌-◌, ◌<◌, ◌≤◌, List, ◌++◌, length, take, drop}
use Rattle.std.proofs.Common.{Bool, Option, Some, None, ap, ◌∙◌, sym, subst, arith, take-take}
use Rattle.std.proofs.Common.{append_assoc, length-take, length-drop, length-append, take_all}
use Rattle.std.proofs.Common.{length-take-le}
use Rattle.std.proofs.lemmas.List.{take-append-le}
use Rattle.std.proofs.lemmas.List.Folds.{prefix_len-append}
use Rattle.std.proofs.Math.Seq.{take-append-add}
use Rattle.std.specs.Prelude.{IfSome, IfNone, not}
use Rattle.std.specs.List.{position, position_or_len, prefix_len}
use Rattle.std.specs.Io.KnownBytes.{Consumes}
use borrow.Rule.Slice.PartMut.{put_mid, post_of}
use Rattle.operator.proofs.Positions.{found, not_found}
use Rattle.operator.specs.Line.{IsFirstRequest, LineGoesOn, IsPiece, IsWhole, line_of}
use Rattle.operator_request.specs.Requests.{is_line_feed, line_limit}
use Rattle.operator_request.specs.Requests.{SpellsRequest, SpellsNoRequest}
use Rattle.operator_request.specs.declared.request.OperatorRequest.{OperatorRequest}
use Rattle.operator.specs.declared.request_line.Piece.TheVariants.{Last, Further}

-- ---- a piece

-- no line feed among the first bytes
further : (xs ys : List ℕ) → position_or_len is_line_feed xs ≡ length xs
    → line_of (xs ++ ys) ≡ xs ++ line_of ys
further xs ys e =
    let test : ℕ → Bool = λ c. not (is_line_feed c) in
    let size : prefix_len test (xs ++ ys) ≡ length xs + prefix_len test ys =
    grind (arith, prefix_len-append test xs ys, e) in
    ap (λ (n : ℕ). take n (xs ++ ys)) size ∙ take-append-add xs ys (prefix_len test ys)

-- a line feed among the first bytes
ends : (xs ys : List ℕ) → position_or_len is_line_feed xs < length xs
    → line_of (xs ++ ys) ≡ line_of xs
ends xs ys h =
    let test : ℕ → Bool = λ c. not (is_line_feed c) in
    let n = prefix_len test xs in
    let size : prefix_len test (xs ++ ys) ≡ n = grind (arith, prefix_len-append test xs ys, h) in
    ap (λ (n : ℕ). take n (xs ++ ys)) size ∙ take-append-le n xs ys (omega (arith, h))

pub last_piece : (a b : Option (List ℕ)) (room : List ℕ) (n i : ℕ) → n ≤ length room
    → Consumes a b (take n room) → position is_line_feed (take n room) ≡ Some i
    → IsPiece a b room (Last i)
last_piece a b room n i fits bytes e = (omega (arith, fits, below), within a b bytes)
  where
    piece : List ℕ
    piece = take n room

    at : (position_or_len is_line_feed piece ≡ i) × (i < length piece)
    at = found is_line_feed piece i e

    below : i < n
    below = omega (arith, at.1, length-take {A = ℕ} n room)

    is : line_of piece ≡ take i room
    is = ap (λ (m : ℕ). take m piece) at.0 ∙ take-take i n room (omega (arith, below))

    within : (a b : Option (List ℕ)) → Consumes a b piece → IsWhole a (take i room)
    within None b c = tt
    within (Some xs) None c = absurd c
    within (Some xs) (Some ys) c =
        ap line_of c ∙ ends piece ys (omega (arith, at.0, at.1)) ∙ is

pub further_piece : (a b : Option (List ℕ)) (room : List ℕ) (n : ℕ) → 0 < n → n ≤ length room
    → Consumes a b (take n room) → position is_line_feed (take n room) ≡ None
    → IsPiece a b room (Further n)
further_piece a b room n some fits bytes e = (some, fits, within a b bytes)
  where
    piece : List ℕ
    piece = take n room

    all : position_or_len is_line_feed piece ≡ length piece
    all = not_found is_line_feed piece e

    within : (a b : Option (List ℕ)) → Consumes a b piece → LineGoesOn a b piece
    within None b c = tt
    within (Some xs) None c = absurd c
    within (Some xs) (Some ys) c = ap line_of c ∙ further piece ys all

-- ---- one piece after the other

goes_further : (a b c : Option (List ℕ)) (seen piece : List ℕ)
    → LineGoesOn a b seen → LineGoesOn b c piece → LineGoesOn a c (seen ++ piece)
goes_further None b c seen piece h k = tt
goes_further (Some xs) None c seen piece h k = absurd h
goes_further (Some xs) (Some ys) None seen piece h k = absurd k
goes_further (Some xs) (Some ys) (Some zs) seen piece h k =
    h ∙ ap (λ (l : List ℕ). seen ++ l) k ∙ sym (append_assoc seen piece (line_of zs))

-- a piece was read to the buffer after the first bytes
module _ (a b c : Option (List ℕ)) (room part : List ℕ) (size n : ℕ) (fits : size ≤ length room)
    (same : length part ≡ length room - size) (seen : LineGoesOn a b (take size room)) where
  abbrev pub Grown : List ℕ
  Grown = put_mid size (length room - size) room part

  abbrev Rest : List ℕ
  Rest = part ++ post_of size (length room - size) room

  grown : n ≤ length part → take (size + n) Grown ≡ take size room ++ take n part
  grown h =
      ap (λ (m : ℕ). take (m + n) (take size room ++ Rest)) (sym (length-take-le size room fits))
      ∙ take-append-add (take size room) Rest n
      ∙ ap (λ (l : List ℕ). take size room ++ l)
      (take-append-le n part (post_of size (length room - size) room) h)

  pub long : length Grown ≡ length room
  long =
      omega (
        arith,
        fits,
        same,
        length-take-le size room fits,
        length-append {A = ℕ} (take size room) Rest,
        length-append {A = ℕ} part (post_of size (length room - size) room),
        length-drop {A = ℕ} (length room - size) (drop size room),
        length-drop {A = ℕ} size room,
      )

  pub goes_on : IsPiece b c part (Further n) → LineGoesOn a c (take (size + n) Grown)
  goes_on piece =
      let Of : List ℕ → Type 0 = λ l. LineGoesOn a c l in
      subst Of (sym (grown piece.1))
      (goes_further a b c (take size room) (take n part) seen piece.2)

-- ---- what the line requests

-- one byte more than the longest line shows whether the line is longer
module _ (line : List ℕ) where
  abbrev Shown : List ℕ
  Shown = take (line_limit + 1) line

  all_shown : length Shown ≤ line_limit → Shown ≡ line
  all_shown h =
      take_all (line_limit + 1) line
      (omega (arith, h, length-take {A = ℕ} (line_limit + 1) line))

  asks_shown : (request : OperatorRequest) → SpellsRequest Shown request
      → SpellsRequest line request
  asks_shown request h =
      let Of : List ℕ → Type 0 = λ l. SpellsRequest l request in subst Of (all_shown h.short) h

  shows_asked : (request : OperatorRequest) → SpellsRequest line request
      → SpellsRequest Shown request
  shows_asked request h =
      let Of : List ℕ → Type 0 = λ l. SpellsRequest l request in
      subst Of (sym (take_all (line_limit + 1) line (omega (arith, h.short)))) h

-- the request that is found is that of the reader's bytes
pub line_request_is : (input : Option (List ℕ)) (shown : List ℕ) (room : ℕ)
    (line_request : Option OperatorRequest)
    → room ≡ line_limit + 1 → IfSome input (λ sent. shown ≡ take room (line_of sent))
    → IfSome line_request (SpellsRequest shown) → IfNone line_request (SpellsNoRequest shown)
    → IsFirstRequest input line_request
line_request_is None shown room line_request size same some nothing = tt
line_request_is (Some sent) shown room None size same some nothing =
    let Of : List ℕ → Type 0 = λ l. SpellsNoRequest l in
    let none = subst Of (same ∙ ap (λ (n : ℕ). take n (line_of sent)) size) nothing in
    λ request asks. none request (shows_asked (line_of sent) request asks)
line_request_is (Some sent) shown room (Some request) size same some nothing =
    let Of : List ℕ → Type 0 = λ l. SpellsRequest l request in
    let asks = subst Of (same ∙ ap (λ (n : ℕ). take n (line_of sent)) size) some in
    asks_shown (line_of sent) request asks
