-- What is appended to a line.
use Rattle.std.specs.Prelude.{◌≡◌, ℕ, List, [], ◌∷◌, ◌++◌, Bool, true, false, fold, ⊤}
use Rattle.std.specs.Str.{NoCharPasses}
use Rattle.json.specs.Print.{ends}
use Rattle.json.specs.Token.{Token, number}
use Rattle.printing.specs.Printed.{is_control}
use Rattle.access_log.specs.Spelled.{spelled_from}

-- whether these tokens end with the end of a value; without tokens, as `before` says
abbrev pub ends_after : Bool → List Token → Bool
ends_after before tokens = fold (λ _ t. ends t) before tokens

-- a number without controls
abbrev pub IsHarmlessToken : Token → Type 0
IsHarmlessToken (number digits) = NoCharPasses is_control digits
IsHarmlessToken token = ⊤

abbrev pub AreHarmless : List Token → Type 0
AreHarmless [] = ⊤
AreHarmless (t ∷ ts) = IsHarmlessToken t × AreHarmless ts

-- These tokens are appended. `before` and `behind` say whether a value ends before them, and with
-- them.
pub record AddsTokens (before behind : Bool) (old new : List ℕ) (more : List Token) : Type 0 where
  pub text : new ≡ old ++ spelled_from before more
  pub ended : ends_after before more ≡ behind
  pub harmless : AreHarmless more

-- no members or more are appended after a member
abbrev pub AddsMembers : List ℕ → List ℕ → List Token → Type 0
AddsMembers old new more = AddsTokens true true old new more

-- elements of an array are appended after its bracket
abbrev pub AddsElements : List ℕ → List ℕ → List Token → Type 0
AddsElements old new more = AddsTokens false (ends_after false more) old new more
