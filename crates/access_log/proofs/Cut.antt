-- A text is cut at the last place before which all of it is brief.
use Rattle.std.proofs.Common.{◌≡◌, ℕ, ◌-◌, ◌<◌, ◌≤◌, ◌⊎◌, inl, inr, List, take, sym, subst, arith}
use Rattle.std.proofs.Common.{ap, ◌∙◌, slice_range}
use Rattle.std.specs.Str.{IsCharBoundary}
use Rattle.std.proofs.lemmas.Bool.{cases_order}
use Rattle.access_log.specs.TextSize.{text_size}

-- after `end`, no boundary up to `most` gives a brief text
abbrev pub IsTooLong : ℕ → List ℕ → ℕ → Type 0
IsTooLong most text end =
    (i : ℕ) → end < i → i ≤ most → IsCharBoundary text i → most < text_size (take i text)

at_one : (most : ℕ) (text : List ℕ) (end next i : ℕ) → most < text_size (take end text)
    → ((k : ℕ) → next < k → k ≤ end - 1 → ¬ IsCharBoundary text k)
    → IsTooLong most text end → next < i → i ≤ most → IsCharBoundary text i
    → (i ≡ end) ⊎ ((i < end) ⊎ (end < i)) → most < text_size (take i text)
at_one most text end next i over none before above few bound (inl same) =
    subst (λ (k : ℕ). most < text_size (take k text)) (sym same) over
at_one most text end next i over none before above few bound (inr (inl less)) =
    absurd (none i above (omega (arith, less)) bound)
at_one most text end next i over none before above few bound (inr (inr more)) =
    before i more few bound

-- from one place to the boundary before it
pub further : (most : ℕ) (text : List ℕ) (end next : ℕ) → most < text_size (take end text)
    → ((k : ℕ) → next < k → k ≤ end - 1 → ¬ IsCharBoundary text k)
    → IsTooLong most text end → IsTooLong most text next
further most text end next over none before i above few bound =
    at_one most text end next i over none before above few bound (cases_order i end)

-- the text before a place takes more than `most`, as it was computed
pub over_at : (most : ℕ) (text : List ℕ) (end room : ℕ) {part : List ℕ}
    → part ≡ slice_range text 0 end → room ≡ text_size part → most < room
    → most < text_size (take end text)
over_at most text end room is value more =
    let all : end - 0 ≡ end = omega arith in
    subst (λ (n : ℕ). most < n)
    (value ∙ ap text_size is ∙ ap (λ (n : ℕ). text_size (take n text)) all) more
