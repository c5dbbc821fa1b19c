-- Lines of halted apps that are appended one after another.
use Rattle.std.proofs.Common.{◌≡◌, ℕ, ◌-◌, ◌<◌, ◌≤◌, List, [], ◌∷◌, ◌++◌, length, Global}
use Rattle.std.proofs.Common.{sym, ap, subst, ◌∙◌, arith, append_assoc, map, take, drop, get_or}
use Rattle.std.specs.Prelude.{All, flat_map, string_bytes}
use Rattle.std.specs.declared.string.String.{String}
use Rattle.std.proofs.lemmas.List.{take_all}
use Rattle.std.proofs.lemmas.List.Elements.{All-cons, All-nil}
use Rattle.counters_file.specs.Halts.{halted_line}
use Rattle.counters_file.specs.Text.{ended}

-- the line of the first app that is left
pub halt_pushed : (left : List (String Global)) (a d : String Global) (n : ℕ)
    (text new all : List ℕ) → 1 ≤ length left → n ≡ length left → get_or left 0 d ≡ a
    → text ++ flat_map ended (map halted_line (map string_bytes left)) ≡ all
    → new ≡ text ++ ended (halted_line (string_bytes a))
    → new ++ flat_map ended (map halted_line (map string_bytes (take (n - 1) (drop 1 left)))) ≡ all
halt_pushed [] a d n text new all some count first so_far pushed = absurd (omega (arith, some))
halt_pushed (x ∷ xs) a d n text new all some count first so_far pushed =
    let more = flat_map ended (map halted_line (map string_bytes xs)) in
    ap (λ ys. new ++ flat_map ended (map halted_line (map string_bytes ys)))
    (take_all (n - 1) xs (omega (arith, count)))
    ∙ ap (λ (bs : List ℕ). bs ++ more)
    (pushed ∙ ap (λ y. text ++ ended (halted_line (string_bytes y))) (sym first))
    ∙ append_assoc text (ended (halted_line (string_bytes x))) more ∙ so_far

module _ (P : List ℕ → Type 0) where
  -- it is so of all texts, if it is of those that are left
  pub halt_seen : (left : List (String Global)) (all : List (List ℕ)) (a d : String Global)
      (n : ℕ) → 1 ≤ length left → n ≡ length left → get_or left 0 d ≡ a
      → (All P (map string_bytes left) → All P all) → P (string_bytes a)
      → All P (map string_bytes (take (n - 1) (drop 1 left))) → All P all
  halt_seen [] all a d n some count first others is rest = absurd (omega (arith, some))
  halt_seen (x ∷ xs) all a d n some count first others is rest =
      others (All-cons P (string_bytes x) (map string_bytes xs)
      (subst (λ (s : String Global). P (string_bytes s)) (sym first) is)
      (subst (λ ys. All P (map string_bytes ys)) (take_all (n - 1) xs (omega (arith, count)))
      rest))

  pub none_left : (left : List (String Global)) → length left < 1
      → All P (map string_bytes left)
  none_left [] none = All-nil P
  none_left (x ∷ xs) none = absurd (omega (arith, none))
