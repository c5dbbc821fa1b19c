-- The newest ruleset, and the world in which a server begins.
use Rattle.std.proofs.Common.{◌≡◌, Global, ℕ, zero, suc, ◌+◌, ◌-◌, ◌<◌, List, [], ◌∷◌, length}
use Rattle.std.proofs.Common.{get_or, map, replicate, lit<, add-one, Some, refl, sym, ap}
use Rattle.std.proofs.Common.{◌∙◌, arith}
use Rattle.std.specs.Prelude.{slice_get, slice_index}
use Rattle.std.specs.Arc.{arc_value}
use Rattle.std.specs.declared.sync.Arc.{Arc}
use Rattle.std.proofs.lemmas.List.{get_or-map, length-map, length-replicate}
use Rattle.std.proofs.lemmas.Option.{slice_get_read}
use Rattle.cells.specs.Events.{AreZeros}
use Rattle.ruleset.specs.Rules.{Rules, IsRuleset}
use Rattle.world.specs.World.{Idle, ruleset_at, newest, zeros}
use Rattle.world.specs.Represents.{AreSoundParts, IsOpening, parts_of, Parts}
use Rattle.world.specs.declared.world.World.TheInside.{Inside}
use Rattle.world.proofs.Rulesets.{sound_alone}
use Rattle.world.specs.declared.seat.Seat.{Seat}
use Rattle.world.specs.declared.seat.Seat.TheVariants.{Empty}

abbrev pub inside_of : Inside → Parts
inside_of w = parts_of w.rulesets.items w.pass w.seats.items

newest_at : (rulesets : List Rules) (n : ℕ) → n + 1 ≡ length rulesets
    → ruleset_at rulesets (newest rulesets) ≡ slice_get rulesets n
newest_at rulesets n e = ap (ruleset_at rulesets) (sym e ∙ add-one n)

pub newest_found : (rulesets : List (Arc Rules Global)) (n : ℕ) (found : Arc Rules Global)
    → n ≡ length rulesets → 0 < length (map (λ r. arc_value r) rulesets)
    → found ≡ get_or rulesets (n - 1) found
    → ruleset_at (map (λ r. arc_value r) rulesets) (newest (map (λ r. arc_value r) rulesets)) ≡ Some
    (arc_value found)
newest_found rulesets n found long ruled is =
    let some : 0 < n = let mapped =
    length-map rulesets (λ r. arc_value r) in omega (arith, long, mapped, ruled) in
    newest_at (map (λ r. arc_value r) rulesets) (n - 1)
    (rw (length-map rulesets (λ r. arc_value r)) (omega (arith, long, some)))
    ∙ slice_get_read (map (λ r. arc_value r) rulesets) n (n - 1) (arc_value found)
    (long ∙ sym (length-map rulesets (λ r. arc_value r))) (omega (arith, some))
    (ap (λ r. arc_value r) is ∙ sym
    (get_or-map (λ r. arc_value r) rulesets (n - 1) found (arc_value found)
    (omega (arith, long, some))))

-- ---- the world in which a server begins

empty_at : (n k : ℕ) → get_or (replicate n Empty) k Empty ≡ Empty
empty_at zero k = refl
empty_at (suc n) zero = refl
empty_at (suc n) (suc k) = empty_at n k

idle_at : (n k : ℕ) → get_or (replicate n Idle) k Idle ≡ Idle
idle_at zero k = refl
idle_at (suc n) zero = refl
idle_at (suc n) (suc k) = idle_at n k

pub opening_kept : (first : Arc Rules Global) (rulesets : List (Arc Rules Global)) (cells : List ℕ)
    (seats : List Seat) (n : ℕ) → rulesets ≡ first ∷ [] → seats ≡ replicate n Empty
    → IsRuleset (arc_value first) → AreSoundParts (parts_of rulesets cells seats)
opening_kept first rulesets cells seats n one empty sound = rw (one, empty) (record {
  ruled = lit< tt;
  sound = sound_alone (arc_value first) sound;
  kept = λ k. rw (empty_at n k) tt;
  offered = λ k. rw (empty_at n k) tt;
})

-- a list of zeros
replicated : (n : ℕ) (xs : List ℕ) → length xs ≡ n → ((k : ℕ) → slice_index xs k ≡ 0)
    → xs ≡ replicate n 0
replicated zero [] count zero_at = refl
replicated (suc n) [] count zero_at = absurd (omega (arith, count))
replicated zero (x ∷ xs) count zero_at = absurd (omega (arith, count))
replicated (suc n) (x ∷ xs) count zero_at =
    let first : x ≡ 0 = zero_at 0 in
    let rest = replicated n xs (omega (arith, count)) (λ k. zero_at (suc k)) in
    rw (first, rest) refl

pub are_zeros : (xs : List ℕ) → AreZeros 8192 xs → xs ≡ zeros
unfolding zeros
are_zeros xs all = replicated 8192 xs all.count all.zero

pub opening_stands : (first : Arc Rules Global) (rulesets : List (Arc Rules Global))
    (cells : List ℕ)
    (seats : List Seat) (n : ℕ) → rulesets ≡ first ∷ [] → seats ≡ replicate n Empty
    → AreZeros 8192 cells → IsOpening (parts_of rulesets cells seats) (arc_value first) n
opening_stands first rulesets cells seats n one empty all = rw (one, empty) (record {
  rulesets = refl;
  cells = are_zeros cells all;
  as_many = length-replicate n Empty ∙ sym (length-replicate n Idle);
  each = λ k. rw (empty_at n k, idle_at n k) tt;
})
