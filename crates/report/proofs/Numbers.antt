-- The number that a token of JSON writes.
use Rattle.std.proofs.Common.{◌≡◌, ℕ, ℤ, List, drop, get_or, ◌==◌, Bool, true, false, refl}
use Rattle.std.proofs.Common.{Some, None, option_and_then, Float, if◌then◌else◌}
use Rattle.fast_float.specs.Text.{Parts, scan}
use Rattle.serde_json.specs.Data.{float, negative}
use Rattle.serde_json.specs.Find.{as_u64}
use Rattle.serde_json.specs.Read.{number_of, number_from}

pub below_zero : (s : List ℕ) → (get_or s 0 0 == 45) ≡ true
    → number_from true (scan (drop 1 s)) ≡ number_of s
unfolding number_of
below_zero s signed = rw signed

pub not_below_zero : (s : List ℕ) → (get_or s 0 0 == 45) ≡ false
    → number_from false (scan s) ≡ number_of s
unfolding number_of
not_below_zero s unsigned = rw unsigned

pub not_whole : (p : Parts) → None ≡ option_and_then as_u64 (number_from true p)
not_whole p = in_each _ _ _ _
  where
    in_each : (b c : Bool) (z : ℤ) (x : Float) → None ≡ option_and_then as_u64
        (if b then Some (negative z) else (if c then Some (float x) else None))
    in_each true c z x = refl
    in_each false true z x = refl
    in_each false false z x = refl
