-- A context is 64 bytes.
use Rattle.std.proofs.Common.{◌≡◌, ◌%◌, ◌<◌, ℕ, All, length, refl, arith, rules}
use Rattle.std.proofs.lemmas.List.Elements.{All-from_recursion}
use Rattle.attrs.specs.Context.{Context, context_bytes}

pub length-context_bytes : (c : Context) → length (context_bytes c) ≡ 64
unfolding context_bytes
length-context_bytes c = refl

low_byte : (n : ℕ) → n % 256 < 256
low_byte n = omega arith

pub All-context_bytes : (c : Context) → All (λ b. b < 256) (context_bytes c)
unfolding context_bytes
All-context_bytes c = All-from_recursion (λ b. b < 256) (context_bytes c) (search (rules, low_byte))
