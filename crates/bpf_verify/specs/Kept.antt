-- The number of entries that are kept at once, and the number of targets ahead.
use Rattle.std.specs.Prelude.{◌≡◌, ℕ, zero, suc, ◌+◌, max, length, nat_lt, ◌==◌, if◌then◌else◌}
use Rattle.std.specs.Prelude.{List, [], ◌++◌, Option, Some, None, is_some}
use Rattle.std.specs.Prelude.{Bool, false, ◌&&◌, ◌||◌, Result, Ok, Err}
use Rattle.bpf_insn.specs.declared.insn.Insn.{Insn}
use Rattle.bpf_insn.specs.Program.{Program, at, ◌>>=◌}
use Rattle.bpf_semantics.specs.Program.{ShapedProgram}
use Rattle.flow_check.specs.Edges.{target_of}
use Rattle.abs_value.specs.declared.state.AbsState.{AbsState}
use Rattle.bpf_checks.specs.declared.refusal.Refusal.{Refusal}
use Rattle.bpf_checks.specs.declared.refusal.Refusal.TheVariants as refusal
use Rattle.bpf_checks.specs.Transfer.{Edge, jump_edge}
use Rattle.bpf_verify.specs.Count.{count}
use Rattle.bpf_verify.specs.Accepted.{to_place, join_all, incoming, entry_of}

-- ---- targets

abbrev pub is_at : ℕ → Option ℕ → Bool
is_at m None = false
is_at m (Some t) = t == m

-- JA or a jump at a slot before k leads to m
unfoldable pub jumps_to : Program → ℕ → ℕ → Bool
jumps_to p zero m = false
jumps_to p (suc k) m = jumps_to p k m || is_at m (at p k >>= target_of k)

-- the number of targets after s, of the jumps at slots up to s
abbrev pub ahead : Program → ℕ → ℕ
ahead p s = count (λ m. nat_lt s m && jumps_to p (suc s) m) (length p)

-- the greatest number of targets ahead of any slot below n
unfoldable pub most_ahead : Program → ℕ → ℕ
most_ahead p zero = 0
most_ahead p (suc n) = max (most_ahead p n) (ahead p n)

-- the greatest number of targets ahead of any slot
abbrev pub greatest_ahead : Program → ℕ
greatest_ahead p = most_ahead p (length p)

-- ---- entries

abbrev pub jump_edges : ℕ → Option AbsState → Option Insn → List Edge
jump_edges s (Some e) (Some i) = jump_edge s e i
jump_edges s e i = []

-- the entry that waits for slot m once the jump at s is judged: the join over edges from before s
-- and from s
abbrev pub awaited : ShapedProgram → ℕ → ℕ → Option AbsState
awaited p s m =
    join_all (incoming p s m ++ to_place m (jump_edges s (entry_of p s) (at p.code s)))

-- while slot s is judged: its own entry, and one for each later slot that an entry waits for
abbrev pub kept : ShapedProgram → ℕ → ℕ
kept p s = 1 + count (λ m. nat_lt s m && is_some (awaited p s m)) (length p.code)

-- the greatest number kept at once while the slots before k that have an entry were judged; the
-- first entry exists from the start
unfoldable pub greatest_kept : ShapedProgram → ℕ → ℕ
greatest_kept p zero = 1
greatest_kept p (suc k) =
    if is_some (entry_of p k) && is_some (at p.code k) then max (greatest_kept p k) (kept p k)
    else greatest_kept p k

-- over the slots that were judged without a fault; no claim if memory ran out
abbrev pub IsPeakBefore : ShapedProgram → Refusal → ℕ → Type 0
IsPeakBefore p (refusal.Rule s rule) n = n ≡ greatest_kept p s
IsPeakBefore p refusal.Memory n = Unit {0}

-- the count is the greatest number of entries kept at once, over the slots that were judged
abbrev pub IsPeak : {A : Type 0} → ShapedProgram → Result A Refusal → ℕ → Type 0
IsPeak p (Ok v) n = n ≡ greatest_kept p (length p.code)
IsPeak p (Err r) n = IsPeakBefore p r n
