-- The entries that wait for slots ahead, and the pool that keeps them.
use Rattle.std.specs.Prelude.{◌≡◌, ◌≢◌, ℕ, ◌+◌, ◌<◌, ◌≤◌}
use Rattle.std.specs.Prelude.{List, length, map, slice_index_or, slice_get}
use Rattle.std.specs.Prelude.{Option, Some, None, is_some}
use Rattle.abs_value.specs.declared.state.AbsState.{AbsState}
use Rattle.abs_value.specs.States.{join_states}
use Rattle.bpf_verify.specs.Count.{count}

-- the entry that waits for each slot, and the greatest number that waited at once
pub record Waiting : Type 0 where
  pub entries : List (Option AbsState)
  pub most : ℕ

abbrev pub waits_at : Waiting → ℕ → Option AbsState
waits_at w m = slice_index_or w.entries m None

-- an entry joined into one that may exist
abbrev pub joined_with : Option AbsState → AbsState → AbsState
joined_with None e = e
joined_with (Some found) e = join_states found e

-- the number of entries that wait
abbrev pub held : Waiting → ℕ
held w = count (λ m. is_some (waits_at w m)) (length w.entries)

-- slot m has this entry, or none, and the other slots are unchanged
pub record IsChanged (old new : Waiting) (m : ℕ) (o : Option AbsState) : Type 0 where
  pub len : length new.entries ≡ length old.entries
  pub here : waits_at new m ≡ o
  pub elsewhere : (n : ℕ) → n ≢ m → waits_at new n ≡ waits_at old n

-- ---- the pool

-- the entry at an index of the pool
abbrev pub entry_in : List AbsState → Option ℕ → Option AbsState
entry_in es None = None
entry_in es (Some i) = slice_get es i

abbrev pub waiting : List AbsState → List (Option ℕ) → Waiting
waiting es ps = record { entries = map (entry_in es) ps; most = length es }

-- the index of a slot's entry
abbrev pub index_at : List (Option ℕ) → ℕ → Option ℕ
index_at ps m = slice_index_or ps m None

-- each entry of a pool belongs to one slot, or is listed as free once
pub record IsPool (size : ℕ) (places : List (Option ℕ)) (free : List ℕ) : Type 0 where
  pub within : (m i : ℕ) → index_at places m ≡ Some i → i < size
  pub once : (m n i : ℕ) → index_at places m ≡ Some i → index_at places n ≡ Some i → m ≡ n
  pub free_within : (j i : ℕ) → slice_get free j ≡ Some i → i < size
  pub free_once : (j k i : ℕ) → slice_get free j ≡ Some i → slice_get free k ≡ Some i → j ≡ k
  pub apart : (m j i : ℕ) → index_at places m ≡ Some i → slice_get free j ≢ Some i
  pub all : count (λ m. is_some (index_at places m)) (length places) + length free ≡ size
  pub small : size ≤ length places
  pub short : length places ≤ 4096
