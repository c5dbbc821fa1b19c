-- What changed on the edge by which the previous instruction continues to a place.
use Rattle.std.specs.Prelude.{ℕ, Bool, true, false, ◌&&◌, not, ◌==◌, Option, Some, None, replicate}
use Rattle.bpf_insn.specs.declared.insn.Insn.{Insn}
use Rattle.bpf_insn.specs.declared.reg.Reg.{Reg}
use Rattle.bpf_insn.specs.Table.{number_of}
use Rattle.cells.specs.Arrays.{AppShape}
use Rattle.abs_value.specs.declared.state.AbsState.{AbsState}
use Rattle.abs_value.specs.declared.value.Abs.{Abs}
use Rattle.abs_value.specs.declared.value.Abs.TheVariants.{Unusable, Num, Ctx, Stk}
use Rattle.abs_value.specs.declared.value.Abs.TheVariants.{Map, MayCell, Cell}
use Rattle.abs_value.specs.Numbers.{is_same}
use Rattle.abs_value.specs.States.{register_at}
use Rattle.abs_value.specs.Values.{same_lookup, same_origin}
use Rattle.bpf_verify.specs.Sweep.{falling}
use Rattle.why_refused_program.specs.declared.way.Way.{Way}

-- the same is known about two values
abbrev pub same_value : Abs → Abs → Bool
same_value Unusable Unusable = true
same_value (Num a) (Num b) = is_same a b
same_value (Ctx a) (Ctx b) = (a.lo == b.lo) && (a.hi == b.hi)
same_value (Stk a) (Stk b) = a == b
same_value (Map a) (Map b) = a == b
same_value (MayCell a) (MayCell b) = same_lookup a b
same_value (Cell a) (Cell b) = same_origin a b
same_value a b = false

-- if nothing continues to the place, nothing changes
abbrev pub still : Way
still = record { before = replicate 11 Unusable; after = replicate 11 Unusable }

abbrev pub way_to : AbsState → Option AbsState → Way
way_to e None = still
way_to e (Some f) = record { before = e.registers; after = f.registers }

-- after an instruction at slot s, before which this is known
abbrev pub way_past : AppShape → ℕ → AbsState → Insn → Way
way_past shape s e i = way_to e (falling shape s e i)

abbrev pub changes_on_way : Way → Reg → Bool
changes_on_way w r =
    not (same_value (register_at w.before (number_of r)) (register_at w.after (number_of r)))
