-- The jumps that a run takes: JA and the conditional jumps (RFC 9669, "Jump Instructions"), and not
-- CALL and EXIT. A jump is taken if the run continues at another slot than the next one. So a jump
-- whose target is the next slot counts as not taken, whether its condition holds or not.
use Rattle.std.specs.Prelude.{ℕ, ◌+◌, ◌==◌, if◌then◌else◌, List, Option, Some, None}
use Rattle.std.specs.Option.{option_or}
use Rattle.bpf_insn.specs.declared.insn.Insn.{Insn}
use Rattle.bpf_insn.specs.declared.insn.Insn.TheVariants.{Jump as Ja, JumpIf}
use Rattle.bpf_insn.specs.Program.{at, ◌>>=◌}
use Rattle.bpf_semantics.specs.Program.{ShapedProgram}
use Rattle.bpf_semantics.specs.Run.{Ends}
use Rattle.bpf_semantics.specs.Run.Ends.{last, more, operated}
use Rattle.bpf_semantics.specs.State.{State}
use Rattle.cells.specs.declared.event.CellEvent.{CellEvent}
use Rattle.trace.specs.declared.jump.Jump.{Jump}

-- from a jump's slot to the slot at which the run continues
abbrev pub taken_jump : (from to : ℕ) → Option Jump
taken_jump from to = if to == from + 1 then None else Some (record { from = from; to = to })

-- the jump that an instruction takes if the run continues at slot `to`
abbrev pub jump_by : Insn → (from to : ℕ) → Option Jump
jump_by (Ja distance) from to = taken_jump from to
jump_by (JumpIf bits condition left right offset) from to = taken_jump from to
jump_by i from to = None

-- the jump that the step from one state to another takes, if it takes one
abbrev pub jump_between : ShapedProgram → State → State → Option Jump
jump_between p s t = at p.code s.slot >>= λ i. jump_by i s.slot t.slot

-- the last jump that is taken in a run that ends; EXIT, its last step, takes none
unfoldable pub last_jump_of : (p : ShapedProgram) (s : State) (events : List CellEvent)
    (choice count : ℕ) → Ends p s events choice count → Option Jump
last_jump_of p s events choice count (last step is_count) = None
last_jump_of p s events choice count (more {t = t} step rest) =
    option_or (last_jump_of p t events choice count rest) (jump_between p s t)
last_jump_of p s events choice count (operated {next = next} {e = e} {es = es} step rest) =
    option_or (last_jump_of p (next e.reply) es choice count rest)
    (jump_between p s (next e.reply))
