-- The slots of a program, and the jump of a step.
use Rattle.std.proofs.Common.{◌≡◌, ℕ, zero, suc, ◌<◌, [], ◌∷◌, length}
use Rattle.std.proofs.Common.{ap, ◌∙◌, refl, arith}
use Rattle.std.proofs.Common.{Option, Some, IsSome}
use Rattle.std.specs.Option.{option_or}
use Rattle.std.proofs.lemmas.Bool.{false≢true}
use Rattle.bpf_insn.specs.declared.insn.Insn.{Insn}
use Rattle.bpf_insn.specs.Program.{Program, at}
use Rattle.bpf_semantics.specs.Program.{ShapedProgram, shaped}
use Rattle.cells.specs.Arrays.{AppShape}
use Rattle.bpf_semantics.specs.State.{State}
use Rattle.trace.specs.Jumps.{jump_by, jump_between}
use Rattle.trace.specs.declared.jump.Jump.{Jump}

pub place_within : (p : Program) (s : ℕ) → IsSome (at p s) → s < length p
place_within [] s found = absurd (false≢true found)
place_within (i ∷ p) zero found = omega arith
place_within (i ∷ p) (suc s) found =
    let less = place_within p s found in omega (arith, less)

-- the last jump after an instruction at this slot is that after the step
pub jump_is : (p : ShapedProgram) (s t : State) (slot : ℕ) (i : Insn) (jump later : Option Jump)
    → slot ≡ s.slot → at p.code slot ≡ Some i → later ≡ option_or (jump_by i slot t.slot) jump
    → later ≡ option_or (jump_between p s t) jump
jump_is p s t slot i jump later of_slot found latest =
    let there : at p.code s.slot ≡ Some i = rw of_slot at found in
    let same : jump_by i slot t.slot ≡ jump_between p s t = rw (of_slot, there) refl in
    latest ∙ ap (λ (j : Option Jump). option_or j jump) same

-- the program, put together from its parts
pub whole : (p : ShapedProgram) (slots code : Program) (shape : AppShape)
    → slots ≡ code → code ≡ p.code → shape ≡ p.shape → shaped slots shape ≡ p
whole p slots code shape e f g = rw (e, f, g) refl
