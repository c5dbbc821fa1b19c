use Rattle.std.proofs.Common.{ℕ, ◌^◌, ◌<◌, [], Bool, pos, Some, refl, ap, arith}
use Rattle.std.proofs.lemmas.Bool.{lt-leb, le-leb}
use Rattle.attrs.specs.Attributes.{Attributes}
use Rattle.bpf_insn.specs.declared.reg.Reg.TheVariants.{R2}
use Rattle.bpf_semantics.specs.Run.{Ends, last, more}
use Rattle.bpf_semantics.specs.State.{State, opening, with_register}
use Rattle.cells.specs.Arrays.{AppShape}
use Rattle.bpf_semantics.specs.Program.{ShapedProgram}
use Rattle.bpf_semantics.specs.Outcome.{Outcome, write, branch}
use Rattle.worked_examples.specs.ContextPrograms.{bucket_program}
use Rattle.worked_examples.proofs.ContextReads.{bucket_read}
use Rattle.worked_examples.proofs.context.buckets.Goals as goal

-- the state in which the bucket is compared
abbrev compared : Attributes → State
compared a = record (with_register (with_register (opening a) 2 a.context.bucket) 0 0)
    { slot = 2; count = 2 }

-- the program with a shape
abbrev shaped : AppShape → ShapedProgram
shaped shape = record { code = bucket_program; shape = shape }

from_compared : (a : Attributes) → a.context.bucket < 2 ^ 16 → (shape : AppShape) {choice count : ℕ}
    → Ends (shaped shape) (compared a) [] choice count
    → Ends (shaped shape) (opening a) [] choice count
from_compared a fits shape rest =
    more (ap (write (opening a) 1 R2) (bucket_read a fits)) (more refl rest)

abbrev tested : Attributes → Bool → Outcome
tested a taken = branch (compared a) (pos 1) (Some taken)

pub returns : goal.returns
returns c = record {
  below = λ a h shape. from_compared a (omega arith) shape
      (more (ap (tested a) (lt-leb 100 a.context.bucket h)) (more refl (last refl refl)));
  from_limit = λ a h fits shape. from_compared a (omega arith) shape
      (more (ap (tested a) (le-leb 100 a.context.bucket h)) (last refl refl));
}
