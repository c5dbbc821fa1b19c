-- What the benchmark's verifications promise of a program's bytes.
use Rattle.std.specs.Prelude.{ℕ, List, []}
use Rattle.acceptance.specs.Program.{IsProgramOf}
use Rattle.bpf_insn.specs.Program.{Program}
use Rattle.bpf_semantics.specs.Program.{shaped}
use Rattle.cells.specs.Arrays.{AppShape}

-- every program is checked for an app of 64 releases, and no array
abbrev pub bench_shape : AppShape
bench_shape = record { releases = 64; arrays = [] }

-- they are an accepted program
abbrev pub AreAccepted : List ℕ → Type 0
AreAccepted bytes = (code : Program) × IsProgramOf bytes (shaped code bench_shape)
