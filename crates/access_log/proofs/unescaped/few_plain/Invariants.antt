use Rattle.access_log.specs.Plain.{ArePlainBetween}
use Rattle.access_log.proofs.unescaped.few_plain.Given as goal

abbrev pub invariant-loop-byte : goal.invariant-loop-byte
invariant-loop-byte l = ArePlainBetween l.text 0 l.byte-index
