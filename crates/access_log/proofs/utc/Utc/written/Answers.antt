use Rattle.std.proofs.Common.{List, ℕ, subst, sym}
use Rattle.std.specs.Str.{IsUtf8}
use Rattle.std.proofs.lemmas.Str.{IsUtf8-from_ascii}
use Rattle.access_log.specs.Utc.{utc_text}
use Rattle.access_log.proofs.Escaped.{plain_low, time_stands}
use Rattle.access_log.proofs.utc.Utc.written.Goals as goal

pub unreachable-requires : goal.unreachable-requires
unreachable-requires c =
    let time = c.args.self.now in
    let is_text =
    IsUtf8-from_ascii (utc_text time) (plain_low (utc_text time) (time_stands time)) in
    absurd (c.in-Err.ensures.cases.0 (subst IsUtf8 (sym c.text-bytes.ensures) is_text))
