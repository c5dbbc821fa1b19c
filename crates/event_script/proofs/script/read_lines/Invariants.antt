use Rattle.std.proofs.Common.{◌≡◌, ◌+◌, ◌++◌, map, length}
use Rattle.std.specs.List.{filter_map, position_from}
use Rattle.event_script.specs.Script as specs
use Rattle.event_script.proofs.script.read_lines.Given as goal

-- the first malformed line of all is that of the lines that are left; the events so far, followed
-- by those of the lines that are left, are all
abbrev pub invariant-loop-rest : goal.invariant-loop-rest
invariant-loop-rest l = record {
  first :
      position_from specs.is_malformed 1 (map (λ line. line.now) l.lines)
      ≡ position_from specs.is_malformed l.number (map (λ line. line.now) l.rest);
  events :
      filter_map specs.line_event (map (λ line. line.now) l.lines)
      ≡ l.events.items ++ filter_map specs.line_event (map (λ line. line.now) l.rest);
  lines : l.number + length l.rest ≡ length l.lines + 1;
}

abbrev pub decreases-loop-rest : goal.decreases-loop-rest
decreases-loop-rest l = length l.rest
