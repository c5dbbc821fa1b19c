use Rattle.cli_logs.proofs.log_part.end_of_lines.Given as goal

abbrev pub decreases-loop-end : goal.decreases-loop-end
decreases-loop-end g l = l.end
