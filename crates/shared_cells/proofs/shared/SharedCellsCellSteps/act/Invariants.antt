use Rattle.shared_cells.proofs.shared.SharedCellsCellSteps.act.Given as goal

abbrev pub ghosts-act_as : goal.ghosts-act_as
ghosts-act_as a = record { cell = a.cell.number; op = a.op }
