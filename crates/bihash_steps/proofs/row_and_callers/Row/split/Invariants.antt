use Rattle.bihash_steps.proofs.row_and_callers.Row.split.Given as goal

abbrev pub ghosts-cut : goal.ghosts-cut
ghosts-cut g a = record { kept = a.kept }
