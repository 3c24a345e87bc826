-- The new row begins with what these words have.
use Rattle.bihash_words.specs.Sizes.{sizes_of}
use Rattle.bihash_rule.specs.Words.{used_mark_of}
use Rattle.bihash_steps.proofs.RenewedRows.{openings_after}
use Rattle.bihash_steps.proofs.renewed_row.reopen_row.Given as goal

abbrev pub ghosts-renewed_mark : goal.ghosts-renewed_mark
ghosts-renewed_mark g a = record { openings = openings_after (sizes_of g.S.Shape) a.caller.now.view (used_mark_of a._words.now) }
