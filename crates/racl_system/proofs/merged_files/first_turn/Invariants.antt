use Rattle.racl_system.proofs.MergeLemmas.{IsNextBefore}
use Rattle.racl_system.specs.inner.Merges.{IsLeast}
use Rattle.racl_system.proofs.merged_files.first_turn.Given as goal

-- It is the first of those of the files so far.
abbrev pub invariant-files : goal.invariant-files
invariant-files g l = IsLeast (IsNextBefore l.files l.but l.place) l.first
