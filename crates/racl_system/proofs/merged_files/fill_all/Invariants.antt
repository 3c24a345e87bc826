use Rattle.std.specs.List.{AllWithin}
use Rattle.racl_system.specs.inner.MergedFiles.{IsFilled}
use Rattle.racl_system.proofs.merged_files.fill_all.Given as goal

-- The files so far are filled.
abbrev pub invariant-loop-place : goal.invariant-loop-place
invariant-loop-place g l = AllWithin IsFilled l.files 0 l.place
