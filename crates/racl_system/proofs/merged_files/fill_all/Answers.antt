use Rattle.std.proofs.Common.{arith}
use Rattle.std.proofs.lemmas.List.Elements.{AllWithin-more_set}
use Rattle.racl_system.specs.inner.MergedFiles.{IsFilled}
use Rattle.racl_system.proofs.merged_files.fill_all.Goals as goal

pub loop-place-preserved : goal.loop-place-preserved
loop-place-preserved g c = AllWithin-more_set c.loop-place.files c.loop-place.place c.fill.new.self (omega (arith, c.loop-place.auto.files)) IsFilled c.loop-place.invariant (c.fill.ensures c.if-not-fill.false)
