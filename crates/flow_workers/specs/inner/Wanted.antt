-- Calls that were refused for want of a block, in the records of both families' callers.
use Rattle.flow_filter.specs.OneThread.{Layout}
use Rattle.flow_dealing.specs.Views.{Views}
use Rattle.flow_dealing.specs.Wanted.{HaveWanted}

-- where those of before had wanted the block, so had those of now
abbrev pub KeepWanted : Layout → Views → Views → Type 0
KeepWanted l v w = (HaveWanted l.four v.four → HaveWanted l.four w.four) × (HaveWanted l.six v.six → HaveWanted l.six w.six)
