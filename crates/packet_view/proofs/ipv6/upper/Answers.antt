use Rattle.std.proofs.Common.{◌-◌, ◌+◌, ◌∙◌, sym, arith}
use Rattle.packet_view.proofs.Walks.{walk_ends, walk_skips, walk_full, walk_last}
use Rattle.packet_view.proofs.ipv6.upper.Goals as goal

pub returns-in-Last : goal.returns-in-Last
returns-in-Last c = walk_ends (8 - c.loop.counter) (8 - (c.loop.counter + 1)) _ _ _ (omega arith) c.in-Last.ensures ∙ c.loop.invariant

pub loop-preserved : goal.loop-preserved
loop-preserved c = walk_skips (8 - c.loop.counter) (8 - (c.loop.counter + 1)) _ _ _ _ (omega arith) c.in-Skipped.ensures ∙ c.loop.invariant

pub returns-then-is_extension : goal.returns-then-is_extension
returns-then-is_extension c = walk_full (8 - c.loop.counter) _ _ (omega arith) (sym c.if-is_extension.ensures) ∙ c.loop.invariant

pub returns : goal.returns
returns c = walk_last (8 - c.loop.counter) _ _ (omega arith) (sym c.if-is_extension.ensures) ∙ c.loop.invariant
