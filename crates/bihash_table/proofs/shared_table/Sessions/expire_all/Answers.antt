use Rattle.std.proofs.Common.{sym, ◌∙◌}
use Rattle.bihash_words.specs.Sizes.{sizes_of}
use Rattle.bihash_table.proofs.LooksInTurn.{removals_end, removals_more, removals_none}
use Rattle.bihash_table.proofs.shared_table.Sessions.expire_all.Goals as goal

pub loop-init : goal.loop-init
loop-init g c = record { next = tt; finite = tt; removals = removals_none (sizes_of g.S.Shape) _ _ _ c.requires.idle.free }

pub returns-then-not-has_removed-clause-swept : goal.returns-then-not-has_removed-clause-swept
returns-then-not-has_removed-clause-swept g c = removals_end (sizes_of g.S.Shape) _ _ _ _ _ _ c.loop.invariant.removals _ c.expire-found.ensures
    (sym c.has_removed.ensures ∙ c.if-not-has_removed.true)

pub loop-preserved : goal.loop-preserved
loop-preserved g c = record {
  next = tt;
  finite = tt;
  removals = removals_more (sizes_of g.S.Shape) _ _ _ _ _ _ c.loop.invariant.removals _ c.expire-found.ensures
      (sym c.has_removed.ensures ∙ c.if-not-has_removed.false) c.requires.inside;
}
