use Rattle.std.proofs.Common.{refl, ◌∙◌}
use Rattle.bihash_words.specs.Sizes.{sizes_of}
use Rattle.bihash_table.proofs.CallChains.{again_answered}
use Rattle.bihash_table.proofs.SameCallers.{own_through, same_through}
use Rattle.bihash_table.proofs.shared_table.Sessions.search.Goals as goal

pub search_again-requires : goal.search_again-requires
search_again-requires g c = record {
  own = own_through c.args.caller.now.seat _ _ c.try_search.ensures.same c.requires.own;
  free = c.in_default.ensures.contended.free;
}

pub returns : goal.returns
returns g c =
    let s = c.args.caller.now.seat in
    let first = c.in_default.ensures in
    let told = c.search_again.ensures in record {
      same = same_through s c.try_search.new.caller.seat c.search_again.new.caller.seat _ first.same told.same;
      answered = again_answered (sizes_of g.S.Shape) _ _ _ _ _ refl first.contended told.answered;
      no_lock = told.no_lock ∙ first.no_lock;
      lawful = told.lawful;
    }
