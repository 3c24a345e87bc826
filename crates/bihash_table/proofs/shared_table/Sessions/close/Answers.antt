use Rattle.std.proofs.Common.{◌≡◌, refl, ap, subst}
use Rattle.bihash_words.specs.Sizes.{sizes_of}
use Rattle.bihash_rule.specs.Words.{buckets}
use Rattle.bihash_steps.specs.Seats.{CallerState}
use Rattle.bihash_rule.specs.declared.view.Known.{Known}
use Rattle.bihash_table.specs.inner.PairLists.{ListsBuckets}
use Rattle.bihash_table.proofs.PairListLemmas.{sorted_pairs}
use Rattle.bihash_table.proofs.WholeCounts.{idle_then, stays_whole, strangers_left, was_whole}
use Rattle.bihash_table.proofs.shared_table.Sessions.close.Goals as goal

pub returns-then-load_count-numbers-clause-refused : goal.returns-then-load_count-numbers-clause-refused
returns-then-load_count-numbers-clause-refused g c =
    let left = strangers_left (sizes_of g.S.Shape) c.args.caller.seat _ _ _ c.load_count.ensures c.numbers.ensures.count
    c.if-load_count-numbers.true in (refl, left.0, left.1)

pub read_all-requires : goal.read_all-requires
read_all-requires g c =
    idle_then (sizes_of g.S.Shape) c.args.caller.seat _ _ _ c.load_count.ensures c.numbers.ensures.count c.if-load_count-numbers.false c.requires

pub returns-in-Ok-clause-whole : goal.returns-in-Ok-clause-whole
returns-in-Ok-clause-whole g c =
    was_whole (sizes_of g.S.Shape) c.args.caller.seat _ _ _ c.load_count.ensures c.numbers.ensures.count c.if-load_count-numbers.false

pub returns-in-Err-clause-refused : goal.returns-in-Err-clause-refused
returns-in-Err-clause-refused g c =
    let stays = stays_whole (sizes_of g.S.Shape) c.args.caller.seat _ _ _ c.load_count.ensures c.numbers.ensures.count
    c.if-load_count-numbers.false _ c.read_all.ensures.noted in (refl, stays.0, stays.1)

pub returns-in-Ok-clause-pairs : goal.returns-in-Ok-clause-pairs
returns-in-Ok-clause-pairs g c =
    let known : c.load_count.new.caller.view.known ≡ c.args.caller.seat.view.known =
    ap (λ (s : CallerState). s.view.known) c.load_count.ensures.view in
    sorted_pairs g.S.Shape c.args.caller.seat.view.known c.in-Ok.pairs.items c.sort_closed_pairs.new.pairs.items
    (subst (λ (k : Known). ListsBuckets g.S.Shape k (buckets (sizes_of g.S.Shape)) c.in-Ok.pairs.items) known c.in-Ok.ensures.pairs)
    c.sort_closed_pairs.ensures.same (c.sort_closed_pairs.ensures.sorted c.is_sound.ensures.some_word)
