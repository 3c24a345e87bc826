use Rattle.std.proofs.Common.{refl}
use Rattle.bihash_words.specs.Sizes.{sizes_of}
use Rattle.bihash_table.proofs.RowWordLemmas.{renewed_counted}
use Rattle.bihash_table.proofs.WholeCounts.{idle_then, stays_whole, strangers_left, was_whole}
use Rattle.bihash_table.proofs.shared_table.Sessions.renew.Goals as goal

pub returns-then-load_count-numbers-clause-refused : goal.returns-then-load_count-numbers-clause-refused
returns-then-load_count-numbers-clause-refused g c =
    let left = strangers_left (sizes_of g.S.Shape) c.args.caller.seat _ _ _ c.load_count.ensures c.numbers.ensures.count
    c.if-load_count-numbers.true in (refl, left.0, left.1)

pub renew_table-requires : goal.renew_table-requires
renew_table-requires g c =
    idle_then (sizes_of g.S.Shape) c.args.caller.seat _ _ _ c.load_count.ensures c.numbers.ensures.count c.if-load_count-numbers.false c.requires

pub returns-in-Ok-clause-whole : goal.returns-in-Ok-clause-whole
returns-in-Ok-clause-whole g c =
    was_whole (sizes_of g.S.Shape) c.args.caller.seat _ _ _ c.load_count.ensures c.numbers.ensures.count c.if-load_count-numbers.false

pub returns-in-Err-clause-refused : goal.returns-in-Err-clause-refused
returns-in-Err-clause-refused g c =
    let stays = stays_whole (sizes_of g.S.Shape) c.args.caller.seat _ _ _ c.load_count.ensures c.numbers.ensures.count
    c.if-load_count-numbers.false _ c.renew_table.ensures.noted in (refl, stays.0, stays.1)

pub returns-in-Ok-clause-renewed : goal.returns-in-Ok-clause-renewed
returns-in-Ok-clause-renewed g c =
    renewed_counted (sizes_of g.S.Shape) c.args.caller.seat _ c.load_count.result _ c.load_count.ensures.view c.in-Ok.ensures.renewed
