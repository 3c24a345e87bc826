use Rattle.std.proofs.Common.{◌<◌, ◌*◌, ◌+◌, arith, subst}
use Rattle.bihash_words.specs.Sizes.{sizes_of}
use Rattle.bihash_rule.specs.Blocks.{places}
use Rattle.bihash_rule.specs.declared.view.HeldBlock.{HeldBlock}
use Rattle.bihash_table.proofs.Copies.{next_word, placed, same_block, stored_inside, stored_more, stored_none}
use Rattle.bihash_table.proofs.write_places.write_place.Goals as goal

pub loop-i-init : goal.loop-i-init
loop-i-init g c = record {
  stored = λ h has. stored_none (sizes_of g.S.Shape) c.args.seat.now c.args.page h (g.S.Shape.words_of c.args.key.now)
      (c.args.place * (c.WORDS.result + 1)) has;
  counted = λ none. absurd (omega arith);
}

pub store_held-requires-clause-word : goal.store_held-requires-clause-word
store_held-requires-clause-word g c = next_word (sizes_of g.S.Shape) c.args.seat.now c.loop-i.seat c.args.page c.args.place
    c.WORDS.result c.loop-i.i c.loop-i.i c.requires.block (g.S.Shape.words_of c.args.key.now) c.requires.has
    (let room = c.requires.inside in omega arith) c.WORDS.ensures (omega arith)
    (c.loop-i.invariant.stored c.requires.block c.requires.has)

pub loop-i-preserved : goal.loop-i-preserved
loop-i-preserved g c = record {
  stored = λ h has. stored_more c.args.seat.now c.loop-i.seat c.store_held.new.caller h
      (g.S.Shape.words_of c.args.key.now) (c.args.place * (c.WORDS.result + 1)) c.loop-i.i c.word.result
      (c.loop-i.invariant.stored h has)
      (stored_inside (sizes_of g.S.Shape) c.args.seat.now.view c.args.page c.args.place c.WORDS.result c.loop-i.i
      c.requires.block h c.requires.has has (let room = c.requires.inside in omega arith) c.WORDS.ensures (omega arith))
      c.word.ensures.word c.store_held.ensures;
  counted = λ _. c.word.ensures.counted;
}

pub store_held-requires-2-clause-word : goal.store_held-requires-2-clause-word
store_held-requires-2-clause-word g c = next_word (sizes_of g.S.Shape) c.args.seat.now c.loop-i.seat c.args.page c.args.place
    c.WORDS.result c.loop-i.i c.WORDS-2.result c.requires.block (g.S.Shape.words_of c.args.key.now) c.requires.has
    (let room = c.requires.inside in omega arith) c.WORDS.ensures (omega arith)
    (c.loop-i.invariant.stored c.requires.block c.requires.has)

pub returns : goal.returns
returns g c = λ h has.
    let room = c.requires.inside in
    let there : c.args.place < places c.args.page h.log2 =
    subst (λ (b : HeldBlock). c.args.place < places c.args.page b.log2) (same_block c.requires.has has) (omega arith) in
    placed g.S.Shape c.args.seat.now c.loop-i.seat c.store_held-2.new.caller c.args.page c.args.place
    c.WORDS.result c.WORDS-2.result c.loop-i.i c.args.value h c.args.key.now has there c.WORDS.ensures
    c.WORDS-2.ensures (λ taken. let all = c.written_word_count-i-end.ensures.all taken in omega arith)
    (λ taken. let all = c.written_word_count-i-end.ensures.all taken in c.loop-i.invariant.counted (omega arith))
    (c.loop-i.invariant.stored h has)
    c.store_held-2.ensures
