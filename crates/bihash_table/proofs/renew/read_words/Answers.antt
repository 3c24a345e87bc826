use Rattle.std.proofs.Common.{◌≡◌, ◌∙◌, ℕ, ◌+◌, ◌<◌, arith, sym, subst}
use Rattle.bihash_words.specs.Sizes.{sizes_of}
use Rattle.bihash_table.specs.inner.RowWords.{HasLoaded}
use Rattle.bihash_table.proofs.RowWordLemmas.{loaded_none, next_word, loaded_next}
use Rattle.bihash_table.proofs.renew.read_words.Goals as goal

pub loop-at-init : goal.loop-at-init
loop-at-init g c = let z = sizes_of g.S.Shape in let s = c.args.seat.now in
    subst (HasLoaded z s s 0) (sym c.in_ok-words.ensures.items) (loaded_none z s c.requires.bare c.requires.lawful)

pub load_lone-requires-clause-next : goal.load_lone-requires-clause-next
load_lone-requires-clause-next g c = next_word (sizes_of g.S.Shape) c.args.seat.now c.loop-at.seat c.loop-at.at c.loop-at.words.items
    c.loop-at.invariant c.requires.lone (subst (λ (n : ℕ). c.loop-at.at < n) c.layout_word_count-count.ensures c.loop-at-test.true)

pub loop-at-preserved : goal.loop-at-preserved
loop-at-preserved g c = let z = sizes_of g.S.Shape in let s = c.args.seat.now in
    subst (HasLoaded z s c.load_lone.new.caller (c.loop-at.at + 1)) (sym c.in_ok-push.ensures.items)
    (loaded_next z s c.loop-at.seat c.loop-at.at c.loop-at.words.items c.loop-at.invariant c.load_lone.new.caller c.load_lone.result
    c.load_lone.ensures)

pub returns-clause-words : goal.returns-clause-words
returns-clause-words g c = let low = c.loop-at.auto.at-end in let end = c.loop-at-test.false in
    let all : c.loop-at.at ≡ c.layout_word_count-count.result = omega arith in c.loop-at.invariant.all (all ∙ c.layout_word_count-count.ensures)
