use Rattle.std.proofs.Common.{◌+◌, ◌*◌, ◌<◌, ℕ, slice_index, ap, arith, subst, sym, ◌∙◌}
use Rattle.bihash_words.specs.Sizes.{sizes_of}
use Rattle.bihash_rule.specs.Blocks.{places}
use Rattle.bihash_rule.specs.declared.view.Extent.{Extent}
use Rattle.bihash_table.proofs.PairReads.{other_word, same_more, free_value, found_value}
use Rattle.bihash_table.proofs.OpenReadLemmas.{may_still, note_extent, note_size, read_nothing, read_then}
use Rattle.bihash_table.proofs.open_bucket_search.value_at.Goals as goal

pub loop-i-init : goal.loop-i-init
loop-i-init g c = read_nothing _ (λ e block j low. absurd (omega arith))

pub load_word-requires-clause-read : goal.load_word-requires-clause-read
load_word-requires-clause-read g c = may_still c.loop-i.invariant c.requires c.requires.inside

pub returns-then-load_word-word : goal.returns-then-load_word-word
returns-then-load_word-word g c = read_then _ _ _ (λ o noted same seen last.
    other_word (sizes_of g.S.Shape) o.extent o.block (g.S.Shape.words_of c.args.hashed.now.key.now) c.args.place c.loop-i.i _ _
    (let low = c.loop-i-test.true in let is = c.WORDS-i-end.ensures in omega arith) seen c.word.ensures.word c.if-load_word-word.true)
    c.loop-i.invariant c.load_word.ensures

pub loop-i-preserved : goal.loop-i-preserved
loop-i-preserved g c = read_then _ _ _ (λ o noted same seen. same_more (sizes_of g.S.Shape) o.extent o.block
    (g.S.Shape.words_of c.args.hashed.now.key.now) c.args.place c.loop-i.i _ _ same seen c.word.ensures.word c.if-load_word-word.false)
    c.loop-i.invariant c.load_word.ensures

pub load_word-value-requires-clause-read : goal.load_word-value-requires-clause-read
load_word-value-requires-clause-read g c = may_still c.loop-i.invariant c.requires c.requires.inside

pub returns-then-value : goal.returns-then-value
returns-then-value g c = read_then _ _ _ (λ o noted same seen last. free_value (sizes_of g.S.Shape) o.extent o.block
    (g.S.Shape.words_of c.args.hashed.now.key.now) c.args.place c.load_word-value.result
    (seen ∙ ap (λ (n : ℕ). slice_index o.block (c.args.place * (g.S.Shape.WORDS + 1) + n)) c.WORDS.ensures) c.if-value.true)
    c.loop-i.invariant c.load_word-value.ensures

pub returns : goal.returns
returns g c =
    let z = sizes_of g.S.Shape in
    let h = c.requires.block in
    let room = c.requires.inside in
    read_then _ _ _ (λ o noted same seen last. found_value z o.extent o.block (g.S.Shape.words_of c.args.hashed.now.key.now) c.args.place
    c.load_word-value.result c.loop-i.i
    (let most = c.loop-i.auto.i-end in let least = c.loop-i-test.false in let is = c.WORDS-i-end.ensures in omega arith)
    (note_size z _ _ _ o h noted)
    (subst (λ (e : Extent). c.args.place < places e.page e.size.log2) (sym (note_extent z _ _ _ o h noted)) (omega arith))
    c.args.hashed.now.counted same
    (seen ∙ ap (λ (n : ℕ). slice_index o.block (c.args.place * (g.S.Shape.WORDS + 1) + n)) c.WORDS.ensures) c.if-value.false last)
    c.loop-i.invariant c.load_word-value.ensures
