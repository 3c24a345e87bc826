use Rattle.std.proofs.Common.{refl, ◌∙◌, arith}
use Rattle.std.proofs.lemmas.List.{length-set}
use Rattle.bihash_words.specs.Sizes.{sizes_of}
use Rattle.bihash_table.proofs.Snapshots.{more_words, read_place}
use Rattle.bihash_table.proofs.OpenReadLemmas.{may_still, read_nothing}
use Rattle.bihash_table.proofs.read_places.read_place.Goals as goal

pub loop-i-init : goal.loop-i-init
loop-i-init g c = record {
  wide = refl;
  read = read_nothing _ (λ e block k low. absurd (omega arith));
}

pub load_word-requires-clause-read : goal.load_word-requires-clause-read
load_word-requires-clause-read g c = may_still c.loop-i.invariant.read c.requires c.requires.inside

pub loop-i-preserved : goal.loop-i-preserved
loop-i-preserved g c = record {
  wide = length-set c.loop-i.words c.loop-i.i c.load_word.result ∙ c.loop-i.invariant.wide;
  read = more_words (sizes_of g.S.Shape) c.args.place c.loop-i.words c.loop-i.i c.load_word.result _ _ _
      (let low = c.loop-i-test.true in let end = c.WORDS-i-end.ensures in let few = c.is_sound.ensures.few_words in
      let wide = c.loop-i.invariant.wide in omega arith) c.loop-i.invariant.read c.load_word.ensures;
}

pub load_word-value-requires-clause-read : goal.load_word-value-requires-clause-read
load_word-value-requires-clause-read g c = may_still c.loop-i.invariant.read c.requires c.requires.inside

pub returns : goal.returns
returns g c =
    let h = c.requires in
    let room = h.inside in
    let past = c.loop-i-test.false in
    let end = c.WORDS-i-end.ensures in
    let few = c.is_sound.ensures.few_words in
    let wide = c.loop-i.invariant.wide in
    read_place g.S.Shape g.met.S.Shape.words_of_key _ _ _ _ c.args.place c.loop-i.i _ _ _ c.loop-i.words _ h.extent h.block (omega arith)
    c.WORDS-2.ensures c.WORDS.ensures (omega arith) (omega arith) c.key.ensures c.loop-i.invariant.read c.load_word-value.ensures
