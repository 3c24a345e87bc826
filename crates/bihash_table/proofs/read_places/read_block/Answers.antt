use Rattle.std.proofs.Common.{refl, ◌∙◌, arith}
use Rattle.std.proofs.lemmas.List.{length-set}
use Rattle.bihash_words.specs.Sizes.{sizes_of}
use Rattle.bihash_table.proofs.Snapshots.{no_places, more_places, all_places}
use Rattle.bihash_table.proofs.OpenReadLemmas.{may_still, word_notes}
use Rattle.bihash_table.proofs.read_places.read_block.Goals as goal

pub loop-place-init : goal.loop-place-init
loop-place-init g c = record {
  sized = refl;
  read = no_places g.S.Shape _ _;
}

pub read_place-requires : goal.read_place-requires
read_place-requires g c =
    let h = c.requires.read in
    let count = c.requires.sized.count h.extent (word_notes (sizes_of g.S.Shape) _ _ _ h.block) in
    let low = c.loop-place-test.true in may_still c.loop-place.invariant.read h (omega arith)

pub loop-place-preserved : goal.loop-place-preserved
loop-place-preserved g c = record {
  sized = length-set c.loop-place.out c.loop-place.place c.read_place.result ∙ c.loop-place.invariant.sized;
  read = more_places g.S.Shape c.loop-place.out c.loop-place.place c.read_place.result _ _ _
      (let low = c.loop-place-test.true in let sized = c.loop-place.invariant.sized in omega arith)
      c.loop-place.invariant.read c.read_place.ensures;
}

pub returns-clause-read : goal.returns-clause-read
returns-clause-read g c =
    let h = c.requires.read in
    let sized = c.loop-place.invariant.sized in
    let past = c.loop-place-test.false in
    all_places g.S.Shape c.loop-place.out c.loop-place.place _ _ _ h.extent h.block
    (sized ∙ c.requires.sized.count h.extent (word_notes (sizes_of g.S.Shape) _ _ _ h.block)) (omega arith) c.loop-place.invariant.read
