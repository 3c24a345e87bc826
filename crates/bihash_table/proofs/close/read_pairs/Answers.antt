use Rattle.std.proofs.Common.{◌≡◌, ◌+◌, ◌∙◌, ℕ, List, arith, sym, subst}
use Rattle.bihash_words.specs.Sizes.{sizes_of}
use Rattle.bihash_rule.specs.declared.view.Extent.{Extent}
use Rattle.bihash_table.specs.inner.PairLists.{AddsPlaces}
use Rattle.bihash_table.specs.inner.RowWords.{OfBlockIn}
use Rattle.bihash_table.proofs.BlockPairs.{added_none, added_free, added_pair, added_not, added_all}
use Rattle.bihash_table.proofs.close.read_pairs.Goals as goal

pub place_count-place-end-requires : goal.place_count-place-end-requires
place_count-place-end-requires g c = record { sound = c.is_sound.ensures; extent = c.requires.extent; names = c.requires.lies.names }

pub loop-place-init : goal.loop-place-init
loop-place-init g c = added_none g.S.Shape c.args.words.now c.args.word _

pub pair_at-pair-requires : goal.pair_at-pair-requires
pair_at-pair-requires g c =
    let h = c.requires in
    let low = c.loop-place-test.true in record {
      wide = h.wide;
      extent = h.extent;
      block = h.block;
      lies = h.lies;
      inside = λ e names. let count = c.place_count-place-end.ensures.count e names in omega arith;
    }

pub returns : goal.returns
returns g c =
    let low = c.loop-place.auto.place-end in
    let end = c.loop-place-test.false in
    let all : c.loop-place.place ≡ c.place_count-place-end.result = omega arith in
    added_all g.S.Shape c.args.words.now c.args.word c.loop-place.place _ _
    (λ e names. all ∙ c.place_count-place-end.ensures.count e names) c.loop-place.invariant

pub loop-place-preserved-then-pair : goal.loop-place-preserved-then-pair
loop-place-preserved-then-pair g c = added_free g.S.Shape c.args.words.now c.args.word c.loop-place.place _ _ c.pair_at-pair.result
    c.loop-place.invariant c.pair_at-pair.ensures c.if-pair.true

pub returns-in_err-push : goal.returns-in_err-push
returns-in_err-push g c =
    added_not g.S.Shape c.args.words.now c.args.word _ _ c.from_residual.result c.from_residual.ensures.1

pub loop-place-preserved : goal.loop-place-preserved
loop-place-preserved g c =
    subst (λ (ps : List (g.row.S-Key.Denot × ℕ)). OfBlockIn (sizes_of g.S.Shape) c.args.words.now c.args.word (λ (e : Extent) (block : List ℕ).
    AddsPlaces g.S.Shape (c.loop-place.place + 1) e block c.args.pairs.now.items ps)) (sym c.in_ok-push.ensures.items)
    (added_pair g.S.Shape c.args.words.now c.args.word c.loop-place.place _ _ c.pair_at-pair.result c.loop-place.invariant
    c.pair_at-pair.ensures c.place_count-place-end.result c.place_count-place-end.ensures.count c.loop-place-test.true c.if-pair.false)
