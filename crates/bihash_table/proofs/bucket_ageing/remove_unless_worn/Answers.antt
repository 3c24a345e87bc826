use Rattle.std.proofs.Common.{refl, Some}
use Rattle.bihash_words.specs.Sizes.{sizes_of}
use Rattle.bihash_rule.specs.Histories.{bounds_of}
use Rattle.bihash_table.proofs.Decisions.{worn_step}
use Rattle.bihash_table.proofs.SeenBuckets.{seen_as}
use Rattle.bihash_table.proofs.Tries.{value_seen}
use Rattle.bihash_table.proofs.Versions.{unworn, worn}
use Rattle.bihash_table.proofs.bucket_ageing.remove_unless_worn.Goals as goal

pub answer_try-requires : goal.answer_try-requires
answer_try-requires g c =
    let z = sizes_of g.S.Shape in
    let h = c.requires in record {
      own = h.own;
      seen = seen_as z _ _ _ (value_seen z _ _ _ _ (Some c.args.pair) (Some c.args.pair.1) refl h.seen) (λ told m pairs. (
        m,
        worn_step (bounds_of z) m _ _ _ _ (told m pairs) (λ e. let f : ⊥ = cc in f)
            (worn z _ _ _ h.seen.seen c.is_worn.result c.is_worn.ensures c.if-is_worn.true),
      ));
      reads = refl;
      paged = λ log2 left e. absurd cc;
      roomy = λ e. let f : ⊥ = cc in f;
    }

pub remove_and_shrink-requires : goal.remove_and_shrink-requires
remove_and_shrink-requires g c = record {
  own = c.requires.own;
  seen = c.requires.seen;
  unworn = unworn (sizes_of g.S.Shape) _ _ _ c.requires.seen.seen c.is_worn.result c.is_worn.ensures c.if-is_worn.false;
  wanted = λ e. let f : ⊥ = cc in f;
  storable = tt;
}
