-- A flow's worker is that of its bucket in tables of both sizes.
use Rattle.std.proofs.Common.{refl, subst, sym}
use Rattle.bihash_words.specs.contracts.flow_shapes.ShapeV4Shape.TheImpl as four
use Rattle.bihash_words.specs.contracts.flow_shapes.ShapeV6Shape.TheImpl as six
use Rattle.bihash_words.specs.contracts.large_flow_shapes.LargeV4Shape.TheImpl as large_four
use Rattle.bihash_words.specs.contracts.large_flow_shapes.LargeV6Shape.TheImpl as large_six
use Rattle.flow_filter.specs.OneThread.{layout_of}
use Rattle.racl_c.specs.FlowHashes.{IsOfBucket}
use Rattle.racl_c.proofs.WorkerLemmas.{of_bucket}
use Rattle.racl_c.proofs.flow_hash.racl_worker_of.Goals as goal

pub returns-clause-standard : goal.returns-clause-standard
returns-clause-standard c =
    let l = layout_of four.ghosts six.ghosts in
    subst (IsOfBucket l c.args.flow c.args.workers) (sym c.worker_of_bucket.ensures) (of_bucket l c.args.flow c.args.workers 0 0 refl refl)

pub returns-clause-large : goal.returns-clause-large
returns-clause-large c =
    let l = layout_of large_four.ghosts large_six.ghosts in
    subst (IsOfBucket l c.args.flow c.args.workers) (sym c.worker_of_bucket.ensures) (of_bucket l c.args.flow c.args.workers 4 6 refl refl)
