use Rattle.std.proofs.Common.{arith, subst, sym}
use Rattle.capture_stream.specs.declared.arrivals.FaultAt.{FaultAt}
use Rattle.filter_run.specs.OneCapture.{HasFailedBehind}
use Rattle.filter_run.specs.inner.Reads.{HasReadMore}
use Rattle.filter_run.proofs.CaptureLemmas.{given_bound, given_unparted, parted_gave, parted_whole}
use Rattle.filter_run.proofs.one_capture.OneCaptureCaptureSource.next.Goals as goal

pub part-requires-clause-found : goal.part-requires-clause-found
part-requires-clause-found g c =
    let more = subst (HasReadMore g.R.Source.bytes g.R.Source.failures c.args.self.now c.read_more.new.self) c.in-Ok-None.field-0-is c.in-Ok-None.ensures in
    (more.1 c.requires.begun c.requires.batches c.requires.stand).found

pub part-requires-clause-few : goal.part-requires-clause-few
part-requires-clause-few g c =
    let more = subst (HasReadMore g.R.Source.bytes g.R.Source.failures c.args.self.now c.read_more.new.self) c.in-Ok-None.field-0-is c.in-Ok-None.ensures in
    let bound = given_bound g.R.Source.bytes g.R.Source.failures c.requires.begun c.requires.batches c.read_more.new.self
    (more.1 c.requires.begun c.requires.batches c.requires.stand) in
    omega arith

pub returns-in-Ok : goal.returns-in-Ok
returns-in-Ok g c =
    let mid = c.read_more.new.self in
    let more = subst (HasReadMore g.R.Source.bytes g.R.Source.failures c.args.self.now mid) c.in-Ok-None.field-0-is c.in-Ok-None.ensures in
    let last = c.part.new.self in
    let batch = c.in-Ok.batch in
    let parted = c.in-Ok.ensures.parted in (
      parted_whole g.R.Source.bytes g.R.Source.failures c.requires.begun c.requires.batches mid (more.1 c.requires.begun c.requires.batches c.requires.stand) last batch parted,
      λ begun batches is. parted_gave g.R.Source.bytes g.R.Source.failures begun batches mid (more.1 begun batches is) last batch parted more.0,
    )

pub returns-in-Err-part : goal.returns-in-Err-part
returns-in-Err-part g c = λ begun batches is.
    let mid = c.read_more.new.self in
    let more = subst (HasReadMore g.R.Source.bytes g.R.Source.failures c.args.self.now mid) c.in-Ok-None.field-0-is c.in-Ok-None.ensures in
    subst (λ (f : FaultAt). HasFailedBehind g.R.Source.bytes g.R.Source.failures begun batches f c.part.new.self) (sym c.at.ensures)
    (given_unparted g.R.Source.bytes g.R.Source.failures begun batches mid (more.1 begun batches is) c.part.new.self c.in-Err-part.ensures.same)
