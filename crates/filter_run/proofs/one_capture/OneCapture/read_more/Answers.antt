use Rattle.std.proofs.Common.{◌∙◌, ◌+◌, ◌≤◌, None, ap, arith, refl, subst, sym, true}
use Rattle.racl_io.specs.Tellings.{told_alone}
use Rattle.racl_io.specs.declared.fault.Fault.{Fault}
use Rattle.capture_stream.specs.declared.arrivals.FaultAt.{FaultAt}
use Rattle.filter_run.specs.OneCapture.{HasFailedBehind}
use Rattle.filter_run.specs.Starts.{most_at}
use Rattle.filter_run.proofs.CaptureLemmas.{behind_read, given_all, given_large, given_long, given_not_out, given_on, given_packets, given_unheld, given_missed}
use Rattle.filter_run.proofs.one_capture.OneCapture.read_more.Goals as goal

pub returns-then-self-most : goal.returns-then-self-most
returns-then-self-most g c = λ begun batches is.
    let many = c.if-self-most.true in
    let most = c.most_of-most.ensures in
    subst (λ (f : FaultAt). HasFailedBehind g.R.Source.bytes g.R.Source.failures begun batches f c.args.self.now) (sym c.at.ensures)
    (given_large g.R.Source.bytes g.R.Source.failures begun batches c.args.self.now is (omega arith))

pub is_cut-requires : goal.is_cut-requires
is_cut-requires g c = given_packets g.R.Source.bytes g.R.Source.failures c.requires.begun c.requires.batches c.args.self.now c.requires.stand

pub returns-in-Ok-read_out : goal.returns-in-Ok-read_out
returns-in-Ok-read_out g c = λ begun batches is.
    let old = c.args.self.now in
    let new = behind_read old c.read_out.new.reader old.parting in
    let within = c.if-self-most.false in
    let most = c.most_of-most.ensures in
    let few : old.read ≤ most_at old.input = omega arith in
    let out = c.in-Ok-read_out.ensures in
    subst (λ (f : FaultAt). HasFailedBehind g.R.Source.bytes g.R.Source.failures begun batches f new)
    (sym c.at-in-Ok-read_out.ensures)
    (subst (λ (f : Fault). HasFailedBehind g.R.Source.bytes g.R.Source.failures begun batches (record { fault = f; interface = None }) new) (sym c.in-Err.ensures.1)
    (given_long g.R.Source.bytes g.R.Source.failures begun batches old is new refl c.if-self.false c.in-Err.ensures.0 few out.far out.out out.failures))

pub returns-in-Err-read_out : goal.returns-in-Err-read_out
returns-in-Err-read_out g c = λ begun batches is.
    let old = c.args.self.now in
    let new = behind_read old c.read_out.new.reader old.parting in
    let within = c.if-self-most.false in
    let most = c.most_of-most.ensures in
    let few : old.read ≤ most_at old.input = omega arith in
    let out = c.in-Err-read_out.ensures in
    subst (λ (f : FaultAt). HasFailedBehind g.R.Source.bytes g.R.Source.failures begun batches f new) (sym c.at-in-Err-read_out.ensures)
    (given_not_out g.R.Source.bytes g.R.Source.failures begun batches old is new refl c.if-self.false c.in-Err.ensures.0 few out.far c.in-Err-read_out.earlier out.out out.failures)

pub returns-in-Err-read_next : goal.returns-in-Err-read_next
returns-in-Err-read_next g c = λ begun batches is.
    let old = c.args.self.now in
    let new = behind_read old c.read_next.new.reader c.read_next.new.parting in
    let within = c.if-self-most.false in
    let most = c.most_of-most.ensures in
    let size = c.within-size.ensures.bytes in
    let fits : old.read + c.within-size.result.bytes ≤ most_at old.input + 1 = omega arith in
    subst (λ (f : FaultAt). HasFailedBehind g.R.Source.bytes g.R.Source.failures begun batches f new) (sym c.at-in-Err-read_next.ensures)
    (given_missed g.R.Source.bytes g.R.Source.failures begun batches old is new c.in-Ok.truncated c.within-size.result.bytes c.in-Err-read_next.fault refl c.if-self.false c.in-Ok.ensures
    fits old.input refl c.in-Err-read_next.ensures.got c.in-Err-read_next.ensures.failures)

pub returns-in-Ok-ended : goal.returns-in-Ok-ended
returns-in-Ok-ended g c = λ begun batches is.
    let old = c.args.self.now in
    let new = behind_read old c.read_next.new.reader c.read_next.new.parting in
    let within = c.if-self-most.false in
    let most = c.most_of-most.ensures in
    let size = c.within-size.ensures.bytes in
    let few : old.read ≤ most_at old.input = omega arith in
    let fits : old.read + c.within-size.result.bytes ≤ most_at old.input + 1 = omega arith in
    let got = c.in-Ok-read_next.ensures.got in
    given_all g.R.Source.bytes g.R.Source.failures begun batches old is new c.in-Ok-read_next.n c.within-size.result.bytes refl got c.in-Ok-read_next.ensures.failures fits
    c.in-Ok.truncated _ c.if-n-eq0.true c.if-self.false few c.in-Ok.ensures
    (c.in-Ok-ended.ensures ∙ ap (λ packets. told_alone packets c.in-Ok.truncated) got.longer.packets)

pub returns-in-Err-ended : goal.returns-in-Err-ended
returns-in-Err-ended g c = λ begun batches is.
    let old = c.args.self.now in
    let new = behind_read old c.read_next.new.reader c.read_next.new.parting in
    let within = c.if-self-most.false in
    let most = c.most_of-most.ensures in
    let size = c.within-size.ensures.bytes in
    let fits : old.read + c.within-size.result.bytes ≤ most_at old.input + 1 = omega arith in
    subst (λ (f : FaultAt). HasFailedBehind g.R.Source.bytes g.R.Source.failures begun batches f new) (sym c.at-in-Err-ended.ensures)
    (given_unheld g.R.Source.bytes g.R.Source.failures begun batches old is new c.in-Ok-read_next.n c.within-size.result.bytes refl c.in-Ok-read_next.ensures.got
    c.in-Ok-read_next.ensures.failures fits)

pub returns : goal.returns
returns g c =
    let old = c.args.self.now in
    let n = c.in-Ok-read_next.n in
    let new = record (behind_read old c.read_next.new.reader c.read_next.new.parting) { size = c.behind-self.result; read = old.read + n; waits = true } in
    let within = c.if-self-most.false in
    let most = c.most_of-most.ensures in
    let size = c.within-size.ensures.bytes in
    let fits : old.read + c.within-size.result.bytes ≤ most_at old.input + 1 = omega arith in (
      refl,
      λ begun batches is. given_on g.R.Source.bytes g.R.Source.failures begun batches old is new n c.within-size.result.bytes refl c.in-Ok-read_next.ensures.got
          c.in-Ok-read_next.ensures.failures fits c.if-n-eq0.false refl refl refl,
    )
