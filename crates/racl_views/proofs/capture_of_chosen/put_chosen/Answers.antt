use Rattle.std.proofs.Common.{◌≡◌, ◌∙◌, ◌++◌, [], ap, drop}
use Rattle.std.proofs.KnownBytes.{Appends-trans}
use Rattle.std.proofs.Math.ListN.{drop_of_length-le}
use Rattle.racl_views.specs.inner.ChosenBytes.{chosen_in}
use Rattle.racl_views.proofs.ChosenLemmas.{chosen_end, chosen_none, found_all, more_chosen}
use Rattle.racl_views.proofs.capture_of_chosen.put_chosen.Goals as goal

pub returns-in_default : goal.returns-in_default
returns-in_default g c =
    let (gone, written, so_far) = c.verdicts.invariant.written in
    record {
      whole = (
        gone,
        written,
        found_all gone c.verdicts.batch (chosen_in c.args.chosen c.args.order (drop c.verdicts.verdict-index c.args.verdicts.now) c.verdicts.left.now)
            (c.args.batch.now ++ chosen_in c.args.chosen c.args.order c.args.verdicts.now c.args.records.now)
            (chosen_none c.args.chosen c.args.order (drop c.verdicts.verdict-index c.args.verdicts.now) c.verdicts.left.now c.in_default.ensures.none) so_far,
      );
      steady = c.verdicts.invariant.sound;
      failed = tt;
      fault = tt;
    }

pub verdicts-preserved : goal.verdicts-preserved
verdicts-preserved g c =
    let (gone, written, so_far) = c.verdicts.invariant.written in
    let (facts, is, whole) = c.in-Some.ensures.some in
    let passed = c.in_ok-put_where.ensures in
    let (more, appended, all) = passed.whole in
    record {
      written = (
        gone ++ more,
        Appends-trans (g.W.Sink.bytes c.args.writer.now) (g.W.Sink.bytes c.verdicts.writer) (g.W.Sink.bytes c.put_where.new.writer) gone more written appended,
        more_chosen c.args.chosen c.args.order c.args.verdicts.now c.verdicts.verdict-index _ c.verdicts.left.now c.in-Some.record.now c.in-Some.rest.now gone
            c.verdicts.batch more c.put_where.new.batch (c.args.batch.now ++ chosen_in c.args.chosen c.args.order c.args.verdicts.now c.args.records.now) c.takes.result facts
            c.verdicts-test.true is whole so_far c.takes.ensures all,
      );
      sound = passed.steady ∙ c.verdicts.invariant.sound;
    }

pub returns : goal.returns
returns g c =
    let (gone, written, so_far) = c.verdicts.invariant.written in
    let nothing : chosen_in c.args.chosen c.args.order (drop c.verdicts.verdict-index c.args.verdicts.now) c.verdicts.left.now ≡ [] =
    ap (λ vs. chosen_in c.args.chosen c.args.order vs c.verdicts.left.now) (drop_of_length-le c.args.verdicts.now c.verdicts-test.false)
    ∙ chosen_end c.args.chosen c.args.order c.verdicts.left.now in
    record {
      whole = (
        gone,
        written,
        found_all gone c.verdicts.batch (chosen_in c.args.chosen c.args.order (drop c.verdicts.verdict-index c.args.verdicts.now) c.verdicts.left.now)
            (c.args.batch.now ++ chosen_in c.args.chosen c.args.order c.args.verdicts.now c.args.records.now) nothing so_far,
      );
      steady = c.verdicts.invariant.sound;
      failed = tt;
      fault = tt;
    }
