use Rattle.std.proofs.Common.{subst}
use Rattle.std.specs.Io.KnownBytes.{Appends}
use Rattle.racl_views.specs.inner.Batches.{HasPassed}
use Rattle.racl_views.proofs.BatchLemmas.{passed_behind}
use Rattle.racl_views.proofs.byte_batch.put_in_batch.Goals as goal

pub returns : goal.returns
returns g c =
    let bytes = g.W.Sink.bytes in
    let failures = g.W.Sink.failures in
    let passed = subst (λ waited. HasPassed bytes failures c.write_all.new.writer c.put_first.new.writer waited c.put_first.new.batch c.args.bytes.now c.put_first.result) c.clear.ensures c.put_first.ensures in
    passed_behind bytes failures c.args.writer.now c.write_all.new.writer c.put_first.new.writer c.args.batch.now c.put_first.new.batch c.args.bytes.now c.put_first.result
    (subst (Appends (bytes c.args.writer.now) (bytes c.write_all.new.writer)) c.as_slice.ensures c.in_ok-write_all.ensures.whole)
    c.in_ok-write_all.ensures.ok passed
