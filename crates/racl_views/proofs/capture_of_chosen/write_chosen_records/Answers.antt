use Rattle.std.proofs.Common.{◌∙◌, ◌++◌, List, ap, ℕ}
use Rattle.racl_views.specs.inner.ChosenBytes.{chosen_in}
use Rattle.racl_views.proofs.BatchLemmas.{all_written}
use Rattle.racl_views.proofs.ChosenLemmas.{chosen_whole}
use Rattle.racl_views.proofs.capture_of_chosen.write_chosen_records.Goals as goal

pub returns-clause-written : goal.returns-clause-written
returns-clause-written g c = λ pieces packets each spelt.
    let bytes = g.W.Sink.bytes in
    let failures = g.W.Sink.failures in
    let (gone, appended, all) = c.in_ok-put_chosen.ensures.whole in
    let last = c.write_all.ensures in
    let text = chosen_whole c.args.chosen c.args.order c.args.verdicts.now c.args.records.now pieces packets each spelt in
    all_written bytes failures c.args.writer.now c.put_chosen.new.writer c.write_all.new.writer c.as_slice.result.now _ c.write_all.result (
      gone,
      appended,
      ap (λ (b : List ℕ). gone ++ b) c.as_slice.ensures ∙ all
          ∙ ap (λ (b : List ℕ). b ++ chosen_in c.args.chosen c.args.order c.args.verdicts.now c.args.records.now) c.new-batch.ensures ∙ text,
    )
    c.in_ok-put_chosen.ensures.steady (last.whole, last.ok, last.failed, last.fault)
