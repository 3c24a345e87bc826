use Rattle.std.proofs.Common.{arith, subst}
use Rattle.std.specs.Io.KnownBytes.{Appends}
use Rattle.racl_runs.proofs.OutcomeLemmas.{has_reported, ran}
use Rattle.racl_runs.proofs.ReadLemmas.{fault_of_right, fault_read, fault_refused, known_read, unwritten}
use Rattle.racl_runs.proofs.RunLemmas.{excluded_by_input}
use Rattle.racl_runs.proofs.runs_end_to_end.run.Goals as goal

pub returns-in-Err-clause-accepts : goal.returns-in-Err-clause-accepts
returns-in-Err-clause-accepts g c = fault_of_right c.args.options.now _ c.in-Err.fault c.in-Err.ensures.fault

pub returns-in-Err-clause-fault : goal.returns-in-Err-clause-fault
returns-in-Err-clause-fault g c = fault_read c.args.options.now _ c.in-Err.fault c.in-Err.ensures.fault

pub returns-in-Err-clause-refuses : goal.returns-in-Err-clause-refuses
returns-in-Err-clause-refuses g c = fault_refused c.args.options.now _ c.in-Err.fault c.in-Err.ensures.fault

pub returns-in-Err-clause-write : goal.returns-in-Err-clause-write
returns-in-Err-clause-write g c = (
  (λ same. absurd (unwritten c.args.options.now _ c.in-Err.fault c.in-Err.ensures.fault (let e = same in cc))),
  (λ failed. absurd (omega (arith, failed))),
)

pub returns-in-Ok-write_all-clause-ok : goal.returns-in-Ok-write_all-clause-ok
returns-in-Ok-write_all-clause-ok g c =
    let held = c.in-Ok.ensures.ok in
    let text = subst (λ t. Appends (g.W.Sink.bytes c.args.writer.now) (g.W.Sink.bytes c.write_all.new.writer) t) c.deref.ensures.value c.in-Ok-write_all.ensures.whole in
    ran (g.W.Sink.bytes c.args.writer.now) (g.W.Sink.bytes c.write_all.new.writer) c.args.options.now (g.R.Source.bytes c.args.reader.now) c.in-Ok.held.text.items c.in-Ok.held.totals
    held.read held.is held.few text held.known

pub returns-in-Ok-write_all-clause-accepts : goal.returns-in-Ok-write_all-clause-accepts
returns-in-Ok-write_all-clause-accepts g c =
    let held = c.in-Ok.ensures.ok in
    let text = subst (λ t. Appends (g.W.Sink.bytes c.args.writer.now) (g.W.Sink.bytes c.write_all.new.writer) t) c.deref.ensures.value c.in-Ok-write_all.ensures.whole in
    known_read _ _ _ held.read _ (record { whole = held.known; few = held.few }) (λ one_thread has.
    has_reported (g.W.Sink.bytes c.args.writer.now) (g.W.Sink.bytes c.write_all.new.writer) c.args.options.now (g.R.Source.bytes c.args.reader.now) c.in-Ok.held.text.items c.in-Ok.held.totals
    held.read held.is held.few text one_thread has)

pub returns-in-Ok-write_all-clause-refuses : goal.returns-in-Ok-write_all-clause-refuses
returns-in-Ok-write_all-clause-refuses g c =
    let held = c.in-Ok.ensures.ok in
    excluded_by_input _ _ _ (record { whole = held.known; few = held.few }) (λ fault of. absurd (held.is.answers.refuses fault of))

pub returns-clause-refuses : goal.returns-clause-refuses
returns-clause-refuses g c =
    let held = c.in-Ok.ensures.ok in
    excluded_by_input _ _ _ (record { whole = held.known; few = held.few }) (λ fault of. absurd (held.is.answers.refuses fault of))
