use Rattle.racl_runs.proofs.LiveSaveLemmas.{saved_more}
use Rattle.racl_runs.proofs.live_saves.LiveSavesSaver.save.Goals as goal

pub returns-clause-saved : goal.returns-clause-saved
returns-clause-saved g c =
    saved_more g.S.Sink.bytes g.S.Sink.failures c.args.self.now (record { files = record { drops = c.put_records.new.file; passes = c.put_records-2.new.file } }) c.args.order
    c.args.records.now c.args.verdicts.now c.put_records-2.result c.requires c.in_ok-put_records.ensures.got c.in_ok-put_records.ensures.written.0 c.put_records-2.ensures.got
    c.put_records-2.ensures.written.0
