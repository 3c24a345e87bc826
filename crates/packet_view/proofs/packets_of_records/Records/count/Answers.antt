use Rattle.std.proofs.Common.{◌∙◌, sym}
use Rattle.std.proofs.lemmas.List.{length-map}
use Rattle.packet_view.specs.Captures.{packet_at}
use Rattle.packet_view.specs.CheckedCaptures.{records_of}
use Rattle.packet_view.proofs.RecordListLemmas.{packets_count}
use Rattle.packet_view.proofs.packets_of_records.Records.count.Goals as goal

pub returns : goal.returns
returns c =
    let now = c.args.self.now in
    packets_count now.order now.count now.bytes.now ∙ sym (length-map (records_of now) (packet_at now.interface))
