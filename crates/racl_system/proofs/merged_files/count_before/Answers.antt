use Rattle.std.proofs.Common.{arith}
use Rattle.packet_view.proofs.RecordListLemmas.{records_within}
use Rattle.racl_system.proofs.merged_files.count_before.Goals as goal

pub returns : goal.returns
returns c =
    let came = c.behind_those-left.ensures in
    let left = c.behind_those-left.result.now in
    let within = records_within c.args.order c.args.bytes.now came.packets left came.records in
    (left, came, omega arith)
