use Rattle.std.proofs.Common.{sym}
use Rattle.racl_system.proofs.MergeLemmas.{took_header}
use Rattle.racl_system.proofs.merged_files.MergedFile.take_header.Goals as goal

pub returns-in-Ok : goal.returns-in-Ok
returns-in-Ok g c =
    took_header c.args.self.now c.take_front.new.self c.in-Ok.order c.rest-2.result.now (sym c.if-is_some.ensures) c.rest-2.ensures c.in-Ok.ensures.ok
    c.take_front.ensures.rest c.take_front.ensures.same
