use Rattle.std.proofs.Common.{rules}
use Rattle.racl_system.specs.PolicyTexts.{IsUnread}
use Rattle.racl_system.proofs.ReaderLemmas.{status_of_unread_file}
use Rattle.racl_system.proofs.live_files.live_policy_text.Goals as goal

pub returns-in-Ok-say_fault-clause-status : goal.returns-in-Ok-say_fault-clause-status
returns-in-Ok-say_fault-clause-status g c =
    let unread : IsUnread (g.S.SystemFiles.named c.args.system.now c.args.name.now) c.in-Err-text_of_file.fault = search rules in
    status_of_unread_file _ c.in-Err-text_of_file.fault c.in-Ok-say_fault.status c.in-Ok-say_fault.ensures unread
