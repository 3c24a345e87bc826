use Rattle.std.proofs.Common.{◌≡◌, arith, inl, length, map, rules, subst}
use Rattle.std.specs.Prelude.{IfSome}
use Rattle.racl_options.specs.Origins.{capture_facts}
use Rattle.racl_system.specs.InterfaceFiles.{AreUnread, given_in}
use Rattle.racl_system.specs.MarkedPolicies.{IsFileStatus}
use Rattle.racl_system.specs.PolicyTexts.{ended_lines}
use Rattle.racl_system.proofs.InterfaceFileLemmas.{status_of_unread, unread_behind}
use Rattle.racl_system.proofs.interface_files.read_interface_input.Goals as goal

pub returns-in-Ok-Err-clause-status : goal.returns-in-Ok-Err-clause-status
returns-in-Ok-Err-clause-status g c =
    let refused : IsFileStatus (g.S.SystemFiles.named c.args.system.now c.args.interfaces.now.policy.now) c.in-Ok-Err.status = search rules in
    inl refused

pub returns-in-Ok-say_fault-clause-status : goal.returns-in-Ok-say_fault-clause-status
returns-in-Ok-say_fault-clause-status g c =
    let policy = g.S.SystemFiles.named c.args.system.now c.args.interfaces.now.policy.now in
    let givens = given_in (g.S.SystemFiles.named c.args.system.now) (map capture_facts c.args.interfaces.now.captures.items) in
    let why = c.in-Err-read_interfaces.fault in
    let text : IfSome policy (λ all. c.in-Ok-Ok.text.items ≡ ended_lines all) = search rules in
    let unread : AreUnread c.len.result givens why = search rules in
    let count : c.len.result ≡ length c.in-Ok-Ok.text.items = omega (arith, c.len.ensures, c.in-Ok-Ok.text.ok) in
    status_of_unread policy givens why c.in-Ok-say_fault.status c.in-Ok-say_fault.ensures
    (unread_behind policy c.in-Ok-Ok.text.items givens why text (subst (λ n. AreUnread n givens why) count unread))
