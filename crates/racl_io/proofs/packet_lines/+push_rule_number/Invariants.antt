use Rattle.racl_io.proofs.packet_lines.+push_rule_number.Given as goal

abbrev pub decreases-push_rule_number : goal.decreases-push_rule_number
decreases-push_rule_number l = l.n
