use Rattle.std.proofs.Common.{◌≡◌, length}
use Rattle.std.specs.List.{list_any}
use Rattle.policy_expand.specs.IcmpParts.{is_icmp_part}
use Rattle.policy_expand.proofs.icmp_of_both_families.icmp_part_among.Given as goal

-- what is left decides
abbrev pub invariant-words : goal.invariant-words
invariant-words l = list_any is_icmp_part l.rest ≡ list_any is_icmp_part l.words

abbrev pub decreases-words : goal.decreases-words
decreases-words l = length l.rest
