use Rattle.std.proofs.Common.{◌≡◌, length, map}
use Rattle.policy_expand.specs.IcmpParts.{has_icmp_part}
use Rattle.policy_expand.specs.Written.{list_words}
use Rattle.policy_expand.proofs.icmp_of_both_families.icmp_part_in.Given as goal

-- what is left decides
abbrev pub invariant-lists : goal.invariant-lists
invariant-lists l = has_icmp_part (map list_words l.rest) ≡ has_icmp_part (map list_words l.lists)

abbrev pub decreases-lists : goal.decreases-lists
decreases-lists l = length l.rest
