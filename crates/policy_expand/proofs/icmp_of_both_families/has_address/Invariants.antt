use Rattle.std.proofs.Common.{◌≡◌, length}
use Rattle.policy_expand.specs.IcmpParts.{has_address}
use Rattle.policy_expand.proofs.icmp_of_both_families.has_address.Given as goal

-- what is left decides
abbrev pub invariant-words : goal.invariant-words
invariant-words l = has_address l.family l.rest ≡ has_address l.family l.words

abbrev pub decreases-words : goal.decreases-words
decreases-words l = length l.rest
