use Rattle.std.specs.Prelude.{length, map}
use Rattle.acl_policy.specs.Policies.{policy_facts}
use Rattle.packet_questions.specs.Answers.{asked_facts, words_of_each}
use Rattle.packet_questions.specs.Asks.{texts}
use Rattle.packet_questions.proofs.ListLaws.{HaveCome}
use Rattle.packet_questions.proofs.asked_packets.asked_in.Given as goal

-- these are the packets of the texts in front of those that are left
abbrev pub invariant-texts : goal.invariant-texts
invariant-texts l = HaveCome (policy_facts l.filter.policy) (words_of_each (texts l.said)) (map asked_facts l.asked.items) l.before (words_of_each (texts l.rest))

abbrev pub decreases-texts : goal.decreases-texts
decreases-texts l = length l.rest
