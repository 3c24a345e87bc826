use Rattle.packet_view.specs.Captures.{packet_facts}
use Rattle.packet_view.specs.Frames.{frame_facts}
use Rattle.acl_policy.specs.Policies.{policy_facts}
use Rattle.packet_words.proofs.ViewLemmas.{seen_at}
use Rattle.packet_words.proofs.frame_at_interface.packet_as_seen.Goals as goal

pub returns-clause-only : goal.returns-clause-only
returns-clause-only c =
    seen_at (policy_facts c.args.policy.now) (packet_facts c.args.packet) (frame_facts c.view.result) (rw c.own_address_at-own.ensures at c.view.ensures.shown)
