use Rattle.std.proofs.Common.{◌++◌, arith}
use Rattle.std.proofs.lemmas.List.{length-append}
use Rattle.packet_view.specs.CheckedCaptures.{remaining}
use Rattle.acl_policy.specs.Policies.{policy_facts}
use Rattle.racl_views.proofs.CountLemmas.{decided_both, entries_both, hits_both}
use Rattle.racl_views.proofs.hit_counts.HitCounts.count.Goals as goal

pub returns : goal.returns
returns c = λ packets said have each.
    let policy = policy_facts c.args.policy.now in
    let later = remaining c.args.packets in
    let verdicts = c.args.verdicts.now in
    let more = c.in_ok-count_packets.ensures in
    record {
      rules = have.rules ++ more.rules;
      decided = decided_both policy packets later said verdicts have.rules more.rules each have.decided more.decided;
      counted = λ name small. let now = more.counted name small in let old = have.counted name small in let both = hits_both name have.rules more.rules in omega arith;
      few = λ place. let now = more.few place in let old = have.few place in let both = length-append said verdicts in omega arith;
      reasons = c.count_reasons.ensures said have.reasons;
      entered = let old = have.entered in let now = c.count_session_entries.ensures in let both = entries_both said verdicts in omega arith;
    }
