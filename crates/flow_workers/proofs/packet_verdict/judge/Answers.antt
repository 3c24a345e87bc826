-- The packet is the one that was viewed, and the filter at hand is that of the call.
use Rattle.std.proofs.Common.{refl, subst}
use Rattle.packet_view.specs.Captures.{packet_facts}
use Rattle.packet_view.specs.Frames.{frame_facts}
use Rattle.acl_policy.specs.Policies.{policy_facts}
use Rattle.bihash_table.specs.Tries.{TookByTries}
use Rattle.flow_filter.specs.Filters.{section_in}
use Rattle.flow_workers.specs.Verdicts.{HasVerdict}
use Rattle.flow_workers.specs.inner.ViewedPackets.{IsViewedBy}
use Rattle.flow_workers.proofs.JudgedPackets.{is_ruling}
use Rattle.flow_workers.proofs.packet_verdict.judge.Goals as goal

pub judge_as-requires-clause-ruling : goal.judge_as-requires-clause-ruling
judge_as-requires-clause-ruling g c =
    is_ruling (section_in c.ready-filter.result) (frame_facts c.new-packet.result.frame.now)

pub returns : goal.returns
returns g c =
    let tells = c.in-Ok.ensures in
    let seen = c.new-packet.ensures.seen _ (packet_facts c.args.packet.now) refl c.view-frame.ensures.shown in
    let packet = packet_facts c.args.packet.now in
    let old = c.args.callers.now in
    let new = c.judge_as.new.callers in
    let verdict = c.in-Ok.verdict in
    let policy = policy_facts c.args.filter.now.policy in
    let by : IsViewedBy policy c.ready-filter.result packet c.new-packet.result =
    record { section = c.ready-filter.ensures.section; seen = seen } in
    record {
      same = tells.same;
      idle = tells.idle;
      judged = subst (λ times. HasVerdict g.A.Shape g.B.Shape TookByTries times policy packet old new verdict)
          c.ready-filter.ensures.times (tells.judged policy packet by);
      no_pages = tells.no_pages policy packet by;
      refused = tt;
      lone = λ four six. refl;
      settled = λ none. refl;
    }
