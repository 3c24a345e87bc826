use Rattle.std.proofs.Common.{[], arith}
use Rattle.std.proofs.lemmas.List.{length-map}
use Rattle.packet_view.specs.Captures.{packet_facts}
use Rattle.packet_view.specs.CheckedCaptures.{remaining}
use Rattle.packet_view.specs.declared.packets.Packets.TheVariants as kind
use Rattle.flow_workers.specs.Progress.{CanJudge}
use Rattle.filter_tests.proofs.tests.workers.verdicts_on_parts.Goals as goal

pub judge-requires-after_bounds : goal.judge-requires-after_bounds
judge-requires-after_bounds g c κs lives =
    let few = c.requires.few in
    let first = length-map c.args.first.now packet_facts in
    let second = length-map c.args.second.now packet_facts in
    let may : CanJudge c.judge_on.new.self (kind.Slice c.args.second) =
    record {
      packets = remaining (kind.Slice c.args.first);
      said = c.in-Ok-judge_on.verdicts.items;
      rest = c.in-Ok-judge_on.ensures.rest [] c.in-Ok-new.ensures.rest;
      fits = omega arith;
    } in may

pub end-requires : goal.end-requires
end-requires g c = (
  _,
  c.in-Ok-judge_on.verdicts.items,
  c.in-Ok-judge.ensures.rest (remaining (kind.Slice c.args.first)) (c.in-Ok-judge_on.ensures.rest [] c.in-Ok-new.ensures.rest),
)
