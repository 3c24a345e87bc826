-- The frame is the packet's alone, so the way that was told is its way.
use Rattle.std.proofs.Common.{rules, ◌≡◌, ◌∙◌, ap, sym}
use Rattle.flow_judge.specs.Ways.{way_of}
use Rattle.flow_judge.proofs.judge.Judge.judge_seen.Goals as goal

pub returns-in-Ok : goal.returns-in-Ok
returns-in-Ok g c = record {
  same = search rules;
  judged = search rules;
  way = λ view is_seen. c.direction_of.ensures ∙ ap way_of (sym (c.requires.only view is_seen));
  counts = search rules;
  no_pages = search rules;
  refused = search rules;
  uncounted = search rules;
  lone = search rules;
  settled = search rules;
}
