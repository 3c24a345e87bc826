use Rattle.std.proofs.Common.{◌≡◌, ◌+◌, List, length}
use Rattle.session_state.specs.declared.verdict.Verdict.{Verdict}
use Rattle.flow_dealing.specs.Traces.{Item}
use Rattle.flow_workers.specs.inner.Work.{RunFacts}
use Rattle.flow_workers.specs.inner.Merges.{ArePlacedBefore, LetGo, MayPlace, placed_behind, said_in_shares}
use Rattle.flow_workers.proofs.verdict_merge.VerdictMerge.place.Given as goal

abbrev pub invariant-packets : goal.invariant-packets
invariant-packets g l = record {
  count : length l.self.verdicts.items ≡ length l.fn.self.verdicts.items + l.judge-index;
  placed : (run : RunFacts) (traces : List (List Item)) (gone : LetGo) (said : List Verdict)
      → MayPlace run traces gone (said_in_shares l.shares) l.judges (placed_behind said l.fn.self)
      → ArePlacedBefore run traces gone (placed_behind said l.self);
}
