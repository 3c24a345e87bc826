use Rattle.std.proofs.Common.{◌≡◌, ◌++◌, ◌∷◌, [], All, List, length}
use Rattle.std.specs.List.{AllZip}
use Rattle.packet_view.specs.declared.tuple.Family.{Family}
use Rattle.bihash_words.specs.Sizes.{Sizes}
use Rattle.bihash_rule.specs.Views.{nothing_held}
use Rattle.flow_dealing.specs.AgeingTraces.{Deed, HaveDeeds}
use Rattle.flow_workers.proofs.worker_callers.join_all.Given as goal

-- the deeds of the callers that are left, and of those that are one
abbrev pub invariant-loop-caller : goal.invariant-loop-caller
invariant-loop-caller g l = record {
  left : All (λ c. c.seat.row ≡ l.table.row) l.callers.items
      × All (λ c. c.seat.view.holds ≡ nothing_held) l.callers.items;
  own : l.joined.seat.row ≡ l.table.row;
  free : l.joined.seat.view.holds ≡ nothing_held;
  deeds : (z : Sizes) (family : Family) (all : List (List Deed))
      → AllZip (λ deeds c. HaveDeeds z family (deeds ∷ []) c.seat.view) all l.fn.callers.items
      → (before after : List (List Deed)) × (all ≡ before ++ after)
      × AllZip (λ deeds c. HaveDeeds z family (deeds ∷ []) c.seat.view) before l.callers.items
      × HaveDeeds z family after l.joined.seat.view;
}

abbrev pub decreases-loop-caller : goal.decreases-loop-caller
decreases-loop-caller g l = length l.callers.items
