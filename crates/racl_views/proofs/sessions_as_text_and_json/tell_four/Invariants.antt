use Rattle.std.proofs.Common.{◌≡◌, ◌++◌, drop}
use Rattle.racl_views.specs.SessionLines.{four_flow, pairs_told}
use Rattle.racl_views.proofs.sessions_as_text_and_json.tell_four.Given as goal

-- what was told so far, and what is left
abbrev pub invariant-pairs : goal.invariant-pairs
invariant-pairs l =
    l.told.items ++ pairs_told four_flow l.view l.times (drop l.pair-index l.pairs) ≡ l.fn.text.items ++ pairs_told four_flow l.view l.times l.pairs
