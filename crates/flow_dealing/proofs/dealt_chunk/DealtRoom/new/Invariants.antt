use Rattle.std.proofs.Common.{◌≡◌, All, [], length}
use Rattle.flow_dealing.proofs.dealt_chunk.DealtRoom.new.Given as goal

abbrev pub invariant-loop : goal.invariant-loop
invariant-loop l = record {
  count : length l.own.items ≡ l.counter;
  each : All (λ list. list.items ≡ []) l.own.items;
}
