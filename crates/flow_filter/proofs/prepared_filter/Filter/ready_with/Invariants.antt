use Rattle.std.proofs.Common.{◌≡◌, ◌<◌, ℕ, length}
use Rattle.std.specs.Prelude.{slice_index_or}
use Rattle.acl_policy.specs.Policies.{policy_facts}
use Rattle.flow_filter.specs.InterfaceFilters.{IsReadyAt}
use Rattle.flow_filter.specs.declared.interface_filters.InterfaceFilter.{InterfaceFilter}
use Rattle.flow_filter.proofs.prepared_filter.Filter.ready_with.Given as goal

-- the filters of the interfaces so far are at their places
abbrev pub invariant-loop-number : goal.invariant-loop-number
invariant-loop-number l = record {
  count : length l.places.items ≡ l.number;
  each : (k : ℕ) (d : InterfaceFilter) → k < l.number → IsReadyAt (policy_facts l.self.policy) l.self.times k (slice_index_or l.places.items k d);
}
