-- A filter that is ready at each interface, as the policy that it goes by.
use Rattle.std.specs.Prelude.{◌≡◌, ◌<◌, ℕ, List, length, slice_index_or}
use Rattle.acl_policy.specs.Policies.{PolicyFacts, section_of}
use Rattle.session_state.specs.declared.timeouts.Timeouts.{Timeouts}
use Rattle.flow_filter.specs.declared.interface_filters.InterfaceFilter.{InterfaceFilter}
use Rattle.flow_filter.specs.Filters.{section_in}

-- the filter goes by what the policy says of the interface with this number
pub record IsReadyAt (policy : PolicyFacts) (times : Timeouts) (number : ℕ) (filter : InterfaceFilter) : Type 0 where
  pub section : section_in filter ≡ section_of number policy
  pub lives : filter.times ≡ times

-- there is such a filter for each number
pub record AreReady (policy : PolicyFacts) (times : Timeouts) (places : List InterfaceFilter) : Type 0 where
  pub count : length places ≡ 256
  pub each : (number : ℕ) (d : InterfaceFilter) → number < 256 → IsReadyAt policy times number (slice_index_or places number d)
