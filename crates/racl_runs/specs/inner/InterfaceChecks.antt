-- A policy and captures that come apart, which were found right.
use Rattle.std.specs.Prelude.{◌≡◌, ◌≢◌, ◌+◌, ◌⊎◌, ◌↔◌, ℕ, List, [], Err, IfErr, Result}
use Rattle.packet_view.specs.Captures.{PacketFacts}
use Rattle.acl_policy.specs.Policies.{policy_facts}
use Rattle.racl_options.specs.declared.settings.Options.{Options}
use Rattle.racl_io.specs.declared.fault.Fault.{Fault}
use Rattle.racl_io.specs.declared.fault.Fault.TheVariants.{Memory, Write}
use Rattle.racl_report.specs.InterfaceInputs.{AreTakenApart}
use Rattle.racl_report.specs.declared.interface_captures.InterfaceInput.{InterfaceInput}
use Rattle.racl_runs.specs.Reads.{IsSaid}
use Rattle.racl_runs.specs.declared.interface_run.RightInput.{RightInput}

-- the text says this policy, this is told of the captures, and sessions live as long as the words ask for
pub record AreRightParts (options : Options) (input : InterfaceInput) (right : RightInput) : Type 0 where
  pub says : IsSaid input.text.items (policy_facts right.filter.policy)
  pub times : right.filter.times ≡ options.times
  pub packets : List PacketFacts
  pub taken : AreTakenApart [] input.captures.items packets right.told.items

-- memory ran out before anything was written, or a write failed, once
pub record EndsOnce {W X : Type 0} (failures : W → ℕ) (old new : W) (result : Result X Fault) : Type 0 where
  pub fault : IfErr result (λ e. (e ≡ Memory) ⊎ (e ≡ Write))
  pub write : (result ≡ Err Write) ↔ (failures new ≡ failures old + 1)
  pub steady : result ≢ Err Write → failures new ≡ failures old
  pub unwritten : IfErr result (λ e. e ≢ Write → new ≡ old)
