-- What a judge of packets is, as contracts see it: what it judges by, its callers, what it counted, and whether another judge may
-- have a share of its tables.
use Rattle.std.specs.Prelude.{Bool}
use Rattle.acl_policy.specs.Policies.{PolicyFacts}
use Rattle.bihash_steps.specs.Seats.{CallerState}
use Rattle.session_state.specs.declared.timeouts.Timeouts.{Timeouts}
use Rattle.flow_dealing.specs.Views.{Views}
use Rattle.flow_judge.specs.declared.counts.Counts.{Counts}

pub record JudgeState : Type 0 where
  pub policy : PolicyFacts
  pub times : Timeouts
  pub four : CallerState
  pub six : CallerState
  pub counts : Counts
  pub shared : Bool

-- what its callers of both tables know
abbrev pub views_in : JudgeState → Views
views_in j = record { four = j.four.view; six = j.six.view }
