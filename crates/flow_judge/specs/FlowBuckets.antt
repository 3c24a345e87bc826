-- The bucket of a flow (this project's profile).
use Rattle.std.specs.Prelude.{◌≡◌, Option, None, Some}
use Rattle.session_state.specs.declared.flow.Flow.{Flow}
use Rattle.session_state.specs.declared.flow.FlowKey.{FlowKey}
use Rattle.flow_filter.specs.OneThread.{Layout, home_of}
use Rattle.flow_dealing.specs.Dealings.{hash_in}
use Rattle.flow_judge.specs.declared.packet_bucket.FlowBucket.{FlowBucket}

-- it is the home of this key, whose hash it has
pub record IsBucketOf (l : Layout) (key : FlowKey) (found : FlowBucket) : Type 0 where
  pub hash : found.hash ≡ hash_in l key
  pub home : home_of l key ≡ record { family = found.family; bucket = found.bucket }

-- it is that of the flow's key, and there is none without a flow
abbrev pub IsBucketOfFlow : Layout → Option Flow → Option FlowBucket → Type 0
IsBucketOfFlow l None None = Unit {0}
IsBucketOfFlow l (Some flow) (Some found) = IsBucketOf l flow.key found
IsBucketOfFlow l None (Some found) = ⊥
IsBucketOfFlow l (Some flow) None = ⊥
