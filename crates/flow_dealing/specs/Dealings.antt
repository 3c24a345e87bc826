-- Which worker a packet is dealt to (this project's profile).
use Rattle.std.specs.Prelude.{ℕ, ◌%◌, Option, Some, None}
use Rattle.packet_view.specs.Frames as frames
use Rattle.session_state.specs.declared.flow.Flow.{Flow}
use Rattle.session_state.specs.declared.flow.FlowKey.{FlowKey}
use Rattle.session_state.specs.Flows.{flow_of}
use Rattle.flow_filter.specs.Readings.{Framed, Reading, Ruled}
use Rattle.flow_filter.specs.OneThread.{Layout, family_of, home_of, sizes_in}
use Rattle.flow_filter.specs.Updates.{words_of}
use Rattle.flow_dealing.specs.declared.worker_of_flow.Dealing.{Dealing}
use Rattle.flow_dealing.specs.declared.worker_of_flow.Dealing.TheVariants.{Round, Bucket}

-- the hash of a key in the table of its family
abbrev pub hash_in : Layout → FlowKey → ℕ
hash_in l key = (sizes_in l (family_of key)).hash (words_of key)

-- what packets are dealt by, to how many workers
pub record Deal : Type 0 where
  pub layout : Layout
  pub dealing : Dealing
  pub workers : ℕ

-- of so many workers, the one of the packet with this number and this flow, or none
abbrev pub worker_by_dealing : Dealing → Layout → ℕ → ℕ → Option Flow → ℕ
worker_by_dealing Round l workers number flow = number % workers
worker_by_dealing Bucket l workers number None = 0
worker_by_dealing Bucket l workers number (Some flow) = (home_of l flow.key).bucket % workers

-- the worker of the packet with this number, from 0, and this flow, or none
abbrev pub worker_of : Deal → ℕ → Option Flow → ℕ
worker_of d number flow = worker_by_dealing d.dealing d.layout d.workers number flow

-- the flow of a packet
abbrev pub flow_of_reading : Reading → Option Flow
flow_of_reading (Framed verdict) = None
flow_of_reading (Ruled moment tuple ruling) = flow_of tuple

abbrev pub flow_of_frame : frames.FrameFacts → Option Flow
flow_of_frame frames.NotIp = None
flow_of_frame frames.Malformed = None
flow_of_frame frames.Short = None
flow_of_frame (frames.Ip direction tuple) = flow_of tuple
