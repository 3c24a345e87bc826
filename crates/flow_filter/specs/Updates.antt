-- The one update of a packet that takes part in sessions (this project's profile).
use Rattle.std.specs.Prelude.{ℕ, Bool, true, false, ◌&&◌, List, Option, Some, None, option_map}
use Rattle.packet_view.specs.Tuples.{TupleFacts}
use Rattle.packet_view.specs.declared.tuple.Fields.{Fields}
use Rattle.packet_view.specs.declared.tuple.Fields.TheVariants.{Absent, Ports, Tcp, Icmp}
use Rattle.acl_policy.specs.declared.rule.Action.{Action}
use Rattle.acl_policy.specs.declared.rule.Action.TheVariants.{Deny, Permit, Reflect}
use Rattle.session_state.specs.declared.flow.Flow.{Flow}
use Rattle.session_state.specs.declared.flow.FlowKey.{FlowKey}
use Rattle.session_state.specs.declared.flow.FlowKey.TheVariants.{Four, Six}
use Rattle.session_state.specs.declared.timeouts.Timeouts.{Timeouts}
use Rattle.session_state.specs.Decisions.{PatchFacts}
use Rattle.session_state.specs.Flows.{flow_of}
use Rattle.flow_filter.specs.Readings.{Framed, Reading, Ruled, Ruling}

-- the TCP flags of a packet, none where it is no TCP
abbrev pub flags_of : Fields → ℕ
flags_of Absent = 0
flags_of (Ports from to) = 0
flags_of (Tcp from to flags) = flags
flags_of (Icmp kind code) = 0

abbrev pub is_tcp : Fields → Bool
is_tcp Absent = false
is_tcp (Ports from to) = false
is_tcp (Tcp from to flags) = true
is_tcp (Icmp kind code) = false

abbrev pub reflects_by : Action → Bool
reflects_by Deny = false
reflects_by Permit = false
reflects_by Reflect = true

-- a reflecting rule decides
abbrev pub reflects : Ruling → Bool
reflects None = false
reflects (Some decided) = reflects_by decided.1

-- the words of a key
abbrev pub words_of : FlowKey → List ℕ
words_of (Four words) = words
words_of (Six words) = words

-- an update: the key of the packet's flow, and what the packet does to the value there
pub record Update : Type 0 where
  pub key : FlowKey
  pub patch : PatchFacts

-- it enters a session where a reflecting rule decides and the packet may start one
abbrev pub update_in : Timeouts → ℕ → TupleFacts → Ruling → Flow → Update
update_in times moment tuple ruling flow = record {
  key = flow.key;
  patch = record {
    moment = moment;
    side = flow.side;
    flags = flags_of tuple.fields;
    tcp = is_tcp tuple.fields;
    reflects = reflects ruling && flow.starts;
    times = times;
  };
}

abbrev pub update_of : Timeouts → Reading → Option Update
update_of times (Framed verdict) = None
update_of times (Ruled moment tuple ruling) = option_map (update_in times moment tuple ruling) (flow_of tuple)
