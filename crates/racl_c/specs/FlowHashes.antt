-- By what the frames of a flow are dealt: the family and the hash of its key; and to whom they and the buckets are.
use Rattle.std.specs.Prelude.{◌≡◌, ◌==◌, ◌%◌, ◌^◌, if◌then◌else◌, ℕ, Option, None, Some}
use Rattle.packet_view.specs.declared.tuple.Family.{Family}
use Rattle.packet_view.specs.declared.tuple.Family.TheVariants.{V4, V6}
use Rattle.session_state.specs.declared.flow.Flow as flows
use Rattle.flow_filter.specs.OneThread.{Layout, family_of, home_of}
use Rattle.flow_dealing.specs.Dealings.{hash_in}
use Rattle.racl_c.specs.declared.flow_hash.Flow.{Flow}

abbrev pub family_number : Family → ℕ
family_number V4 = 4
family_number V6 = 6

-- those of this flow, or nothing without one
abbrev pub IsFlowTold : Layout → Option flows.Flow → Flow → Type 0
IsFlowTold l None told = told ≡ record { family = 0; hash = 0 }
IsFlowTold l (Some flow) told = told ≡ record { family = family_number (family_of flow.key); hash = hash_in l flow.key }

-- the bucket of standard tables in which those of large ones meet that have this number: of IPv6 1,024, and else 4,096
abbrev pub standard_bucket : ℕ → ℕ → ℕ
standard_bucket family bucket = if family == 6 then bucket % 2 ^ 10 else bucket % 2 ^ 12

-- of so many workers, from 0 on, the one to whom a bucket is dealt
abbrev pub worker_of_bucket : (family bucket workers : ℕ) → ℕ
worker_of_bucket family bucket workers = if workers == 0 then 0 else standard_bucket family bucket % workers

-- the flow that is told so is dealt to the worker of its bucket in tables of this layout
abbrev pub IsOfBucket : Layout → Flow → (workers worker : ℕ) → Type 0
IsOfBucket l told workers worker = (flow : flows.Flow) → IsFlowTold l (Some flow) told
    → worker ≡ worker_of_bucket (family_number (family_of flow.key)) (home_of l flow.key).bucket workers
