-- Flows with the hashes of their keys.
use Rattle.std.specs.Prelude.{◌≡◌}
use Rattle.std.specs.Option.{ForSome}
use Rattle.flow_filter.specs.OneThread.{Layout}
use Rattle.flow_dealing.specs.Dealings.{hash_in}
use Rattle.flow_dealing.specs.declared.hashed_flow.HashedFlow.{HashedFlow}

-- the hash is that of the flow's key
abbrev pub IsHashed : Layout → HashedFlow → Type 0
IsHashed l hashed = ForSome hashed.flow (λ flow. hashed.hash ≡ hash_in l flow.key)
