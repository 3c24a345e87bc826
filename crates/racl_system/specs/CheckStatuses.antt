-- The exit statuses of a check (this project's profile).
use Rattle.std.specs.Prelude.{◌≡◌, ◌+◌, ◌<◌, ◌⊎◌, ℕ, zero, suc, List, Option, IfSome, length}
use Rattle.acl_policy.specs.Policies.{IsPolicyText, PolicyFacts}
use Rattle.racl_io.specs.Inputs.{most_bytes}
use Rattle.racl_system.specs.PolicyTexts.{ended_lines}

-- there are more bytes than an input may have, or the text of a file with these is no policy
abbrev pub IsNoPolicy : List ℕ → Type 0
IsNoPolicy bytes = (most_bytes < length bytes) ⊎ ((policy : PolicyFacts) → IsPolicyText (ended_lines bytes) policy → ⊥)

-- 0 where the text of a file with these bytes, as far as they are known, is a policy, 1 where it is none, and 4 where memory ran
-- out or a device failed
abbrev pub IsCheckStatus : Option (List ℕ) → ℕ → Type 0
IsCheckStatus known zero = IfSome known (λ bytes. (policy : PolicyFacts) × IsPolicyText (ended_lines bytes) policy)
IsCheckStatus known (suc zero) = IfSome known IsNoPolicy
IsCheckStatus known status = status ≡ 4

-- what a check that ended with this status did to the writer of what it tells: 4 is answered where the writer failed once
-- more, and else only where nothing was written
pub record HasToldWith {W : Type 0} (failures : W → ℕ) (old new : W) (status : ℕ) : Type 0 where
  pub failed : failures new ≡ failures old + 1 → status ≡ 4
  pub whole : status ≡ 4 → (failures new ≡ failures old + 1) ⊎ (new ≡ old)
