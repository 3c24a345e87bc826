-- Packets that are saved of a capture that comes, each file's as a capture (this project's profile).
use Rattle.std.specs.Prelude.{◌+◌, ◌-◌, ◌<◌, ◌^◌, ℕ, List, Option, IfSome}
use Rattle.session_state.specs.declared.verdict.Verdict.{Verdict}
use Rattle.racl_views.specs.declared.chosen_packets.Chosen.TheVariants.{Dropped, Passing}
use Rattle.racl_report.specs.Saves.{HasSaved, failures_of}
use Rattle.racl_report.specs.declared.saved_packets.Saves.{Saves}

-- files got the packets of a capture that were dropped, and those that passed, after what they had
pub record HaveSaved {S : Type 0} (sink : S → Option (List ℕ)) (capture : List ℕ) (verdicts : List Verdict) (before after : Saves S) : Type 0 where
  pub drops : HasSaved sink capture Dropped verdicts before.drops after.drops
  pub passes : HasSaved sink capture Passing verdicts before.passes after.passes

-- how often files failed
abbrev pub failures_in : {S : Type 0} → (S → ℕ) → Saves S → ℕ
failures_in failures saves = failures_of failures saves.drops + failures_of failures saves.passes

-- each may fail once more
abbrev pub MayFail : {S : Type 0} → (S → ℕ) → Saves S → Type 0
MayFail failures saves = IfSome saves.drops (λ file. failures file < 2 ^ 64 - 1) × IfSome saves.passes (λ file. failures file < 2 ^ 64 - 1)
