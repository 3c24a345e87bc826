-- What files get of the packets of a capture (this project's profile).
use Rattle.std.specs.Prelude.{ℕ, List, Option, None, Some, ⊤}
use Rattle.std.specs.Io.KnownBytes.{Appends}
use Rattle.session_state.specs.declared.verdict.Verdict.{Verdict}
use Rattle.racl_views.specs.ChosenRecords.{IsSaved}
use Rattle.racl_views.specs.declared.chosen_packets.Chosen.{Chosen}

-- a file got the chosen packets of a capture, as a capture, after what it had, where there is one
abbrev pub HasSaved : {S : Type 0} → (S → Option (List ℕ)) → List ℕ → Chosen → List Verdict → Option S → Option S → Type 0
HasSaved bytes capture chosen verdicts None None = ⊤
HasSaved bytes capture chosen verdicts (Some old) (Some new) = (saved : List ℕ) × IsSaved chosen verdicts capture saved × Appends (bytes old) (bytes new) saved
HasSaved bytes capture chosen verdicts _ _ = ⊥

-- how often a file failed, where there is one
abbrev pub failures_of : {S : Type 0} → (S → ℕ) → Option S → ℕ
failures_of failures None = 0
failures_of failures (Some file) = failures file
