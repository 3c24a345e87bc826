-- What files got of the records of a capture, as its parts come.
use Rattle.std.specs.Prelude.{◌≡◌, ◌+◌, ◌-◌, ◌<◌, ◌^◌, ℕ, List, Option, None, Some, Result, IfErr, IfSome, OnErr, OnOk, ⊤, length}
use Rattle.std.specs.Io.KnownBytes.{Appends}
use Rattle.std.specs.List.{concat}
use Rattle.packet_view.specs.Captures.{RecordFacts}
use Rattle.packet_view.specs.declared.capture.Order.{Order}
use Rattle.session_state.specs.declared.verdict.Verdict.{Verdict}
use Rattle.racl_io.specs.declared.fault.Fault.{Fault}
use Rattle.racl_io.specs.declared.fault.Fault.TheVariants.{Write}
use Rattle.racl_views.specs.ChosenRecords.{AreRecordsOf, chosen_among}
use Rattle.racl_views.specs.declared.chosen_packets.Chosen.TheVariants.{Dropped, Passing}
use Rattle.racl_report.specs.Saves.{failures_of}
use Rattle.racl_report.specs.declared.saved_packets.Saves.{Saves}
use Rattle.racl_runs.specs.LiveSaves.{MayFail}

-- a file got this after what it had, where there is one
abbrev pub HasGot : {S : Type 0} → (S → Option (List ℕ)) → List ℕ → Option S → Option S → Type 0
HasGot bytes text None None = ⊤
HasGot bytes text (Some old) (Some new) = Appends (bytes old) (bytes new) text
HasGot bytes text _ _ = ⊥

-- what came of writing to a file, where there is one: it may fail once more; or it failed once more, which is answered
abbrev pub HasWritten : {S : Type 0} → (S → ℕ) → Option S → Option S → Result ⊤ Fault → Type 0
HasWritten failures old new result = OnOk result (IfSome new (λ file. failures file < 2 ^ 64 - 1))
    × OnOk result (failures_of failures new ≡ failures_of failures old)
    × OnErr result (failures_of failures new ≡ failures_of failures old + 1)
    × IfErr result (λ fault. fault ≡ Write)

-- each of two files got this
abbrev pub HaveGot : {S : Type 0} → (S → Option (List ℕ)) → List ℕ → Saves S → Saves S → Type 0
HaveGot bytes text old new = HasGot bytes text old.drops new.drops × HasGot bytes text old.passes new.passes

-- the files got the chosen ones among whole records that have these bytes
pub record HaveKept {S : Type 0} (bytes : S → Option (List ℕ)) (failures : S → ℕ) (old : Saves S) (order : Order) (whole : List ℕ)
    (verdicts : List Verdict) (new : Saves S) : Type 0 where
  pub pieces : List (List ℕ)
  pub packets : List RecordFacts
  pub each : AreRecordsOf order pieces packets
  pub spelt : whole ≡ concat pieces
  pub count : length verdicts ≡ length pieces
  pub drops : HasGot bytes (concat (chosen_among Dropped verdicts pieces)) old.drops new.drops
  pub passes : HasGot bytes (concat (chosen_among Passing verdicts pieces)) old.passes new.passes
  pub sound : MayFail failures new
