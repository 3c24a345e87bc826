-- The bytes of chosen records, as a walk over the records finds them, which `ChosenRecords` says whole.
use Rattle.std.specs.Prelude.{◌+◌, Bool, ℕ, List, [], ◌∷◌, ◌++◌, length, take}
use Rattle.packet_view.specs.Captures.{Cut, IsPiece, Nothing, PieceFacts, Record, RecordFacts, TooLong}
use Rattle.packet_view.specs.declared.capture.Order.{Order}
use Rattle.packet_view.specs.inner.RecordSteps.{part_of}
use Rattle.session_state.specs.declared.verdict.Verdict.{Verdict}
use Rattle.racl_views.specs.ChosenRecords.{is_chosen}
use Rattle.racl_views.specs.declared.chosen_packets.Chosen.{Chosen}
use Rattle.racl_views.specs.inner.Batches.{bytes_where}

-- no whole record is at the front
abbrev pub HasNoRecord : Order → List ℕ → Type 0
HasNoRecord order bytes = (facts : RecordFacts) (rest : List ℕ) → IsPiece order bytes (Record facts rest) → ⊥

-- the record at the front, where it is kept, before what is found behind it
abbrev pub found_first : Bool → (List ℕ → List ℕ) → List ℕ → PieceFacts → List ℕ
found_first kept behind bytes (Record facts rest) = bytes_where kept (take (16 + length facts.frame) bytes) ++ behind rest
found_first kept behind bytes Nothing = []
found_first kept behind bytes Cut = []
found_first kept behind bytes TooLong = []

unfoldable pub chosen_in : Chosen → Order → List Verdict → List ℕ → List ℕ
chosen_in chosen order [] bytes = []
chosen_in chosen order (verdict ∷ verdicts) bytes =
    found_first (is_chosen chosen verdict) (chosen_in chosen order verdicts) bytes (part_of order bytes)
