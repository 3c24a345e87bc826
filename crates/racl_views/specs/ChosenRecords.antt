-- A capture of those packets of a capture that are chosen by their verdicts (this project's profile).
use Rattle.std.specs.Prelude.{◌≡◌, ℕ, Bool, true, false, not, List, [], ◌∷◌, ◌++◌, take, ⊤}
use Rattle.std.specs.List.{concat}
use Rattle.packet_view.specs.Captures.{End, HasFileHeader, IsCapture, IsRecord, RecordFacts}
use Rattle.packet_view.specs.declared.capture.Order.{Order}
use Rattle.session_state.specs.Passes.{passes}
use Rattle.session_state.specs.declared.verdict.Verdict.{Verdict}
use Rattle.racl_views.specs.declared.chosen_packets.Chosen.{Chosen}
use Rattle.racl_views.specs.declared.chosen_packets.Chosen.TheVariants.{Passing, Dropped}

-- whether a packet with this verdict is chosen
abbrev pub is_chosen : Chosen → Verdict → Bool
is_chosen Passing verdict = passes verdict
is_chosen Dropped verdict = not (passes verdict)

-- this one, where it is kept, before others
abbrev pub kept_before : {A : Type 0} → Bool → A → List A → List A
kept_before true x xs = x ∷ xs
kept_before false x xs = xs

-- those that stand beside a verdict by which they are chosen, in their order
abbrev pub chosen_among : {A : Type 0} → Chosen → List Verdict → List A → List A
chosen_among chosen [] xs = []
chosen_among chosen (verdict ∷ verdicts) [] = []
chosen_among chosen (verdict ∷ verdicts) (x ∷ xs) = kept_before (is_chosen chosen verdict) x (chosen_among chosen verdicts xs)

-- the bytes of a record that says this
abbrev pub IsRecordOf : Order → List ℕ → RecordFacts → Type 0
IsRecordOf order bytes facts = (header : List ℕ) × (bytes ≡ header ++ facts.frame) × IsRecord order header facts

-- the bytes of each of these
abbrev pub AreRecordsOf : Order → List (List ℕ) → List RecordFacts → Type 0
AreRecordsOf order [] [] = ⊤
AreRecordsOf order [] (facts ∷ records) = ⊥
AreRecordsOf order (piece ∷ pieces) [] = ⊥
AreRecordsOf order (piece ∷ pieces) (facts ∷ records) = IsRecordOf order piece facts × AreRecordsOf order pieces records

-- What is written of a capture of these records: its header, and the bytes of the chosen records as they are.
pub record IsChosen (chosen : Chosen) (verdicts : List Verdict) (capture : List ℕ) (records : List RecordFacts) (written : List ℕ) : Type 0 where
  pub order : Order
  pub header : HasFileHeader order capture
  pub pieces : List (List ℕ)
  pub each : AreRecordsOf order pieces records
  pub rest : List ℕ
  pub spelt : capture ≡ take 24 capture ++ (concat pieces ++ rest)
  pub all : written ≡ take 24 capture ++ concat (chosen_among chosen verdicts pieces)

-- What is written of a capture's chosen packets.
pub record IsSaved (chosen : Chosen) (verdicts : List Verdict) (capture written : List ℕ) : Type 0 where
  pub records : List RecordFacts
  pub end : End
  pub are : IsCapture capture records end
  pub is : IsChosen chosen verdicts capture records written
