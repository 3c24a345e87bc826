-- Frames that are judged one after the other in one call: s is the judge before, t after it.
use Rattle.std.specs.Prelude.{◌≡◌, ◌≢◌, ◌<◌, ◌≤◌, ◌+◌, ◌⊎◌, ℕ, zero, suc, List, [], length, take, drop, nat_le, if◌then◌else◌, slice_index_or}
use Rattle.packet_view.specs.Captures.{PacketFacts}
use Rattle.bihash_words.specs.declared.shape.Shape.{Ghosts}
use Rattle.flow_judge.specs.JudgeStates.{JudgeState}
use Rattle.racl_c.specs.Contents.{JudgeTold}
use Rattle.racl_c.specs.declared.answer_numbers.Answer.{Answer}
use Rattle.racl_c.specs.declared.burst.Descriptor.{Descriptor}

-- the bytes that a descriptor names, and none where some of them don't lie in the area
abbrev pub frame_in : List ℕ → Descriptor → List ℕ
frame_in memory d = if nat_le (d.at + d.length) (length memory) then take d.length (drop d.at memory) else []

abbrev pub packet_in : List ℕ → Descriptor → PacketFacts
packet_in memory d = record { interface = d.interface_number; moment = d.second; micros = 0; frame = frame_in memory d }

-- the frame at place n was judged from s to t, by one try, and that is its answer
abbrev pub IsJudgedAt : {A B K L : Type 0} → Ghosts A K → Ghosts B L → List ℕ → List Descriptor → List Answer → ℕ → JudgeState
    → JudgeState → Type 0
IsJudgedAt ga gb memory ds answers n s t = (d : Descriptor) (a : Answer)
    → JudgeTold ga gb (packet_in memory (slice_index_or ds n d)) (slice_index_or answers n a) s t

-- the first n frames were judged in their order, each from where the one before it left the judge
abbrev pub AreJudged : {A B K L : Type 0} → Ghosts A K → Ghosts B L → List ℕ → List Descriptor → List Answer → JudgeState → ℕ
    → JudgeState → Type 0
AreJudged ga gb memory ds answers s zero t = t ≡ s
AreJudged ga gb memory ds answers s (suc n) t =
    (u : JudgeState) × AreJudged ga gb memory ds answers s n u × IsJudgedAt ga gb memory ds answers n u t

-- the frame at place n met another judge
pub record MeetsAnother {A B K L : Type 0} (ga : Ghosts A K) (gb : Ghosts B L) (memory : List ℕ) (ds : List Descriptor)
    (answers : List Answer) (n : ℕ) (s t : JudgeState) : Type 0 where
  pub judged : IsJudgedAt ga gb memory ds answers n s t
  pub met : (a : Answer) → (slice_index_or answers n a).kind ≡ 7
  pub inside : (n < length ds) × (n < length answers)

-- all frames were judged, or there is no place more, or the next frame met another judge
abbrev pub HasEnded : {A B K L : Type 0} → Ghosts A K → Ghosts B L → List ℕ → List Descriptor → List Answer → ℕ → JudgeState
    → JudgeState → Type 0
HasEnded ga gb memory ds answers n s t = ((t ≡ s) × ((n ≡ length ds) ⊎ (n ≡ length answers)))
    ⊎ MeetsAnother ga gb memory ds answers n s t

-- n frames were judged before the burst ended, none of which met another judge, and answers behind stay
pub record BurstTold {A B K L : Type 0} (ga : Ghosts A K) (gb : Ghosts B L) (memory : List ℕ) (ds : List Descriptor)
    (before answers : List Answer) (n : ℕ) (s t : JudgeState) : Type 0 where
  pub middle : JudgeState
  pub judged : AreJudged ga gb memory ds answers s n middle
  pub inside : (n ≤ length ds) × (n ≤ length answers)
  pub met_none : (k : ℕ) (a : Answer) → k < n → (slice_index_or answers k a).kind ≢ 7
  pub ended : HasEnded ga gb memory ds answers n middle t
  pub places : length answers ≡ length before
  pub later : (k : ℕ) (a : Answer) → n < k → slice_index_or answers k a ≡ slice_index_or before k a
