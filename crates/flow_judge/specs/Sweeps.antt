-- Looks for sessions that have ended, one after the other in buckets that follow one another: s is the judge before, t after
-- them.
use Rattle.std.specs.Prelude.{◌≡◌, ◌≤◌, ◌<◌, ◌+◌, ◌⊎◌, ℕ, zero, suc, true, false, Option, Ok, Err, if◌then◌else◌}
use Rattle.packet_view.specs.declared.tuple.Family.{Family}
use Rattle.bihash_words.specs.declared.patch.Reply.{Reply}
use Rattle.bihash_words.specs.declared.shape.Shape.{Ghosts}
use Rattle.bihash_rule.specs.Words.{buckets}
use Rattle.bihash_table.specs.Ageing.{is_removal}
use Rattle.bihash_table.specs.declared.contended.Contended.{Contended}
use Rattle.flow_filter.specs.OneThread.{layout_of, sizes_in}
use Rattle.flow_judge.specs.Ageing.{TellsAged}
use Rattle.flow_judge.specs.JudgeStates.{JudgeState}
use Rattle.flow_judge.specs.declared.judge_swept.Swept.{Swept}

-- a bucket is looked at again where a session of it went, and else the next one
abbrev pub bucket_after : Option Reply → ℕ → ℕ
bucket_after found bucket = if is_removal found then bucket else bucket + 1

-- how many sessions went by a look and those before it
abbrev pub went_after : Option Reply → ℕ → ℕ
went_after found went = if is_removal found then went + 1 else went

-- So many looks were answered, the first at bucket `from` and none at `to` or behind, each of the judge as the one before left
-- it. The next would be at this bucket, and so many sessions went.
abbrev pub AreLooks : {A B K L : Type 0} → Ghosts A K → Ghosts B L → Family → (moment from to : ℕ) → JudgeState
    → (looks next went : ℕ) → JudgeState → Type 0
AreLooks ga gb family moment from to s zero next went t = (next ≡ from) × (went ≡ 0) × (t ≡ s)
AreLooks ga gb family moment from to s (suc looks) next went t =
    (u : JudgeState) × (bucket : ℕ) × (gone : ℕ) × (found : Option Reply)
    × AreLooks ga gb family moment from to s looks bucket gone u × (bucket < to)
    × TellsAged ga gb family bucket moment u t (Ok found)
    × (next ≡ bucket_after found bucket) × (went ≡ went_after found gone)

-- the sweep is at its end, or as many looks were made as may be
abbrev pub IsOver : (buckets to most looks next : ℕ) → Type 0
IsOver count to most looks next = (looks ≡ most) ⊎ ((to ≤ next) ⊎ (count ≤ next))

-- The buckets before the one that is told have no session that has ended, as the last look at each found, or take no more
-- changes. Where another judge was met, it was in that bucket.
pub record TellsSwept {A B K L : Type 0} (ga : Ghosts A K) (gb : Ghosts B L) (family : Family) (moment from to most : ℕ)
    (s t : JudgeState) (swept : Swept) : Type 0 where
  pub looks : ℕ
  pub few : looks ≤ most
  pub middle : JudgeState
  pub looked : AreLooks ga gb family moment from to s looks swept.next swept.went middle
  pub over : swept.met ≡ false
      → (t ≡ middle) × IsOver (buckets (sizes_in (layout_of ga gb) family)) to most looks swept.next
  pub met : swept.met ≡ true
      → (refused : Contended) × (swept.next < to) × TellsAged ga gb family swept.next moment middle t (Err refused)
