-- What a look for an ended session leaves of a judge: s is the judge before, t after it.
use Rattle.std.specs.Prelude.{◌≡◌, ◌<◌, ◌≤◌, ℕ, Bool, Option, None, Result, Ok}
use Rattle.packet_view.specs.declared.tuple.Family.{Family}
use Rattle.packet_view.specs.declared.tuple.Family.TheVariants.{V4, V6}
use Rattle.bihash_words.specs.Sizes.{Sizes, sizes_of}
use Rattle.bihash_words.specs.declared.patch.Reply.{Reply}
use Rattle.bihash_words.specs.declared.shape.Shape.{Ghosts}
use Rattle.bihash_rule.specs.Words.{buckets}
use Rattle.bihash_steps.specs.Seats.{CallerState}
use Rattle.bihash_table.specs.Ageing.{TellsExpireTry}
use Rattle.bihash_table.specs.declared.contended.Contended.{Contended}
use Rattle.session_state.specs.Sessions.{is_expired_at}
use Rattle.flow_judge.specs.JudgeStates.{JudgeState}

-- One try of a look at bucket b for an expired pair. Where the table has no such bucket none is found, and nothing was
-- done.
pub record LooksAt (z : Sizes) (b : ℕ) (is_expired : ℕ → Bool) (s t : CallerState) (r : Result (Option Reply) Contended)
    : Type 0 where
  pub inside : b < buckets z → TellsExpireTry z s t b is_expired r
  pub outside : buckets z ≤ b → (t ≡ s) × (r ≡ Ok None)

-- the family's caller looked at the bucket for sessions that have ended by this second, and all else is the same
abbrev pub TellsAged : {A B K L : Type 0} → Ghosts A K → Ghosts B L → Family → ℕ → ℕ → JudgeState → JudgeState
    → Result (Option Reply) Contended → Type 0
TellsAged ga gb V4 b moment s t r =
    LooksAt (sizes_of ga) b (is_expired_at s.times moment) s.four t.four r × (t ≡ record s { four = t.four })
TellsAged ga gb V6 b moment s t r =
    LooksAt (sizes_of gb) b (is_expired_at s.times moment) s.six t.six r × (t ≡ record s { six = t.six })
