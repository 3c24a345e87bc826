-- Judges that are told of one another, and whether one is alone: s is the judge before a call, t after it.
use Rattle.std.specs.Prelude.{◌≡◌, ◌&&◌, Bool}
use Rattle.bihash_steps.specs.CallerCalls.{AreInformed}
use Rattle.bihash_table.specs.Calls.{TellsLone}
use Rattle.flow_filter.specs.OneThread.{Layout}
use Rattle.flow_judge.specs.JudgeStates.{JudgeState}

-- the judge is the same but for its callers
abbrev pub HasCallers : JudgeState → JudgeState → Type 0
HasCallers s t = t ≡ record s { four = t.four; six = t.six }

-- the judges t and u, which were s and the other, know of the tables what either knew
pub record AreMetJudges (l : Layout) (s other t u : JudgeState) : Type 0 where
  pub first : HasCallers s t
  pub second : HasCallers other u
  pub four : AreInformed l.four s.four other.four t.four u.four
  pub six : AreInformed l.six s.six other.six t.six u.six

-- whether the judge was found to have every number of both tables' callers
pub record TellsLoneJudge (l : Layout) (s t : JudgeState) (answer : Bool) : Type 0 where
  pub same : HasCallers s t
  pub in_four : Bool
  pub in_six : Bool
  pub four : TellsLone l.four s.four t.four in_four
  pub six : TellsLone l.six s.six t.six in_six
  pub both : answer ≡ (in_four && in_six)
