-- Who judges in a run that compares two policies.
use Rattle.std.specs.Prelude.{List}
use Rattle.packet_view.specs.Captures.{PacketFacts}
use Rattle.session_state.specs.declared.verdict.Verdict.{Verdict}
use Rattle.filter_run.specs.Both.{firsts, seconds}
use Rattle.filter_run.specs.Filters.{HasSaid}
use Rattle.filter_run.specs.declared.both.Both.{Both}
use Rattle.filter_run.specs.declared.one_filter.OneFilter.{OneFilter}

-- the one said the first of these verdicts by the policy so far, and the other the second by the one that is to take its place
abbrev pub HaveSaid : {J K : Type 0} → (J → List PacketFacts → List Verdict → J → Type 0) → (J → List PacketFacts → List Verdict → Type 0)
    → (K → List PacketFacts → List Verdict → K → Type 0) → (K → List PacketFacts → List Verdict → Type 0)
    → Both (OneFilter J) (OneFilter K) → List PacketFacts → List (Verdict × Verdict) → Both (OneFilter J) (OneFilter K) → Type 0
HaveSaid Became Judged Also AlsoJudged begun packets said now =
    HasSaid Became Judged begun.first.inner packets (firsts said) now.first.inner
    × HasSaid Also AlsoJudged begun.second.inner packets (seconds said) now.second.inner
