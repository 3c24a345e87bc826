-- What a worker does to its callers, and what it says.
use Rattle.std.specs.Prelude.{◌≡◌, ℕ, ◌++◌, Bool, List, [], ◌∷◌, drop, length, map, All}
use Rattle.packet_view.specs.Captures.{PacketFacts}
use Rattle.packet_view.specs.Frames as frames
use Rattle.packet_view.specs.declared.tuple.Family.TheVariants.{V4, V6}
use Rattle.acl_policy.specs.Policies.{PolicyFacts}
use Rattle.bihash_rule.specs.declared.view.Call.{Call}
use Rattle.bihash_rule.specs.declared.view.Record.{Record}
use Rattle.bihash_rule.specs.declared.view.View.{View}
use Rattle.session_state.specs.declared.timeouts.Timeouts.{Timeouts}
use Rattle.session_state.specs.declared.verdict.Verdict.{Verdict}
use Rattle.flow_filter.specs.Judged.{verdict_on}
use Rattle.flow_dealing.specs.Views.{Views}
use Rattle.flow_dealing.specs.Dealings.{Deal}
use Rattle.flow_dealing.specs.Traces.{AreFrames, IsItem, IsItemOf, Item, judged_of, numbers_from}
use Rattle.flow_dealing.specs.AgeingTraces.{AreDeeds, AreInOrder, Deed, IsRemovalOf, aged_in, calls_by, items_in}
use Rattle.flow_workers.specs.inner.Wanted.{KeepWanted}

-- what the verdicts of a run rest on
pub record RunFacts : Type 0 where
  pub deal : Deal
  pub times : Timeouts
  pub policy : PolicyFacts
  pub packets : List PacketFacts
  pub ages : Bool

abbrev pub verdict_in : Item → Verdict
verdict_in i = verdict_on (judged_of i)

abbrev pub numbers_of : List Item → List ℕ
numbers_of is = map (λ i. i.packet) is

-- the caller's one record has these calls more, and its buckets began as before
pub record RecordContinues (v w : View) (more : List Call) : Type 0 where
  pub calls : (r : Record) → v.records ≡ r ∷ []
      → (locks : ℕ) × (w.records ≡ record r { calls = r.calls ++ more; locks = locks } ∷ [])
  pub openings : w.known.openings ≡ v.known.openings

-- the verdicts are those of the items, in their order
abbrev pub AreSaid : List Item → List Verdict → Type 0
AreSaid trace verdicts = verdicts ≡ map verdict_in trace

-- A worker has looked at so many packets, judged its own, and removed sessions between them. Whatever deeds are in order from
-- there on may follow its deeds.
pub record IsWorkUntil (run : RunFacts) (worker at : ℕ) (v w : Views)
    (verdicts : List Verdict) : Type 0 where
  pub deeds : List Deed
  pub items : All (IsItem run.deal.layout run.times) (items_in deeds)
  pub of : All (IsItemOf run.deal worker run.policy run.packets) (items_in deeds)
  pub dealt : (views : List frames.FrameFacts) → AreFrames run.policy run.packets views
      → numbers_of (items_in deeds) ++ numbers_from run.deal worker at (drop at views) ≡ numbers_from run.deal worker 0 views
  pub removals : All (IsRemovalOf run.deal run.times run.ages run.packets worker) (aged_in deeds)
  pub order : (more : List Deed) → AreInOrder (length run.packets) at more → AreInOrder (length run.packets) 0 (deeds ++ more)
  pub four : RecordContinues v.four w.four (calls_by V4 deeds)
  pub six : RecordContinues v.six w.six (calls_by V6 deeds)
  pub wanted : KeepWanted run.deal.layout v w
  pub said : AreSaid (items_in deeds) verdicts

-- A worker judged its packets, all of them, and removed sessions between them: the calls of its deeds follow what its callers'
-- records had, and these are its verdicts.
pub record IsWork (run : RunFacts) (worker : ℕ) (v w : Views)
    (verdicts : List Verdict) : Type 0 where
  pub deeds : List Deed
  pub are : AreDeeds run.deal run.times run.ages worker run.policy run.packets deeds
  pub four : RecordContinues v.four w.four (calls_by V4 deeds)
  pub six : RecordContinues v.six w.six (calls_by V6 deeds)
  pub wanted : KeepWanted run.deal.layout v w
  pub said : AreSaid (items_in deeds) verdicts
