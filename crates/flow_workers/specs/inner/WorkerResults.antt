-- What all workers of a run give back.
use Rattle.std.specs.Prelude.{◌≡◌, List, [], ◌∷◌, ◌++◌, All, map}
use Rattle.std.specs.List.{AllZip}
use Rattle.packet_view.specs.declared.tuple.Family.TheVariants.{V4, V6}
use Rattle.bihash_words.specs.declared.shape.Shape.{Ghosts}
use Rattle.bihash_rule.specs.Views.{nothing_held}
use Rattle.flow_dealing.specs.AgeingTraces.{AreAllDeeds, Deed, HaveDeeds, items_in}
use Rattle.flow_workers.specs.declared.worker_share.WorkerResults.{WorkerResults}
use Rattle.flow_workers.specs.declared.worker_share.Share.{Share}
use Rattle.flow_workers.specs.declared.session_tables.Tables.{Tables}
use Rattle.flow_workers.specs.inner.Merges.{AreTold, LetGo, said_in_shares}
use Rattle.flow_workers.specs.inner.Work.{RunFacts}

-- each worker judged its packets: its deeds are in the records of its callers, and it said its verdicts, of which it let go
-- the first
pub record AreResults {A B K L : Type 0} (ga : Ghosts A K) (gb : Ghosts B L) (tables : Tables A B K L) (run : RunFacts)
    (gone : LetGo) (results : WorkerResults A B K L ga gb) : Type 0 where
  pub all : List (List Deed)
  pub are : AreAllDeeds run.deal run.times run.ages run.policy run.packets all
  pub told : AreTold run (map items_in all) gone results.said.items
  pub own : All (λ c. c.seat.row ≡ tables.four.row) results.four.items
      × All (λ c. c.seat.row ≡ tables.six.row) results.six.items
  pub free : All (λ c. c.seat.view.holds ≡ nothing_held) results.four.items
      × All (λ c. c.seat.view.holds ≡ nothing_held) results.six.items
  pub four : AllZip (λ deeds c. HaveDeeds run.deal.layout.four V4 (deeds ∷ []) c.seat.view) all results.four.items
  pub six : AllZip (λ deeds c. HaveDeeds run.deal.layout.six V6 (deeds ∷ []) c.seat.view) all results.six.items

-- these are the parts of the shares
pub record AreResultsOf {A B K L : Type 0} {ga : Ghosts A K} {gb : Ghosts B L} (shares : List (Share A B K L ga gb))
    (results : WorkerResults A B K L ga gb) : Type 0 where
  pub four : results.four.items ≡ map (λ (s : Share A B K L ga gb). s.callers.four) shares
  pub six : results.six.items ≡ map (λ (s : Share A B K L ga gb). s.callers.six) shares
  pub said : results.said.items ≡ said_in_shares shares

-- whatever shares they are of, this one was added to these
abbrev pub HasAdded : {A B K L : Type 0} {ga : Ghosts A K} {gb : Ghosts B L} → Share A B K L ga gb
    → WorkerResults A B K L ga gb → WorkerResults A B K L ga gb → Type 0
HasAdded {A} {B} {K} {L} {ga} {gb} share old new = (shares : List (Share A B K L ga gb)) → AreResultsOf shares old
    → AreResultsOf (shares ++ share ∷ []) new
