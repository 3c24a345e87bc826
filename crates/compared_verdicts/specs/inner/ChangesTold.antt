-- Changed packets that are told while they come: what was written so far, and where that failed.
use Rattle.std.specs.Prelude.{◌≡◌, ◌+◌, ◌-◌, ◌<◌, ◌++◌, ◌∷◌, ◌^◌, ℕ, List, [], Option, false, length}
use Rattle.std.specs.List.{flat_map}
use Rattle.std.specs.Io.KnownBytes.{Appends}
use Rattle.session_state.specs.declared.verdict.Verdict.{Verdict}
use Rattle.racl_io.specs.declared.fault.Fault.{Fault}
use Rattle.racl_io.specs.Tellings.{IsTellingFault, with_write}
use Rattle.filter_run.specs.Batches.{JudgedBatch, packets_in, said_of}
use Rattle.filter_run.specs.Both.{firsts, seconds}
use Rattle.compared_verdicts.specs.Changes.{ChangeFacts, PairFacts, changes_from, pair_facts}
use Rattle.compared_verdicts.specs.ChangeReports.{totals_of}
use Rattle.compared_verdicts.specs.declared.changes_told.ChangeLines.{ChangeLines}
use Rattle.compared_verdicts.specs.inner.ChangeLines.{lines_by}

-- what is changed of a batch, by its packets' numbers
abbrev pub batch_changes : PairFacts → JudgedBatch (Verdict × Verdict) → List ChangeFacts
batch_changes policies one = changes_from policies (one.batch.others + 1) (firsts one.said) (seconds one.said) (packets_in one.batch)

-- and of batches, one behind the other
abbrev pub changes_of : PairFacts → List (JudgedBatch (Verdict × Verdict)) → List ChangeFacts
changes_of policies judged = flat_map (batch_changes policies) judged

-- what is told of them
abbrev pub text_of : PairFacts → List (JudgedBatch (Verdict × Verdict)) → List ℕ
text_of policies judged = lines_by policies.after (changes_of policies judged)

-- the policies and the writer are those that began
pub record AreSame {W : Type 0} (begun now : ChangeLines W) : Type 0 where
  pub policies : now.policies ≡ begun.policies
  pub writer : now.writer.ghost_name ≡ begun.writer.ghost_name

-- this was written, and these are the totals
pub record HasToldChanges {W : Type 0} (bytes : W → Option (List ℕ)) (failures : W → ℕ) (begun : ChangeLines W) (judged : List (JudgedBatch (Verdict × Verdict)))
    (now : ChangeLines W) : Type 0 where
  pub same : AreSame begun now
  pub text : Appends (bytes begun.writer.now) (bytes now.writer.now) (text_of (pair_facts begun.policies) judged)
  pub few : failures begun.writer.now < 2 ^ 64 - 1
  pub sound : failures now.writer.now ≡ failures begun.writer.now
  pub totals : now.totals ≡ totals_of (changes_of (pair_facts begun.policies) judged) (length (said_of judged)) false

-- all but the last batch was told, and of that nothing, where memory ran out; or a front of it
pub record HasCutChanges {W : Type 0} (bytes : W → Option (List ℕ)) (failures : W → ℕ) (begun : ChangeLines W) (judged : List (JudgedBatch (Verdict × Verdict)))
    (fault : Fault) (now : ChangeLines W) : Type 0 where
  pub same : AreSame begun now
  pub earlier : List (JudgedBatch (Verdict × Verdict))
  pub last : JudgedBatch (Verdict × Verdict)
  pub all : judged ≡ earlier ++ last ∷ []
  pub before : Option (List ℕ)
  pub text : Appends (bytes begun.writer.now) before (text_of (pair_facts begun.policies) earlier)
  pub front : IsTellingFault before (bytes now.writer.now) (text_of (pair_facts begun.policies) (last ∷ [])) fault
  pub failed : failures now.writer.now ≡ with_write (failures begun.writer.now) fault
