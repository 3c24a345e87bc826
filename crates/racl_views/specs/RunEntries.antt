-- A run, and what is told of its packets and captures, in their order (this project's profile).
use Rattle.std.specs.Prelude.{ℕ, ◌+◌, List, [], ◌∷◌, ◌++◌, drop, take}
use Rattle.packet_view.specs.Captures.{PacketFacts}
use Rattle.packet_view.specs.CheckedCaptures.{remaining}
use Rattle.acl_policy.specs.Policies.{PolicyFacts, policy_facts}
use Rattle.session_state.specs.declared.verdict.Verdict.{Verdict}
use Rattle.racl_io.specs.declared.totals_and_truncation.Captured.{Captured}
use Rattle.session_state.specs.declared.shown_verdicts.Shown.{Shown}
use Rattle.racl_views.specs.declared.rule_numbering.RuleLine.{RuleLine}
use Rattle.racl_views.specs.declared.run_and_verdicts.Run.{Run}
use Rattle.racl_views.specs.Entries.{AreEntries, EntryFacts}
use Rattle.racl_views.specs.RuleLines.{AreRules}

-- a `Run` as a value
pub record RunFacts : Type 0 where
  pub policy : PolicyFacts
  pub text : List ℕ
  pub packets : List PacketFacts
  pub verdicts : List Verdict
  pub captures : List Captured
  pub shown : Shown

abbrev pub run_facts : Run → RunFacts
run_facts r = record {
  policy = policy_facts r.policy.now;
  text = r.text.now;
  packets = remaining r.packets;
  verdicts = r.verdicts.now;
  captures = r.captures.now;
  shown = r.shown;
}

-- the entries of a run's packets, under the policy that its text says
pub record HasEntries (run : RunFacts) (entries : List EntryFacts) : Type 0 where
  pub rules : List RuleLine
  pub lines : AreRules run.text rules
  pub are : AreEntries run.policy rules run.packets run.verdicts entries

-- what is told of packets whose numbers begin with n
abbrev pub told_from : {A : Type 0} → (ℕ → EntryFacts → List A) → ℕ → List EntryFacts → List A
told_from tell n [] = []
told_from tell n (entry ∷ entries) = tell n entry ++ told_from tell (n + 1) entries

-- What is told of captures, one after the other, of whose packets the first has the number n: of each its packets, and then its
-- end.
abbrev pub captures_told : {A : Type 0} → (Captured → ℕ → EntryFacts → List A) → (Captured → List A) → ℕ → List EntryFacts → List Captured → List A
captures_told tell end n entries [] = []
captures_told tell end n entries (captured ∷ captures) =
    told_from (tell captured) n (take captured.packets entries)
    ++ (end captured ++ captures_told tell end (n + captured.packets) (drop captured.packets entries) captures)
