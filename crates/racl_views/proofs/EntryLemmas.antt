-- Entries of packets that are told one after the other.
use Rattle.std.proofs.Common.{◌≡◌, ◌∙◌, ◌++◌, ◌+◌, ◌<◌, ℕ, zero, suc, List, [], ◌∷◌, ap, drop, get_or, length, refl, sym, take}
use Rattle.packet_view.specs.Captures.{PacketFacts}
use Rattle.acl_policy.specs.Policies.{PolicyFacts}
use Rattle.session_state.specs.declared.verdict.Verdict.{Verdict}
use Rattle.racl_io.proofs.LeftLemmas.{drop_one}
use Rattle.racl_io.proofs.LineLemmas as line
use Rattle.packet_words.proofs.ViewLemmas.{at_seen}
use Rattle.racl_views.specs.declared.rule_numbering.RuleLine.{RuleLine}
use Rattle.racl_views.specs.Entries.{AreEntries, EntryFacts}
use Rattle.racl_views.specs.RuleLines.{AreRules}
use Rattle.racl_views.specs.RunEntries.{HasEntries, RunFacts, told_from}
use Rattle.racl_views.specs.inner.EntryLists.{entries_on, entry_on}

-- each packet has its entry
pub all_entries : (policy : PolicyFacts) (rules : List RuleLine) (packets : List PacketFacts) (verdicts : List Verdict)
    → AreEntries policy rules packets verdicts (entries_on policy rules packets verdicts)
all_entries policy rules [] verdicts = refl
all_entries policy rules (packet ∷ packets) [] = refl
all_entries policy rules (packet ∷ packets) (verdict ∷ verdicts) =
    (record { verdict = refl; interface = refl; moment = refl; micros = refl; bytes = refl; seen = at_seen policy packet; line = refl }, all_entries policy rules packets verdicts)

-- without verdicts there are none
pub no_entries : (policy : PolicyFacts) (rules : List RuleLine) (packets : List PacketFacts) → entries_on policy rules packets [] ≡ []
no_entries policy rules [] = refl
no_entries policy rules (packet ∷ packets) = refl

-- the next one, and those behind it
pub entries_next : (policy : PolicyFacts) (rules : List RuleLine) (packets left : List PacketFacts) (packet : PacketFacts) (verdicts : List Verdict) (k : ℕ) (d : Verdict)
    → packets ≡ packet ∷ left → k < length verdicts
    → entries_on policy rules packets (drop k verdicts) ≡ entry_on policy rules packet (get_or verdicts k d) ∷ entries_on policy rules left (drop (k + 1) verdicts)
entries_next policy rules packets left packet verdicts k d took within =
    ap (λ (ps : List PacketFacts). entries_on policy rules ps (drop k verdicts)) took ∙ ap (entries_on policy rules (packet ∷ left)) (drop_one verdicts k d within)

-- those of the first packets
pub entries-take : (policy : PolicyFacts) (rules : List RuleLine) (k : ℕ) (packets : List PacketFacts) (verdicts : List Verdict)
    → take k (entries_on policy rules packets verdicts) ≡ entries_on policy rules (take k packets) (take k verdicts)
entries-take policy rules zero packets verdicts = refl
entries-take policy rules (suc k) [] verdicts = refl
entries-take policy rules (suc k) (packet ∷ packets) [] = refl
entries-take policy rules (suc k) (packet ∷ packets) (verdict ∷ verdicts) =
    ap (λ (es : List EntryFacts). entry_on policy rules packet verdict ∷ es) (entries-take policy rules k packets verdicts)

-- and those behind them
pub entries-drop : (policy : PolicyFacts) (rules : List RuleLine) (k : ℕ) (packets : List PacketFacts) (verdicts : List Verdict)
    → drop k (entries_on policy rules packets verdicts) ≡ entries_on policy rules (drop k packets) (drop k verdicts)
entries-drop policy rules zero packets verdicts = refl
entries-drop policy rules (suc k) [] verdicts = refl
entries-drop policy rules (suc k) (packet ∷ packets) [] = sym (no_entries policy rules (drop k packets))
entries-drop policy rules (suc k) (packet ∷ packets) (verdict ∷ verdicts) = entries-drop policy rules k packets verdicts

-- a run's entries, by what was looked up of the rules
pub entries_by_rules : (run : RunFacts) (rules : List RuleLine) → AreRules run.text rules → HasEntries run (entries_on run.policy rules run.packets run.verdicts)
entries_by_rules run rules are = record { rules = rules; lines = are; are = all_entries run.policy rules run.packets run.verdicts }

-- after the last of what is told
pub told_all : (tell : ℕ → EntryFacts → List ℕ) (n : ℕ) (entries : List EntryFacts) (so_far all : List ℕ) → entries ≡ []
    → so_far ++ told_from tell n entries ≡ all → so_far ≡ all
told_all tell n entries so_far all none told = line.told_all so_far (told_from tell n entries) all (ap (told_from tell n) none) told
