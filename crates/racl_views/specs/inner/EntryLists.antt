-- Entries by the steps of the code, and where the lines of rules stand among all.
use Rattle.std.specs.Prelude.{◌≡◌, ◌<◌, ◌^◌, ℕ, List, [], ◌∷◌, get_or, length}
use Rattle.packet_view.specs.Captures.{PacketFacts}
use Rattle.acl_policy.specs.Policies.{PolicyFacts}
use Rattle.session_state.specs.declared.verdict.Verdict.{Verdict}
use Rattle.packet_words.specs.inner.ViewedPackets.{view_at}
use Rattle.racl_views.specs.declared.rule_numbering.RuleLine.{RuleLine}
use Rattle.racl_views.specs.declared.rule_numbering.RuleName.{RuleName}
use Rattle.racl_views.specs.Deciding.{rule_on}
use Rattle.racl_views.specs.Entries.{EntryFacts, line_among, line_deciding}
use Rattle.racl_views.specs.inner.Places.{place_of}

abbrev pub entry_on : PolicyFacts → List RuleLine → PacketFacts → Verdict → EntryFacts
entry_on policy rules packet verdict = record {
  verdict = verdict;
  interface = packet.interface;
  moment = packet.moment;
  micros = packet.micros;
  bytes = length packet.frame;
  view = view_at policy packet;
  line = line_deciding rules (rule_on packet.interface (view_at policy packet) verdict);
}

abbrev pub entries_on : PolicyFacts → List RuleLine → List PacketFacts → List Verdict → List EntryFacts
entries_on policy rules [] verdicts = []
entries_on policy rules (packet ∷ packets) [] = []
entries_on policy rules (packet ∷ packets) (verdict ∷ verdicts) = entry_on policy rules packet verdict ∷ entries_on policy rules packets verdicts

-- the line of each rule that may decide stands at its place, and 0 where there is no such rule
abbrev pub AreAtPlaces : List ℕ → List RuleLine → Type 0
AreAtPlaces lines rules =
    (name : RuleName) → name.interface < 2 ^ 8 → name.number < 2 ^ 16 → get_or lines (place_of name) 0 ≡ line_among rules name
