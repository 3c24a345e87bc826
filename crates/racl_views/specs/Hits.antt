-- How many packets each rule of a policy decided, how many none did, and how many sessions were entered, matched and expired (this
-- project's profile).
use Rattle.std.specs.Prelude.{◌≡◌, ℕ, ◌+◌, ◌-◌, Bool, true, false, not, List, [], ◌∷◌, ◌++◌, Option, codes, count_by, get_or, map, max}
use Rattle.std.specs.List.{flat_map}
use Rattle.json.specs.Json.{Json}
use Rattle.packet_view.specs.Captures.{PacketFacts}
use Rattle.packet_view.specs.declared.tuple.Direction.{Direction}
use Rattle.packet_view.specs.declared.tuple.Direction.TheVariants.{Inbound, Outbound}
use Rattle.session_state.specs.Sessions.{is_expired_at}
use Rattle.session_state.specs.declared.timeouts.Timeouts.{Timeouts}
use Rattle.session_state.specs.declared.verdict.Verdict.{Verdict}
use Rattle.session_state.specs.declared.verdict.Verdict.TheVariants as verdict
use Rattle.racl_views.specs.declared.hit_counts.Hit.{Hit}
use Rattle.racl_views.specs.declared.hit_counts.Hit.TheVariants as hit
use Rattle.racl_views.specs.declared.counting_reasons.NoRule.{NoRule}
use Rattle.racl_views.specs.declared.counting_reasons.NoRule.TheVariants as reason
use Rattle.racl_views.specs.declared.rule_numbering.RuleLine.{RuleLine}
use Rattle.racl_views.specs.declared.rule_numbering.RuleName.{RuleName}
use Rattle.racl_views.specs.declared.session_counts.SessionCounts.{SessionCounts}
use Rattle.racl_views.specs.declared.sessions_as_text_and_json.TextOrJson.{TextOrJson}
use Rattle.racl_views.specs.declared.sessions_as_text_and_json.TextOrJson.TheVariants as form
use Rattle.racl_views.specs.Deciding.{AreDecided, hits_on}
use Rattle.racl_views.specs.Objects.{number, object_line, object_of, string}
use Rattle.racl_views.specs.PacketObjects.{line_fields, way_field}
use Rattle.packet_words.specs.PacketWords.{numbered}
use Rattle.racl_views.specs.RuleLines.{AreRules}
use Rattle.racl_views.specs.RuleTexts.{rule_texts}
use Rattle.racl_views.specs.Stored.{StoredFacts}
use Rattle.racl_views.specs.RunEntries.{RunFacts}

-- ---- verdicts that are no rule's

-- whether a packet with this verdict has it for this reason
abbrev pub has_reason : NoRule → Verdict → Bool
has_reason reason.Session verdict.Session = true
has_reason reason.ByDefault verdict.ByDefault = true
has_reason reason.Full verdict.Full = true
has_reason reason.Worn verdict.Worn = true
has_reason reason.NoPages verdict.NoPages = true
has_reason reason.NotIp verdict.NotIp = true
has_reason reason.Malformed verdict.Malformed = true
has_reason reason.Short verdict.Short = true
has_reason _ _ = false

abbrev pub word_of : NoRule → List ℕ
word_of reason.Session = codes "session"
word_of reason.ByDefault = codes "default"
word_of reason.Full = codes "full"
word_of reason.Worn = codes "worn"
word_of reason.NoPages = codes "no-pages"
word_of reason.NotIp = codes "not-ip"
word_of reason.Malformed = codes "malformed"
word_of reason.Short = codes "short"

-- all of them, in their order
abbrev pub all_reasons : List NoRule
all_reasons = reason.Session ∷ reason.ByDefault ∷ reason.Full ∷ reason.Worn ∷ reason.NoPages ∷ reason.NotIp ∷ reason.Malformed ∷ reason.Short ∷ []

-- ---- counts

-- whether the verdict is of a packet that entered a session
abbrev pub is_entry : Verdict → Bool
is_entry (verdict.Reflect number) = true
is_entry _ = false

-- the latest second of these packets, and 0 where there are none
abbrev pub latest_second : List PacketFacts → ℕ
latest_second [] = 0
latest_second (packet ∷ packets) = max packet.moment (latest_second packets)

-- how many of these pairs are sessions that are live at a moment
abbrev pub live_among : Timeouts → ℕ → List (List ℕ × ℕ) → ℕ
live_among times moment pairs = count_by (λ pair. not (is_expired_at times moment pair.1)) pairs

abbrev pub live_stored : Timeouts → ℕ → StoredFacts → ℕ
live_stored times moment stored = live_among times moment stored.four + live_among times moment stored.six

-- how many were entered, how many packets they let through, and how many of those that were entered aren't live any more at this
-- second
abbrev pub session_counts : Timeouts → ℕ → RunFacts → StoredFacts → SessionCounts
session_counts times latest run stored = record {
  entered = count_by is_entry run.verdicts;
  matched = count_by (has_reason reason.Session) run.verdicts;
  expired = count_by is_entry run.verdicts - live_stored times latest stored;
}

-- ---- hits

-- how many packets each of these rules decided, where packets were decided by those
abbrev pub rule_hits : List (Option RuleName) → List RuleLine → List Hit
rule_hits deciding rules = map (λ at. hit.Rule at (hits_on at.rule deciding)) rules

-- how many have a verdict for each reason
abbrev pub reason_hits : List Verdict → List Hit
reason_hits verdicts = map (λ why. hit.Unruled why (count_by (has_reason why) verdicts)) all_reasons

abbrev pub session_hits : SessionCounts → List Hit
session_hits counts = hit.Entered counts.entered ∷ hit.Matched counts.matched ∷ hit.Expired counts.expired ∷ []

-- ---- in either form

abbrev pub way_word : Direction → List ℕ
way_word Inbound = codes " in rule "
way_word Outbound = codes " out rule "

-- a line for a hit; the text of a rule's line is one of these
abbrev pub hit_line : List (List ℕ) → Hit → List ℕ
hit_line texts (hit.Rule at count) = numbered (codes "interface ") at.rule.interface
    ++ (numbered (way_word at.rule.direction) at.rule.number
    ++ (numbered (codes " line ") at.line ++ (numbered (codes " packets ") count ++ (codes " | " ++ (get_or texts (at.line - 1) [] ++ codes "\n")))))
hit_line texts (hit.Unruled why count) = word_of why ++ (numbered (codes " packets ") count ++ codes "\n")
hit_line texts (hit.Entered count) = numbered (codes "sessions entered ") count ++ codes "\n"
hit_line texts (hit.Matched count) = numbered (codes "sessions matched ") count ++ codes "\n"
hit_line texts (hit.Expired count) = numbered (codes "sessions expired ") count ++ codes "\n"

abbrev pub hit_object : List (List ℕ) → Hit → Json
hit_object texts (hit.Rule at count) = object_of (number (codes "interface") at.rule.interface ∷ way_field at.rule.direction
    ∷ number (codes "rule") at.rule.number ∷ (line_fields texts at.line ++ number (codes "packets") count ∷ []))
hit_object texts (hit.Unruled why count) = object_of (string (codes "reason") (word_of why) ∷ number (codes "packets") count ∷ [])
hit_object texts (hit.Entered count) = object_of (number (codes "sessions_entered") count ∷ [])
hit_object texts (hit.Matched count) = object_of (number (codes "sessions_matched") count ∷ [])
hit_object texts (hit.Expired count) = object_of (number (codes "sessions_expired") count ∷ [])

abbrev pub hit_told : TextOrJson → List (List ℕ) → Hit → List ℕ
hit_told form.Text texts it = hit_line texts it
hit_told form.Json texts it = object_line (hit_object texts it)

-- ---- all of it

-- What is told of hits, a line or an object for each: of the rules of the policy's text in its order, of the verdicts that are no
-- rule's, and of sessions, by those that are stored after the run and live at the latest second.
pub record IsHits (view : TextOrJson) (times : Timeouts) (latest : ℕ) (run : RunFacts) (stored : StoredFacts) (told : List ℕ) : Type 0 where
  pub rules : List RuleLine
  pub lines : AreRules run.text rules
  pub deciding : List (Option RuleName)
  pub decided : AreDecided run.policy run.packets run.verdicts deciding
  pub all : told ≡ flat_map (hit_told view (rule_texts run.text))
      (rule_hits deciding rules ++ (reason_hits run.verdicts ++ session_hits (session_counts times latest run stored)))

-- the same, where it is asked for
abbrev pub AreHits : Bool → TextOrJson → Timeouts → ℕ → RunFacts → StoredFacts → List ℕ → Type 0
AreHits false view times latest run stored told = told ≡ []
AreHits true view times latest run stored told = IsHits view times latest run stored told
