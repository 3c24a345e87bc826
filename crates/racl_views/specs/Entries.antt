-- What is told of a packet: its entry (this project's profile).
use Rattle.std.specs.Prelude.{◌≡◌, ℕ, List, [], ◌∷◌, length, Option, None, Some, if◌then◌else◌}
use Rattle.packet_view.specs.Captures.{PacketFacts}
use Rattle.packet_view.specs.Frames.{FrameFacts, frame_facts}
use Rattle.acl_policy.specs.Policies.{PolicyFacts}
use Rattle.flow_filter.specs.Readings.{IsSeen}
use Rattle.session_state.specs.declared.verdict.Verdict.{Verdict}
use Rattle.racl_views.specs.declared.packet_entry.Entry.{Entry}
use Rattle.racl_views.specs.declared.rule_numbering.RuleLine.{RuleLine}
use Rattle.racl_views.specs.declared.rule_numbering.RuleName.{RuleName}
use Rattle.racl_views.specs.Deciding.{rule_on, same_rule}

-- The verdict, where the packet was seen, in which second and how many microseconds after it began, how many bytes of it were kept, what its frame is there, and the line of the rule that decided it: 0 where
-- none did.
pub record EntryFacts : Type 0 where
  pub verdict : Verdict
  pub interface : ℕ
  pub moment : ℕ
  pub micros : ℕ
  pub bytes : ℕ
  pub view : FrameFacts
  pub line : ℕ

-- what an entry says
abbrev pub entry_facts : Entry → EntryFacts
entry_facts e =
    record { verdict = e.verdict; interface = e.interface; moment = e.moment; micros = e.micros; bytes = e.bytes; view = frame_facts e.frame; line = e.line }

-- the line of the first of these rules that is this one, and 0 where none is
abbrev pub line_among : List RuleLine → RuleName → ℕ
line_among [] name = 0
line_among (at ∷ rules) name = if same_rule at.rule name then at.line else line_among rules name

-- the line of a rule that decided, where one did
abbrev pub line_deciding : List RuleLine → Option RuleName → ℕ
line_deciding rules None = 0
line_deciding rules (Some name) = line_among rules name

-- the entry of a packet with this verdict, under a policy whose text has these rules
pub record IsEntry (policy : PolicyFacts) (rules : List RuleLine) (packet : PacketFacts) (given : Verdict) (entry : EntryFacts) : Type 0 where
  pub verdict : entry.verdict ≡ given
  pub interface : entry.interface ≡ packet.interface
  pub moment : entry.moment ≡ packet.moment
  pub micros : entry.micros ≡ packet.micros
  pub bytes : entry.bytes ≡ length packet.frame
  pub seen : IsSeen policy packet entry.view
  pub line : entry.line ≡ line_deciding rules (rule_on packet.interface entry.view given)

-- each packet with its verdict has its entry
abbrev pub AreEntries : PolicyFacts → List RuleLine → List PacketFacts → List Verdict → List EntryFacts → Type 0
AreEntries policy rules [] verdicts entries = entries ≡ []
AreEntries policy rules (packet ∷ packets) [] entries = entries ≡ []
AreEntries policy rules (packet ∷ packets) (verdict ∷ verdicts) [] = ⊥
AreEntries policy rules (packet ∷ packets) (verdict ∷ verdicts) (entry ∷ entries) =
    IsEntry policy rules packet verdict entry × AreEntries policy rules packets verdicts entries
