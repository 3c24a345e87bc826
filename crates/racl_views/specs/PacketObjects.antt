-- What a run's packets, captures and totals are as objects of JSON; what isn't known has no key (this project's profile).
use Rattle.std.specs.Prelude.{◌≡◌, ℕ, ◌==◌, ◌-◌, ◌||◌, true, List, [], ◌∷◌, ◌++◌, codes, get_or, unwrap_or, if◌then◌else◌}
use Rattle.json.specs.Json.{Json, boolean}
use Rattle.packet_view.specs.Addresses.{icmp_of}
use Rattle.packet_view.specs.Frames.{FrameFacts, Ip, Malformed, NotIp, Short}
use Rattle.packet_view.specs.Tuples.{TupleFacts}
use Rattle.packet_view.specs.declared.tuple.Direction.{Direction}
use Rattle.packet_view.specs.declared.tuple.Direction.TheVariants.{Inbound, Outbound}
use Rattle.packet_view.specs.declared.tuple.Family.{Family}
use Rattle.packet_view.specs.declared.tuple.Fields.{Fields}
use Rattle.packet_view.specs.declared.tuple.Fields.TheVariants.{Absent, Icmp, Ports, Tcp}
use Rattle.session_state.specs.Passes.{passes}
use Rattle.session_state.specs.declared.verdict.Verdict.{Verdict}
use Rattle.session_state.specs.declared.verdict.Verdict.TheVariants as verdict
use Rattle.racl_io.specs.declared.totals_and_truncation.Captured.{Captured}
use Rattle.racl_io.specs.declared.totals_and_truncation.Totals.{Totals}
use Rattle.session_state.specs.declared.shown_verdicts.Shown.{Shown}
use Rattle.racl_io.specs.Reports.{totals_of}
use Rattle.session_state.specs.Passes.{is_shown}
use Rattle.racl_views.specs.Entries.{EntryFacts}
use Rattle.racl_views.specs.Objects.{Field, number, object_lines, object_of, string}
use Rattle.packet_words.specs.PacketWords.{address_text}
use Rattle.racl_views.specs.RuleTexts.{rule_texts}
use Rattle.racl_views.specs.RunEntries.{HasEntries, RunFacts, captures_told}

-- what became of a packet
abbrev pub effect_word : Verdict → List ℕ
effect_word verdict = if passes verdict then codes "pass" else codes "drop"

-- and why
abbrev pub reason_word : Verdict → List ℕ
reason_word verdict.Session = codes "session"
reason_word (verdict.Reflect n) = codes "rule"
reason_word (verdict.Permit n) = codes "rule"
reason_word (verdict.Deny n) = codes "rule"
reason_word verdict.ByDefault = codes "default"
reason_word verdict.Worn = codes "worn"
reason_word verdict.Full = codes "full"
reason_word verdict.NoPages = codes "no-pages"
reason_word verdict.NotIp = codes "not-ip"
reason_word verdict.Malformed = codes "malformed"
reason_word verdict.Short = codes "short"

-- the rule's number, and that a session was entered
abbrev pub rule_fields : Verdict → List Field
rule_fields verdict.Session = []
rule_fields (verdict.Reflect n) = number (codes "rule") n ∷ (codes "reflect", boolean true) ∷ []
rule_fields (verdict.Permit n) = number (codes "rule") n ∷ []
rule_fields (verdict.Deny n) = number (codes "rule") n ∷ []
rule_fields verdict.ByDefault = []
rule_fields verdict.Worn = []
rule_fields verdict.Full = []
rule_fields verdict.NoPages = []
rule_fields verdict.NotIp = []
rule_fields verdict.Malformed = []
rule_fields verdict.Short = []

-- what became of it, and why
abbrev pub verdict_fields : Verdict → List Field
verdict_fields verdict = string (codes "verdict") (effect_word verdict) ∷ string (codes "reason") (reason_word verdict) ∷ rule_fields verdict

-- a rule's line, and its text, which is one of these
abbrev pub line_fields : List (List ℕ) → ℕ → List Field
line_fields texts line = number (codes "line") line ∷ string (codes "text") (get_or texts (line - 1) []) ∷ []

-- those of the deciding rule, whose line is 0 where none did
abbrev pub decided_fields : List (List ℕ) → ℕ → List Field
decided_fields texts line = if line == 0 then [] else line_fields texts line

-- which way packets go at an interface
abbrev pub way_field : Direction → Field
way_field Inbound = string (codes "direction") (codes "in")
way_field Outbound = string (codes "direction") (codes "out")

-- that of a packet, where it is seen
abbrev pub frame_way : FrameFacts → List Field
frame_way NotIp = []
frame_way Malformed = []
frame_way Short = []
frame_way (Ip direction tuple) = way_field direction ∷ []

-- what follows the address of the source
abbrev pub source_fields : Fields → List Field
source_fields Absent = []
source_fields (Ports from to) = number (codes "source_port") from ∷ []
source_fields (Tcp from to flags) = number (codes "source_port") from ∷ []
source_fields (Icmp kind code) = []

-- what follows that of the destination; which fragment a packet is, is told as in explained lines
abbrev pub dest_fields : Family → ℕ → Fields → List Field
dest_fields family proto Absent = if (proto == 6) || ((proto == 17) || (proto == icmp_of family)) then (codes "later_fragment", boolean true) ∷ [] else []
dest_fields family proto (Ports from to) = number (codes "destination_port") to ∷ []
dest_fields family proto (Tcp from to flags) = number (codes "destination_port") to ∷ number (codes "flags") flags ∷ []
dest_fields family proto (Icmp kind code) = number (codes "type") kind ∷ number (codes "code") code ∷ []

abbrev pub tuple_fields : TupleFacts → List Field
tuple_fields tuple = number (codes "protocol") tuple.proto
    ∷ string (codes "source") (address_text tuple.family tuple.source)
    ∷ (source_fields tuple.fields
    ++ string (codes "destination") (address_text tuple.family tuple.dest) ∷ dest_fields tuple.family tuple.proto tuple.fields)

-- what a packet carries, where that is seen
abbrev pub carried_fields : FrameFacts → List Field
carried_fields NotIp = []
carried_fields Malformed = []
carried_fields Short = []
carried_fields (Ip direction tuple) = tuple_fields tuple

-- the object of the packet with this number
abbrev pub packet_object : List (List ℕ) → ℕ → EntryFacts → Json
packet_object texts n entry = object_of (number (codes "packet") n ∷ (verdict_fields entry.verdict ++ (decided_fields texts entry.line
    ++ number (codes "interface") entry.interface ∷ (frame_way entry.view
    ++ number (codes "time") entry.moment ∷ number (codes "microsecond") entry.micros ∷ number (codes "bytes") entry.bytes ∷ carried_fields entry.view))))

-- where it is shown
abbrev pub packet_objects : Shown → List (List ℕ) → ℕ → EntryFacts → List Json
packet_objects shown texts n entry = if is_shown shown entry.verdict then packet_object texts n entry ∷ [] else []

-- that of a capture that is truncated after so many packets; its interface is 0 where lines don't name it
abbrev pub truncation_object : Captured → Json
truncation_object captured =
    object_of (number (codes "interface") (unwrap_or captured.named 0) ∷ number (codes "truncated_after") captured.packets ∷ [])

-- of another there is none
abbrev pub truncation_objects : Captured → List Json
truncation_objects captured = if captured.truncated then truncation_object captured ∷ [] else []

-- that of the totals
abbrev pub totals_object : Totals → Json
totals_object t =
    object_of (number (codes "packets") t.packets ∷ number (codes "pass") t.passed ∷ number (codes "drop") t.dropped ∷ [])

-- those of all packets that are shown, of truncations and of the totals
abbrev pub run_objects : RunFacts → List EntryFacts → List Json
run_objects run entries =
    captures_told (λ captured. packet_objects run.shown (rule_texts run.text)) truncation_objects 1 entries run.captures
    ++ totals_object (totals_of run.verdicts run.captures) ∷ []

-- what is told of a run in objects
abbrev pub IsToldInObjects : RunFacts → List ℕ → Type 0
IsToldInObjects run told = (entries : List EntryFacts) × HasEntries run entries × (told ≡ object_lines (run_objects run entries))
