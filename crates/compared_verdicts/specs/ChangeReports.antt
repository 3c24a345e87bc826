-- The report on what a change of policy changes: a line for each packet that is changed, and totals (this project's profile).
use Rattle.std.specs.Prelude.{◌≡◌, ℕ, ◌+◌, Bool, not, ◌&&◌, ◌||◌, List, [], ◌∷◌, ◌++◌, None, codes, count_by, decimal, if◌then◌else◌, length, nat_lt}
use Rattle.packet_view.specs.Frames.{FrameFacts}
use Rattle.acl_policy.specs.Policies.{PolicyFacts}
use Rattle.flow_filter.specs.Readings.{IsSeen}
use Rattle.session_state.specs.Passes.{passes}
use Rattle.racl_io.specs.Reports.{text_of, truncation_line}
use Rattle.packet_words.specs.PacketTexts.{packet_told}
use Rattle.compared_verdicts.specs.Changes.{ChangeFacts}
use Rattle.compared_verdicts.specs.declared.change_totals.ChangeTotals.{ChangeTotals}

-- the packet's number and verdicts, and what it is where its frame is this
abbrev pub line_of : ChangeFacts → FrameFacts → List ℕ
line_of c view = (decimal c.number ++ (codes " " ++ (text_of c.before ++ (codes " -> " ++ text_of c.after))))
    ++ (packet_told c.packet.interface c.packet.moment view ++ codes "\n")

-- Each has its line, in their order. Its frame is seen as by this policy, which is to take the other's place.
abbrev pub AreLines : PolicyFacts → List ChangeFacts → List ℕ → Type 0
AreLines policy [] text = text ≡ []
AreLines policy (change ∷ changes) text =
    (view : FrameFacts) × (others : List ℕ) × IsSeen policy change.packet view × AreLines policy changes others
    × (text ≡ line_of change view ++ others)

-- it passed, and is dropped now
abbrev pub is_to_drop : ChangeFacts → Bool
is_to_drop c = passes c.before && not (passes c.after)

-- it was dropped, and passes now
abbrev pub is_to_pass : ChangeFacts → Bool
is_to_pass c = not (passes c.before) && passes c.after

-- it passes as before, or is dropped as before
abbrev pub is_other : ChangeFacts → Bool
is_other c = (passes c.before && passes c.after) || (not (passes c.before) && not (passes c.after))

-- over so many packets, of which these are changed
abbrev pub totals_of : List ChangeFacts → ℕ → Bool → ChangeTotals
totals_of changes packets truncated = record {
  packets = packets;
  changed = length changes;
  to_drop = count_by is_to_drop changes;
  to_pass = count_by is_to_pass changes;
  other = count_by is_other changes;
  truncated = truncated;
}

-- the totals over some packets, and others behind them of which these are changed
abbrev pub with_changes : ChangeTotals → List ChangeFacts → ChangeTotals
with_changes t changes = record t {
  changed = t.changed + length changes;
  to_drop = t.to_drop + count_by is_to_drop changes;
  to_pass = t.to_pass + count_by is_to_pass changes;
  other = t.other + count_by is_other changes;
}

abbrev pub other_told : ChangeTotals → List ℕ
other_told t = codes " other " ++ (decimal t.other ++ codes "\n")

abbrev pub kinds_told : ChangeTotals → List ℕ
kinds_told t = codes " pass to drop " ++ (decimal t.to_drop ++ (codes " drop to pass " ++ (decimal t.to_pass ++ other_told t)))

abbrev pub totals_line : ChangeTotals → List ℕ
totals_line t = codes "packets " ++ (decimal t.packets ++ (codes " changed " ++ (decimal t.changed ++ kinds_told t)))

-- what stands behind the lines
abbrev pub end_of_report : ChangeTotals → List ℕ
end_of_report t = truncation_line None t.truncated t.packets ++ totals_line t

-- the exit status: 5 where a packet is changed, else 3 where the capture was truncated, else 0
abbrev pub status_of_changes : ChangeTotals → ℕ
status_of_changes t = if nat_lt 0 t.changed then 5 else (if t.truncated then 3 else 0)
