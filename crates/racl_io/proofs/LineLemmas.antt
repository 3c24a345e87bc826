-- Lines of packets that are told one by one.
use Rattle.std.proofs.Common.{◌≡◌, ◌∙◌, ◌++◌, ◌+◌, ◌<◌, ℕ, List, [], ◌∷◌, append-nil, append_assoc, ap, drop, get_or, length, refl, sym}
use Rattle.packet_view.specs.Captures.{PacketFacts}
use Rattle.session_state.specs.declared.verdict.Verdict.{Verdict}
use Rattle.racl_io.specs.Tellings.{lines_by}
use Rattle.racl_io.proofs.LeftLemmas.{drop_one}

-- without verdicts there are none
pub no_lines : (line : ℕ → PacketFacts → Verdict → List ℕ) (n : ℕ) (packets : List PacketFacts) → lines_by line n packets [] ≡ []
no_lines line n [] = refl
no_lines line n (packet ∷ packets) = refl

-- that of the next packet, and those behind it
pub lines_next : (line : ℕ → PacketFacts → Verdict → List ℕ) (n : ℕ) (packets left : List PacketFacts) (packet : PacketFacts) (verdicts : List Verdict) (k : ℕ) (d : Verdict)
    → packets ≡ packet ∷ left → k < length verdicts
    → lines_by line n packets (drop k verdicts) ≡ line n packet (get_or verdicts k d) ++ lines_by line (n + 1) left (drop (k + 1) verdicts)
lines_next line n packets left packet verdicts k d took within =
    ap (λ (ps : List PacketFacts). lines_by line n ps (drop k verdicts)) took ∙ ap (lines_by line n (packet ∷ left)) (drop_one verdicts k d within)

-- what was written and what the piece has, after one more line
pub told_more : (front written piece now line more all : List ℕ) → (front ++ piece) ++ (line ++ more) ≡ all → piece ++ line ≡ written ++ now
    → ((front ++ written) ++ now) ++ more ≡ all
told_more front written piece now line more all told pushed =
    ap (λ (t : List ℕ). t ++ more) (append_assoc front written now ∙ ap (λ (t : List ℕ). front ++ t) (sym pushed) ∙ sym (append_assoc front piece line))
    ∙ append_assoc (front ++ piece) line more ∙ told

-- after the last one
pub told_all : (so_far left all : List ℕ) → left ≡ [] → so_far ++ left ≡ all → so_far ≡ all
told_all so_far left all none told = sym (append-nil so_far) ∙ ap (λ (t : List ℕ). so_far ++ t) (sym none) ∙ told
