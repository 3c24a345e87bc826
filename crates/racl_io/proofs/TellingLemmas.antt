-- What is told one part after the other.
use Rattle.std.proofs.Common.{◌≡◌, ◌∙◌, ◌+◌, ◌-◌, ◌++◌, ◌<◌, ℕ, Bool, true, false, List, [], ◌∷◌, None, Option, Result, Ok, Err, ap, ap₂, append-nil, append_assoc, arith, drop, flat_map, get_or, length, min, refl, subst, sym, take}
use Rattle.std.specs.Prelude.{⊤, OnErr, OnOk, IfErr}
use Rattle.std.proofs.lemmas.List.{take_all}
use Rattle.std.proofs.KnownBytes.{Appends-trans}
use Rattle.std.specs.Io.KnownBytes.{Appends}
use Rattle.std.specs.List.{AllByRecursion}
use Rattle.std.proofs.lemmas.List.{length-drop, length-take}
use Rattle.packet_view.specs.Captures.{PacketFacts}
use Rattle.session_state.specs.declared.shown_verdicts.Shown.{Shown}
use Rattle.session_state.specs.declared.verdict.Verdict.{Verdict}
use Rattle.racl_io.specs.declared.fault.Fault.{Fault}
use Rattle.racl_io.specs.declared.fault.Fault.TheVariants.{Write}
use Rattle.racl_io.specs.Reports.{is_truncated, totals_line, totals_of}
use Rattle.racl_io.specs.ShownReports.{captures_shown, line_shown, lines_shown, report_shown}
use Rattle.racl_io.specs.Sinks.{GotFront, HasPutFront}
use Rattle.racl_io.specs.Tellings.{AreNamedBy, HasToldText, IsTellingFault, Wording, end_alone, end_in, lines_in, lines_naming, no_name, plain_wording, report_in, told_alone, truncation_of, turns_in, with_write}
use Rattle.racl_io.specs.declared.totals_and_truncation.Captured.{Captured}
use Rattle.racl_io.proofs.LeftLemmas.{drop_one}
use Rattle.racl_io.proofs.ReportLemmas.{cut_at}

-- a front of what follows a text is behind it
pub front_on : (a b c : Option (List ℕ)) (text more : List ℕ) → Appends a b text → GotFront b c more → GotFront a c (text ++ more)
front_on a b c text more wrote got = cut_at a b c text more [] (text ++ more) (append-nil (text ++ more)) wrote got

-- a front of a text is one of the text and more
pub front_of_first : (a b : Option (List ℕ)) (text more : List ℕ) → GotFront a b text → GotFront a b (text ++ more)
front_of_first a b text more (front, rest, same, got) = (front, rest ++ more, ap (λ t. t ++ more) same ∙ append_assoc front rest more, got)

-- one text after another
pub put_more : {W : Type 0} (bytes : W → Option (List ℕ)) (failures : W → ℕ) (a b c : W) (text more : List ℕ) (result : Result ⊤ Fault)
    → Appends (bytes a) (bytes b) text → failures b ≡ failures a → HasPutFront bytes failures b c more result → HasPutFront bytes failures a c (text ++ more) result
put_more bytes failures a b c text more (Ok x) wrote same put =
    (Appends-trans (bytes a) (bytes b) (bytes c) text more wrote put.0, put.1 ∙ same, tt, tt, tt)
put_more bytes failures a b c text more (Err e) wrote same put =
    (tt, tt, put.2 ∙ ap (λ n. n + 1) same, put.3, front_on (bytes a) (bytes b) (bytes c) text more wrote put.4)

-- both are the text
pub put_behind : {W : Type 0} (bytes : W → Option (List ℕ)) (failures : W → ℕ) (a b c : W) (front piece text : List ℕ) (result : Result ⊤ Fault)
    → Appends (bytes a) (bytes b) front → failures b ≡ failures a → front ++ piece ≡ text → HasPutFront bytes failures b c piece result
    → HasPutFront bytes failures a c text result
put_behind bytes failures a b c front piece text result wrote same all put =
    subst (λ (t : List ℕ). HasPutFront bytes failures a c t result) all (put_more bytes failures a b c front piece result wrote same put)

-- what holds whatever is answered
pub whatever : {A E X : Type 0} (result : Result A E) → X → OnOk result X
whatever (Ok x) holds = holds
whatever (Err e) holds = tt

-- what was written is told
pub told_put : {A W : Type 0} (bytes : W → Option (List ℕ)) (failures : W → ℕ) (old new : W) (text : List ℕ) (result : Result A Fault)
    → OnOk result (Appends (bytes old) (bytes new) text) → OnOk result (failures new ≡ failures old) → OnErr result (failures new ≡ failures old + 1)
    → IfErr result (λ e. e ≡ Write) → OnErr result (GotFront (bytes old) (bytes new) text) → HasToldText bytes failures old new text result
told_put bytes failures old new text (Ok x) wrote same more which front = (wrote, same)
told_put bytes failures old new text (Err e) wrote same more which front = (
  subst (IsTellingFault (bytes old) (bytes new) text) (sym which) front,
  subst (λ fault. failures new ≡ with_write (failures old) fault) (sym which) more,
)

-- where it is this text
pub told_put_as : {A W : Type 0} (bytes : W → Option (List ℕ)) (failures : W → ℕ) (old new : W) (text told : List ℕ) (result : Result A Fault) → told ≡ text
    → OnOk result (Appends (bytes old) (bytes new) text) → OnOk result (failures new ≡ failures old) → OnErr result (failures new ≡ failures old + 1)
    → IfErr result (λ e. e ≡ Write) → OnErr result (GotFront (bytes old) (bytes new) text) → HasToldText bytes failures old new told result
told_put_as bytes failures old new text told result is wrote same more which front =
    subst (λ (t : List ℕ). HasToldText bytes failures old new t result) (sym is) (told_put bytes failures old new text result wrote same more which front)

-- what is told of some packets and of those behind them
pub lines_in_both : (wording : Wording) (n m : ℕ) (ps qs : List PacketFacts) (vs ws : List Verdict) → length vs ≡ length ps → m ≡ n + length ps
    → lines_in wording n (ps ++ qs) (vs ++ ws) ≡ lines_in wording n ps vs ++ lines_in wording m qs ws
lines_in_both wording n m [] qs [] ws each next = let same : m ≡ n = omega (arith, next) in rw same refl
lines_in_both wording n m [] qs (v ∷ vs) ws each next = absurd (omega (arith, each))
lines_in_both wording n m (p ∷ ps) qs [] ws each next = absurd (omega (arith, each))
lines_in_both wording n m (p ∷ ps) qs (v ∷ vs) ws each next =
    ap (λ l. wording.line n p v ++ l) (lines_in_both wording (n + 1) m ps qs vs ws (omega (arith, each)) (omega (arith, next)))
    ∙ sym (append_assoc (wording.line n p v) (lines_in wording (n + 1) ps vs) (lines_in wording m qs ws))

-- what is told of packets that are named so
pub lines_named : (name : PacketFacts → Option ℕ) (named : Option ℕ) (shown : Shown) (n : ℕ) (packets : List PacketFacts) (verdicts : List Verdict) → length verdicts ≡ length packets
    → AllByRecursion (λ p. name p ≡ named) packets → lines_in (lines_naming name shown) n packets verdicts ≡ lines_shown shown named n verdicts
lines_named name named shown n [] [] each is = refl
lines_named name named shown n [] (v ∷ vs) each is = absurd (omega (arith, each))
lines_named name named shown n (p ∷ ps) [] each is = absurd (omega (arith, each))
lines_named name named shown n (p ∷ ps) (v ∷ vs) each is =
    ap₂ (λ a l. line_shown shown a n v ++ l) is.0 (lines_named name named shown (n + 1) ps vs (omega (arith, each)) is.1)

-- none is named
none_named : (packets : List PacketFacts) → AllByRecursion (λ p. no_name p ≡ None) packets
none_named [] = tt
none_named (p ∷ ps) = (refl, none_named ps)

-- the report's lines
pub plain_lines : (shown : Shown) (n : ℕ) (packets : List PacketFacts) (verdicts : List Verdict) → length verdicts ≡ length packets
    → lines_in (plain_wording shown) n packets verdicts ≡ lines_shown shown None n verdicts
plain_lines shown n packets verdicts each = lines_named no_name None shown n packets verdicts each (none_named packets)

-- what stands behind them, after the line on one more capture
pub truncations_next : (front all : List ℕ) (captures : List Captured) (k : ℕ) (d : Captured) → k < length captures
    → front ++ flat_map truncation_of (drop k captures) ≡ all
    → (front ++ truncation_of (get_or captures k d)) ++ flat_map truncation_of (drop (k + 1) captures) ≡ all
truncations_next front all captures k d within told =
    append_assoc front (truncation_of (get_or captures k d)) (flat_map truncation_of (drop (k + 1) captures))
    ∙ ap (λ (cs : List Captured). front ++ flat_map truncation_of cs) (sym (drop_one captures k d within))
    ∙ told

-- ---- Captures in turn

-- they are told as the report's lines name them
pub turns_shown : (name : PacketFacts → Option ℕ) (shown : Shown) (n : ℕ) (packets : List PacketFacts) (verdicts : List Verdict) (captures : List Captured)
    → length verdicts ≡ length packets → AreNamedBy name packets captures
    → turns_in (lines_naming name shown) n packets verdicts captures ≡ captures_shown shown n verdicts captures
turns_shown name shown n packets verdicts [] each named = refl
turns_shown name shown n packets verdicts (captured ∷ captures) each named =
    let k = captured.packets in
    let same : length (take k verdicts) ≡ length (take k packets) = length-take k verdicts ∙ ap (λ m. min k m) each ∙ sym (length-take k packets) in
    let left : length (drop k verdicts) ≡ length (drop k packets) = length-drop k verdicts ∙ ap (λ m. m - k) each ∙ sym (length-drop k packets) in
    ap₂ (λ a b. a ++ (truncation_of captured ++ b)) (lines_named name captured.named shown n (take k packets) (take k verdicts) same named.0)
    (turns_shown name shown (n + k) (drop k packets) (drop k verdicts) captures left named.1)

-- and so is the report on them
pub report_named : (name : PacketFacts → Option ℕ) (shown : Shown) (packets : List PacketFacts) (verdicts : List Verdict) (captures : List Captured)
    → length verdicts ≡ length packets → AreNamedBy name packets captures
    → report_in (lines_naming name shown) packets verdicts captures ≡ report_shown shown verdicts captures
report_named name shown packets verdicts captures each named =
    ap (λ l. l ++ totals_line (totals_of verdicts captures)) (turns_shown name shown 1 packets verdicts captures each named)

-- ---- One capture, whose interface isn't named

-- it isn't
pub alone_named : (packets : List PacketFacts) (n : ℕ) (truncated : Bool) → AreNamedBy no_name packets (told_alone n truncated)
alone_named packets n truncated = (none_named (take n packets), tt)

-- whether it is truncated
pub alone_truncated : (n : ℕ) (truncated : Bool) → truncated ≡ is_truncated (told_alone n truncated)
alone_truncated n true = refl
alone_truncated n false = refl

-- what stands behind its lines
pub end_is_alone : (wording : Wording) (verdicts : List Verdict) (n : ℕ) (truncated : Bool) → length verdicts ≡ n
    → end_alone wording (totals_of verdicts (told_alone n truncated)) ≡ end_in wording (told_alone n truncated) (totals_of verdicts (told_alone n truncated))
end_is_alone wording verdicts n truncated count =
    ap₂ (λ t m. end_in wording (told_alone m t) (totals_of verdicts (told_alone n truncated))) (sym (alone_truncated n truncated)) count

-- its report is its lines, and what stands behind them
pub report_alone : (wording : Wording) (packets : List PacketFacts) (verdicts : List Verdict) (truncated : Bool) → length verdicts ≡ length packets
    → report_in wording packets verdicts (told_alone (length packets) truncated)
    ≡ lines_in wording 1 packets verdicts ++ end_alone wording (totals_of verdicts (told_alone (length packets) truncated))
report_alone wording packets verdicts truncated each =
    let n = length packets in
    let captures = told_alone n truncated in
    let all = wording.all (totals_of verdicts captures) in
    let cut = flat_map wording.cut captures in
    ap₂ (λ ps vs. (lines_in wording 1 ps vs ++ cut) ++ all) (take_all n packets (omega arith)) (take_all n verdicts (omega (arith, each)))
    ∙ append_assoc (lines_in wording 1 packets verdicts) cut all
    ∙ ap (λ e. lines_in wording 1 packets verdicts ++ e) (sym (end_is_alone wording verdicts n truncated each))
