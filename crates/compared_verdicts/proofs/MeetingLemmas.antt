-- What is told of expectations one after the other.
use Rattle.std.proofs.Common.{◌≡◌, ◌∙◌, ◌<◌, ◌+◌, ◌++◌, ℕ, Bool, true, false, ◌||◌, List, [], ◌∷◌, ap, append_assoc, arith, length, refl, subst, sym}
use Rattle.std.specs.Prelude.{◌==◌}
use Rattle.std.proofs.lemmas.Bool.{lt-ltb}
use Rattle.packet_view.specs.Captures.{PacketFacts}
use Rattle.session_state.specs.declared.verdict.Verdict.{Verdict}
use Rattle.racl_io.specs.Tellings.{lines_in}
use Rattle.racl_io.specs.declared.totals_and_truncation.Totals.{Totals}
use Rattle.compared_verdicts.specs.Meeting.{is_unmet, missing_line, told_as, told_at, told_from, told_in, told_open, total_line, total_of, unmet_at, unmet_from, unmet_line, unmet_wording}
use Rattle.compared_verdicts.specs.declared.expectation.Expectation.{Expectation}
use Rattle.compared_verdicts.specs.declared.expectation.Expected.{Expected}
use Rattle.compared_verdicts.specs.declared.expectation.Expected.TheVariants.{InAll, Verdicts}
use Rattle.compared_verdicts.specs.declared.expectation.Total.{Total}
use Rattle.compared_verdicts.specs.declared.expectation.Wanted.{Wanted}

-- of a packet that isn't as expected
pub told_unmet : (line : ℕ) (expected : Expected) (n : ℕ) (verdict : Verdict) (first last : ℕ) (wanted : Wanted) → expected ≡ Verdicts first last wanted
    → is_unmet expected n verdict ≡ true → told_as line expected n verdict ≡ unmet_line line n wanted verdict
told_unmet line expected n verdict first last wanted is unmet =
    subst (λ e. is_unmet e n verdict ≡ true → told_as line e n verdict ≡ unmet_line line n wanted verdict) (sym is) (λ so. rw so refl) unmet

-- of one that is
pub told_met : (line : ℕ) (expected : Expected) (n : ℕ) (verdict : Verdict) (first last : ℕ) (wanted : Wanted) → expected ≡ Verdicts first last wanted
    → is_unmet expected n verdict ≡ false → told_as line expected n verdict ≡ []
told_met line expected n verdict first last wanted is met =
    subst (λ e. is_unmet e n verdict ≡ false → told_as line e n verdict ≡ []) (sym is) (λ so. rw so refl) met

-- of one that isn't there
pub told_missing : (line : ℕ) (expected : Expected) (totals : Totals) (first last : ℕ) (wanted : Wanted) → expected ≡ Verdicts first last wanted
    → totals.packets < last → told_open line expected totals ≡ missing_line line last wanted
told_missing line expected totals first last wanted is missing =
    subst (λ e. told_open line e totals ≡ missing_line line last wanted) (sym is) (rw (lt-ltb totals.packets last missing) refl)

-- of a total that is another
pub told_total : (line : ℕ) (expected : Expected) (totals : Totals) (total : Total) (count : ℕ) → expected ≡ InAll total count
    → (total_of total totals == count) ≡ false → told_open line expected totals ≡ total_line line total count (total_of total totals)
told_total line expected totals total count is other =
    subst (λ e. told_open line e totals ≡ total_line line total count (total_of total totals)) (sym is) (rw other refl)

-- what is told of packets is what the wording says
pub lines_told : (expectations : List Expectation) (n : ℕ) (packets : List PacketFacts) (verdicts : List Verdict) → length verdicts ≡ length packets
    → lines_in (unmet_wording expectations) n packets verdicts ≡ told_from expectations n verdicts
lines_told expectations n [] [] each = refl
lines_told expectations n [] (v ∷ vs) each = absurd (omega (arith, each))
lines_told expectations n (p ∷ ps) [] each = absurd (omega (arith, each))
lines_told expectations n (p ∷ ps) (v ∷ vs) each =
    ap (λ l. told_at expectations n v ++ l) (lines_told expectations (n + 1) ps vs (omega (arith, each)))

-- what isn't as expected among some packets and those behind them
pub unmet_both : (expectations : List Expectation) (n m : ℕ) (said more : List Verdict) → m ≡ n + length said
    → unmet_from expectations n (said ++ more) ≡ (unmet_from expectations n said || unmet_from expectations m more)
unmet_both expectations n m [] more next = let same : m ≡ n = omega (arith, next) in rw same refl
unmet_both expectations n m (v ∷ vs) more next = go (unmet_at expectations n v) (unmet_both expectations (n + 1) m vs more (omega (arith, next)))
  where
    go : (b : Bool) → unmet_from expectations (n + 1) (vs ++ more) ≡ (unmet_from expectations (n + 1) vs || unmet_from expectations m more)
        → (b || unmet_from expectations (n + 1) (vs ++ more)) ≡ ((b || unmet_from expectations (n + 1) vs) || unmet_from expectations m more)
    go true later = refl
    go false later = later

-- what the next expectation tells of a packet, behind those before
pub at_further : (front all : List ℕ) (rest others : List Expectation) (e : Expectation) (n : ℕ) (verdict : Verdict) → front ++ told_at rest n verdict ≡ all → rest ≡ e ∷ others
    → (front ++ told_as e.line e.expected n verdict) ++ told_at others n verdict ≡ all
at_further front all rest others e n verdict whole parted =
    append_assoc front (told_as e.line e.expected n verdict) (told_at others n verdict) ∙ ap (λ r. front ++ told_at r n verdict) (sym parted) ∙ whole

-- what is told of the next packet
pub from_further : (front all : List ℕ) (expectations : List Expectation) (n : ℕ) (rest others : List Verdict) (verdict : Verdict)
    → front ++ told_from expectations n rest ≡ all → rest ≡ verdict ∷ others
    → (front ++ told_at expectations n verdict) ++ told_from expectations (n + 1) others ≡ all
from_further front all expectations n rest others verdict whole parted =
    append_assoc front (told_at expectations n verdict) (told_from expectations (n + 1) others) ∙ ap (λ r. front ++ told_from expectations n r) (sym parted) ∙ whole

-- what the next expectation tells behind all packets
pub in_further : (front all : List ℕ) (rest others : List Expectation) (e : Expectation) (totals : Totals) → front ++ told_in rest totals ≡ all → rest ≡ e ∷ others
    → (front ++ told_open e.line e.expected totals) ++ told_in others totals ≡ all
in_further front all rest others e totals whole parted =
    append_assoc front (told_open e.line e.expected totals) (told_in others totals) ∙ ap (λ r. front ++ told_in r totals) (sym parted) ∙ whole

-- five texts, one pushed after the other
pub five_pushed : (a b c d e f x y z u v : List ℕ) → b ≡ a ++ x → c ≡ b ++ y → d ≡ c ++ z → e ≡ d ++ u → f ≡ e ++ v → f ≡ a ++ (x ++ (y ++ (z ++ (u ++ v))))
five_pushed a b c d e f x y z u v first second third fourth fifth =
    fifth ∙ ap (λ t. t ++ v) fourth ∙ append_assoc d u v ∙ ap (λ t. t ++ (u ++ v)) third ∙ append_assoc c z (u ++ v)
    ∙ ap (λ t. t ++ (z ++ (u ++ v))) second ∙ append_assoc b y (z ++ (u ++ v)) ∙ ap (λ t. t ++ (y ++ (z ++ (u ++ v)))) first
    ∙ append_assoc a x (y ++ (z ++ (u ++ v)))
