-- Captures in turn are named as their packets' interfaces are, or none is named.
use Rattle.std.proofs.Common.{◌≡◌, ◌∙◌, ◌++◌, ℕ, List, [], ◌∷◌, Option, None, Some, ap, drop, length, refl, subst, sym, take}
use Rattle.std.proofs.lemmas.List.{drop_at, take_at}
use Rattle.std.specs.List.{AllByRecursion}
use Rattle.packet_view.specs.Captures.{PacketFacts, RecordFacts, packets_at}
use Rattle.racl_io.specs.Tellings.{AreNamedBy, no_name, own_name}
use Rattle.racl_io.specs.Inputs.{DigitsFacts}
use Rattle.racl_io.specs.declared.marker_line.Form.{Form}
use Rattle.racl_io.specs.declared.totals_and_truncation.Captured.{Captured}
use Rattle.racl_report.specs.ReadInputs.{AreTaken, IsAlone}

-- there is no capture
pub named_none : (name : PacketFacts → Option ℕ) (packets : List PacketFacts) (told : List Captured) → told ≡ [] → AreNamedBy name packets told
named_none name packets told none = subst (AreNamedBy name packets) (sym none) tt

-- one more is before others
pub named_next : (name : PacketFacts → Option ℕ) (mine rest packets : List PacketFacts) (captured : Captured) (others told : List Captured) → packets ≡ mine ++ rest
    → told ≡ captured ∷ others → captured.packets ≡ length mine → AllByRecursion (λ p. name p ≡ captured.named) mine → AreNamedBy name rest others
    → AreNamedBy name packets told
named_next name mine rest packets captured others told parted listed count named more =
    let front : take captured.packets packets ≡ mine = ap (take captured.packets) parted ∙ take_at mine rest captured.packets (sym count) in
    let behind : drop captured.packets packets ≡ rest = ap (drop captured.packets) parted ∙ drop_at mine rest captured.packets (sym count) in
    subst (AreNamedBy name packets) (sym listed)
    (subst (λ (ps : List PacketFacts). AllByRecursion (λ p. name p ≡ captured.named) ps) (sym front) named, subst (λ (ps : List PacketFacts). AreNamedBy name ps others) (sym behind) more)

-- packets are of their capture's interface
own_at : (interface : ℕ) (records : List RecordFacts) → AllByRecursion (λ p. own_name p ≡ Some interface) (packets_at interface records)
own_at interface [] = tt
own_at interface (one ∷ records) = (refl, own_at interface records)

pub named_at : (interface : ℕ) (packets : List PacketFacts) (records : List RecordFacts) (named : Option ℕ) → packets ≡ packets_at interface records → named ≡ Some interface
    → AllByRecursion (λ p. own_name p ≡ named) packets
named_at interface packets records named are is =
    subst (λ (n : Option ℕ). AllByRecursion (λ p. own_name p ≡ n) packets) (sym is)
    (subst (λ (ps : List PacketFacts). AllByRecursion (λ p. own_name p ≡ Some interface) ps) (sym are) (own_at interface records))

-- none is named
named_no : (packets : List PacketFacts) (named : Option ℕ) → named ≡ None → AllByRecursion (λ p. no_name p ≡ named) packets
named_no [] named is = tt
named_no (p ∷ ps) named is = (sym is, named_no ps named is)

-- ---- Captures as digits

-- a capture alone isn't named
pub named_alone : (form : Form) (content : List ℕ) (packets : List PacketFacts) (told : List Captured) → IsAlone form content packets told → AreNamedBy no_name packets told
named_alone form content packets told is =
    subst (AreNamedBy no_name packets) (sym is.told) (named_no (take (length packets) packets) None refl, tt)

-- those with numbers are
pub named_taken : (seen : List ℕ) (digits : List DigitsFacts) (packets : List PacketFacts) (told : List Captured) → AreTaken seen digits packets told → AreNamedBy own_name packets told
named_taken seen [] packets told (none, nothing) = named_none own_name packets told nothing
named_taken seen (one ∷ others) packets told (mine, rest, captured, behind, parted, listed, is, more) =
    named_next own_name mine rest packets captured behind told parted listed (ap (λ (c : Captured). c.packets) is.told)
    (named_at one.interface mine is.records.0 captured.named is.records.2 (ap (λ (c : Captured). c.named) is.told))
    (named_taken (one.interface ∷ seen) others rest behind more)
