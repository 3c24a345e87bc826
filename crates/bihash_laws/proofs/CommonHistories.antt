-- Two callers that agree have one history of each bucket.
use Rattle.std.proofs.Common.{◌≡◌, ◌⊎◌, ℕ, List, ap, refl, sym, subst, inl, inr}
use Rattle.bihash_words.specs.Maps.{Pairs}
use Rattle.bihash_words.specs.Sizes.{Sizes}
use Rattle.bihash_rule.specs.Histories.{IsLegal, IsPrefix}
use Rattle.bihash_rule.specs.Callers.{Agrees, IsLawful, IsLawfulCaller, known_at, opening_at, opening_in}
use Rattle.bihash_rule.specs.declared.view.Write.{Write}
use Rattle.bihash_rule.specs.declared.view.Record.{Record}
use Rattle.bihash_rule.specs.declared.view.Known.{Known}
use Rattle.bihash_rule.specs.declared.view.View.{View}
use Rattle.bihash_steps.proofs.Prefixes.{prefix_refl}
use Rattle.bihash_steps.proofs.LawfulCallers.{legal_longer}
use Rattle.bihash_laws.specs.CallRuns.{AreLegal, IsCommonHistory}

-- the calls of lawful records are legal on each history that continues what is known
legal_on : (z : Sizes) (known : Known) (records : List Record) (b : ℕ) (opening : Pairs) (H : List Write) → IsLawful z known records
    → opening_at known b ≡ opening → IsPrefix (known_at known b) H → AreLegal z b opening H records
legal_on z known records b opening H law begins_with begins i k r c at_i at_k home =
    let legal : IsLegal z (opening_at known b) (known_at known b) r.number c =
    subst (λ (n : ℕ). IsLegal z (opening_at known n) (known_at known n) r.number c) home (law.legal i k r c at_i at_k) in
    legal_longer z opening (known_at known b) H r.number c begins
    (subst (λ (m : Pairs). IsLegal z m (known_at known b) r.number c) begins_with legal)

pub common_history : (z : Sizes) (v w : View) → IsLawfulCaller z v → IsLawfulCaller z w → Agrees v w → (b : ℕ)
    → (history : List Write) × IsCommonHistory z b v w history
common_history z v w first other agree b =
    elim (agree.known.1 b) [
      | inl longer ↦ (known_at w.known b, common (known_at w.known b) (inr refl) longer (prefix_refl (known_at w.known b)))
      | inr longer ↦ (known_at v.known b, common (known_at v.known b) (inl refl) (prefix_refl (known_at v.known b)) longer)
    ]
  where
    same : opening_at v.known b ≡ opening_at w.known b
    same = ap (λ openings. opening_in openings b) agree.known.0

    common : (H : List Write) → (H ≡ known_at v.known b) ⊎ (H ≡ known_at w.known b) → IsPrefix (known_at v.known b) H
        → IsPrefix (known_at w.known b) H → IsCommonHistory z b v w H
    common H known continues other_continues = record {
      known = known;
      continues = continues;
      other_continues = other_continues;
      opening = same;
      legal = legal_on z v.known v.records b (opening_at v.known b) H first.lawful refl continues;
      other_legal = legal_on z w.known w.records b (opening_at v.known b) H other.lawful (sym same) other_continues;
    }
