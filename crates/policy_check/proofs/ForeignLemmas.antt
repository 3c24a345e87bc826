-- Walks over the packets at the front of a capture, and what that front is.
use Rattle.std.proofs.Common.{All, ◌≡◌, ◌+◌, ◌∙◌, List, [], ◌∷◌, ◌++◌, ap, arith, length, length-append, slice_index_or, subst, ℕ}
use Rattle.std.specs.List.{Any}
use Rattle.std.proofs.lemmas.List.{append-nil, get_or_append_left}
use Rattle.std.proofs.lemmas.List.Elements.{All-get_or, All-push}
use Rattle.std.proofs.lemmas.List.Quantifiers.{Any-push}
use Rattle.packet_view.proofs.RecordLemmas.{HasNoRecord, IsStop, part_only, records_once}
use Rattle.packet_view.specs.Captures.{AreRecords, Cut, Nothing, PacketFacts, RecordFacts, TooLong}
use Rattle.packet_view.specs.Fronts.{Stops}
use Rattle.packet_view.specs.declared.capture.Order.{Order}
use Rattle.packet_view.specs.declared.records_at_front.Stop.{Stop}
use Rattle.packet_view.specs.declared.records_at_front.Stop.TheVariants as stop
use Rattle.policy_check.specs.Foreign.{IsOf}
use Rattle.policy_check.proofs.WalkLemmas.{one_further}

pub any_there : {X : Type 0} (P : X → Type 0) (all front rest more : List X) (x : X) → all ≡ front ++ rest → rest ≡ x ∷ more → P x → Any P all
any_there {X} P all front rest more x split next holds =
    let begun : List X = front ++ x ∷ [] in
    let at : Any P begun = Any-push P front x holds in
    let joined : all ≡ begun ++ more = one_further all front rest more x split next in
    let long : length all ≡ length begun + length more = ap length joined ∙ length-append begun more in (
      at.0,
      at.1,
      omega (arith, at.2, long),
      ap (λ l. slice_index_or l at.0 at.1) joined ∙ get_or_append_left begun more at.1 at.0 at.2 ∙ at.3,
      at.4,
    )

pub not_any : {X : Type 0} (P : X → Type 0) (xs : List X) → All (λ x. P x → ⊥) xs → Any P xs → ⊥
not_any P xs none at = subst (λ x. P x → ⊥) at.3 (All-get_or (λ x. P x → ⊥) xs at.0 at.1 at.2 none) at.4

-- Packets that are left behind others, none of which has to do with the address.
pub record Walked (own : List ℕ) (all left : List PacketFacts) : Type 0 where
  pub front : List PacketFacts
  pub split : all ≡ front ++ left
  pub none : All (λ packet. IsOf own packet.frame → ⊥) front

abbrev pub walked_on : (own : List ℕ) (all left more : List PacketFacts) (packet : PacketFacts) → Walked own all left → left ≡ packet ∷ more
    → (IsOf own packet.frame → ⊥) → Walked own all more
walked_on own all left more packet walked next not = record {
  front = walked.front ++ packet ∷ [];
  split = one_further all walked.front left more packet walked.split next;
  none = All-push (λ p. IsOf own p.frame → ⊥) walked.front packet walked.none not;
}

pub walked_all : {X : Type 0} (all front left : List X) → all ≡ front ++ left → left ≡ [] → all ≡ front
walked_all all front left split none = split ∙ ap (λ l. front ++ l) none ∙ append-nil front

no_record : (order : Order) (rest : List ℕ) (end : Stop) → Stops order rest end → HasNoRecord order rest
no_record order rest stop.End is = record { stops = subst IsStop (part_only order rest Nothing is) tt }
no_record order rest stop.Truncated is = record { stops = subst IsStop (part_only order rest Cut is) tt }
no_record order rest stop.TooLong is = record { stops = subst IsStop (part_only order rest TooLong is) tt }

-- The whole records at the front of some bytes are one list.
pub one_front : (order : Order) (bytes : List ℕ) (records others : List RecordFacts) (rest left : List ℕ) (end last : Stop)
    → AreRecords order bytes records rest → Stops order rest end → AreRecords order bytes others left → Stops order left last → records ≡ others
one_front order bytes records others rest left end last are ends same lasts =
    (records_once order bytes records others rest left are (no_record order rest end ends) same (no_record order left last lasts)).0
