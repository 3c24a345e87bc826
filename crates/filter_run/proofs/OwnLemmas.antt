-- Several captures that come: the lanes after a turn, and each capture's own records and packets.
use Rattle.std.proofs.Common.{◌≡◌, ◌≢◌, ◌∙◌, ◌≤◌, ◌<◌, ℕ, Bool, List, [], ◌∷◌, ◌++◌, ap, ap₂, append-nil, arith, eq-eqb, eqb-true, inl, length, refl, subst, sym, true, false, true≢false}
use Rattle.std.specs.Prelude.{get_or, if◌then◌else◌, nat_eq, set}
use Rattle.std.proofs.lemmas.List.{get_or-set_other, get_or-set_same, length-append, length-map, length-set, map-append}
use Rattle.std.proofs.lemmas.List.Elements.{filter-append}
use Rattle.packet_view.specs.Captures.{PacketFacts, RecordFacts, packet_at, packets_at}
use Rattle.filter_run.specs.Turns.{AreTurns, HaveCome, IsTurn, Turn, bytes_at, own_of, packets_of, records_at}
use Rattle.filter_run.specs.declared.coming_captures.Lane.{Lane}
use Rattle.filter_run.specs.inner.Lanes.{AreLanes, IsLane}

nat_eq_same : (n : ℕ) → nat_eq n n ≡ true
nat_eq_same n = eq-eqb n n refl

-- what a test of a list for bytes says
pub none_of : (xs : List ℕ) (b : Bool) → b ≡ nat_eq (length xs) 0 → b ≡ true → xs ≡ []
none_of [] b same empty = refl
none_of (x ∷ xs) b same empty = let size = eqb-true (length (x ∷ xs)) 0 (sym same ∙ empty) in absurd (omega arith)

pub some_of : (xs : List ℕ) (b : Bool) → b ≡ nat_eq (length xs) 0 → b ≡ false → xs ≢ []
some_of [] b same full = λ e. absurd (true≢false (sym same ∙ full))
some_of (x ∷ xs) b same full = λ e. let size = ap length e in absurd (omega arith)

-- the capture of this turn has its records
pub own_records : (turn : Turn) (turns : List Turn) → records_at turn.interface (turn ∷ turns) ≡ records_at turn.interface turns ++ turn.records
own_records turn turns = ap (λ (b : Bool). records_at turn.interface turns ++ (if b then turn.records else [])) (nat_eq_same turn.interface)

lane_so : (turn : Turn) (turns : List Turn) (lanes : List Lane) (ready : Lane) → turn.interface < length lanes → (i : ℕ) (other : Lane)
    → IsLane (bytes_at i turns) (records_at i turns) (get_or lanes i other)
    → IsLane (bytes_at turn.interface turns ++ turn.bytes) (records_at turn.interface turns ++ turn.records) ready → (b : Bool) → nat_eq turn.interface i ≡ b
    → IsLane (bytes_at i turns ++ (if b then turn.bytes else [])) (records_at i turns ++ (if b then turn.records else [])) (get_or (set lanes turn.interface ready) i other)
lane_so turn turns lanes ready within i other was own true same =
    let at = eqb-true turn.interface i same in
    subst (λ n. IsLane (bytes_at n turns ++ turn.bytes) (records_at n turns ++ turn.records) (get_or (set lanes turn.interface ready) n other)) at
    (subst (IsLane (bytes_at turn.interface turns ++ turn.bytes) (records_at turn.interface turns ++ turn.records))
    (sym (get_or-set_same lanes turn.interface ready other within)) own)
lane_so turn turns lanes ready within i other was own false apart =
    let far : i ≢ turn.interface = λ e. true≢false (sym (eq-eqb turn.interface i (sym e)) ∙ apart) in
    subst (λ (b : List ℕ). IsLane b (records_at i turns ++ []) (get_or (set lanes turn.interface ready) i other)) (sym (append-nil (bytes_at i turns)))
    (subst (λ (r : List RecordFacts). IsLane (bytes_at i turns) r (get_or (set lanes turn.interface ready) i other)) (sym (append-nil (records_at i turns)))
    (subst (IsLane (bytes_at i turns) (records_at i turns)) (sym (get_or-set_other lanes turn.interface i ready other far)) was))

-- one capture's lane goes on
pub lanes_on : (turn : Turn) (turns : List Turn) (lanes : List Lane) (ready : Lane) → turn.interface < 256 → AreLanes turns lanes
    → IsLane (bytes_at turn.interface turns ++ turn.bytes) (records_at turn.interface turns ++ turn.records) ready
    → AreLanes (turn ∷ turns) (set lanes turn.interface ready)
lanes_on turn turns lanes ready within (size, each) own = (
  length-set lanes turn.interface ready ∙ size,
  λ i other below. lane_so turn turns lanes ready (omega (arith, size)) i other (each i other below) own (nat_eq turn.interface i) refl,
)

-- no capture has more records than all have packets
pub own_few : (i : ℕ) (turns : List Turn) → length (records_at i turns) ≤ length (packets_of turns)
own_few i [] = omega arith
own_few i (turn ∷ turns) =
    let before = own_few i turns in
    let own = length-append (records_at i turns) (if nat_eq turn.interface i then turn.records else []) in
    let all = length-append (packets_of turns) (packets_at turn.interface turn.records) in
    let each = length-map turn.records (packet_at turn.interface) in
    let few = within (nat_eq turn.interface i) turn.records in
    omega arith
  where
    within : (b : Bool) (rs : List RecordFacts) → length (if b then rs else []) ≤ length rs
    within true rs = omega arith
    within false rs = omega arith

-- ---- Each capture's own

own_so : (turn : Turn) (turns : List Turn) (i : ℕ) → HaveCome (bytes_at i turns) (records_at i turns) → IsTurn turns turn → (b : Bool) → nat_eq turn.interface i ≡ b
    → HaveCome (bytes_at i turns ++ (if b then turn.bytes else [])) (records_at i turns ++ (if b then turn.records else []))
own_so turn turns i was is true same =
    let at = eqb-true turn.interface i same in
    subst (λ n. HaveCome (bytes_at n turns ++ turn.bytes) (records_at n turns ++ turn.records)) at is.come
own_so turn turns i was is false apart =
    subst (λ (b : List ℕ). HaveCome b (records_at i turns ++ [])) (sym (append-nil (bytes_at i turns)))
    (subst (HaveCome (bytes_at i turns)) (sym (append-nil (records_at i turns))) was)

pub own_come : (turns : List Turn) → AreTurns turns → (i : ℕ) → HaveCome (bytes_at i turns) (records_at i turns)
own_come [] are i = inl (omega arith, refl)
own_come (turn ∷ turns) (are, is) i = own_so turn turns i (own_come turns are i) is (nat_eq turn.interface i) refl

own_part : (n i : ℕ) (records : List RecordFacts) (b : Bool) → nat_eq n i ≡ b → own_of i (packets_at n records) ≡ packets_at i (if b then records else [])
own_part n i [] true same = refl
own_part n i [] false apart = refl
own_part n i (r ∷ records) true same =
    let at = eqb-true n i same in
    rw same (ap₂ (λ m rest. packet_at m r ∷ rest) at (own_part n i records true same))
own_part n i (r ∷ records) false apart = rw apart (own_part n i records false apart)

pub own_packets : (turns : List Turn) (i : ℕ) → own_of i (packets_of turns) ≡ packets_at i (records_at i turns)
own_packets [] i = refl
own_packets (turn ∷ turns) i =
    filter-append (λ (p : PacketFacts). nat_eq p.interface i) (packets_of turns) (packets_at turn.interface turn.records)
    ∙ ap₂ (λ (xs ys : List PacketFacts). xs ++ ys) (own_packets turns i) (own_part turn.interface i turn.records (nat_eq turn.interface i) refl)
    ∙ sym (map-append (packet_at i) (records_at i turns) (if nat_eq turn.interface i then turn.records else []))
