-- Captures that come to their ends.
use Rattle.std.proofs.Common.{◌≡◌, ◌≢◌, ◌∙◌, ℕ, Bool, true, false, List, [], ◌∷◌, ◌++◌, Option, Some, None, ap, append_assoc, arith, eqb-true, inl, inr, length, map, refl, subst, sym}
use Rattle.std.specs.Prelude.{if◌then◌else◌, nat_eq}
use Rattle.std.specs.List.{filter}
use Rattle.std.proofs.lemmas.List.{append-nil, length-append, map-append, same_from_push}
use Rattle.std.proofs.lemmas.List.Elements.{filter-append}
use Rattle.packet_view.specs.Captures.{RecordFacts}
use Rattle.racl_io.specs.declared.totals_and_truncation.Captured.{Captured}
use Rattle.capture_stream.specs.Arrivals.{AreAllGiven, AreWhole, Gives, IsWhole, Part, own_parts}
use Rattle.filter_run.specs.Turns.{AreTurns, HasCaptureEnded, IsAtEnd, Turn, bytes_at, cuts_of, parts_of, records_at}

-- all parts that were known came
pub whole_given : (before after : Option (List Part)) (parts : List Part) → Gives before after parts → AreAllGiven after → AreWhole before → before ≢ None
    → (interface : ℕ) → IsWhole interface parts
whole_given None after parts given ended whole known = absurd (known refl)
whole_given (Some all) None parts given ended whole known = absurd given
whole_given (Some all) (Some left) parts given ended whole known = λ interface.
    subst (IsWhole interface) (given ∙ ap (λ (ps : List Part). parts ++ ps) ended ∙ append-nil parts) (whole interface)

abbrev part_at : Turn → Part
part_at turn = record { interface = turn.interface; bytes = turn.bytes }

-- one more part
own_on : (interface : ℕ) (turn : Turn) (before : List Turn) (b : Bool) → nat_eq turn.interface interface ≡ b
    → own_parts interface (parts_of (turn ∷ before)) ≡ own_parts interface (parts_of before) ++ (if b then turn.bytes ∷ [] else [])
own_on interface turn before b is =
    ap (map (λ (part : Part). part.bytes)) (filter-append (λ (part : Part). nat_eq part.interface interface) (parts_of before) (part_at turn ∷ []))
    ∙ map-append (λ (part : Part). part.bytes) (filter (λ (part : Part). nat_eq part.interface interface) (parts_of before))
    (filter (λ (part : Part). nat_eq part.interface interface) (part_at turn ∷ []))
    ∙ ap (λ (xs : List (List ℕ)). own_parts interface (parts_of before) ++ xs) (one b is)
  where
    one : (c : Bool) → nat_eq turn.interface interface ≡ c → own_parts interface (part_at turn ∷ []) ≡ (if c then turn.bytes ∷ [] else [])
    one true same = rw same refl
    one false apart = rw apart refl

-- none came
none_came_of : (turns : List Turn) (interface : ℕ) → own_parts interface (parts_of turns) ≡ [] → (bytes_at interface turns ≡ []) × (records_at interface turns ≡ [])
none_came_of [] interface none_is = (refl, refl)
none_came_of (turn ∷ before) interface none_is = by (none_came_of before interface) (nat_eq turn.interface interface) refl
  where
    by : (own_parts interface (parts_of before) ≡ [] → (bytes_at interface before ≡ []) × (records_at interface before ≡ [])) → (b : Bool) → nat_eq turn.interface interface ≡ b → (bytes_at interface before ++ (if b then turn.bytes else []) ≡ [])
        × (records_at interface before ++ (if b then turn.records else []) ≡ [])
    by fewer true same =
        let size = ap length (sym (own_on interface turn before true same) ∙ none_is) in
        let both = length-append (own_parts interface (parts_of before)) (turn.bytes ∷ []) in
        absurd (omega arith)
    by fewer false apart =
        let (bytes, records) = fewer (sym (append-nil (own_parts interface (parts_of before))) ∙ sym (own_on interface turn before false apart) ∙ none_is) in
        (append-nil (bytes_at interface before) ∙ bytes, append-nil (records_at interface before) ∙ records)

-- what is told of a capture's end, among others
abbrev HasEndedSo : ℕ → List ℕ → List RecordFacts → List Captured → Type 0
HasEndedSo interface bytes records all =
    (cuts : List Captured) × HasCaptureEnded interface bytes records cuts × (earlier : List Captured) × (later : List Captured) × (all ≡ earlier ++ (cuts ++ later))

-- its end came
end_came : (turns : List Turn) → AreTurns turns → (interface : ℕ) (first : List (List ℕ)) → own_parts interface (parts_of turns) ≡ first ++ [] ∷ []
    → HasEndedSo interface (bytes_at interface turns) (records_at interface turns) (cuts_of turns)
end_came [] are interface first is =
    let size = ap length is in let both = length-append first ([] ∷ []) in absurd (omega arith)
end_came (turn ∷ before) (are, is_turn) interface first is = by (end_came before are interface first) (nat_eq turn.interface interface) refl
  where
    by : (own_parts interface (parts_of before) ≡ first ++ [] ∷ [] → HasEndedSo interface (bytes_at interface before) (records_at interface before) (cuts_of before)) → (b : Bool) → nat_eq turn.interface interface ≡ b
        → HasEndedSo interface (bytes_at interface before ++ (if b then turn.bytes else [])) (records_at interface before ++ (if b then turn.records else [])) (cuts_of before ++ turn.cuts)
    by fewer true same =
        let at = eqb-true turn.interface interface same in
        let (others, last) = same_from_push (own_parts interface (parts_of before)) first turn.bytes [] (sym (own_on interface turn before true same) ∙ is) in
        let (none_whole, ended) = is_turn.end last in (
          turn.cuts,
          subst (λ (b : List ℕ). HasCaptureEnded interface (bytes_at interface before ++ b) (records_at interface before ++ turn.records) turn.cuts) (sym last)
              (subst (λ (r : List RecordFacts). HasCaptureEnded interface (bytes_at interface before ++ []) (records_at interface before ++ r) turn.cuts) (sym none_whole)
              (subst (λ (b : List ℕ). HasCaptureEnded interface b (records_at interface before ++ []) turn.cuts) (sym (append-nil (bytes_at interface before)))
              (subst (λ (r : List RecordFacts). HasCaptureEnded interface (bytes_at interface before) r turn.cuts) (sym (append-nil (records_at interface before)))
              (subst (λ n. HasCaptureEnded n (bytes_at n before) (records_at n before) turn.cuts) at ended)))),
          cuts_of before,
          [],
          ap (λ (cs : List Captured). cuts_of before ++ cs) (sym (append-nil turn.cuts)),
        )
    by fewer false apart =
        let (cuts, ended, earlier, later, all) =
        fewer (sym (append-nil (own_parts interface (parts_of before))) ∙ sym (own_on interface turn before false apart) ∙ is) in (
          cuts,
          subst (λ (b : List ℕ). HasCaptureEnded interface b (records_at interface before ++ []) cuts) (sym (append-nil (bytes_at interface before)))
              (subst (λ (r : List RecordFacts). HasCaptureEnded interface (bytes_at interface before) r cuts) (sym (append-nil (records_at interface before))) ended),
          earlier,
          later ++ turn.cuts,
          ap (λ (cs : List Captured). cs ++ turn.cuts) all ∙ append_assoc earlier (cuts ++ later) turn.cuts
              ∙ ap (λ (cs : List Captured). earlier ++ cs) (append_assoc cuts later turn.cuts),
        )

pub own_end : (turns : List Turn) → AreTurns turns → (interface : ℕ) → IsWhole interface (parts_of turns) → IsAtEnd interface turns
own_end turns are interface (inl none_is) = inl (none_came_of turns interface none_is)
own_end turns are interface (inr (first, some, is)) = inr (end_came turns are interface first is)
