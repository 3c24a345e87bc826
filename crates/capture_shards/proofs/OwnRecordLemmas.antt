-- Records of one's own packets that are found one after the other.
use Rattle.std.proofs.Common.{◌≡◌, ◌∙◌, ◌+◌, ◌<◌, ◌≤◌, ◌++◌, ℕ, suc, Bool, true, false, cond, List, [], ◌∷◌, ap, append-nil, append_assoc, arith, length, max, refl, subst, sym, take}
use Rattle.std.specs.List.{All, AllZip, concat}
use Rattle.std.proofs.lemmas.List.Elements.{All-cons, All-nil}
use Rattle.std.proofs.lemmas.List.{length-append, take_at}
use Rattle.packet_view.specs.Captures.{AreRecords, Cut, IsPiece, Nothing, PacketFacts, PieceFacts, Record, RecordFacts, TooLong, packet_at, packets_at}
use Rattle.packet_view.specs.Fronts.{Stops}
use Rattle.packet_view.specs.declared.capture.Order.{Order}
use Rattle.packet_view.specs.declared.records_at_front.Stop.{Stop}
use Rattle.packet_view.specs.declared.records_at_front.Stop.TheVariants as stop
use Rattle.packet_view.specs.inner.RecordSteps.{part_of}
use Rattle.packet_view.proofs.RecordLemmas as at
use Rattle.packet_view.proofs.RecordLemmas.{IsStop, part_only, part_shown, records_once}
use Rattle.capture_shards.specs.OwnRecords.{AreOfOwn, HasNoRecord, IsWholeRecord, OwnFacts}
use Rattle.capture_shards.specs.Shards.{Own, own_in}
use Rattle.capture_shards.specs.Sharing.{own_numbers}

-- ---- Whole records

-- where none is at the front
pub no_record : (order : Order) (rest : List ℕ) → HasNoRecord order rest → at.HasNoRecord order rest
no_record order rest none = record { stops = go (part_of order rest) (part_shown order rest) }
  where
    go : (part : PieceFacts) → IsPiece order rest part → IsStop part
    go (Record facts behind) is = absurd (none facts behind is)
    go Nothing is = tt
    go Cut is = tt
    go TooLong is = tt

-- the bytes of a record that is at the front
pub front_bytes : (order : Order) (bytes : List ℕ) (facts : RecordFacts) (rest : List ℕ) → IsPiece order bytes (Record facts rest)
    → IsWholeRecord order (take (16 + length facts.frame) bytes) facts
front_bytes order bytes facts rest (header, spelt, is) =
    let size = length-append header facts.frame in
    let front : length (header ++ facts.frame) ≡ 16 + length facts.frame = omega (arith, size, is.sixteen) in
    let whole : bytes ≡ (header ++ facts.frame) ++ rest = spelt ∙ sym (append_assoc header facts.frame rest) in
    (header, ap (take (16 + length facts.frame)) whole ∙ take_at (header ++ facts.frame) rest (16 + length facts.frame) front, is)

-- where whole records stop
pub stop_none : (order : Order) (rest : List ℕ) (at_end : Stop) → Stops order rest at_end → at.HasNoRecord order rest
stop_none order rest stop.End is = record { stops = subst IsStop (part_only order rest Nothing is) tt }
stop_none order rest stop.Truncated is = record { stops = subst IsStop (part_only order rest Cut is) tt }
stop_none order rest stop.TooLong is = record { stops = subst IsStop (part_only order rest TooLong is) tt }

-- pieces are records
pub pieces_are : (order : Order) (pieces : List (List ℕ)) (records : List RecordFacts) (rest : List ℕ) → AllZip (IsWholeRecord order) pieces records
    → AreRecords order (concat pieces ++ rest) records rest
pieces_are order [] [] rest each = refl
pieces_are order [] (r ∷ records) rest each = absurd each
pieces_are order (p ∷ pieces) [] rest each = absurd each
pieces_are order (p ∷ pieces) (r ∷ records) rest ((header, spelt, is), each) = (
  concat pieces ++ rest,
  (
    header,
    append_assoc p (concat pieces) rest ∙ ap (λ (b : List ℕ). b ++ (concat pieces ++ rest)) spelt ∙ append_assoc header r.frame (concat pieces ++ rest),
    is,
  ),
  pieces_are order pieces records rest each,
)

-- records stand in bytes one after the other
pub whole_in : (order : Order) (bytes : List ℕ) (records : List RecordFacts) (rest : List ℕ) → AreRecords order bytes records rest
    → (pieces : List (List ℕ)) × AllZip (IsWholeRecord order) pieces records × (bytes ≡ concat pieces ++ rest)
whole_in order bytes [] rest all = ([], tt, all)
whole_in order bytes (facts ∷ records) rest (others, (header, spelt, is), all) =
    let (pieces, each, more) = whole_in order others records rest all in
    let piece = header ++ facts.frame in (
      piece ∷ pieces,
      ((header, refl, is), each),
      spelt ∙ sym (append_assoc header facts.frame others) ∙ ap (λ (b : List ℕ). piece ++ b) more ∙ sym (append_assoc piece (concat pieces) rest),
    )

-- records in bytes are found where no further one stands behind them
pub found_are : (own : Own) (n : ℕ) (order : Order) (bytes : List ℕ) (mine : OwnFacts) (are : AreOfOwn own n order bytes mine) (records : List RecordFacts) (rest : List ℕ)
    → AreRecords order bytes records rest → at.HasNoRecord order rest → (are.records ≡ records) × (are.rest ≡ rest)
found_are own n order bytes mine are records rest all none =
    records_once order bytes are.records records are.rest rest
    (subst (λ (b : List ℕ). AreRecords order b are.records are.rest) (sym are.spelt) (pieces_are order are.pieces are.records are.rest are.each))
    (no_record order are.rest are.no_more) all none

-- ---- Numbers

-- as many numbers as packets
pub own_numbers_count : {X : Type 0} (own : Own) (n : ℕ) (ps : List PacketFacts) (xs : List X) → length xs ≡ length ps
    → length (own_numbers own n ps) ≡ length (own_in own n ps xs)
own_numbers_count own n [] xs each = refl
own_numbers_count own n (p ∷ ps) [] each = absurd (omega (arith, each))
own_numbers_count own n (p ∷ ps) (x ∷ xs) each = go (own n p) (own_numbers_count own (n + 1) ps xs (omega (arith, each)))
  where
    go : (b : Bool) → length (own_numbers own (n + 1) ps) ≡ length (own_in own (n + 1) ps xs)
        → length (cond b (n ∷ own_numbers own (n + 1) ps) (own_numbers own (n + 1) ps)) ≡ length (cond b (x ∷ own_in own (n + 1) ps xs) (own_in own (n + 1) ps xs))
    go true same = ap suc same
    go false same = same

-- of some packets and of those behind them
pub own_numbers_both : (own : Own) (n m : ℕ) (ps qs : List PacketFacts) → m ≡ n + length ps → own_numbers own n (ps ++ qs) ≡ own_numbers own n ps ++ own_numbers own m qs
own_numbers_both own n m [] qs next = let same : n ≡ m = omega (arith, next) in ap (λ k. own_numbers own k qs) same
own_numbers_both own n m (p ∷ ps) qs next = go (own n p) (own_numbers_both own (n + 1) m ps qs (omega (arith, next)))
  where
    go : (b : Bool) → own_numbers own (n + 1) (ps ++ qs) ≡ own_numbers own (n + 1) ps ++ own_numbers own m qs
        → cond b (n ∷ own_numbers own (n + 1) (ps ++ qs)) (own_numbers own (n + 1) (ps ++ qs))
        ≡ cond b (n ∷ own_numbers own (n + 1) ps) (own_numbers own (n + 1) ps) ++ own_numbers own m qs
    go true same = ap (λ (ns : List ℕ). n ∷ ns) same
    go false same = same

-- they are those of packets
pub own_numbers_fit : (own : Own) (P : ℕ → Type 0) (n : ℕ) (ps : List PacketFacts) → ((m : ℕ) → n ≤ m → m < n + length ps → P m) → All P (own_numbers own n ps)
own_numbers_fit own P n [] holds = All-nil P
own_numbers_fit own P n (p ∷ ps) holds = go (own n p) (own_numbers_fit own P (n + 1) ps (λ m least most. holds m (omega arith) (omega arith)))
  where
    go : (b : Bool) → All P (own_numbers own (n + 1) ps) → All P (cond b (n ∷ own_numbers own (n + 1) ps) (own_numbers own (n + 1) ps))
    go true rest = All-cons P n (own_numbers own (n + 1) ps) (holds n (omega arith) (omega arith)) rest
    go false rest = rest

-- ---- What was found

-- among no record
abbrev pub none_found : OwnFacts
none_found = record { bytes = []; numbers = []; all = 0; latest = 0 }

-- of one record, whose packet has this number, and is one's own or isn't
abbrev pub one_found : Bool → ℕ → RecordFacts → List ℕ → OwnFacts
one_found mine n facts piece = record { bytes = cond mine piece []; numbers = cond mine (n ∷ []) []; all = 1; latest = facts.moment }

-- first this, and then what is behind it
abbrev pub both_found : OwnFacts → OwnFacts → OwnFacts
both_found first behind = record {
  bytes = first.bytes ++ behind.bytes;
  numbers = first.numbers ++ behind.numbers;
  all = first.all + behind.all;
  latest = max first.latest behind.latest;
}

abbrev found_as : List ℕ → List ℕ → ℕ → ℕ → OwnFacts
found_as bytes numbers all latest = record { bytes = bytes; numbers = numbers; all = all; latest = latest }

same_found : (a b k l : List ℕ) (n m x y : ℕ) → a ≡ b → k ≡ l → n ≡ m → x ≡ y → found_as a k n x ≡ found_as b l m y
same_found a b k l n m x y one two three four = rw (one, two, three, four) refl

found_of_three : (first one behind : OwnFacts) → both_found first (both_found one behind) ≡ both_found (both_found first one) behind
found_of_three first one behind =
    same_found (first.bytes ++ (one.bytes ++ behind.bytes)) ((first.bytes ++ one.bytes) ++ behind.bytes) (first.numbers ++ (one.numbers ++ behind.numbers))
    ((first.numbers ++ one.numbers) ++ behind.numbers) (first.all + (one.all + behind.all)) ((first.all + one.all) + behind.all)
    (max first.latest (max one.latest behind.latest)) (max (max first.latest one.latest) behind.latest) (sym (append_assoc first.bytes one.bytes behind.bytes)) (sym (append_assoc first.numbers one.numbers behind.numbers)) (omega arith) (omega arith)

-- ---- One record after the other

-- fewer bytes stand behind a record
pub rest_short : (order : Order) (bytes piece rest : List ℕ) (facts : RecordFacts) → IsWholeRecord order piece facts → bytes ≡ piece ++ rest
    → length rest + 1 ≤ length bytes
rest_short order bytes piece rest facts (header, spelt, is) whole =
    let size = ap length spelt in
    let both = length-append header facts.frame in
    let sixteen = is.sixteen in
    let parts = ap length whole in
    let behind = length-append piece rest in
    omega arith

module _ (own : Own) (order : Order) where
  -- no record is found
  pub found_none : (n : ℕ) (bytes : List ℕ) → HasNoRecord order bytes → AreOfOwn own n order bytes none_found
  found_none n bytes none = record {
    pieces = [];
    records = [];
    each = tt;
    rest = bytes;
    spelt = refl;
    no_more = none;
    mine_are = refl;
    numbers_are = refl;
    count = refl;
    latest_is = refl;
  }

  -- a record before others
  found_first : (n : ℕ) (bytes piece rest : List ℕ) (facts : RecordFacts) (behind : OwnFacts) (mine : Bool) → IsWholeRecord order piece facts → bytes ≡ piece ++ rest
      → own n (packet_at 0 facts) ≡ mine → AreOfOwn own (n + 1) order rest behind → AreOfOwn own n order bytes (both_found (one_found mine n facts piece) behind)
  found_first n bytes piece rest facts behind mine one whole is are = record {
    pieces = piece ∷ are.pieces;
    records = facts ∷ are.records;
    each = (one, are.each);
    rest = are.rest;
    spelt = whole ∙ ap (λ (b : List ℕ). piece ++ b) are.spelt ∙ sym (append_assoc piece (concat are.pieces) are.rest);
    no_more = are.no_more;
    mine_are = bytes_first mine ∙ ap (λ b. concat (cond b (piece ∷ behind_pieces) behind_pieces)) (sym is);
    numbers_are = numbers_first mine ∙ ap (λ b. cond b (n ∷ behind_numbers) behind_numbers) (sym is);
    count = let rest_too = are.count in omega arith;
    latest_is = ap (max facts.moment) are.latest_is;
  }
    where
      behind_pieces : List (List ℕ)
      behind_pieces = own_in own (n + 1) (packets_at 0 are.records) are.pieces

      behind_numbers : List ℕ
      behind_numbers = own_numbers own (n + 1) (packets_at 0 are.records)

      bytes_first : (b : Bool) → cond b piece [] ++ behind.bytes ≡ concat (cond b (piece ∷ behind_pieces) behind_pieces)
      bytes_first true = ap (λ (b : List ℕ). piece ++ b) are.mine_are
      bytes_first false = are.mine_are

      numbers_first : (b : Bool) → cond b (n ∷ []) [] ++ behind.numbers ≡ cond b (n ∷ behind_numbers) behind_numbers
      numbers_first true = ap (λ (ns : List ℕ). n ∷ ns) are.numbers_are
      numbers_first false = are.numbers_are

  -- before the rest, whose first packet has the number m, this was found
  abbrev pub HaveFoundSo : (n : ℕ) → (bytes : List ℕ) → (m : ℕ) → (rest : List ℕ) → OwnFacts → Type 0
  HaveFoundSo n bytes m rest first = (behind : OwnFacts) → AreOfOwn own m order rest behind → AreOfOwn own n order bytes (both_found first behind)

  pub found_begun : (n : ℕ) (bytes : List ℕ) (first : OwnFacts) → first.bytes ≡ [] → first.numbers ≡ [] → first.all ≡ 0 → first.latest ≡ 0 → HaveFoundSo n bytes n bytes first
  found_begun n bytes first none no_number no_record no_second behind are =
      let front : behind.bytes ≡ first.bytes ++ behind.bytes = ap (λ (b : List ℕ). b ++ behind.bytes) (sym none) in
      let numbers : behind.numbers ≡ first.numbers ++ behind.numbers = ap (λ (b : List ℕ). b ++ behind.numbers) (sym no_number) in
      subst (AreOfOwn own n order bytes)
      (same_found behind.bytes (first.bytes ++ behind.bytes) behind.numbers (first.numbers ++ behind.numbers) behind.all (first.all + behind.all) behind.latest
      (max first.latest behind.latest) front numbers (omega arith) (omega arith))
      are

  -- the next record
  pub found_next : (n m : ℕ) (bytes rest piece left : List ℕ) (first : OwnFacts) (facts : RecordFacts) (mine : Bool) → HaveFoundSo n bytes m rest first
      → IsWholeRecord order piece facts → rest ≡ piece ++ left → own m (packet_at 0 facts) ≡ mine
      → HaveFoundSo n bytes (m + 1) left (both_found first (one_found mine m facts piece))
  found_next n m bytes rest piece left first facts mine so one whole is behind are =
      subst (AreOfOwn own n order bytes) (found_of_three first (one_found mine m facts piece) behind)
      (so (both_found (one_found mine m facts piece) behind) (found_first m rest piece left facts behind mine one whole is are))

  -- no further one
  pub found_all : (n m : ℕ) (bytes rest : List ℕ) (first : OwnFacts) → HaveFoundSo n bytes m rest first → HasNoRecord order rest → AreOfOwn own n order bytes first
  found_all n m bytes rest first so none =
      subst (AreOfOwn own n order bytes) (same_found (first.bytes ++ []) first.bytes (first.numbers ++ []) first.numbers (first.all + 0) first.all (max first.latest 0) first.latest (append-nil first.bytes) (append-nil first.numbers) (omega arith) (omega arith))
      (so none_found (found_none m rest none))

  -- what is found with it
  pub found_so : (n m : ℕ) (bytes rest piece left : List ℕ) (first found : OwnFacts) (facts : RecordFacts) (mine : Bool) → HaveFoundSo n bytes m rest first
      → IsWholeRecord order piece facts → rest ≡ piece ++ left → own m (packet_at 0 facts) ≡ mine
      → first.bytes ++ cond mine piece [] ≡ found.bytes → first.numbers ++ cond mine (m ∷ []) [] ≡ found.numbers → first.all + 1 ≡ found.all → max first.latest facts.moment ≡ found.latest
      → HaveFoundSo n bytes (m + 1) left found
  found_so n m bytes rest piece left first found facts mine so one whole is all_bytes all_numbers all latest behind are =
      subst (λ (f : OwnFacts). AreOfOwn own n order bytes (both_found f behind))
      (same_found (first.bytes ++ cond mine piece []) found.bytes (first.numbers ++ cond mine (m ∷ []) []) found.numbers (first.all + 1) found.all (max first.latest facts.moment) found.latest
      all_bytes all_numbers all latest)
      (found_next n m bytes rest piece left first facts mine so one whole is behind are)
