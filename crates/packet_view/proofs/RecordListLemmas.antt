-- Records that are known to be whole, one after the other.
use Rattle.std.proofs.Common.{◌≡◌, ◌≢◌, ◌≤◌, ◌+◌, ◌++◌, ◌-◌, ◌∙◌, ℕ, zero, suc, List, [], ◌∷◌, drop, length, take}
use Rattle.std.proofs.Common.{ap, ap₂, refl, subst, sym, arith}
use Rattle.std.proofs.lemmas.List.{drop-drop, drop-map, length-append, length-drop, take_all}
use Rattle.packet_view.specs.declared.capture.Order.{Order}
use Rattle.packet_view.specs.Captures.{AreRecords, IsPiece, RecordFacts, Record, packet_at, packets_at}
use Rattle.packet_view.specs.RecordLists.{bytes_of, front_record, records_from, record_length}
use Rattle.packet_view.proofs.FrontLemmas.{records_joined}
use Rattle.packet_view.proofs.RecordLemmas.{part_front}

pub packets_count : (order : Order) (n : ℕ) (bytes : List ℕ) → n ≡ length (records_from order n bytes)
packets_count order zero bytes = refl
packets_count order (suc n) bytes = let more = packets_count order n (drop (record_length order bytes) bytes) in omega arith

-- where some records are left, they are the one at the front and those after it
pub front_packets : (order : Order) (n : ℕ) (bytes : List ℕ) → n ≢ 0
    → records_from order n bytes ≡ front_record order bytes ∷ records_from order (n - 1) (drop (record_length order bytes) bytes)
front_packets order zero bytes some = absurd (some refl)
front_packets order (suc n) bytes some = let e : suc n - 1 ≡ n = omega arith in rw e refl

front_bytes : (order : Order) (n : ℕ) (bytes : List ℕ) → n ≢ 0
    → bytes_of order n bytes ≡ record_length order bytes + bytes_of order (n - 1) (drop (record_length order bytes) bytes)
front_bytes order zero bytes some = absurd (some refl)
front_bytes order (suc n) bytes some = let e : suc n - 1 ≡ n = omega arith in rw e refl

pub others_whole : (order : Order) (n : ℕ) (bytes : List ℕ) → n ≢ 0 → bytes_of order n bytes ≤ length bytes
    → bytes_of order (n - 1) (drop (record_length order bytes) bytes) ≤ length (drop (record_length order bytes) bytes)
others_whole order n bytes some whole =
    let e = front_bytes order n bytes some in
    let left = length-drop (record_length order bytes) bytes in
    omega arith

-- whole records are those that are at the front of the bytes, and they have all bytes but the rest
pub records_listed : (order : Order) (bytes : List ℕ) (packets : List RecordFacts) (rest : List ℕ) → AreRecords order bytes packets rest
    → (packets ≡ records_from order (length packets) bytes) × (bytes_of order (length packets) bytes + length rest ≡ length bytes)
records_listed order bytes [] rest all = (refl, let same : length bytes ≡ length rest = ap length all in omega arith)
records_listed order bytes (packet ∷ packets) rest (others, one, all) =
    let front = part_front order bytes packet others one in
    let more = records_listed order others packets rest all in
    let size = front.size in
    let same = more.0 in
    let count : bytes_of order (length packets) (drop (record_length order bytes) bytes) + length rest ≡ length others =
    ap (λ (b : List ℕ). bytes_of order (length packets) b + length rest) (sym front.rest-is) ∙ more.1 in (
      ap₂ (λ p (ps : List RecordFacts). p ∷ ps) front.packet-is (more.0 ∙ ap (records_from order (length packets)) front.rest-is),
      omega arith,
    )

-- and behind these bytes is the rest
pub records_behind : (order : Order) (bytes : List ℕ) (packets : List RecordFacts) (rest : List ℕ) → AreRecords order bytes packets rest
    → rest ≡ drop (bytes_of order (length packets) bytes) bytes
records_behind order bytes [] rest all = sym all
records_behind order bytes (packet ∷ packets) rest (others, one, all) =
    let front = part_front order bytes packet others one in
    let size : ℕ = record_length order bytes in
    records_behind order others packets rest all
    ∙ ap (λ (b : List ℕ). drop (bytes_of order (length packets) b) b) front.rest-is
    ∙ drop-drop (bytes_of order (length packets) (drop size bytes)) size bytes

-- there are no more records than bytes
pub records_few : (order : Order) (n : ℕ) (bytes : List ℕ) → n ≤ bytes_of order n bytes
records_few order zero bytes = omega arith
records_few order (suc n) bytes = let more = records_few order n (drop (record_length order bytes) bytes) in omega arith

pub records_within : (order : Order) (bytes : List ℕ) (packets : List RecordFacts) (rest : List ℕ) → AreRecords order bytes packets rest
    → length packets + length rest ≤ length bytes
records_within order bytes packets rest all =
    let listed = records_listed order bytes packets rest all in
    let few = records_few order (length packets) bytes in
    let size = listed.1 in
    omega arith

-- so many records stand before the rest
abbrev pub AreBefore : Order → List ℕ → List ℕ → ℕ → Type 0
AreBefore order bytes rest count =
    (packets : List RecordFacts) × AreRecords order bytes packets rest × (length packets ≡ count)

pub before_more : (order : Order) (packet : RecordFacts) (others bytes rest : List ℕ) (count : ℕ)
    → AreBefore order bytes rest count → IsPiece order rest (Record packet others)
    → AreBefore order bytes others (count + 1)
before_more order packet others bytes rest count (packets, all, length-is) one =
    let pushed = length-append packets (packet ∷ []) in
    (packets ++ packet ∷ [], records_joined order bytes packets (packet ∷ []) rest others all (others, one, refl), omega arith)

pub before_few : (order : Order) (bytes rest : List ℕ) (count : ℕ) → AreBefore order bytes rest count
    → count ≤ length bytes
before_few order bytes rest count (packets, all, length-is) =
    let few = records_within order bytes packets rest all in omega arith

-- so many records are at the front, and behind their bytes is the rest
pub record AreListed (order : Order) (bytes rest : List ℕ) (count : ℕ) : Type 0 where
  pub records : AreRecords order bytes (records_from order count bytes) rest
  pub size : bytes_of order count bytes + length rest ≡ length bytes
  pub after : rest ≡ drop (bytes_of order count bytes) bytes

pub before_listed : (order : Order) (bytes rest : List ℕ) (count : ℕ) → AreBefore order bytes rest count → AreListed order bytes rest count
before_listed order bytes rest count (packets, all, length-is) =
    let listed = records_listed order bytes packets rest all in
    subst (AreListed order bytes rest) length-is record {
      records = subst (λ (ps : List RecordFacts). AreRecords order bytes ps rest) listed.0 all;
      size = listed.1;
      after = records_behind order bytes packets rest all;
    }

-- so many records have as many bytes as stand before the rest
pub before_mark : (order : Order) (bytes rest : List ℕ) (count : ℕ) → AreBefore order bytes rest count
    → bytes_of order count bytes ≡ length bytes - length rest
before_mark order bytes rest count before = let size = (before_listed order bytes rest count before).size in omega arith

-- records behind others have the bytes behind theirs
bytes_behind : (order : Order) (m n : ℕ) (bytes : List ℕ) → m ≤ n
    → bytes_of order n bytes ≡ bytes_of order m bytes + bytes_of order (n - m) (drop (bytes_of order m bytes) bytes)
bytes_behind order zero n bytes within = let e : n ≡ n - 0 = omega arith in let same = ap (λ k. bytes_of order k bytes) e in omega arith
bytes_behind order (suc m) zero bytes within = absurd (omega arith)
bytes_behind order (suc m) (suc n) bytes within =
    let size : ℕ = record_length order bytes in
    let e : n - m ≡ suc n - suc m = omega arith in
    let more = bytes_behind order m n (drop size bytes) (omega arith) in
    let same = ap₂ (bytes_of order) e (drop-drop (bytes_of order m (drop size bytes)) size bytes) in
    omega arith

-- and are those that are left of all
records_left : (order : Order) (m n : ℕ) (bytes : List ℕ) → m ≤ n
    → records_from order (n - m) (drop (bytes_of order m bytes) bytes) ≡ drop m (records_from order n bytes)
records_left order zero n bytes within = let e : n - 0 ≡ n = omega arith in ap (λ k. records_from order k bytes) e
records_left order (suc m) zero bytes within = absurd (omega arith)
records_left order (suc m) (suc n) bytes within =
    let size : ℕ = record_length order bytes in
    let e : suc n - suc m ≡ n - m = omega arith in
    ap₂ (records_from order) e (sym (drop-drop (bytes_of order m (drop size bytes)) size bytes))
    ∙ records_left order m n (drop size bytes) (omega arith)

-- whole records from a place on where one begins, as a part of the bytes, are whole, and are those that are left
module _ (order : Order) (m n : ℕ) (bytes : List ℕ) (at : ℕ) (within : m ≤ n) (mark : bytes_of order m bytes ≡ at)
    (whole : bytes_of order n bytes ≤ length bytes) where
  abbrev part : List ℕ
  part = take (length bytes - at) (drop at bytes)

  part_is : part ≡ drop at bytes
  part_is = let size = length-drop at bytes in take_all (length bytes - at) (drop at bytes) (omega arith)

  pub mark_inside : at ≤ length bytes
  mark_inside = let split = bytes_behind order m n bytes within in omega arith

  pub left_whole : bytes_of order (n - m) part ≤ length part
  left_whole =
      let split = bytes_behind order m n bytes within in
      let size = length-drop at bytes in
      let same = ap (λ k. bytes_of order (n - m) (drop k bytes)) mark in
      subst (λ b. bytes_of order (n - m) b ≤ length b) (sym part_is) (omega arith)

  pub packets_left : (interface : ℕ) → packets_at interface (records_from order (n - m) part)
      ≡ drop m (packets_at interface (records_from order n bytes))
  packets_left interface =
      ap (λ b. packets_at interface (records_from order (n - m) b)) (part_is ∙ ap (λ k. drop k bytes) (sym mark))
      ∙ ap (packets_at interface) (records_left order m n bytes within)
      ∙ sym (drop-map (packet_at interface) m (records_from order n bytes))
