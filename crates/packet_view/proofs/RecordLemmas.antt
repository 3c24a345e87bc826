-- What is at the front of records is what the tests find there, and nothing else.
use Rattle.std.proofs.Common.{◌≡◌, ◌∙◌, ◌≤◌, ℕ, List, [], ◌∷◌, ◌++◌, length, take, drop, nat_lt, ◌==◌, ◌-◌, ◌+◌, refl, sym, ap, subst, inl, inr, arith, lit≤}
use Rattle.std.proofs.lemmas.List.{drop-drop, drop-append-le, drop_at, length-append, length-drop, length-take-le, take-append-drop, take_at, take_rest, nil_from_length}
use Rattle.std.proofs.lemmas.Grind.{common_steps}
use Rattle.std.proofs.lemmas.Bool.{cond_both, eqb-true, ltb-true, ltb-false}
use Rattle.std.proofs.lemmas.Bool.Decides.{nat_tests}
use Rattle.byteorder.specs.Endian.{big_number, little_number}
use Rattle.byteorder.specs.Numbers.{big_from-append, little_from-append}
use Rattle.packet_view.specs.declared.capture.Order.{Order}
use Rattle.packet_view.specs.declared.capture.Order.TheVariants.{Little, LittleNanos, Big, BigNanos}
use Rattle.packet_view.specs.Captures.{AreRecords, IsPiece, IsRecord, PieceFacts, Record, Nothing, Cut, TooLong, RecordFacts, kept_length, kept_limit, micros_in, micros_of, number_from}
use Rattle.packet_view.specs.RecordLists.{front_record, record_length}
use Rattle.packet_view.specs.inner.RecordSteps.{part_of}

little_from_front : (place width : ℕ) (xs ys : List ℕ) → place + width ≤ length xs
    → little_number width (drop place (xs ++ ys)) ≡ little_number width (drop place xs)
little_from_front place width xs ys h =
    let front : width ≤ length (drop place xs) = grind (arith, common_steps) in
    rw (drop-append-le place xs ys (omega arith)) (little_from-append width (drop place xs) ys front)

big_from_front : (place width : ℕ) (xs ys : List ℕ) → place + width ≤ length xs
    → big_number width (drop place (xs ++ ys)) ≡ big_number width (drop place xs)
big_from_front place width xs ys h =
    let front : width ≤ length (drop place xs) = grind (arith, common_steps) in
    rw (drop-append-le place xs ys (omega arith)) (big_from-append width (drop place xs) ys front)

-- a number lies in the front that holds its bytes
pub number_from-append : (order : Order) (place width : ℕ) (xs ys : List ℕ) → place + width ≤ length xs
    → number_from order place width (xs ++ ys) ≡ number_from order place width xs
number_from-append Little place width xs ys h = little_from_front place width xs ys h
number_from-append LittleNanos place width xs ys h = little_from_front place width xs ys h
number_from-append Big place width xs ys h = big_from_front place width xs ys h
number_from-append BigNanos place width xs ys h = big_from_front place width xs ys h

pub number_from-take : (order : Order) (place width n : ℕ) (bytes : List ℕ) → place + width ≤ n → n ≤ length bytes
    → number_from order place width bytes ≡ number_from order place width (take n bytes)
number_from-take order place width n bytes h long =
    let front : length (take n bytes) ≡ n = length-take-le n bytes long in
    ap (number_from order place width) (sym (take-append-drop n bytes)) ∙ number_from-append order place width (take n bytes) (drop n bytes) (omega arith)

-- a record that is whole is found
found : (order : Order) (bytes : List ℕ) → 16 ≤ length bytes → kept_length order bytes ≤ kept_limit → 16 + kept_length order bytes ≤ length bytes
    → part_of order bytes ≡ Record (front_record order bytes) (drop (record_length order bytes) bytes)
found order bytes long limit fits = grind (arith, nat_tests)

-- the record at the front of the bytes is this, and these are the bytes after it
pub record IsFront (order : Order) (bytes : List ℕ) (packet : RecordFacts) (rest : List ℕ) : Type 0 where
  pub packet-is : packet ≡ front_record order bytes
  pub rest-is : rest ≡ drop (record_length order bytes) bytes
  pub size : length bytes ≡ record_length order bytes + length rest

-- a record that is spelt out is at the front
spelt_front : (order : Order) (header frame rest : List ℕ) (moment micros : ℕ) → IsRecord order header (record { moment = moment; micros = micros; frame = frame })
    → IsFront order (header ++ (frame ++ rest)) (record { moment = moment; micros = micros; frame = frame }) rest
spelt_front order header frame rest moment micros r =
    let bytes : List ℕ = header ++ (frame ++ rest) in
    let kept : kept_length order bytes ≡ length frame = number_from-append order 8 4 header (frame ++ rest) (omega (arith, r.sixteen)) ∙ sym r.kept in
    let seconds : number_from order 0 4 bytes ≡ moment = number_from-append order 0 4 header (frame ++ rest) (omega (arith, r.sixteen)) ∙ sym r.moment in
    let fraction : micros_in order bytes ≡ micros =
    ap (micros_of order) (number_from-append order 4 4 header (frame ++ rest) (omega (arith, r.sixteen))) ∙ sym r.micros in
    let size : length bytes ≡ 16 + (length frame + length rest) = simp (length-append, r.sixteen) refl in
    let behind : drop 16 bytes ≡ frame ++ rest = drop_at header (frame ++ rest) 16 r.sixteen in
    let front : take (kept_length order bytes) (drop 16 bytes) ≡ frame = ap (take (kept_length order bytes)) behind ∙ take_at frame rest (kept_length order bytes) (sym kept) in
    let left : drop (16 + kept_length order bytes) bytes ≡ rest =
    sym (drop-drop (kept_length order bytes) 16 bytes) ∙ ap (drop (kept_length order bytes)) behind ∙ drop_at frame rest (kept_length order bytes) (sym kept) in
    record { packet-is = cc; rest-is = sym left; size = omega arith }

pub part_front : (order : Order) (bytes : List ℕ) (packet : RecordFacts) (rest : List ℕ) → IsPiece order bytes (Record packet rest) → IsFront order bytes packet rest
part_front order bytes packet rest (header, spelt, r) =
    subst (λ (b : List ℕ). IsFront order b packet rest) (sym spelt) (spelt_front order header packet.frame rest packet.moment packet.micros r)

record_is_found : (order : Order) (bytes : List ℕ) (packet : RecordFacts) (rest : List ℕ) → IsPiece order bytes (Record packet rest) → Record packet rest ≡ part_of order bytes
record_is_found order bytes packet rest is =
    let front = part_front order bytes packet rest is in
    let packet-is = front.packet-is in
    let rest-is = front.rest-is in
    let kept : length packet.frame ≡ kept_length order bytes = ap (λ (p : RecordFacts). length p.frame) packet-is ∙ length-take-le (kept_length order bytes) (drop 16 bytes) (let d = length-drop 16 bytes in let s = front.size in omega arith) in
    let limit = is.2.limit in
    let is_found = found order bytes (omega (arith, front.size)) (omega arith) (omega (arith, front.size)) in
    cc

number_after : (order : Order) (place width : ℕ) (bytes : List ℕ) → number_from order 0 width (drop place bytes) ≡ number_from order place width bytes
number_after Little place width bytes = refl
number_after LittleNanos place width bytes = refl
number_after Big place width bytes = refl
number_after BigNanos place width bytes = refl

-- a length that was read after the first eight bytes is the one that the record's header says
pub read_length : (order : Order) (bytes : List ℕ) (kept : ℕ) → kept ≡ number_from order 0 4 (take (length bytes - 8) (drop 8 bytes)) → kept ≡ kept_length order bytes
read_length order bytes kept said = said ∙ ap (number_from order 0 4) (take_rest bytes 8) ∙ number_after order 8 4 bytes

-- a record that is cut out of the bytes is found
pub cut_out : (order : Order) (bytes : List ℕ) (kept moment micros : ℕ) → 16 ≤ length bytes → kept ≡ number_from order 0 4 (take (length bytes - 8) (drop 8 bytes))
    → kept ≤ kept_limit → kept ≤ length bytes - 16 → moment ≡ number_from order 0 4 bytes → micros ≡ micros_in order bytes
    → Record (record { moment = moment; micros = micros; frame = take (16 + kept - 16) (drop 16 bytes) }) (take (length bytes - (16 + kept)) (drop (16 + kept) bytes))
    ≡ part_of order bytes
cut_out order bytes kept moment micros long said limit fits seconds fraction =
    let same = read_length order bytes kept said in
    let size : 16 + kept - 16 ≡ kept = omega arith in
    let behind : take (length bytes - (16 + kept)) (drop (16 + kept) bytes) ≡ drop (16 + kept) bytes = take_rest bytes (16 + kept) in
    let is_found = found order bytes long (omega arith) (omega arith) in
    cc

pub part_only : (order : Order) (bytes : List ℕ) (part : PieceFacts) → IsPiece order bytes part → part ≡ part_of order bytes
part_only order bytes (Record packet rest) h = record_is_found order bytes packet rest h
part_only order bytes Nothing h = rw h refl
part_only order bytes Cut (inl h) = grind (arith, nat_tests)
part_only order bytes Cut (inr h) = grind (arith, nat_tests)
part_only order bytes TooLong h = grind (arith, nat_tests)

-- the bytes, cut after sixteen and after the kept ones
spelt : (order : Order) (bytes : List ℕ) (kept : ℕ) → bytes ≡ take 16 bytes ++ (take kept (drop 16 bytes) ++ drop (16 + kept) bytes)
spelt order bytes kept = rw (← drop-drop kept 16 bytes, take-append-drop, take-append-drop) refl

record_shown : (order : Order) (bytes : List ℕ) → 16 ≤ length bytes → kept_length order bytes ≤ kept_limit → 16 + kept_length order bytes ≤ length bytes
    → IsPiece order bytes (Record (front_record order bytes) (drop (record_length order bytes) bytes))
record_shown order bytes long limit fits = (
  take 16 bytes,
  spelt order bytes (kept_length order bytes),
  let count : length (take (kept_length order bytes) (drop 16 bytes)) ≡ kept_length order bytes =
      length-take-le (kept_length order bytes) (drop 16 bytes) (let d = length-drop 16 bytes in omega arith) in
      record {
        sixteen = length-take-le 16 bytes long;
        moment = number_from-take order 0 4 16 bytes (lit≤ tt) long;
        micros = ap (micros_of order) (number_from-take order 4 4 16 bytes (lit≤ tt) long);
        kept = count ∙ number_from-take order 8 4 16 bytes (lit≤ tt) long;
        limit = omega arith;
      },
)

pub part_shown : (order : Order) (bytes : List ℕ) → IsPiece order bytes (part_of order bytes)
part_shown order bytes =
    cond_both (length bytes == 0) _ _ (IsPiece order bytes) (λ h. nil_from_length bytes (eqb-true _ _ h))
    (λ some. cond_both (nat_lt (length bytes) 16) _ _ (IsPiece order bytes)
    (λ h. inl (grind (arith, nat_tests), ltb-true _ _ h))
    (λ long. cond_both (nat_lt kept_limit (kept_length order bytes)) _ _ (IsPiece order bytes)
    (λ h. (ltb-false _ _ long, ltb-true _ _ h))
    (λ limit. cond_both (nat_lt (length bytes - 16) (kept_length order bytes)) _ _ (IsPiece order bytes)
    (λ h. inr (ltb-false _ _ long, ltb-false _ _ limit, grind (arith, nat_tests)))
    (λ fits. record_shown order bytes (ltb-false _ _ long) (ltb-false _ _ limit) (grind (arith, nat_tests))))))

-- no record is at the front
abbrev pub IsStop : PieceFacts → Type 0
IsStop (Record packet rest) = ⊥
IsStop Nothing = Unit {0}
IsStop Cut = Unit {0}
IsStop TooLong = Unit {0}

pub record HasNoRecord (order : Order) (rest : List ℕ) : Type 0 where
  pub stops : IsStop (part_of order rest)

stops_none : (order : Order) (bytes others : List ℕ) (packet : RecordFacts) → IsPiece order bytes (Record packet others) → HasNoRecord order bytes → ⊥
stops_none order bytes others packet h stop = subst IsStop (sym (part_only order bytes (Record packet others) h)) stop.stops

-- bytes are records in one way up to where no further one stands
pub records_once : (order : Order) (bytes : List ℕ) (packets others : List RecordFacts) (rest left : List ℕ) → AreRecords order bytes packets rest → HasNoRecord order rest
    → AreRecords order bytes others left → HasNoRecord order left → (packets ≡ others) × (rest ≡ left)
records_once order bytes [] [] rest left all stop same end = (refl, sym all ∙ same)
records_once order bytes [] (other ∷ others) rest left all stop (behind, one, same) end =
    absurd (stops_none order bytes behind other one (rw all stop))
records_once order bytes (packet ∷ packets) [] rest left (behind, one, all) stop same end =
    absurd (stops_none order bytes behind packet one (rw same end))
records_once order bytes (packet ∷ packets) (other ∷ others) rest left (behind, one, all) stop (after, same_one, same) end =
    let a = part_only order bytes (Record packet behind) one in
    let b = part_only order bytes (Record other after) same_one in
    let equal : behind ≡ after = cc in
    let first : packet ≡ other = cc in
    let more = records_once order behind packets others rest left all stop (rw equal same) end in
    (cc, more.1)
