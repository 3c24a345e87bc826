-- What there is for one's own packets.
use Rattle.std.proofs.Common.{◌≡◌, ◌∙◌, ◌+◌, ◌≤◌, ℕ, suc, Bool, true, false, cond, List, [], ◌∷◌, ◌++◌, None, length, map, ap, ap₂, arith, refl, sym}
use Rattle.std.specs.List.{All, AllZip}
use Rattle.std.proofs.lemmas.Bool.{cond-true}
use Rattle.std.proofs.lemmas.List.Elements.{All-cons, All-head, All-nil, All-tail}
use Rattle.packet_view.specs.Captures.{PacketFacts}
use Rattle.capture_shards.specs.Shards.{Own, own_in, own_packets}
use Rattle.capture_shards.specs.inner.OwnTests.{own_among}

module _ {X : Type 0} (own : Own) where
  -- what holds of each holds of one's own
  pub own_all : (P : X → Type 0) (n : ℕ) (ps : List PacketFacts) (xs : List X) → All P xs → All P (own_in own n ps xs)
  own_all P n [] xs all = All-nil P
  own_all P n (p ∷ ps) [] all = All-nil P
  own_all P n (p ∷ ps) (x ∷ xs) all = go (own n p) (own_all P (n + 1) ps xs (All-tail P x xs all))
    where
      go : (b : Bool) → All P (own_in own (n + 1) ps xs)
          → All P (cond b (x ∷ own_in own (n + 1) ps xs) (own_in own (n + 1) ps xs))
      go true rest = All-cons P x (own_in own (n + 1) ps xs) (All-head P x xs all) rest
      go false rest = rest

  -- what holds of each with its packet does so of one's own
  pub own_zip : (R : PacketFacts → X → Type 0) (n : ℕ) (ps : List PacketFacts) (xs : List X) → AllZip R ps xs
      → AllZip R (own_packets own n ps) (own_in own n ps xs)
  own_zip R n [] [] all = tt
  own_zip R n [] (x ∷ xs) all = absurd all
  own_zip R n (p ∷ ps) [] all = absurd all
  own_zip R n (p ∷ ps) (x ∷ xs) all = go (own n p) (own_zip R (n + 1) ps xs all.1)
    where
      go : (b : Bool) → AllZip R (own_packets own (n + 1) ps) (own_in own (n + 1) ps xs)
          → AllZip R (cond b (p ∷ own_packets own (n + 1) ps) (own_packets own (n + 1) ps))
          (cond b (x ∷ own_in own (n + 1) ps xs) (own_in own (n + 1) ps xs))
      go true rest = (all.0, rest)
      go false rest = rest

  -- what holds of each with what another list has there does so of one's own
  pub own_zip_both : {Y : Type 0} (R : X → Y → Type 0) (n : ℕ) (ps : List PacketFacts) (xs : List X) (ys : List Y) → AllZip R xs ys
      → AllZip R (own_in own n ps xs) (own_in own n ps ys)
  own_zip_both R n [] xs ys all = tt
  own_zip_both R n (p ∷ ps) [] [] all = tt
  own_zip_both R n (p ∷ ps) [] (y ∷ ys) all = absurd all
  own_zip_both R n (p ∷ ps) (x ∷ xs) [] all = absurd all
  own_zip_both R n (p ∷ ps) (x ∷ xs) (y ∷ ys) all = go (own n p) (own_zip_both R (n + 1) ps xs ys all.1)
    where
      go : (b : Bool) → AllZip R (own_in own (n + 1) ps xs) (own_in own (n + 1) ps ys)
          → AllZip R (cond b (x ∷ own_in own (n + 1) ps xs) (own_in own (n + 1) ps xs)) (cond b (y ∷ own_in own (n + 1) ps ys) (own_in own (n + 1) ps ys))
      go true rest = (all.0, rest)
      go false rest = rest

  pub own_map : {Y : Type 0} (f : X → Y) (n : ℕ) (ps : List PacketFacts) (xs : List X)
      → map f (own_in own n ps xs) ≡ own_in own n ps (map f xs)
  own_map f n [] xs = refl
  own_map f n (p ∷ ps) [] = refl
  own_map f n (p ∷ ps) (x ∷ xs) = go (own n p) (own_map f (n + 1) ps xs)
    where
      go : (b : Bool) → map f (own_in own (n + 1) ps xs) ≡ own_in own (n + 1) ps (map f xs)
          → map f (cond b (x ∷ own_in own (n + 1) ps xs) (own_in own (n + 1) ps xs))
          ≡ cond b (f x ∷ own_in own (n + 1) ps (map f xs)) (own_in own (n + 1) ps (map f xs))
      go true rest = ap (λ ys. f x ∷ ys) rest
      go false rest = rest

module _ {X : Type 0} (own : Own) where
  -- of some packets and of those behind them
  pub own_both : (n m : ℕ) (ps qs : List PacketFacts) (xs ys : List X) → length xs ≡ length ps → m ≡ n + length ps
      → own_in own n (ps ++ qs) (xs ++ ys) ≡ own_in own n ps xs ++ own_in own m qs ys
  own_both n m [] qs [] ys each next = let same : m ≡ n = omega (arith, next) in rw same refl
  own_both n m [] qs (x ∷ xs) ys each next = absurd (omega (arith, each))
  own_both n m (p ∷ ps) qs [] ys each next = absurd (omega (arith, each))
  own_both n m (p ∷ ps) qs (x ∷ xs) ys each next =
      go (own n p) (own_both (n + 1) m ps qs xs ys (omega (arith, each)) (omega (arith, next)))
    where
      go : (b : Bool) → own_in own (n + 1) (ps ++ qs) (xs ++ ys) ≡ own_in own (n + 1) ps xs ++ own_in own m qs ys
          → cond b (x ∷ own_in own (n + 1) (ps ++ qs) (xs ++ ys)) (own_in own (n + 1) (ps ++ qs) (xs ++ ys))
          ≡ cond b (x ∷ own_in own (n + 1) ps xs) (own_in own (n + 1) ps xs) ++ own_in own m qs ys
      go true same = ap (λ zs. x ∷ zs) same
      go false same = same

  -- no more than there are
  pub own_few : (n : ℕ) (ps : List PacketFacts) (xs : List X) → length (own_in own n ps xs) ≤ length xs
  own_few n [] xs = omega arith
  own_few n (p ∷ ps) [] = omega arith
  own_few n (p ∷ ps) (x ∷ xs) = go (own n p) (own_few (n + 1) ps xs)
    where
      go : (b : Bool) → length (own_in own (n + 1) ps xs) ≤ length xs
          → length (cond b (x ∷ own_in own (n + 1) ps xs) (own_in own (n + 1) ps xs)) ≤ suc (length xs)
      go true few = omega (arith, few)
      go false few = omega (arith, few)

-- where all packets are one's own there is the same for them
pub all_in : {X : Type 0} (n : ℕ) (ps : List PacketFacts) (xs : List X) → length xs ≡ length ps → own_in (own_among None) n ps xs ≡ xs
all_in n [] [] each = refl
all_in n [] (x ∷ xs) each = absurd (omega (arith, each))
all_in n (p ∷ ps) [] each = absurd (omega (arith, each))
all_in n (p ∷ ps) (x ∷ xs) each = ap (λ rest. x ∷ rest) (all_in (n + 1) ps xs (omega (arith, each)))

-- each packet is someone's own
pub record HasOwner (count : ℕ) (owns : ℕ → Own) (n : ℕ) (packet : PacketFacts) : Type 0 where
  pub shard : ℕ
  pub some : 1 ≤ shard
  pub few : shard ≤ count
  pub is : owns shard n packet ≡ true

module _ {X : Type 0} (count : ℕ) (owns : ℕ → Own) (owners : (n : ℕ) (p : PacketFacts) → HasOwner count owns n p) where
  abbrev Same : ℕ → List PacketFacts → List X → List X → Type 0
  Same n ps xs ys = (shard : ℕ) → 1 ≤ shard → shard ≤ count → own_in (owns shard) n ps xs ≡ own_in (owns shard) n ps ys

  first_same : (n shard : ℕ) (p : PacketFacts) (x y : X) (xs ys : List X) → owns shard n p ≡ true
      → cond (owns shard n p) (x ∷ xs) xs ≡ cond (owns shard n p) (y ∷ ys) ys → x ∷ xs ≡ y ∷ ys
  first_same n shard p x y xs ys is same =
      sym (cond-true (owns shard n p) (x ∷ xs) xs is) ∙ same ∙ cond-true (owns shard n p) (y ∷ ys) ys is

  rest_same : (b : Bool) (x y : X) (xs ys : List X) → cond b (x ∷ xs) xs ≡ cond b (y ∷ ys) ys → xs ≡ ys
  rest_same true x y xs ys same = cc
  rest_same false x y xs ys same = same

  -- what is the same for the own packets of all is the same for each packet
  pub same_by_owns : (n : ℕ) (ps : List PacketFacts) (xs ys : List X) → length xs ≡ length ps → length ys ≡ length ps
      → Same n ps xs ys → xs ≡ ys
  same_by_owns n [] [] [] a b same = refl
  same_by_owns n [] (x ∷ xs) ys a b same = absurd (omega (arith, a))
  same_by_owns n [] [] (y ∷ ys) a b same = absurd (omega (arith, b))
  same_by_owns n (p ∷ ps) [] ys a b same = absurd (omega (arith, a))
  same_by_owns n (p ∷ ps) (x ∷ xs) [] a b same = absurd (omega (arith, b))
  same_by_owns n (p ∷ ps) (x ∷ xs) (y ∷ ys) a b same =
      let o = owners n p in
      let rest : xs ≡ ys = same_by_owns (n + 1) ps xs ys (omega (arith, a)) (omega (arith, b)) (λ shard some few.
      rest_same (owns shard n p) x y (own_in (owns shard) (n + 1) ps xs) (own_in (owns shard) (n + 1) ps ys) (same shard some few)) in
      let here : x ∷ own_in (owns o.shard) (n + 1) ps xs ≡ y ∷ own_in (owns o.shard) (n + 1) ps ys =
      first_same n o.shard p x y (own_in (owns o.shard) (n + 1) ps xs) (own_in (owns o.shard) (n + 1) ps ys) o.is (same o.shard o.some o.few) in
      let first : x ≡ y = cc in
      ap₂ (λ h t. h ∷ t) first rest
