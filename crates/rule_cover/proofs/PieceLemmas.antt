-- How a search goes on from piece to piece.
use Rattle.std.proofs.Common.{◌≡◌, ◌<◌, ◌⊎◌, ◌↔◌, ℕ, zero, suc, ◌+◌, Bool, false, true, List, [], ◌∷◌, ◌++◌, Option, None, Some, length, set, arith, refl, sym, subst, ◌∙◌, inl, inr}
use Rattle.std.specs.Option.{is_some}
use Rattle.std.specs.Prelude.{All, option_to_list, slice_get}
use Rattle.std.proofs.lemmas.Bool.{cases_lt}
use Rattle.std.proofs.lemmas.List.{append-nil, length-set}
use Rattle.std.proofs.lemmas.List.Elements.{All-append, All-cons, All-nil, All-pop, All-push, All-weaker}
use Rattle.std.proofs.lemmas.Option.{slice_get_within}
use Rattle.packet_view.specs.Tuples.{TupleFacts}
use Rattle.acl_policy.specs.Matching.{Matches}
use Rattle.acl_policy.specs.Rules.{RuleFacts}
use Rattle.rule_cover.specs.Covers.{AreTaken, IsLeft, IsMarked, IsPacket, IsTaken}
use Rattle.rule_cover.specs.declared.packet_set.Meeting.{Meeting}
use Rattle.rule_cover.specs.declared.packet_set.Parting.{Parting}
use Rattle.rule_cover.specs.declared.packet_set.Parting.TheVariants.{Apart, Whole, Cut}
use Rattle.rule_cover.specs.declared.packet_set.PacketSet.{PacketSet}
use Rattle.rule_cover.specs.declared.region.Region.{Region}
use Rattle.rule_cover.specs.declared.region.Shown.{Shown}
use Rattle.rule_cover.specs.declared.region.Shown.TheVariants.{Nothing, PortPair, PortsAndFlags, TypeAndCode}
use Rattle.rule_cover.specs.inner.Pieces.{AddsShown, AreBeside, AreFirst, IsBesideRegion, IsCutBy, IsInSome, IsMeeting, IsParting, IsPartingAt, IsPiece, IsSearch, IsWhole, TakesRegion}
use Rattle.rule_cover.specs.inner.Regions.{IsCut, IsInRegion, shown_of}

in_left : (xs ys : List PacketSet) (tuple : TupleFacts) → IsInSome xs tuple → IsInSome (xs ++ ys) tuple
in_left [] ys tuple is = absurd is
in_left (x ∷ xs) ys tuple (inl here) = inl here
in_left (x ∷ xs) ys tuple (inr there) = inr (in_left xs ys tuple there)

in_right : (xs ys : List PacketSet) (tuple : TupleFacts) → IsInSome ys tuple → IsInSome (xs ++ ys) tuple
in_right [] ys tuple is = is
in_right (x ∷ xs) ys tuple is = inr (in_right xs ys tuple is)

in_cases : (xs ys : List PacketSet) (tuple : TupleFacts) → IsInSome (xs ++ ys) tuple → IsInSome xs tuple ⊎ IsInSome ys tuple
in_cases [] ys tuple is = inr is
in_cases (x ∷ xs) ys tuple (inl here) = inl (inl here)
in_cases (x ∷ xs) ys tuple (inr there) = elim (in_cases xs ys tuple there) [ inl left ↦ inl (inr left) | inr right ↦ inr right ]

pub none_of : {X : Type 0} (o : Option X) → is_some o ≡ false → o ≡ None
none_of None same = refl
none_of (Some x) same = let f : ⊥ = cc in absurd f

-- no packet shows this
pub adds_none : (a b : RuleFacts) (shown : Shown) (old : List PacketSet)
    → ((tuple : TupleFacts) → IsPacket tuple → Matches a tuple → Matches b tuple → shown_of tuple.fields ≡ shown → ⊥) → AddsShown a b shown old old
adds_none a b shown old none = record {
  more = [];
  is = sym (append-nil old);
  each = All-nil (IsWhole a b);
  every = none;
}

-- the packets of both regions
pub adds_both : (a b : RuleFacts) (shown : Shown) (one two joined : Region) (old new : List PacketSet)
    → ((tuple : TupleFacts) → IsPacket tuple → IsInRegion one tuple ↔ (Matches a tuple × (shown_of tuple.fields ≡ shown)))
    → ((tuple : TupleFacts) → IsPacket tuple → IsInRegion two tuple ↔ (Matches b tuple × (shown_of tuple.fields ≡ shown)))
    → ((tuple : TupleFacts) → IsInRegion joined tuple ↔ (IsInRegion one tuple × IsInRegion two tuple))
    → new ≡ old ++ record { region = joined; place = 0 } ∷ [] → AddsShown a b shown old new
adds_both a b shown one two joined old new first second both is = record {
  more = record { region = joined; place = 0 } ∷ [];
  is = is;
  each = All-cons (IsWhole a b) (record { region = joined; place = 0 }) []
      (record {
        start = refl;
        one = λ tuple packet in_it. ((first tuple packet).0 ((both tuple).0 in_it).0).0;
        two = λ tuple packet in_it. ((second tuple packet).0 ((both tuple).0 in_it).1).0;
      })
      (All-nil (IsWhole a b));
  every = λ tuple packet left right shows. inl ((both tuple).1 ((first tuple packet).1 (left, shows), (second tuple packet).1 (right, shows)));
}

-- whatever a packet shows
pub all_shown : (a b : RuleFacts) (o p q r s : List PacketSet) → o ≡ [] → AddsShown a b Nothing o p → AddsShown a b TypeAndCode p q → AddsShown a b PortPair q r
    → AddsShown a b PortsAndFlags r s → AreFirst a b s
all_shown a b o p q r s none one two three four =
    let P = IsWhole a b in
    let zeroth : All P o = subst (All P) (sym none) (All-nil P) in
    let first : All P p = subst (All P) (sym one.is) (All-append P o one.more zeroth one.each) in
    let second : All P q = subst (All P) (sym two.is) (All-append P p two.more first two.each) in
    let third : All P r = subst (All P) (sym three.is) (All-append P q three.more second three.each) in
    record {
      each = subst (All P) (sym four.is) (All-append P r four.more third four.each);
      every = λ tuple packet left right.
          let from_p = λ (is : IsInSome p tuple). subst (λ (ps : List PacketSet). IsInSome ps tuple) (sym two.is) (in_left p two.more tuple is) in
          let from_q = λ (is : IsInSome q tuple). subst (λ (ps : List PacketSet). IsInSome ps tuple) (sym three.is) (in_left q three.more tuple is) in
          let from_r = λ (is : IsInSome r tuple). subst (λ (ps : List PacketSet). IsInSome ps tuple) (sym four.is) (in_left r four.more tuple is) in
          let go : (shown : Shown) → shown_of tuple.fields ≡ shown → IsInSome s tuple = λ shown is. by_shown a b o p q r s one two three four tuple packet left right shown is from_p from_q from_r in
          go (shown_of tuple.fields) refl;
    }
  where
    by_shown : (a b : RuleFacts) (o p q r s : List PacketSet) → AddsShown a b Nothing o p → AddsShown a b TypeAndCode p q → AddsShown a b PortPair q r
        → AddsShown a b PortsAndFlags r s → (tuple : TupleFacts) → IsPacket tuple → Matches a tuple → Matches b tuple → (shown : Shown) → shown_of tuple.fields ≡ shown
        → (IsInSome p tuple → IsInSome q tuple) → (IsInSome q tuple → IsInSome r tuple) → (IsInSome r tuple → IsInSome s tuple) → IsInSome s tuple
    by_shown a b o p q r s one two three four tuple packet left right Nothing is f g h =
        h (g (f (subst (λ (ps : List PacketSet). IsInSome ps tuple) (sym one.is) (in_right o one.more tuple (one.every tuple packet left right is)))))
    by_shown a b o p q r s one two three four tuple packet left right TypeAndCode is f g h =
        h (g (subst (λ (ps : List PacketSet). IsInSome ps tuple) (sym two.is) (in_right p two.more tuple (two.every tuple packet left right is))))
    by_shown a b o p q r s one two three four tuple packet left right PortPair is f g h =
        h (subst (λ (ps : List PacketSet). IsInSome ps tuple) (sym three.is) (in_right q three.more tuple (three.every tuple packet left right is)))
    by_shown a b o p q r s one two three four tuple packet left right PortsAndFlags is f g h =
        subst (λ (ps : List PacketSet). IsInSome ps tuple) (sym four.is) (in_right r four.more tuple (four.every tuple packet left right is))

-- the search begins with whole pieces
whole_piece : (a b : RuleFacts) (rules : List RuleFacts) (piece : PacketSet) → IsWhole a b piece → IsPiece a b rules piece
whole_piece a b rules piece whole = record {
  within = omega (arith, whole.start);
  one = whole.one;
  two = whole.two;
  beside = λ k rule low high. absurd (omega (arith, whole.start));
}

pub search_begins : (a b : RuleFacts) (rules : List RuleFacts) (pieces : List PacketSet) (marks : List Bool) → AreFirst a b pieces → length marks ≡ length rules
    → IsSearch a b rules pieces marks
search_begins a b rules pieces marks are size = record {
  size = size;
  each = All-weaker (IsWhole a b) (IsPiece a b rules) (whole_piece a b rules) pieces are.each;
  every = λ tuple packet left right. inr (are.every tuple packet left right);
}

-- one piece is taken out
pub record IsOpen (a b : RuleFacts) (rules : List RuleFacts) (pieces : List PacketSet) (piece : PacketSet) (marks : List Bool) : Type 0 where
  pub size : length marks ≡ length rules
  pub each : All (IsPiece a b rules) pieces
  pub here : IsPiece a b rules piece
  pub every : (tuple : TupleFacts) → IsPacket tuple → Matches a tuple → Matches b tuple
      → IsTaken rules (IsMarked marks) tuple ⊎ (IsInSome pieces tuple ⊎ IsInRegion piece.region tuple)

pub opened : (a b : RuleFacts) (rules : List RuleFacts) (old new : List PacketSet) (piece : PacketSet) (marks : List Bool) → IsSearch a b rules old marks
    → old ≡ new ++ option_to_list (Some piece) → IsOpen a b rules new piece marks
opened a b rules old new piece marks search same =
    let parts = All-pop (IsPiece a b rules) old new (Some piece) same search.each in
    record {
      size = search.size;
      each = parts.0;
      here = parts.1;
      every = λ tuple packet left right. elim (search.every tuple packet left right) [
        | inl taken ↦ inl taken
        | inr some ↦ elim (in_cases new (piece ∷ []) tuple (subst (λ (ps : List PacketSet). IsInSome ps tuple) same some)) [
          | inl before ↦ inr (inl before)
          | inr last_one ↦ elim last_one [ inl it ↦ inr (inr it) | inr nothing ↦ absurd nothing ]
        ]
      ];
    }

-- the piece has no packet
pub piece_empty : (a b : RuleFacts) (rules : List RuleFacts) (pieces : List PacketSet) (piece : PacketSet) (marks : List Bool) → IsOpen a b rules pieces piece marks
    → ((tuple : TupleFacts) → IsPacket tuple → IsInRegion piece.region tuple → ⊥) → IsSearch a b rules pieces marks
piece_empty a b rules pieces piece marks search none = record {
  size = search.size;
  each = search.each;
  every = λ tuple packet left right. elim (search.every tuple packet left right) [
    | inl taken ↦ inl taken
    | inr some ↦ elim some [ inl before ↦ inr before | inr it ↦ absurd (none tuple packet it) ]
  ];
}

-- marks stay
marked_more : (marks : List Bool) (place k : ℕ) → IsMarked marks k → IsMarked (set marks place true) k
marked_more [] place k is = is
marked_more (x ∷ xs) zero zero is = refl
marked_more (x ∷ xs) zero (suc k) is = is
marked_more (x ∷ xs) (suc place) zero is = is
marked_more (x ∷ xs) (suc place) (suc k) is = marked_more xs place k is

marked_here : (marks : List Bool) (place : ℕ) → place < length marks → IsMarked (set marks place true) place
marked_here [] place within = absurd (omega (arith, within))
marked_here (x ∷ xs) zero within = refl
marked_here (x ∷ xs) (suc place) within = marked_here xs place (omega (arith, within))

-- a rule takes the piece, and is marked
pub piece_taken : (a b : RuleFacts) (rules : List RuleFacts) (pieces : List PacketSet) (piece : PacketSet) (marks : List Bool) (place : ℕ) (rule : RuleFacts)
    → IsOpen a b rules pieces piece marks → slice_get rules place ≡ Some rule → TakesRegion piece.region rule
    → IsSearch a b rules pieces (set marks place true)
piece_taken a b rules pieces piece marks place rule search at takes = record {
  size = length-set marks place true ∙ search.size;
  each = search.each;
  every = λ tuple packet left right. elim (search.every tuple packet left right) [
    | inl taken ↦ inl (taken.0, taken.1, marked_more marks place taken.0 taken.2, taken.3, taken.4)
    | inr some ↦ elim some [
      | inl before ↦ inr before
      | inr it ↦ inl (place, rule, marked_here marks place (omega (arith, search.size, slice_get_within rules place rule at)), at, takes tuple packet it)
    ]
  ];
}

-- a rule cuts the piece
beside_more : (rules : List RuleFacts) (region part : Region) (low high : ℕ) → AreBeside rules region 0 low → AreBeside rules region low high
    → ((tuple : TupleFacts) → IsInRegion part tuple → IsInRegion region tuple) → AreBeside rules part 0 high
beside_more rules region part low high before more within k rule from below at tuple packet is =
    elim (cases_lt k low) [
      | inl early ↦ before k rule from early at tuple packet (within tuple is)
      | inr late ↦ more k rule late below at tuple packet (within tuple is)
    ]

pub beside_next : (rules : List RuleFacts) (region : Region) (low high : ℕ) (rule : RuleFacts) → AreBeside rules region low high
    → slice_get rules high ≡ Some rule → IsBesideRegion region rule → AreBeside rules region low (high + 1)
beside_next rules region low high rule before at beside k other from below there tuple packet is =
    elim (cases_lt k high) [
      | inl early ↦ before k other from early there tuple packet is
      | inr late ↦
          let same : k ≡ high = omega arith in
          let it : rule ≡ other = let read : slice_get rules high ≡ Some other = subst (λ (n : ℕ). slice_get rules n ≡ Some other) same there in cc (at, read) in
          λ matches. beside tuple packet is (subst (λ (r : RuleFacts). Matches r tuple) (sym it) matches)
    ]

inside_piece : (a b : RuleFacts) (rules : List RuleFacts) (piece : PacketSet) (place : ℕ) (rule : RuleFacts) (outside inside : Region) → IsPiece a b rules piece
    → AreBeside rules piece.region piece.place place → slice_get rules place ≡ Some rule → IsCutBy piece.region rule outside inside
    → IsPiece a b rules (record { region = inside; place = place })
inside_piece a b rules piece place rule outside inside here beside at cut = record {
  within = omega (arith, slice_get_within rules place rule at);
  one = λ tuple packet is. here.one tuple packet (cut.rest tuple is);
  two = λ tuple packet is. here.two tuple packet (cut.rest tuple is);
  beside = beside_more rules piece.region inside piece.place place here.beside beside cut.rest;
}

outside_piece : (a b : RuleFacts) (rules : List RuleFacts) (piece : PacketSet) (place : ℕ) (rule : RuleFacts) (outside inside : Region) → IsPiece a b rules piece
    → AreBeside rules piece.region piece.place place → slice_get rules place ≡ Some rule → IsCutBy piece.region rule outside inside
    → IsPiece a b rules (record { region = outside; place = place + 1 })
outside_piece a b rules piece place rule outside inside here beside at cut = record {
  within = omega (arith, slice_get_within rules place rule at);
  one = λ tuple packet is. here.one tuple packet (cut.out tuple is);
  two = λ tuple packet is. here.two tuple packet (cut.out tuple is);
  beside = beside_next rules outside 0 place rule (beside_more rules piece.region outside piece.place place here.beside beside cut.out) at cut.apart;
}

pub piece_cut : (a b : RuleFacts) (rules : List RuleFacts) (pieces mid new : List PacketSet) (piece : PacketSet) (marks : List Bool) (place : ℕ) (rule : RuleFacts) (outside inside : Region)
    → IsOpen a b rules pieces piece marks → AreBeside rules piece.region piece.place place → slice_get rules place ≡ Some rule
    → IsCutBy piece.region rule outside inside → mid ≡ pieces ++ record { region = inside; place = place } ∷ []
    → new ≡ mid ++ record { region = outside; place = place + 1 } ∷ [] → IsSearch a b rules new marks
piece_cut a b rules pieces mid new piece marks place rule outside inside search beside at cut one two =
    let P = IsPiece a b rules in
    let inner = inside_piece a b rules piece place rule outside inside search.here beside at cut in
    let outer = outside_piece a b rules piece place rule outside inside search.here beside at cut in
    let middle : All P mid = subst (All P) (sym one) (All-push P pieces _ search.each inner) in
    record {
      size = search.size;
      each = subst (All P) (sym two) (All-push P mid _ middle outer);
      every = λ tuple packet left right. elim (search.every tuple packet left right) [
        | inl taken ↦ inl taken
        | inr some ↦
            let in_mid = λ (is : IsInSome mid tuple). subst (λ (ps : List PacketSet). IsInSome ps tuple) (sym two) (in_left mid _ tuple is) in
            elim some [
              | inl before ↦ inr (in_mid (subst (λ (ps : List PacketSet). IsInSome ps tuple) (sym one) (in_left pieces _ tuple before)))
              | inr it ↦ elim (cut.splits tuple it) [
                | inl out ↦ inr (subst (λ (ps : List PacketSet). IsInSome ps tuple) (sym two) (in_right mid _ tuple (inl out)))
                | inr rest ↦ inr (in_mid (subst (λ (ps : List PacketSet). IsInSome ps tuple) (sym one) (in_right pieces _ tuple (inl rest))))
              ]
            ]
      ];
    }

-- no piece is left
pub search_ends : (a b : RuleFacts) (rules : List RuleFacts) (pieces : List PacketSet) (marks : List Bool) → IsSearch a b rules pieces marks → pieces ≡ []
    → AreTaken a b rules (IsMarked marks)
search_ends a b rules pieces marks search none tuple packet left right =
    elim (search.every tuple packet left right) [
      | inl taken ↦ taken
      | inr some ↦ absurd (subst (λ (ps : List PacketSet). IsInSome ps tuple) none some)
    ]

-- no rule is left for the piece
pub piece_free : (a b : RuleFacts) (rules : List RuleFacts) (piece : PacketSet) (place : ℕ) → IsPiece a b rules piece
    → AreBeside rules piece.region piece.place place → place ≡ length rules → (tuple : TupleFacts) → IsPacket tuple → IsInRegion piece.region tuple
    → IsLeft a b rules tuple
piece_free a b rules piece place here beside end tuple packet is = record {
  packet = packet;
  one = here.one tuple packet is;
  two = here.two tuple packet is;
  none = λ k rule at.
      beside_more rules piece.region piece.region piece.place place here.beside beside (λ _ it. it) k rule (omega arith)
      (omega (arith, slice_get_within rules k rule at)) at tuple packet is;
}

-- a region is cut by the region of a rule
pub cut_by_region : (region other outside inside : Region) (rule : RuleFacts)
    → ((tuple : TupleFacts) → IsPacket tuple → IsInRegion other tuple ↔ (Matches rule tuple × (shown_of tuple.fields ≡ region.shown)))
    → IsCut region other outside inside → IsCutBy region rule outside inside
cut_by_region region other outside inside rule is cut = record {
  splits = cut.splits;
  out = cut.out;
  rest = cut.rest;
  apart = λ tuple packet here matches. cut.apart tuple here ((is tuple packet).1 (matches, (cut.out tuple here).1));
}

-- the rule at a place does something
pub parting_at : (rules : List RuleFacts) (region : Region) (place : ℕ) (rule : RuleFacts) (parting : Parting) → slice_get rules place ≡ Some rule
    → IsParting region rule parting → (parting ≡ Apart → ⊥) → IsPartingAt rules region place parting
parting_at rules region place rule Apart at is not = absurd (not refl)
parting_at rules region place rule Whole at is not = (rule, at, is)
parting_at rules region place rule (Cut outside inside) at is not = (rule, at, is)

-- what a meeting says, by what the rule does
pub met_apart : (rules : List RuleFacts) (piece : PacketSet) (met : Meeting) → IsMeeting rules piece met → met.parting ≡ Apart → met.place ≡ length rules
met_apart rules piece met is same = subst (λ (p : Parting). IsPartingAt rules piece.region met.place p) same is.parts

pub met_whole : (rules : List RuleFacts) (piece : PacketSet) (met : Meeting) → IsMeeting rules piece met → met.parting ≡ Whole
    → (rule : RuleFacts) × (slice_get rules met.place ≡ Some rule) × TakesRegion piece.region rule
met_whole rules piece met is same = subst (λ (p : Parting). IsPartingAt rules piece.region met.place p) same is.parts

pub met_cut : (rules : List RuleFacts) (piece : PacketSet) (met : Meeting) (outside inside : Region) → IsMeeting rules piece met → met.parting ≡ Cut outside inside
    → (rule : RuleFacts) × (slice_get rules met.place ≡ Some rule) × IsCutBy piece.region rule outside inside
met_cut rules piece met outside inside is same = subst (λ (p : Parting). IsPartingAt rules piece.region met.place p) same is.parts
