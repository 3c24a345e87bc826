-- Records that are handed on before those of other files.
use Rattle.std.proofs.Common.{◌≡◌, ◌∙◌, ◌≤◌, ◌<◌, ◌+◌, ◌++◌, ◌⊎◌, ◌↔◌, inl, inr, ap, ap₂, arith, refl, subst, sym, ℕ, zero, suc, All, Bool, true, false, List, [], ◌∷◌, Option, None, Some, drop, eqb, get_or, length, length-append}
use Rattle.std.specs.Prelude.{IfNone, IfSome, IsTrue, is_some, nat_lt, slice_get}
use Rattle.std.specs.Option.{option_eq}
use Rattle.std.proofs.lemmas.Bool.{cases_eq, cond_both, eqb-true, false≢true, lt-ltb, ltb-true}
use Rattle.std.proofs.lemmas.List.Elements.{All-push}
use Rattle.std.proofs.lemmas.Bool.Decides.{nat_tests}
use Rattle.packet_view.specs.Captures.{AreRecords, Cut, HasFileHeader, IsPiece, Nothing, PieceFacts, Record, RecordFacts, TooLong}
use Rattle.packet_view.specs.declared.capture.Order.{Order}
use Rattle.packet_view.proofs.FrontLemmas.{records_joined}
use Rattle.packet_view.proofs.RecordLemmas.{part_front, part_only}
use Rattle.racl_system.specs.declared.merged_files.MergedFile.{MergedFile}
use Rattle.racl_system.specs.declared.merged_files.FileTurn.{FileTurn}
use Rattle.racl_system.specs.inner.MergedFiles.{HasLookedAtHeader, IsCutShort, IsNext, IsNextAmong, IsNoWholeRecord, rest_of}
use Rattle.racl_system.specs.inner.Merges.{HasNoRecord, IsLeast, comes_before, first_of, may_come, turn_of}

-- the packets of so many records may come, and this is left
pub record SoManyMayCome (order : Order) (bytes : List ℕ) (place : ℕ) (next : Option FileTurn) (count : ℕ) (left : List ℕ) : Type 0 where
  pub packets : List RecordFacts
  pub records : AreRecords order bytes packets left
  pub come : All (λ packet. may_come place next packet ≡ true) packets
  pub size : length packets ≡ count

module _ (order : Order) (bytes : List ℕ) (place : ℕ) (next : Option FileTurn) where
  pub one_more : (count : ℕ) (left rest : List ℕ) (packet : RecordFacts) → SoManyMayCome order bytes place next count left
      → IsPiece order left (Record packet rest) → may_come place next packet ≡ true → SoManyMayCome order bytes place next (count + 1) rest
  one_more count left rest packet so one may =
      let longer = length-append so.packets (packet ∷ []) in
      let size = so.size in
      record {
        packets = so.packets ++ packet ∷ [];
        records = records_joined order bytes so.packets (packet ∷ []) left rest so.records (rest, one, refl);
        come = All-push (λ p. may_come place next p ≡ true) so.packets packet so.come may;
        size = omega arith;
      }

-- ---- turns

-- one record is at the front at most
pub one_packet : (order : Order) (bytes rest left : List ℕ) (packet other : RecordFacts) → IsPiece order bytes (Record packet rest)
    → IsPiece order bytes (Record other left) → packet ≡ other
one_packet order bytes rest left packet other one same =
    (part_front order bytes packet rest one).packet-is ∙ sym (part_front order bytes other left same).packet-is

pub not_before_itself : (a : FileTurn) → comes_before a a ≡ false
not_before_itself a = grind (arith, nat_tests)

pub not_before_earlier : (a b c : FileTurn) → comes_before a b ≡ true → comes_before c b ≡ false → comes_before c a ≡ false
not_before_earlier a b c earlier later = grind (arith, nat_tests)

-- ---- what a file wants, and what it has next

no_order : (order : Option Order) → is_some order ≡ false → order ≡ None
no_order None none = refl
no_order (Some order) some = absurd (false≢true (sym some))

-- a right header was handed on
pub took_header : {F : Type 0} (old new : MergedFile F) (order : Order) (bytes : List ℕ) → is_some old.order ≡ false → bytes ≡ rest_of old → HasFileHeader order bytes
    → rest_of new ≡ drop 24 (rest_of old) → new ≡ record old { order = Some order; handed = new.handed } → HasLookedAtHeader old new
took_header old new order bytes none same header rest others =
    inr (inl (no_order old.order none, order, subst (HasFileHeader order) same header, rest, others))

-- a whole record, or one that is too long
abbrev pub IsDone : PieceFacts → Type 0
IsDone (Record packet rest) = Unit {0}
IsDone TooLong = Unit {0}
IsDone Nothing = ⊥
IsDone Cut = ⊥

pub no_cut : (order : Order) (bytes : List ℕ) (part : PieceFacts) → IsPiece order bytes part → IsDone part → IsNoWholeRecord order bytes → ⊥
no_cut order bytes part piece done (inl none) =
    subst IsDone (part_only order bytes part piece ∙ sym (part_only order bytes Nothing none)) done
no_cut order bytes part piece done (inr cut) =
    subst IsDone (part_only order bytes part piece ∙ sym (part_only order bytes Cut cut)) done

pub wants_header : (ended r : Bool) (order : Option Order) (rest : List ℕ) → ended ≡ false → order ≡ None → r ≡ nat_lt (length rest) 24
    → IsTrue r ↔ ((ended ≡ false) × IsCutShort order rest)
wants_header ended r (Some o) rest more none test = absurd (let f : ⊥ = cc in f)
wants_header ended r None rest more none test = (λ yes. (more, ltb-true _ _ (sym test ∙ yes)), λ h. test ∙ lt-ltb _ _ h.1)

pub wants_record : (ended r : Bool) (order : Option Order) (o : Order) (rest : List ℕ) → ended ≡ false → order ≡ Some o → IsTrue r ↔ IsNoWholeRecord o rest
    → IsTrue r ↔ ((ended ≡ false) × IsCutShort order rest)
wants_record ended r order o rest more some test =
    rw some (λ yes. (more, test.0 yes), λ h. test.1 h.1)

pub no_next : {F : Type 0} (file : MergedFile F) (order : Order) (bytes : List ℕ) (result : Option FileTurn) → file.order ≡ Some order → bytes ≡ rest_of file
    → IfNone result (HasNoRecord order bytes) → IfNone result ((turn : FileTurn) → IsNext file turn → ⊥)
no_next file order bytes (Some turn) known same none = tt
no_next {F} file order bytes None known same none =
    λ turn next. let e : order ≡ next.order = cc (known, next.known) in
    none next.packet next.behind (rw (e, same) next.whole)

pub one_next : {F : Type 0} (file : MergedFile F) (one other : FileTurn) → one.place ≡ other.place → IsNext file one → IsNext file other → one ≡ other
one_next file one other place a b =
    let orders : b.order ≡ a.order = cc (a.known, b.known) in
    let packets = one_packet a.order (rest_of file) a.behind b.behind a.packet b.packet a.whole (subst (λ o. IsPiece o (rest_of file) (Record b.packet b.behind)) orders b.whole) in
    a.turn-is ∙ ap₂ turn_of place packets ∙ sym b.turn-is

-- ---- the first of several files

inside : {X : Type 0} (xs : List X) (i : ℕ) (x : X) → slice_get xs i ≡ Some x → i < length xs
inside [] i x there = absurd (let f : ⊥ = cc in f)
inside (y ∷ ys) zero x there = omega arith
inside (y ∷ ys) (suc i) x there = let more = inside ys i x there in omega arith

-- what the code's test of a place says
pub place_is : (but : Option ℕ) (place : ℕ) → true ≡ option_eq eqb but (Some place) → but ≡ Some place
place_is None place same = absurd (false≢true (sym same))
place_is (Some other) place same = ap Some (eqb-true other place (sym same))

pub place_differs : (but : Option ℕ) (place : ℕ) → false ≡ option_eq eqb but (Some place) → but ≡ Some place → ⊥
place_differs but place test same =
    let itself : eqb place place ≡ true = grind (arith, nat_tests) in
    false≢true (test ∙ ap (λ o. option_eq eqb o (Some place)) same ∙ itself)

pub at_place : {X : Type 0} (xs : List X) (i : ℕ) (x : X) → i < length xs → x ≡ get_or xs i x → slice_get xs i ≡ Some x
at_place [] i x within there = absurd (omega (arith, within))
at_place (y ∷ ys) zero x within there = ap Some (sym there)
at_place (y ∷ ys) (suc i) x within there = at_place ys i x (omega (arith, within)) there

-- the least of turns that have a property is that of those that have an equal one
pub least_same : (P Q : FileTurn → Type 0) (first : Option FileTurn) → ((turn : FileTurn) → P turn → Q turn) → ((turn : FileTurn) → Q turn → P turn) → IsLeast P first → IsLeast Q first
least_same P Q None to from least = λ turn has. least turn (from turn has)
least_same P Q (Some first) to from least = (to first least.0, λ turn has. least.1 turn (from turn has))

-- one turn more has it
pub least_more : (P Q : FileTurn → Type 0) (first : Option FileTurn) (new : FileTurn) → ((turn : FileTurn) → P turn → Q turn)
    → ((turn : FileTurn) → Q turn → P turn ⊎ (turn ≡ new)) → Q new → IsLeast P first → IsLeast Q (first_of first (Some new))
least_more P Q None new to from own least = (
  own,
  λ turn has. elim (from turn has) [ inl before ↦ absurd (least turn before) | inr same ↦ rw same (not_before_itself new) ],
)
least_more P Q (Some first) new to from own least =
    cond_both (comes_before new first) (Some new) (Some first) (IsLeast Q)
    (λ earlier. (
      own,
      λ turn has. elim (from turn has) [
        | inl before ↦ not_before_earlier new first turn earlier (least.1 turn before)
        | inr same ↦ rw same (not_before_itself new)
      ],
    ))
    (λ later. (
      to first least.0,
      λ turn has. elim (from turn has) [ inl before ↦ least.1 turn before | inr same ↦ rw same later ],
    ))

module _ {F : Type 0} (files : List (MergedFile F)) (but : Option ℕ) where
  -- one of the files before this place has its next packet at this turn
  abbrev pub IsNextBefore : ℕ → FileTurn → Type 0
  IsNextBefore most turn = (turn.place < most) × IsNextAmong files but turn

  stays : (place : ℕ) (turn : FileTurn) → IsNextBefore place turn → IsNextBefore (place + 1) turn
  stays place turn next = (omega (arith, next.0), next.1)

  goes : (place : ℕ) → ((turn : FileTurn) → turn.place ≡ place → IsNextAmong files but turn → ⊥) → (turn : FileTurn) → IsNextBefore (place + 1) turn → IsNextBefore place turn
  goes place none turn next =
      elim (cases_eq turn.place place) [
        | inl here ↦ absurd (none turn here next.1)
        | inr other ↦ (omega (arith, next.0, other), next.1)
      ]

  -- a file that is passed over
  pub passed_over : (place : ℕ) (first : Option FileTurn) → but ≡ Some place → IsLeast (IsNextBefore place) first → IsLeast (IsNextBefore (place + 1)) first
  passed_over place first same least =
      least_same (IsNextBefore place) (IsNextBefore (place + 1)) first (stays place)
      (goes place (λ turn here next. next.other (same ∙ ap Some (sym here)))) least

  same_file : (place : ℕ) (file : MergedFile F) → slice_get files place ≡ Some file → (turn : FileTurn) → turn.place ≡ place → IsNextAmong files but turn → IsNext file turn
  same_file place file there turn here next =
      let e : next.file ≡ file = cc (next.there, there, here) in
      subst (λ f. IsNext f turn) e next.next

  -- a file that has no next packet that is whole, or has one
  looked : (place : ℕ) (file : MergedFile F) (first result : Option FileTurn) → (but ≡ Some place → ⊥) → slice_get files place ≡ Some file
      → IfSome result (λ turn. (turn.place ≡ place) × IsNext file turn) → IfNone result ((turn : FileTurn) → IsNext file turn → ⊥)
      → IsLeast (IsNextBefore place) first → IsLeast (IsNextBefore (place + 1)) (first_of first result)
  looked place file None None other there some none least =
      least_same (IsNextBefore place) (IsNextBefore (place + 1)) None (stays place)
      (goes place (λ turn here next. none turn (same_file place file there turn here next))) least
  looked place file (Some first) None other there some none least =
      least_same (IsNextBefore place) (IsNextBefore (place + 1)) (Some first) (stays place)
      (goes place (λ turn here next. none turn (same_file place file there turn here next))) least
  looked place file first (Some new) other there some none least =
      least_more (IsNextBefore place) (IsNextBefore (place + 1)) first new (stays place) split
      (omega (arith, some.0), record { file = file; there = ap (slice_get files) some.0 ∙ there; other = λ h. other (h ∙ ap Some some.0); next = some.1 }) least
    where
      split : (turn : FileTurn) → IsNextBefore (place + 1) turn → IsNextBefore place turn ⊎ (turn ≡ new)
      split turn next =
          elim (cases_eq turn.place place) [
            | inl here ↦ inr (one_next file turn new (here ∙ sym some.0) (same_file place file there turn here next.1) some.1)
            | inr not_here ↦ inl (omega (arith, next.0, not_here), next.1)
          ]

  -- and so the first of all is now the first of it and of the others
  pub looked_at : (place : ℕ) (file : MergedFile F) (first result now : Option FileTurn) → now ≡ first_of first result → (but ≡ Some place → ⊥) → slice_get files place ≡ Some file
      → IfSome result (λ turn. (turn.place ≡ place) × IsNext file turn) → IfNone result ((turn : FileTurn) → IsNext file turn → ⊥)
      → IsLeast (IsNextBefore place) first → IsLeast (IsNextBefore (place + 1)) now
  looked_at place file first result now same other there some none least =
      subst (IsLeast (IsNextBefore (place + 1))) (sym same) (looked place file first result other there some none least)

  -- all files were looked at
  pub all_looked : (place : ℕ) (first : Option FileTurn) → length files ≤ place → IsLeast (IsNextBefore place) first → IsLeast (IsNextAmong files but) first
  all_looked place first all least =
      least_same (IsNextBefore place) (IsNextAmong files but) first (λ turn next. next.1)
      (λ turn next. (let within = inside files turn.place next.file next.there in omega arith, next)) least
