-- Whole records and headers stay what they are with more bytes behind them, and whole records follow whole records.
use Rattle.std.proofs.Common.{◌≡◌, ◌∙◌, ◌≤◌, ◌+◌, ◌%◌, ◌^◌, ℕ, List, [], ◌∷◌, ◌++◌, length, drop, sym, ap, subst, arith, append_assoc}
use Rattle.std.proofs.lemmas.List.{drop-append-le, length-append}
use Rattle.packet_view.specs.declared.capture.CaptureFault.{CaptureFault}
use Rattle.packet_view.specs.declared.capture.CaptureFault.TheVariants as fault
use Rattle.packet_view.specs.declared.capture.Order.{Order}
use Rattle.packet_view.specs.Captures.{AreRecords, HasFileHeader, HasMagic, IsHeaderFault, IsPiece, RecordFacts, Record, magic_of, number_from}
use Rattle.packet_view.proofs.CaptureLemmas.{IsHeaderOf}
use Rattle.packet_view.proofs.RecordLemmas.{number_from-append}

pub records_joined : (order : Order) (bytes : List ℕ) (xs ys : List RecordFacts) (rest end : List ℕ) → AreRecords order bytes xs rest → AreRecords order rest ys end
    → AreRecords order bytes (xs ++ ys) end
records_joined order bytes [] ys rest end all more = subst (λ (b : List ℕ). AreRecords order b ys end) (sym all) more
records_joined order bytes (x ∷ xs) ys rest end (others, one, all) more = (others, one, records_joined order others xs ys rest end all more)

piece_appended : (order : Order) (bytes more : List ℕ) (packet : RecordFacts) (rest : List ℕ) → IsPiece order bytes (Record packet rest)
    → IsPiece order (bytes ++ more) (Record packet (rest ++ more))
piece_appended order bytes more packet rest (header, spelt, r) =
    let behind = append_assoc packet.frame rest more in
    (header, ap (λ (b : List ℕ). b ++ more) spelt ∙ append_assoc header (packet.frame ++ rest) more ∙ ap (λ (b : List ℕ). header ++ b) behind, r)

pub records_appended : (order : Order) (bytes more : List ℕ) (xs : List RecordFacts) (rest : List ℕ) → AreRecords order bytes xs rest
    → AreRecords order (bytes ++ more) xs (rest ++ more)
records_appended order bytes more [] rest all = ap (λ (b : List ℕ). b ++ more) all
records_appended order bytes more (x ∷ xs) rest (others, one, all) =
    (others ++ more, piece_appended order bytes more x others one, records_appended order others more xs rest all)

-- both have the same numbers where a header has its own
pub record HaveOneHead (bytes others : List ℕ) : Type 0 where
  pub whole : 24 ≤ length bytes
  pub whole_too : 24 ≤ length others
  pub same : (order : Order) (place width : ℕ) → place + width ≤ 24 → number_from order place width bytes ≡ number_from order place width others

one_head : (bytes others : List ℕ) → HaveOneHead bytes others → HaveOneHead others bytes
one_head bytes others head = record {
  whole = head.whole_too;
  whole_too = head.whole;
  same = λ order place width within. sym (head.same order place width within);
}

pub head_appended : (bytes more : List ℕ) → 24 ≤ length bytes → HaveOneHead (bytes ++ more) bytes
head_appended bytes more long = record {
  whole = let size = length-append bytes more in omega arith;
  whole_too = long;
  same = λ order place width within. number_from-append order place width bytes more (omega arith);
}

magic_too : (bytes others : List ℕ) → HaveOneHead bytes others → (order : Order) → HasMagic order bytes → HasMagic order others
magic_too bytes others head order = subst (λ (n : ℕ). n ≡ magic_of order) (head.same order 0 4 (omega arith))

pub header_too : (bytes others : List ℕ) → HaveOneHead bytes others → (order : Order) → HasFileHeader order bytes → HasFileHeader order others
header_too bytes others head order header = record {
  whole = head.whole_too;
  magic = magic_too bytes others head order header.magic;
  two = sym (head.same order 4 2 (omega arith)) ∙ header.two;
  ethernet = ap (λ (n : ℕ). n % 2 ^ 16) (sym (head.same order 20 4 (omega arith))) ∙ header.ethernet;
}

fault_too : (bytes others : List ℕ) → HaveOneHead bytes others → (found : CaptureFault) → IsHeaderFault bytes found → IsHeaderFault others found
fault_too bytes others head fault.Short short = absurd (omega (arith, head.whole, short))
fault_too bytes others head fault.Magic (long, none) =
    (head.whole_too, λ order magic. none order (magic_too others bytes (one_head bytes others head) order magic))
fault_too bytes others head fault.Version (long, order, magic, newer) =
    (head.whole_too, order, magic_too bytes others head order magic, λ two. newer (head.same order 4 2 (omega arith) ∙ two))
fault_too bytes others head fault.LinkType (long, order, magic, two, foreign) = (
  head.whole_too,
  order,
  magic_too bytes others head order magic,
  sym (head.same order 4 2 (omega arith)) ∙ two,
  λ ethernet. foreign (ap (λ (n : ℕ). n % 2 ^ 16) (head.same order 20 4 (omega arith)) ∙ ethernet),
)
fault_too bytes others head (fault.LongRecord number) h = h
fault_too bytes others head fault.Memory h = h

pub header_appended : (order : Order) (bytes more : List ℕ) → IsHeaderOf order bytes → IsHeaderOf order (bytes ++ more)
header_appended order bytes more header =
    let head = head_appended bytes more header.right.whole in
    record {
      right = header_too bytes (bytes ++ more) (one_head (bytes ++ more) bytes head) order header.right;
      one = λ other right. header.one other (header_too (bytes ++ more) bytes head other right);
      none = λ found h. header.none found (fault_too (bytes ++ more) bytes head found h);
    }

pub behind_header_appended : (bytes more : List ℕ) → 24 ≤ length bytes → drop 24 (bytes ++ more) ≡ drop 24 bytes ++ more
behind_header_appended bytes more long = drop-append-le 24 bytes more long
