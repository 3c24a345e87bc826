-- All bytes are a capture or have a fault, and they have one fault at most.
use Rattle.std.proofs.Common.{◌≡◌, ◌⊎◌, ◌∙◌, ◌≤◌, ◌<◌, ◌+◌, ℕ, zero, suc, List, [], ◌∷◌, ◌++◌, length, drop, refl, sym, ap, inl, inr, arith}
use Rattle.std.proofs.lemmas.Bool.{cases_eq, cases_lt}
use Rattle.std.proofs.lemmas.List.{length-append}
use Rattle.packet_view.specs.declared.capture.CaptureFault.{CaptureFault}
use Rattle.packet_view.specs.declared.capture.CaptureFault.TheVariants as fault
use Rattle.packet_view.specs.declared.capture.Order.{Order}
use Rattle.packet_view.specs.declared.capture.Order.TheVariants.{Little, LittleNanos, Big, BigNanos}
use Rattle.packet_view.specs.Bytes.{AreBytes}
use Rattle.packet_view.specs.Captures.{AreRecords, Cut, End, HasFileHeader, HasMagic, IsCapture, IsCaptureFault, IsEnd, IsHeaderFault, IsPiece, IsTooLong, Nothing, PieceFacts, Record, RecordFacts, TooLong, Truncated, Whole, link_type, magic_of, number_from, version}
use Rattle.packet_view.specs.inner.RecordSteps.{part_of}
use Rattle.packet_view.proofs.CaptureLemmas.{fault_of_header, long_refuses}
use Rattle.packet_view.proofs.CutLemmas.{header_of, no_fault, one_order}
use Rattle.packet_view.proofs.RecordLemmas.{part_shown}

-- the bytes begin with a header, or have the fault of one
abbrev HasHeaderOrFault : List ℕ → Type 0
HasHeaderOrFault bytes = ((order : Order) × HasFileHeader order bytes) ⊎ ((found : CaptureFault) × IsHeaderFault bytes found)

after_magic : (bytes : List ℕ) (order : Order) → 24 ≤ length bytes → HasMagic order bytes → HasHeaderOrFault bytes
after_magic bytes order long magic =
    elim (cases_eq (version order bytes) 2) [
      | inl two ↦ elim (cases_eq (link_type order bytes) 1) [
        | inl ethernet ↦ inl (order, record { whole = long; magic = magic; two = two; ethernet = ethernet })
        | inr foreign ↦ inr (fault.LinkType, (long, order, magic, two, foreign))
      ]
      | inr newer ↦ inr (fault.Version, (long, order, magic, newer))
    ]

magic_or_none : (order : Order) (bytes : List ℕ) → HasMagic order bytes ⊎ (HasMagic order bytes → ⊥)
magic_or_none order bytes = cases_eq (number_from order 0 4 bytes) (magic_of order)

no_magic : (bytes : List ℕ) → (HasMagic Little bytes → ⊥) → (HasMagic LittleNanos bytes → ⊥) → (HasMagic Big bytes → ⊥) → (HasMagic BigNanos bytes → ⊥)
    → (order : Order) → HasMagic order bytes → ⊥
no_magic bytes little little_nanos big big_nanos Little magic = little magic
no_magic bytes little little_nanos big big_nanos LittleNanos magic = little_nanos magic
no_magic bytes little little_nanos big big_nanos Big magic = big magic
no_magic bytes little little_nanos big big_nanos BigNanos magic = big_nanos magic

-- one of the orders has its magic number there, or none has
some_magic : (bytes : List ℕ) → ((order : Order) × HasMagic order bytes) ⊎ ((order : Order) → HasMagic order bytes → ⊥)
some_magic bytes =
    elim (magic_or_none Little bytes) [
      | inl magic ↦ inl (Little, magic)
      | inr little ↦ elim (magic_or_none LittleNanos bytes) [
        | inl magic ↦ inl (LittleNanos, magic)
        | inr little_nanos ↦ elim (magic_or_none Big bytes) [
          | inl magic ↦ inl (Big, magic)
          | inr big ↦ elim (magic_or_none BigNanos bytes) [
            | inl magic ↦ inl (BigNanos, magic)
            | inr big_nanos ↦ inr (no_magic bytes little little_nanos big big_nanos)
          ]
        ]
      ]
    ]

pub header_or_fault : (bytes : List ℕ) → HasHeaderOrFault bytes
header_or_fault bytes =
    elim (cases_lt (length bytes) 24) [
      | inl short ↦ inr (fault.Short, short)
      | inr long ↦ elim (some_magic bytes) [
        | inl magic ↦ after_magic bytes magic.0 long magic.1
        | inr none ↦ inr (fault.Magic, (long, none))
      ]
    ]

-- whole records, and after them the end or a record that is too long
pub record Records (order : Order) (bytes : List ℕ) : Type 0 where
  pub packets : List RecordFacts
  pub rest : List ℕ
  pub all : AreRecords order bytes packets rest
  pub stop : ((end : End) × IsEnd order rest end) ⊎ IsTooLong order rest

-- the records from a part on, where those after it are known
from_part : (order : Order) (bytes : List ℕ) (part : PieceFacts) → IsPiece order bytes part → ((others : List ℕ) → length others < length bytes → Records order others)
    → Records order bytes
from_part order bytes (Record packet others) (header, spelt, r) behind =
    let shorter : length others < length bytes = omega (arith, ap length spelt, length-append header (packet.frame ++ others), length-append packet.frame others, r.sixteen) in
    let more = behind others shorter in
    record { packets = packet ∷ more.packets; rest = more.rest; all = (others, (header, spelt, r), more.all); stop = more.stop }
from_part order bytes Nothing none behind = record { packets = []; rest = bytes; all = refl; stop = inl (Whole, none) }
from_part order bytes Cut cut behind = record { packets = []; rest = bytes; all = refl; stop = inl (Truncated, cut) }
from_part order bytes TooLong long behind = record { packets = []; rest = bytes; all = refl; stop = inr long }

records_within : (most : ℕ) (order : Order) (bytes : List ℕ) → length bytes < most → Records order bytes
records_within zero order bytes few = absurd (omega (arith, few))
records_within (suc most) order bytes few =
    from_part order bytes (part_of order bytes) (part_shown order bytes) (λ others shorter. records_within most order others (omega (arith, few, shorter)))

pub records_of : (order : Order) (bytes : List ℕ) → Records order bytes
records_of order bytes = records_within (length bytes + 1) order bytes (omega arith)

pub some_reading : (bytes : List ℕ) → ((packets : List RecordFacts) × (end : End) × IsCapture bytes packets end) ⊎ ((found : CaptureFault) × IsCaptureFault bytes found)
some_reading bytes =
    elim (header_or_fault bytes) [
      | inl header ↦
          let found = records_of header.0 (drop 24 bytes) in
          elim found.stop [
            | inl end ↦ inl (found.packets, end.0, (header.0, found.rest, header.1, found.all, end.1))
            | inr long ↦ inr (fault.LongRecord (length found.packets + 1), (header.0, found.packets, found.rest, header.1, found.all, long, refl))
          ]
      | inr wrong ↦ inr (wrong.0, fault_of_header bytes wrong.0 wrong.1)
    ]

-- after a magic number the version is wrong, or else the link type
magic_fault : (bytes : List ℕ) → AreBytes bytes → (order : Order) → HasMagic order bytes → 24 ≤ length bytes → (found : CaptureFault) → IsHeaderFault bytes found
    → ((version order bytes ≡ 2 → ⊥) × (found ≡ fault.Version)) ⊎ ((version order bytes ≡ 2) × (found ≡ fault.LinkType))
magic_fault bytes fits order magic long fault.Short short = absurd (omega (arith, long, short))
magic_fault bytes fits order magic long fault.Magic (enough, none) = absurd (none order magic)
magic_fault bytes fits order magic long fault.Version (enough, other, same, newer) =
    inl (rw (one_order bytes fits order other magic same) newer, refl)
magic_fault bytes fits order magic long fault.LinkType (enough, other, same, two, foreign) =
    inr (rw (one_order bytes fits order other magic same) two, refl)
magic_fault bytes fits order magic long (fault.LongRecord number) h = absurd h
magic_fault bytes fits order magic long fault.Memory h = absurd h

one_magic_fault : (bytes : List ℕ) → AreBytes bytes → (order : Order) → HasMagic order bytes → 24 ≤ length bytes → (found other : CaptureFault)
    → IsHeaderFault bytes found → IsHeaderFault bytes other → found ≡ other
one_magic_fault bytes fits order magic long found other h g =
    elim (magic_fault bytes fits order magic long found h) [
      | inl newer ↦ elim (magic_fault bytes fits order magic long other g) [
        | inl same ↦ newer.1 ∙ sym same.1
        | inr two ↦ absurd (newer.0 two.0)
      ]
      | inr foreign ↦ elim (magic_fault bytes fits order magic long other g) [
        | inl newer ↦ absurd (newer.0 foreign.0)
        | inr same ↦ foreign.1 ∙ sym same.1
      ]
    ]

short_fault : (bytes : List ℕ) → length bytes < 24 → (found : CaptureFault) → IsHeaderFault bytes found → fault.Short ≡ found
short_fault bytes short fault.Short h = refl
short_fault bytes short fault.Magic (long, h) = absurd (omega (arith, short, long))
short_fault bytes short fault.Version h = absurd (omega (arith, short, h.0))
short_fault bytes short fault.LinkType h = absurd (omega (arith, short, h.0))
short_fault bytes short (fault.LongRecord number) h = absurd h
short_fault bytes short fault.Memory h = absurd h

no_magic_fault : (bytes : List ℕ) → 24 ≤ length bytes → ((order : Order) → HasMagic order bytes → ⊥) → (found : CaptureFault) → IsHeaderFault bytes found → fault.Magic ≡ found
no_magic_fault bytes long none fault.Short short = absurd (omega (arith, short, long))
no_magic_fault bytes long none fault.Magic h = refl
no_magic_fault bytes long none fault.Version h = absurd (none h.1 h.2)
no_magic_fault bytes long none fault.LinkType h = absurd (none h.1 h.2)
no_magic_fault bytes long none (fault.LongRecord number) h = absurd h
no_magic_fault bytes long none fault.Memory h = absurd h

pub one_header_fault : (bytes : List ℕ) → AreBytes bytes → (found other : CaptureFault) → IsHeaderFault bytes found → IsHeaderFault bytes other → found ≡ other
one_header_fault bytes fits fault.Short other h g = short_fault bytes h other g
one_header_fault bytes fits fault.Magic other h g = no_magic_fault bytes h.0 h.1 other g
one_header_fault bytes fits fault.Version other h g = one_magic_fault bytes fits h.1 h.2 h.0 fault.Version other h g
one_header_fault bytes fits fault.LinkType other h g = one_magic_fault bytes fits h.1 h.2 h.0 fault.LinkType other h g
one_header_fault bytes fits (fault.LongRecord number) other h g = absurd h
one_header_fault bytes fits fault.Memory other h g = absurd h

-- a record that is too long follows a header
header_fault_only : (bytes : List ℕ) → AreBytes bytes → (found other : CaptureFault) → IsHeaderFault bytes found → IsCaptureFault bytes other → found ≡ other
header_fault_only bytes fits found (fault.LongRecord number) h g = absurd (no_fault bytes fits g.0 g.3 found h)
header_fault_only bytes fits found fault.Short h g = one_header_fault bytes fits found fault.Short h g
header_fault_only bytes fits found fault.Magic h g = one_header_fault bytes fits found fault.Magic h g
header_fault_only bytes fits found fault.Version h g = one_header_fault bytes fits found fault.Version h g
header_fault_only bytes fits found fault.LinkType h g = one_header_fault bytes fits found fault.LinkType h g
header_fault_only bytes fits found fault.Memory h g = absurd g

long_record_only : (bytes : List ℕ) → AreBytes bytes → (number : ℕ) (other : CaptureFault) → IsCaptureFault bytes (fault.LongRecord number) → IsCaptureFault bytes other
    → fault.LongRecord number ≡ other
long_record_only bytes fits number other (order, packets, rest, header, all, long, count) h =
    ap fault.LongRecord count ∙ sym (long_refuses order bytes (header_of bytes fits order header) packets rest all long other h)

pub one_fault : (bytes : List ℕ) → AreBytes bytes → (found other : CaptureFault) → IsCaptureFault bytes found → IsCaptureFault bytes other → found ≡ other
one_fault bytes fits (fault.LongRecord number) other h g = long_record_only bytes fits number other h g
one_fault bytes fits fault.Short other h g = header_fault_only bytes fits fault.Short other h g
one_fault bytes fits fault.Magic other h g = header_fault_only bytes fits fault.Magic other h g
one_fault bytes fits fault.Version other h g = header_fault_only bytes fits fault.Version other h g
one_fault bytes fits fault.LinkType other h g = header_fault_only bytes fits fault.LinkType other h g
one_fault bytes fits fault.Memory other h g = absurd h
