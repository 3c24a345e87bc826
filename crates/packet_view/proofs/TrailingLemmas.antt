-- Bytes after the end that a packet declares change nothing of it.
use Rattle.std.proofs.Common.{◌≡◌, ◌≢◌, ◌⊎◌, ◌∙◌, ◌≤◌, ◌<◌, ◌-◌, ◌*◌, ◌/◌, ◌%◌, ℕ, List, ◌++◌, length, drop, get_or, sym, ap, subst, inl, inr, arith, append_assoc}
use Rattle.std.specs.List.{concat}
use Rattle.std.proofs.lemmas.Bool.{cases_lt}
use Rattle.std.proofs.lemmas.List.{get_or_past, length-append, length-drop}
use Rattle.packet_view.specs.declared.tuple.Family.{Family}
use Rattle.packet_view.specs.declared.tuple.Family.TheVariants.{V4, V6}
use Rattle.packet_view.specs.Ethernet.{IsEthernet}
use Rattle.packet_view.specs.Frames.{Carries, EndsWithin, IsMalformed, dest_of, source_of}
use Rattle.packet_view.specs.Ipv4 as ipv4
use Rattle.packet_view.specs.Ipv6 as ipv6
use Rattle.packet_view.specs.IpPackets.{Upper, LaterFragment, Payload, extent}
use Rattle.packet_view.proofs.IpPacketLemmas.{extent_is, number_from-append, slice_index-append}

pub ethernet_more : (frame source : List ℕ) (kind : ℕ) (content more : List ℕ) → IsEthernet frame source kind content
    → IsEthernet (frame ++ more) source kind (content ++ more)
ethernet_more frame source kind content more e = record {
  dest = e.dest;
  tags = e.tags;
  type_bytes = e.type_bytes;
  spelt = ap (λ (b : List ℕ). b ++ more) e.spelt ∙ simp append_assoc;
  dest_length = e.dest_length;
  source_length = e.source_length;
  type_length = e.type_length;
  each_a_tag = e.each_a_tag;
  at_most_two = e.at_most_two;
  no_more = e.no_more;
  number = e.number;
}

module _ (packet more : List ℕ) where
  -- an end that is declared in the first four bytes
  four_bytes : EndsWithin V4 packet → 4 ≤ length packet
  four_bytes (some, within) =
      elim (cases_lt (length packet) 4) [
        | inl less ↦
            let low : get_or (drop 2 packet) 1 0 ≡ 0 = get_or_past (drop 2 packet) 1 0 (simp length-drop (omega arith)) in
            absurd (omega arith)
        | inr enough ↦ enough
      ]

  v4_version : 4 ≤ length packet → ipv4.version (packet ++ more) ≡ ipv4.version packet
  v4_version long = ap (λ (b : ℕ). b / 16) (slice_index-append 0 packet more (omega arith))

  v4_header : 4 ≤ length packet → ipv4.header_length (packet ++ more) ≡ ipv4.header_length packet
  v4_header long = ap (λ (b : ℕ). b % 16 * 4) (slice_index-append 0 packet more (omega arith))

  v4_total : 4 ≤ length packet → ipv4.total_length (packet ++ more) ≡ ipv4.total_length packet
  v4_total long = number_from-append 2 2 packet more (omega arith)

  v4_offset : 20 ≤ length packet → ipv4.fragment_offset (packet ++ more) ≡ ipv4.fragment_offset packet
  v4_offset long = ap (λ (n : ℕ). n % 8192) (number_from-append 6 2 packet more (omega arith))

  v4_extent : EndsWithin V4 packet → extent (ipv4.total_length (packet ++ more)) (length (packet ++ more)) ≡ extent (ipv4.total_length packet) (length packet)
  v4_extent ends =
      let within : ipv4.total_length packet ≤ length (packet ++ more) = simp length-append (omega (arith, ends.1)) in
      ap (λ (n : ℕ). extent n (length (packet ++ more))) (v4_total (four_bytes ends))
      ∙ extent_is (ipv4.total_length packet) (length (packet ++ more)) ends.0 within ∙ sym (extent_is (ipv4.total_length packet) (length packet) ends.0 ends.1)

  v4_right : EndsWithin V4 packet → ipv4.HasIpv4Header packet → ipv4.HasIpv4Header (packet ++ more)
  v4_right ends h =
      let header = v4_header (four_bytes ends) in
      let total = v4_total (four_bytes ends) in
      let size : length packet ≤ length (packet ++ more) = simp length-append (omega arith) in
      record {
        least = omega (arith, h.least);
        four = v4_version (four_bytes ends) ∙ h.four;
        five_words = omega (arith, h.five_words);
        whole = omega (arith, h.whole);
        holds_header = elim h.holds_header [ inl zero ↦ absurd (ends.0 zero) | inr holds ↦ inr (omega arith) ];
      }

  v4_payload : EndsWithin V4 packet → (payload : List ℕ) → ipv4.HasPayload packet payload → ipv4.HasPayload (packet ++ more) payload
  v4_payload ends payload p = record {
    header = p.header;
    trailer = p.trailer ++ more;
    spelt = ap (λ (b : List ℕ). b ++ more) p.spelt ∙ simp append_assoc;
    header_end = p.header_end ∙ sym (v4_header (four_bytes ends));
    packet_end = p.packet_end ∙ sym (v4_extent ends);
  }

  v4_carries : EndsWithin V4 packet → (upper : Upper) → ipv4.Carries packet upper → ipv4.Carries (packet ++ more) upper
  v4_carries ends (LaterFragment proto) (h, later, is) =
      (v4_right ends h, λ zero. later (sym (v4_offset h.least) ∙ zero), is ∙ sym (slice_index-append 9 packet more (omega (arith, h.least))))
  v4_carries ends (Payload proto payload) (h, first, is, p) =
      (v4_right ends h, v4_offset h.least ∙ first, is ∙ sym (slice_index-append 9 packet more (omega (arith, h.least))), v4_payload ends payload p)

  -- a total length below a header's least
  v4_small : EndsWithin V4 packet → (ipv4.total_length packet < 20) ⊎ (ipv4.total_length packet < ipv4.header_length packet) → ipv4.IsMalformed (packet ++ more)
  v4_small ends less =
      let header = v4_header (four_bytes ends) in
      let total = v4_total (four_bytes ends) in
      let some : ipv4.total_length (packet ++ more) ≢ 0 = λ zero. ends.0 (sym total ∙ zero) in
      elim (cases_lt (ipv4.total_length packet) (ipv4.header_length packet)) [
        | inl below ↦ inr (inr (inr (inr (some, omega arith))))
        | inr holds ↦ inr (inr (inl (elim less [ inl small ↦ omega arith | inr below ↦ absurd (omega arith) ])))
      ]

  v4_wrong : EndsWithin V4 packet → ipv4.IsMalformed packet → ipv4.IsMalformed (packet ++ more)
  v4_wrong ends (inl short) = v4_small ends (inl (omega (arith, ends.1)))
  v4_wrong ends (inr (inl other)) = inr (inl (λ four. other (sym (v4_version (four_bytes ends)) ∙ four)))
  v4_wrong ends (inr (inr (inl small))) = let header = v4_header (four_bytes ends) in inr (inr (inl (omega arith)))
  v4_wrong ends (inr (inr (inr (inl cut)))) = v4_small ends (inr (omega (arith, ends.1)))
  v4_wrong ends (inr (inr (inr (inr less)))) = v4_small ends (inr less.1)

  v6_version : 40 ≤ length packet → ipv6.version (packet ++ more) ≡ ipv6.version packet
  v6_version long = ap (λ (b : ℕ). b / 16) (slice_index-append 0 packet more (omega arith))

  v6_payload : 40 ≤ length packet → ipv6.payload_length (packet ++ more) ≡ ipv6.payload_length packet
  v6_payload long = number_from-append 4 2 packet more (omega arith)

  v6_extent : EndsWithin V6 packet → extent (ipv6.payload_length packet) (length packet - 40) ≡ extent (ipv6.payload_length (packet ++ more)) (length (packet ++ more) - 40)
  v6_extent ends =
      let there : ipv6.payload_length packet ≤ length packet - 40 = omega (arith, ends.1) in
      let within : ipv6.payload_length packet ≤ length (packet ++ more) - 40 = simp length-append (omega (arith, ends.1)) in
      extent_is (ipv6.payload_length packet) (length packet - 40) ends.0 there ∙ sym (extent_is (ipv6.payload_length packet) (length (packet ++ more) - 40) ends.0 within)
      ∙ ap (λ (n : ℕ). extent n (length (packet ++ more) - 40)) (sym (v6_payload (omega (arith, ends.1))))

  v6_skips : EndsWithin V6 packet → (skipped : List (List ℕ)) (next : ℕ) (rest : List ℕ) → ipv6.Skips packet skipped next rest → ipv6.Skips (packet ++ more) skipped next rest
  v6_skips ends skipped next rest h = record {
    header = h.header;
    trailer = h.trailer ++ more;
    spelt = ap (λ (b : List ℕ). b ++ more) h.spelt ∙ append_assoc h.header ((concat skipped ++ rest) ++ h.trailer) more
        ∙ ap (λ (b : List ℕ). h.header ++ b) (append_assoc (concat skipped ++ rest) h.trailer more);
    header_end = h.header_end;
    packet_end = h.packet_end ∙ v6_extent ends;
    chain = subst (λ (n : ℕ). ipv6.IsChain n skipped next) (sym (slice_index-append 6 packet more (omega (arith, ends.1)))) h.chain;
    at_most_eight = h.at_most_eight;
  }

  v6_carries : EndsWithin V6 packet → (upper : Upper) → ipv6.Carries packet upper → ipv6.Carries (packet ++ more) upper
  v6_carries ends (LaterFragment proto) (six, skipped, header, rest, h, few, size, later, is) =
      (v6_version (omega (arith, ends.1)) ∙ six, skipped, header, rest, v6_skips ends skipped 44 (header ++ rest) h, few, size, later, is)
  v6_carries ends (Payload proto payload) (six, skipped, h, last) =
      (v6_version (omega (arith, ends.1)) ∙ six, skipped, v6_skips ends skipped proto payload h, last)

  v6_wrong : EndsWithin V6 packet → ipv6.IsMalformed packet → ipv6.IsMalformed (packet ++ more)
  v6_wrong ends (inl short) = absurd (omega (arith, ends.1))
  v6_wrong ends (inr (inl other)) = inr (inl (λ six. other (sym (v6_version (omega (arith, ends.1))) ∙ six)))
  v6_wrong ends (inr (inr (skipped, next, rest, h, known, fault))) = inr (inr (skipped, next, rest, v6_skips ends skipped next rest h, known, fault))

pub carries_more : (family : Family) (packet more : List ℕ) → EndsWithin family packet → (upper : Upper) → Carries family packet upper → Carries family (packet ++ more) upper
carries_more V4 packet more ends upper h = v4_carries packet more ends upper h
carries_more V6 packet more ends upper h = v6_carries packet more ends upper h

pub malformed_more : (family : Family) (packet more : List ℕ) → EndsWithin family packet → IsMalformed family packet → IsMalformed family (packet ++ more)
malformed_more V4 packet more ends h = v4_wrong packet more ends h
malformed_more V6 packet more ends h = v6_wrong packet more ends h

v4_least : (packet : List ℕ) (upper : Upper) → ipv4.Carries packet upper → 20 ≤ length packet
v4_least packet (LaterFragment proto) h = h.0.least
v4_least packet (Payload proto payload) h = h.0.least

pub source_more : (family : Family) (packet more : List ℕ) → EndsWithin family packet → (upper : Upper) → Carries family packet upper
    → source_of family (packet ++ more) ≡ source_of family packet
source_more V4 packet more ends upper h = number_from-append 12 4 packet more (let least = v4_least packet upper h in omega arith)
source_more V6 packet more ends upper h = number_from-append 8 16 packet more (omega (arith, ends.1))

pub dest_more : (family : Family) (packet more : List ℕ) → EndsWithin family packet → (upper : Upper) → Carries family packet upper
    → dest_of family (packet ++ more) ≡ dest_of family packet
dest_more V4 packet more ends upper h = number_from-append 16 4 packet more (let least = v4_least packet upper h in omega arith)
dest_more V6 packet more ends upper h = number_from-append 24 16 packet more (omega (arith, ends.1))
