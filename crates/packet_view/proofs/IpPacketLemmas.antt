-- How much of the bytes belongs to a packet, and what is at their front.
use Rattle.std.proofs.Common.{◌≡◌, ◌≢◌, ◌⊎◌, ◌∙◌, ◌+◌, ◌≤◌, ◌<◌, ℕ, List, ◌++◌, length, drop, ap, inl, inr, arith}
use Rattle.std.proofs.lemmas.Bool.Decides.{nat_tests}
use Rattle.std.proofs.lemmas.List.{drop-append-le, get_or_append_left, length-drop}
use Rattle.std.specs.List.{slice_index}
use Rattle.byteorder.specs.Endian.{big_number}
use Rattle.byteorder.specs.Numbers.{big_from-append}
use Rattle.packet_view.specs.Bytes.{number_from}
use Rattle.packet_view.specs.IpPackets.{extent}

-- no more than what is there
pub extent_within : (declared there : ℕ) → extent declared there ≤ there
extent_within declared there = grind (arith, nat_tests)

-- a declared length that holds the first bytes
pub extent_holds : (first declared there : ℕ) → first ≤ there → (declared ≡ 0) ⊎ (first ≤ declared) → first ≤ extent declared there
extent_holds first declared there h (inl zero) = grind (arith, nat_tests)
extent_holds first declared there h (inr more) = grind (arith, nat_tests)

-- what is declared, where it is there
pub extent_is : (declared there : ℕ) → declared ≢ 0 → declared ≤ there → extent declared there ≡ declared
extent_is declared there some within = grind (arith, nat_tests)

-- bytes after the front change no number in it
pub number_from-append : (place width : ℕ) (front more : List ℕ) → place + width ≤ length front → number_from place width (front ++ more) ≡ number_from place width front
number_from-append place width front more h =
    ap (big_number width) (drop-append-le place front more (omega arith)) ∙ big_from-append width (drop place front) more (simp length-drop (omega arith))

pub slice_index-append : (place : ℕ) (front more : List ℕ) → place < length front → slice_index (front ++ more) place ≡ slice_index front place
slice_index-append place front more h = get_or_append_left front more 0 place h
