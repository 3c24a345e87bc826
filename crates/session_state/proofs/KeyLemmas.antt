-- A key gives back what it was made of.
use Rattle.std.proofs.Common.{◌≡◌, ◌∙◌, ◌<◌, ◌+◌, ◌*◌, ◌/◌, ◌%◌, ◌^◌, ℕ, ap, ap₂, arith, refl}
use Rattle.packet_view.specs.Addresses.{address_limit}
use Rattle.packet_view.specs.declared.tuple.Family.{Family}
use Rattle.packet_view.specs.declared.tuple.Family.TheVariants.{V4, V6}
use Rattle.session_state.specs.declared.flow_end.End.{End}
use Rattle.session_state.specs.declared.flow.FlowKey.{FlowKey}
use Rattle.session_state.specs.Flows.{key_of, ports_word}
use Rattle.session_state.proofs.EndLemmas.{same_end}

-- what a key is made of
pub record Parts : Type 0 where
  pub family : Family
  pub first : End
  pub second : End
  pub proto : ℕ
  pub number : ℕ

-- the numbers fit their places in a key
pub record PartsFit (parts : Parts) : Type 0 where
  pub first_address : parts.first.address < address_limit parts.family
  pub first_port : parts.first.port < 2 ^ 16
  pub second_address : parts.second.address < address_limit parts.family
  pub second_port : parts.second.port < 2 ^ 16
  pub proto : parts.proto < 2 ^ 8
  pub number : parts.number < 2 ^ 8

abbrev pub key_of_parts : Parts → FlowKey
key_of_parts parts = key_of parts.family parts.first parts.second parts.proto parts.number

abbrev parts_of : Family → End → End → ℕ → ℕ → Parts
parts_of family first second proto number =
    record { family = family; first = first; second = second; proto = proto; number = number }

pub same_parts : (x y : Parts) → x.family ≡ y.family → x.first ≡ y.first → x.second ≡ y.second
    → x.proto ≡ y.proto → x.number ≡ y.number → x ≡ y
same_parts x y family first second proto number =
    ap₂ (λ f a. parts_of f a x.second x.proto x.number) family first
    ∙ ap₂ (λ b p. parts_of y.family y.first b p x.number) second proto
    ∙ ap (parts_of y.family y.first y.second y.proto) number

-- the places of the last word
same_ports_word : (p q r s p' q' r' s' : ℕ) → q < 2 ^ 16 → r < 2 ^ 8 → s < 2 ^ 8 → q' < 2 ^ 16 → r' < 2 ^ 8 → s' < 2 ^ 8
    → p * 2 ^ 48 + q * 2 ^ 32 + r * 2 ^ 24 + s ≡ p' * 2 ^ 48 + q' * 2 ^ 32 + r' * 2 ^ 24 + s'
    → (p ≡ p') × (q ≡ q') × (r ≡ r') × (s ≡ s')
same_ports_word p q r s p' q' r' s' fits_q fits_r fits_s fits_q' fits_r' fits_s' same =
    (omega arith, omega arith, omega arith, omega arith)

-- the places of two IPv4 addresses
same_address_pair : (a b a' b' : ℕ) → b < 2 ^ 32 → b' < 2 ^ 32 → a * 2 ^ 32 + b ≡ a' * 2 ^ 32 + b'
    → (a ≡ a') × (b ≡ b')
same_address_pair a b a' b' fits fits' same = (omega arith, omega arith)

-- the halves of an IPv6 address
same_halves : (a b : ℕ) → a / 2 ^ 64 ≡ b / 2 ^ 64 → a % 2 ^ 64 ≡ b % 2 ^ 64 → a ≡ b
same_halves a b high low = omega arith

same_four : (a b a' b' : End) (p p' n n' : ℕ) → PartsFit (parts_of V4 a b p n) → PartsFit (parts_of V4 a' b' p' n')
    → key_of V4 a b p n ≡ key_of V4 a' b' p' n' → parts_of V4 a b p n ≡ parts_of V4 a' b' p' n'
same_four a b a' b' p p' n n' fit fit' same =
    let addresses : a.address * 2 ^ 32 + b.address ≡ a'.address * 2 ^ 32 + b'.address = cc in
    let ports : ports_word a b p n ≡ ports_word a' b' p' n' = cc in
    let pair = same_address_pair _ _ _ _ fit.second_address fit'.second_address addresses in
    let last = same_ports_word _ _ _ _ _ _ _ _ fit.second_port fit.proto fit.number fit'.second_port fit'.proto fit'.number ports in
    same_parts _ _ refl (same_end a a' pair.0 last.0) (same_end b b' pair.1 last.1) last.2 last.3

same_six : (a b a' b' : End) (p p' n n' : ℕ) → PartsFit (parts_of V6 a b p n) → PartsFit (parts_of V6 a' b' p' n')
    → key_of V6 a b p n ≡ key_of V6 a' b' p' n' → parts_of V6 a b p n ≡ parts_of V6 a' b' p' n'
same_six a b a' b' p p' n n' fit fit' same =
    let first_high : a.address / 2 ^ 64 ≡ a'.address / 2 ^ 64 = cc in
    let first_low : a.address % 2 ^ 64 ≡ a'.address % 2 ^ 64 = cc in
    let second_high : b.address / 2 ^ 64 ≡ b'.address / 2 ^ 64 = cc in
    let second_low : b.address % 2 ^ 64 ≡ b'.address % 2 ^ 64 = cc in
    let ports : ports_word a b p n ≡ ports_word a' b' p' n' = cc in
    let last = same_ports_word _ _ _ _ _ _ _ _ fit.second_port fit.proto fit.number fit'.second_port fit'.proto fit'.number ports in
    same_parts _ _ refl (same_end a a' (same_halves _ _ first_high first_low) last.0)
    (same_end b b' (same_halves _ _ second_high second_low) last.1) last.2 last.3

same_key_at : (family : Family) (a b : End) (p n : ℕ) (family' : Family) (a' b' : End) (p' n' : ℕ)
    → PartsFit (parts_of family a b p n) → PartsFit (parts_of family' a' b' p' n')
    → key_of family a b p n ≡ key_of family' a' b' p' n' → parts_of family a b p n ≡ parts_of family' a' b' p' n'
same_key_at V4 a b p n V4 a' b' p' n' fit fit' same = same_four a b a' b' p p' n n' fit fit' same
same_key_at V4 a b p n V6 a' b' p' n' fit fit' same = cc
same_key_at V6 a b p n V4 a' b' p' n' fit fit' same = cc
same_key_at V6 a b p n V6 a' b' p' n' fit fit' same = same_six a b a' b' p p' n n' fit fit' same

-- equal keys have equal parts
pub same_key : (x y : Parts) → PartsFit x → PartsFit y → key_of_parts x ≡ key_of_parts y → x ≡ y
same_key x y =
    same_key_at x.family x.first x.second x.proto x.number y.family y.first y.second y.proto y.number
