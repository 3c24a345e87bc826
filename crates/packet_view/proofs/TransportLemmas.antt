-- The fields under a protocol are what the code reads, and from a short payload it reads none.
use Rattle.std.proofs.Common.{◌≡◌, ◌≢◌, ◌∙◌, ℕ, cond, ◌==◌, nat_lt, List, length, Some, None, refl, inl, inr, arith}
use Rattle.std.proofs.lemmas.Bool.{cond-true, cond-false, lt-ltb, le-ltb, eq-eqb, ne_eqb, cases_lt, cases_eq}
use Rattle.std.specs.List.{slice_index}
use Rattle.packet_view.specs.declared.tuple.Family.{Family}
use Rattle.packet_view.specs.declared.tuple.Family.TheVariants.{V4, V6}
use Rattle.packet_view.specs.declared.tuple.Fields.{Fields}
use Rattle.packet_view.specs.declared.tuple.Fields.TheVariants.{Absent, Ports, Tcp, Icmp}
use Rattle.packet_view.specs.Addresses.{icmp_of}
use Rattle.packet_view.specs.Bytes.{number_from}
use Rattle.packet_view.specs.Transport.{HasFields, IsShort}
use Rattle.packet_view.specs.inner.FrameSteps.{fields_of}

icmp_other : (family : Family) (proto : ℕ) → proto ≡ icmp_of family → (proto ≢ 6) × (proto ≢ 17)
icmp_other V4 proto h = (λ e. omega arith, λ e. omega arith)
icmp_other V6 proto h = (λ e. omega arith, λ e. omega arith)

-- the tests on the protocol, one after another
module _ (family : Family) (proto : ℕ) (payload : List ℕ) where
  at_tcp : proto ≡ 6 → fields_of family proto payload ≡ (cond (nat_lt (length payload) 14) None
      (Some (Tcp (number_from 0 2 payload) (number_from 2 2 payload) (slice_index payload 13))))
  at_tcp h = cond-true (proto == 6) _ _ (eq-eqb proto 6 h)

  at_udp : proto ≡ 17 → fields_of family proto payload ≡ (cond (nat_lt (length payload) 4) None (Some (Ports (number_from 0 2 payload) (number_from 2 2 payload))))
  at_udp h = cond-false (proto == 6) _ _ (ne_eqb proto 6 (λ e. omega arith)) ∙ cond-true (proto == 17) _ _ (eq-eqb proto 17 h)

  at_icmp : proto ≡ icmp_of family → fields_of family proto payload ≡ (cond (nat_lt (length payload) 2) None (Some (Icmp (slice_index payload 0) (slice_index payload 1))))
  at_icmp h =
      let other = icmp_other family proto h in
      cond-false (proto == 6) _ _ (ne_eqb proto 6 other.0) ∙ cond-false (proto == 17) _ _ (ne_eqb proto 17 other.1)
      ∙ cond-true (proto == icmp_of family) _ _ (eq-eqb proto (icmp_of family) h)

  at_other : proto ≢ 6 → proto ≢ 17 → proto ≢ icmp_of family → fields_of family proto payload ≡ Some Absent
  at_other tcp udp icmp =
      cond-false (proto == 6) _ _ (ne_eqb proto 6 tcp) ∙ cond-false (proto == 17) _ _ (ne_eqb proto 17 udp)
      ∙ cond-false (proto == icmp_of family) _ _ (ne_eqb proto (icmp_of family) icmp)

  pub fields_only : (fields : Fields) → HasFields family proto payload fields → fields_of family proto payload ≡ Some fields
  fields_only (Tcp from to flags) (h, long, from_is, to_is, flags_is) =
      at_tcp h ∙ cond-false (nat_lt (length payload) 14) _ _ (le-ltb (length payload) 14 long) ∙ cc
  fields_only (Ports from to) (h, long, from_is, to_is) = at_udp h ∙ cond-false (nat_lt (length payload) 4) _ _ (le-ltb (length payload) 4 long) ∙ cc
  fields_only (Icmp kind code) (h, long, kind_is, code_is) = at_icmp h ∙ cond-false (nat_lt (length payload) 2) _ _ (le-ltb (length payload) 2 long) ∙ cc
  fields_only Absent (tcp, udp, icmp) = at_other tcp udp icmp

  pub short_only : IsShort family proto payload → fields_of family proto payload ≡ None
  short_only (inl (h, short)) = at_tcp h ∙ cond-true (nat_lt (length payload) 14) _ _ (lt-ltb (length payload) 14 short)
  short_only (inr (inl (h, short))) = at_udp h ∙ cond-true (nat_lt (length payload) 4) _ _ (lt-ltb (length payload) 4 short)
  short_only (inr (inr (h, short))) = at_icmp h ∙ cond-true (nat_lt (length payload) 2) _ _ (lt-ltb (length payload) 2 short)

-- every payload is one or the other
pub data Reading (family : Family) (proto : ℕ) (payload : List ℕ) : Type 0 where
  Has : (fields : Fields) → HasFields family proto payload fields → fields_of family proto payload ≡ Some fields → Reading family proto payload
  Short : IsShort family proto payload → fields_of family proto payload ≡ None → Reading family proto payload

module _ (family : Family) (proto : ℕ) (payload : List ℕ) where
  has : (fields : Fields) → HasFields family proto payload fields → Reading family proto payload
  has fields h = Has fields h (fields_only family proto payload fields h)

  short : IsShort family proto payload → Reading family proto payload
  short h = Short h (short_only family proto payload h)

  icmp_cases : proto ≢ 6 → proto ≢ 17 → Reading family proto payload
  icmp_cases tcp udp =
      elim (cases_eq proto (icmp_of family)) [
        | inl icmp ↦ elim (cases_lt (length payload) 2) [
          | inl less ↦ short (inr (inr (icmp, less)))
          | inr long ↦ has (Icmp (slice_index payload 0) (slice_index payload 1)) (icmp, long, refl, refl)
        ]
        | inr other ↦ has Absent (tcp, udp, other)
      ]

  udp_cases : proto ≢ 6 → Reading family proto payload
  udp_cases tcp =
      elim (cases_eq proto 17) [
        | inl udp ↦ elim (cases_lt (length payload) 4) [
          | inl less ↦ short (inr (inl (udp, less)))
          | inr long ↦ has (Ports (number_from 0 2 payload) (number_from 2 2 payload)) (udp, long, refl, refl)
        ]
        | inr other ↦ icmp_cases tcp other
      ]

  pub cases : Reading family proto payload
  cases =
      elim (cases_eq proto 6) [
        | inl tcp ↦ elim (cases_lt (length payload) 14) [
          | inl less ↦ short (inl (tcp, less))
          | inr long ↦ has (Tcp (number_from 0 2 payload) (number_from 2 2 payload) (slice_index payload 13)) (tcp, long, refl, refl, refl)
        ]
        | inr other ↦ udp_cases other
      ]
