-- One more header of a walk over extension headers.
use Rattle.std.proofs.Common.{◌≡◌, ℕ, suc, ◌+◌, true, false, List, Option, Some, None, refl, sym, ◌∙◌, ap, arith}
use Rattle.std.proofs.lemmas.Bool.{cond-true, cond-false}
use Rattle.packet_view.specs.Ipv6.{is_extension}
use Rattle.packet_view.specs.IpPackets.{Upper, Payload}
use Rattle.packet_view.specs.inner.FrameSteps.{Skipped, Last, walk, go_on, header_of}

pub walk-suc : (k number : ℕ) (bytes : List ℕ) → walk (suc k) number bytes ≡ go_on (walk k) (header_of number bytes)
unfolding walk
walk-suc k number bytes = refl

pub walk_more : (n k number : ℕ) (bytes : List ℕ) → n ≡ k + 1 → walk n number bytes ≡ go_on (walk k) (header_of number bytes)
walk_more n k number bytes h = let e : n ≡ suc k = omega arith in ap (λ m. walk m number bytes) e ∙ walk-suc k number bytes

-- the walk ends where the chain does
pub walk_ends : (n k number : ℕ) (bytes : List ℕ) (upper : Option Upper) → n ≡ k + 1 → Last upper ≡ header_of number bytes → upper ≡ walk n number bytes
walk_ends n k number bytes upper h e = ap (go_on (walk k)) e ∙ sym (walk_more n k number bytes h)

-- the walk goes on after a skipped header
pub walk_skips : (n k number : ℕ) (bytes : List ℕ) (next : ℕ) (behind : List ℕ) → n ≡ k + 1 → Skipped next behind ≡ header_of number bytes
    → walk k next behind ≡ walk n number bytes
walk_skips n k number bytes next behind h e = ap (go_on (walk k)) e ∙ sym (walk_more n k number bytes h)

-- after eight headers no further one is skipped
pub walk_full : (n number : ℕ) (bytes : List ℕ) → n ≡ 0 → is_extension number ≡ true → None ≡ walk n number bytes
unfolding walk
walk_full n number bytes h e = sym (cond-true _ _ _ e) ∙ ap (λ m. walk m number bytes) (sym h)

pub walk_last : (n number : ℕ) (bytes : List ℕ) → n ≡ 0 → is_extension number ≡ false → Some (Payload number bytes) ≡ walk n number bytes
unfolding walk
walk_last n number bytes h e = sym (cond-false _ _ _ e) ∙ ap (λ m. walk m number bytes) (sym h)
