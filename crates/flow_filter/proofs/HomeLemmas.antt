-- Buckets of both families' tables.
use Rattle.std.proofs.Common.{◌≡◌, ℕ, List, true, refl, ap₂}
use Rattle.std.proofs.Math.Nat.{mod-lt}
use Rattle.std.proofs.lemmas.Bool.{and_from, and_parts, eq-eqb, eqb-true}
use Rattle.std.proofs.lemmas.Nat.{pow_pos}
use Rattle.std.specs.Prelude.{◌==◌}
use Rattle.packet_view.specs.declared.tuple.Family.{Family}
use Rattle.packet_view.specs.declared.tuple.Family.TheVariants.{V4, V6}
use Rattle.bihash_words.specs.Sizes.{bucket_of}
use Rattle.session_state.specs.declared.flow.FlowKey.{FlowKey}
use Rattle.flow_filter.specs.Updates.{words_of}
use Rattle.flow_filter.specs.OneThread.{Home, IsHome, Layout, family_of, home_of, same_family, same_home, sizes_in}

pub families_are_one : (a b : Family) → same_family a b ≡ true → a ≡ b
families_are_one V4 V4 same = refl
families_are_one V4 V6 same = let f : ⊥ = cc in absurd f
families_are_one V6 V4 same = let f : ⊥ = cc in absurd f
families_are_one V6 V6 same = refl

pub family_as_itself : (a : Family) → same_family a a ≡ true
family_as_itself V4 = refl
family_as_itself V6 = refl

pub homes_are_one : (a b : Home) → same_home a b ≡ true → a ≡ b
homes_are_one a b same =
    let parts = and_parts (same_family a.family b.family) (a.bucket == b.bucket) same in
    ap₂ (λ f n. record { family = f; bucket = n }) (families_are_one a.family b.family parts.0)
    (eqb-true a.bucket b.bucket parts.1)

pub same_as_itself : (a : Home) → same_home a a ≡ true
same_as_itself a =
    and_from (same_family a.family a.family) (a.bucket == a.bucket) (family_as_itself a.family)
    (eq-eqb a.bucket a.bucket refl)

-- the bucket of a key is one of its table
pub holds_key : (l : Layout) (family : Family) (key : List ℕ)
    → IsHome l (record { family = family; bucket = bucket_of (sizes_in l family) key })
holds_key l family key = let z = sizes_in l family in mod-lt (z.hash key) (pow_pos z.log2_buckets)

pub is_home : (l : Layout) (key : FlowKey) → IsHome l (home_of l key)
is_home l key = holds_key l (family_of key) (words_of key)
