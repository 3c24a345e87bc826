-- A flow's worker is that of its bucket.
use Rattle.std.proofs.Common.{◌≡◌, ◌∙◌, ◌+◌, ℕ, ap, subst, sym}
use Rattle.std.specs.Prelude.{◌==◌, ◌%◌, ◌^◌, if◌then◌else◌}
use Rattle.std.proofs.Math.Pow.{mod-mod-pow}
use Rattle.session_state.specs.declared.flow.FlowKey.{FlowKey}
use Rattle.session_state.specs.declared.flow.FlowKey.TheVariants.{Four, Six}
use Rattle.flow_filter.specs.OneThread.{Layout, family_of, home_of}
use Rattle.flow_dealing.specs.Dealings.{hash_in}
use Rattle.racl_c.specs.FlowHashes.{IsOfBucket, family_number, worker_of_bucket}
use Rattle.racl_c.specs.declared.flow_hash.Flow.{Flow}

-- in tables whose buckets are those of standard ones, or several for each of these
module _ (l : Layout) (told : Flow) (workers : ℕ) where
  pub of_bucket : (j k : ℕ) → l.four.log2_buckets ≡ j + 12 → l.six.log2_buckets ≡ k + 10
      → IsOfBucket l told workers (worker_of_bucket told.family told.hash workers)
  of_bucket j k four six flow is =
      subst (λ (t : Flow). worker_of_bucket t.family t.hash workers
      ≡ worker_of_bucket (family_number (family_of flow.key)) (home_of l flow.key).bucket workers) (sym is) (at flow.key)
    where
      at : (key : FlowKey) → worker_of_bucket (family_number (family_of key)) (hash_in l key) workers
          ≡ worker_of_bucket (family_number (family_of key)) (home_of l key).bucket workers
      at (Four key) = ap (λ n. if workers == 0 then 0 else n % workers)
          (sym (ap (λ log2. hash_in l (Four key) % 2 ^ log2 % 2 ^ 12) four ∙ mod-mod-pow (hash_in l (Four key)) j 12))
      at (Six key) = ap (λ n. if workers == 0 then 0 else n % workers)
          (sym (ap (λ log2. hash_in l (Six key) % 2 ^ log2 % 2 ^ 10) six ∙ mod-mod-pow (hash_in l (Six key)) k 10))
