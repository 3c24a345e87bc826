use Rattle.std.proofs.Common.{length}
use Rattle.bihash_rule.specs.Callers.{known_at, opening_at}
use Rattle.bihash_steps.proofs.Homes.{pairs_after}
use Rattle.bihash_laws.proofs.caller_laws.known_pairs_are_the_buckets.Goals as goal

pub returns : goal.returns
returns c = λ z b v key value lawful inside stands.
    pairs_after z b (opening_at v.known b) (known_at v.known b) (length (known_at v.known b)) key value (lawful.lists b inside) stands
