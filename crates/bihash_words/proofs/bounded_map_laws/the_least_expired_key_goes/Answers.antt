use Rattle.bihash_words.proofs.SpareLemmas.{spare_only}
use Rattle.bihash_words.proofs.bounded_map_laws.the_least_expired_key_goes.Goals as goal

pub returns-clause-only : goal.returns-clause-only
returns-clause-only c = spare_only
