use Rattle.bihash_words.specs.Sizes.{sizes_of}
use Rattle.bihash_table.proofs.ExpiredReads.{unchanged}
use Rattle.bihash_table.proofs.bucket_lock.is_unchanged.Goals as goal

pub load_bucket-now-requires : goal.load_bucket-now-requires
load_bucket-now-requires g c = record { at = record { own = c.requires.own; inside = c.requires.seen.inside } }

pub returns : goal.returns
returns g c = unchanged (sizes_of g.S.Shape) _ _ _ _ _ c.requires.seen c.load_bucket-now.ensures c.to_word.result c.to_word-2.result c.to_word.ensures c.to_word-2.ensures
