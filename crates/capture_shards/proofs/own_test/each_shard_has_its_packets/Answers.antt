use Rattle.capture_shards.proofs.OwnTestLemmas.{own_is}
use Rattle.capture_shards.proofs.own_test.each_shard_has_its_packets.Goals as goal

pub returns : goal.returns
returns c = own_is
