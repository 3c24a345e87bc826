use Rattle.racl_system.proofs.ReaderLemmas.{front_of_source}
use Rattle.racl_system.proofs.named_reader.bytes_of_source.Goals as goal

pub returns-in-Ok-clause-read : goal.returns-in-Ok-clause-read
returns-in-Ok-clause-read g c = front_of_source _ _ _ _ _ _ c.new-bytes.ensures.items c.in-Ok.ensures.read
