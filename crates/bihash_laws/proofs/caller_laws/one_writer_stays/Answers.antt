-- What a reader is told of one writer.
use Rattle.bihash_laws.proofs.AnsweredCalls.{first_one_writer, lone_learns_own, stays_one_writer}
use Rattle.bihash_laws.proofs.caller_laws.one_writer_stays.Goals as goal

pub returns-clause-first : goal.returns-clause-first
returns-clause-first c = first_one_writer

pub returns-clause-stays : goal.returns-clause-stays
returns-clause-stays c = stays_one_writer

pub returns-clause-lone : goal.returns-clause-lone
returns-clause-lone c = lone_learns_own
