use Rattle.std.proofs.Common.{arith}
use Rattle.racl_options.specs.CommandLine.{Workers, Established, Transient, Udp, most_of}
use Rattle.racl_options.proofs.NumberLemmas.{held_below}
use Rattle.racl_options.proofs.asked_options.read_options.Goals as goal

pub number_at-workers-requires : goal.number_at-workers-requires
number_at-workers-requires c = held_below (most_of Workers) 4294967295 _ (omega arith) c.requires.workers

pub invariant_of-result : goal.invariant_of-result
invariant_of-result c =
    let established = c.number_at-established.ensures Established c.requires.established in
    let transient = c.number_at-transient.ensures Transient c.requires.transient in
    let udp = c.number_at-udp.ensures Udp c.requires.udp in
    record { positive = (rw established.3 established.2.1, rw transient.3 transient.2.1, rw udp.3 udp.2.1) }

pub invariant_of-result-2 : goal.invariant_of-result-2
invariant_of-result-2 c =
    let workers = c.number_at-workers.ensures Workers c.requires.workers in
    record { few = (rw workers.3 workers.2.1, rw workers.3 workers.2.2) }

pub returns-clause-spelt : goal.returns-clause-spelt
returns-clause-spelt c = record {
  workers = c.number_at-workers.ensures Workers c.requires.workers;
  established = c.number_at-established.ensures Established c.requires.established;
  transient = c.number_at-transient.ensures Transient c.requires.transient;
  udp = c.number_at-udp.ensures Udp c.requires.udp;
}
