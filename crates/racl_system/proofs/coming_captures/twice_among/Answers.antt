use Rattle.std.proofs.Common.{sym}
use Rattle.racl_system.proofs.ApartLemmas.{named_again, named_first}
use Rattle.racl_system.proofs.coming_captures.twice_among.Goals as goal

pub captures-preserved : goal.captures-preserved
captures-preserved c = named_first c.args.captures.now c.captures-2.place _ c.captures-test.true c.captures-2.invariant (sym c.if-is_named.ensures)

pub returns-then-is_named-clause-some : goal.returns-then-is_named-clause-some
returns-then-is_named-clause-some c = named_again c.args.captures.now c.captures-2.place _ c.captures-test.true c.captures-2.invariant (sym c.if-is_named.ensures)
