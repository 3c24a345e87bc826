use Rattle.std.proofs.Common.{length}
use Rattle.racl_system.proofs.capture_feeding.Feed.hand_all.Given as goal

abbrev pub decreases-parts : goal.decreases-parts
decreases-parts g l = length l.rest
