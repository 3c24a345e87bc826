-- The latest second of packets that are judged one part after the other.
use Rattle.std.proofs.Common.{◌≡◌, ℕ, arith, max}

-- the latest of the first ones, then of those behind them, is that of all
pub later_of_three : (begun first second now then all : ℕ) → now ≡ max begun first → then ≡ max now second → all ≡ max first second → then ≡ max begun all
later_of_three begun first second now then all one two both = omega (arith, one, two, both)
