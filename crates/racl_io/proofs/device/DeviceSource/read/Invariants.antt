use Rattle.std.proofs.Common.{◌≡◌, length}
use Rattle.std.specs.Io.KnownBytes.{Keeps}
use Rattle.racl_io.proofs.device.DeviceSource.read.Given as goal

-- the reads so far were interrupted: they gave nothing, and don't count
abbrev pub invariant-tries : goal.invariant-tries
invariant-tries g l = record {
  kept : Keeps (g.T.Read.remaining l.initial.self.inner) (g.T.Read.remaining l.self.inner);
  sound : l.self.failures ≡ l.initial.self.failures;
  room : length l.buf ≡ length l.initial.buf;
}
