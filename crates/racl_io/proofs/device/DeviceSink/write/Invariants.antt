use Rattle.std.proofs.Common.{◌≡◌}
use Rattle.std.specs.Io.KnownBytes.{Keeps}
use Rattle.racl_io.proofs.device.DeviceSink.write.Given as goal

-- the writes so far were interrupted: they took nothing, and don't count
abbrev pub invariant-tries : goal.invariant-tries
invariant-tries g l = record {
  kept : Keeps (g.T.Write.contents l.initial.self.inner) (g.T.Write.contents l.self.inner);
  sound : l.self.failures ≡ l.initial.self.failures;
}
