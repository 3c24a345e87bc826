use Rattle.std.proofs.Common.{◌<◌, arith, subst}
use Rattle.packet_view.specs.Addresses.{address_limit}
use Rattle.packet_view.specs.declared.tuple.Family.{Family}
use Rattle.packet_questions.proofs.frame_parts.ipv4_bytes.Goals as goal

pub overflow_cast-tuple : goal.overflow_cast-tuple
overflow_cast-tuple c = omega (arith, subst (λ (f : Family). c.args.tuple.now.source < address_limit f) c.requires c.args.tuple.now.source_fits)

pub overflow_cast-tuple-2 : goal.overflow_cast-tuple-2
overflow_cast-tuple-2 c = omega (arith, subst (λ (f : Family). c.args.tuple.now.dest < address_limit f) c.requires c.args.tuple.now.dest_fits)
