-- The judge's shapes are those of flows.
use Rattle.flow_judge.proofs.judge.Judge.load_bucket.Goals as goal

pub see_plain-requires : goal.see_plain-requires
see_plain-requires g c = c.self.invariant.shapes.keys
