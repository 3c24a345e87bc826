use Rattle.std.proofs.Common.{◌≡◌, ◌≢◌, ◌∙◌, ◌<◌, ◌-◌, ap, arith, sym}
use Rattle.packet_view.specs.CheckedCaptures.{BurstFacts}
use Rattle.packet_view.proofs.BurstLemmas.{found_at}
use Rattle.packet_view.proofs.packet_bursts.PacketBursts.next.Goals as goal
use Rattle.packet_view.proofs.packet_bursts.PacketBursts.next.Goals.{then-self+else-self-2, else-self}

pub returns : goal.returns
returns c =
    -- a packet is ready, and none was taken yet
    let (some, same) : (c.if-self.self.ready ≢ 0) × (c.args.self.now.left ≡ c.if-self.self.left) =
    elim c.if-self.branch [
      | else-self w ↦
          let (before, within, size) = c.self.invariant in
          let apart : c.self.inside.at ≢ c.self.inside.end = w.if-self.false in
          let count : c.self.inside.end - c.self.inside.at ≡ c.if-self.self.ready =
          ap (λ (a : BurstFacts). a.ready) (c.self.view_is ∙ sym w.self-is) in
          (omega (arith, apart), ap (λ (a : BurstFacts). a.left) (sym w.self-is))
      | then-self+else-self-2 w ↦
          let (before, within, size) = w.self-then-self.invariant in
          let apart : w.self-then-self.inside.at ≢ w.self-then-self.inside.end = w.if-self-2.false in
          let count : w.self-then-self.inside.end - w.self-then-self.inside.at ≡ c.if-self.self.ready =
          ap (λ (a : BurstFacts). a.ready) (w.self-then-self.view_is ∙ sym w.self-is) in
          (omega (arith, apart), sym w.fill.ensures.same ∙ ap (λ (a : BurstFacts). a.left) (sym w.self-is))
    ] in
    let (before, within, size) = c.self-2.invariant in
    let count : c.self-2.inside.end - c.self-2.inside.at ≡ c.if-self.self.ready =
    ap (λ (a : BurstFacts). a.ready) c.self-2.view_is in
    let more : c.self-2.inside.at < c.self-2.inside.end = omega (arith, some) in
    same ∙ ap (λ (a : BurstFacts). a.left) (sym c.self-2.view_is)
    ∙ found_at c.self-2.inside.found c.self-2.inside.at c.self-2.inside.end _ _ more (omega arith)
