-- What was tested and read makes the frame plain.
use Rattle.std.proofs.Common.{◌≤◌, ◌∙◌, ◌-◌, ◌%◌, ℕ, length, ap, subst, sym, refl, inl, inr, arith}
use Rattle.packet_view.specs.IpPackets.{extent}
use Rattle.packet_view.proofs.PlainLemmas.{end_of, is_plain}
use Rattle.packet_view.proofs.plain_packet.plain.Goals as goal
use Rattle.packet_view.proofs.plain_packet.plain.Goals.{in-6, in-17, then-least-eq34, else-least-eq34}

pub returns-clause-plain : goal.returns-clause-plain
returns-clause-plain c =
    let frame = c.args.frame.now in
    let there : c.match-frame.least ≤ end_of frame =
    subst (λ (n : ℕ). c.match-frame.least ≤ n)
    (c.extent-end.ensures.exact ∙ ap (λ (n : ℕ). extent n (length frame - 14)) c.read_u16-2.ensures)
    c.if-end-least.false in
    is_plain frame _ (record {
      long = c.if-frame-lt38.false;
      kind = sym c.read_u16.ensures ∙ c.if-read_u16-ne2048.false;
      first = c.if-frame-ne69.false;
      offset = ap (λ (n : ℕ). n % 8192) (sym c.read_u16-else-end-least.ensures) ∙ c.if-read_u16-ne0.false;
      fields = elim c.match-frame.branch [
        | in-6 w ↦ inl (
          w.in-6.is,
          omega (arith, there, w.least-is),
          elim c.if-least-eq34.branch [
            | then-least-eq34 v ↦ v.flags-is
            | else-least-eq34 v ↦ absurd (v.if-least-eq34.false w.least-is)
          ],
        )
        | in-17 w ↦ inr (
          w.in-17.is,
          omega (arith, there, w.least-is),
          elim c.if-least-eq34.branch [
            | then-least-eq34 v ↦ let tcp = v.if-least-eq34.true in absurd (omega (arith, w.least-is))
            | else-least-eq34 v ↦ v.flags-is
          ],
        )
      ];
      source = c.read_u32.ensures;
      dest = c.read_u32-2.ensures;
      from = c.read_u16-3.ensures;
      to = c.read_u16-4.ensures;
      proto = refl;
    })
