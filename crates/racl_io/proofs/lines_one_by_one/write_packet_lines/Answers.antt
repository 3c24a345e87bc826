use Rattle.std.proofs.Common.{◌≡◌, ◌∙◌, ◌++◌, ◌+◌, ℕ, List, ap, arith, drop, length, sym}
use Rattle.std.proofs.KnownBytes.{Appends-trans}
use Rattle.std.proofs.Math.ListN.{drop_of_length-le}
use Rattle.packet_view.specs.Captures.{PacketFacts, packet_facts}
use Rattle.packet_view.specs.CheckedCaptures.{remaining}
use Rattle.racl_io.specs.Tellings.{lines_by}
use Rattle.racl_io.proofs.LeftLemmas.{left_more, left_none}
use Rattle.racl_io.proofs.LineLemmas.{lines_next, no_lines, told_all, told_more}
use Rattle.racl_io.proofs.ReportLemmas.{cut_at}
use Rattle.racl_io.proofs.TellingLemmas.{put_behind, whatever}
use Rattle.racl_io.proofs.lines_one_by_one.write_packet_lines.Goals as goal

pub verdicts-preserved : goal.verdicts-preserved
verdicts-preserved g c =
    let h = c.verdicts.invariant in
    let line = g.L.PacketLine.line c.args.line.now in
    let next = lines_next line c.verdicts.number (remaining c.verdicts.packets) (remaining c.next.new.self) (packet_facts c.in-Some.packet) c.args.verdicts.now
    c.verdicts.verdict-index _ c.in-Some.ensures c.verdicts-test.true in
    let more = lines_by line (c.verdicts.number + 1) (remaining c.next.new.self) (drop (c.verdicts.verdict-index + 1) c.args.verdicts.now) in
    let told = ap (λ (t : List ℕ). (h.front ++ c.verdicts.piece) ++ t) (sym next) ∙ h.told in
    let pushed = c.in-Ok.ensures.0 in
    record {
      numbered = omega (arith, h.numbered);
      left = left_more (remaining c.args.packets.now) (remaining c.verdicts.packets) (remaining c.next.new.self) (packet_facts c.in-Some.packet)
          c.verdicts.verdict-index h.left c.in-Some.ensures;
      front = h.front ++ pushed.0;
      written = Appends-trans _ _ _ _ _ h.written pushed.1;
      told = told_more h.front pushed.0 c.verdicts.piece c.tell_in_line.new.piece _ more _ told pushed.2;
      sound = c.in-Ok.ensures.1 ∙ h.sound;
    }

pub returns : goal.returns
returns g c =
    let h = c.verdicts.invariant in
    let verdicts = c.args.verdicts.now in
    let line = g.L.PacketLine.line c.args.line.now in
    let none = ap (lines_by line c.verdicts.number (remaining c.verdicts.packets)) (drop_of_length-le verdicts c.verdicts-test.false)
    ∙ no_lines line c.verdicts.number (remaining c.verdicts.packets) in
    let all = ap (λ (p : List ℕ). h.front ++ p) c.as_slice-2.ensures ∙ told_all (h.front ++ c.verdicts.piece) _ _ none h.told in
    let end : c.verdicts.verdict-index ≡ length verdicts = omega (arith, c.verdicts-test.false, c.verdicts.auto.verdict-index-end) in
    let wrote = c.write_all-2.ensures in
    record {
      put = put_behind g.W.Sink.bytes g.W.Sink.failures c.args.writer.now c.verdicts.writer c.write_all-2.new.writer h.front c.as_slice-2.result.now _ c.write_all-2.result h.written
          h.sound all (wrote.whole, wrote.ok, wrote.failed, wrote.fault, wrote.front);
      left = whatever c.write_all-2.result (h.left ∙ ap (λ (k : ℕ). drop k (remaining c.args.packets.now)) end);
    }

pub returns-in_default : goal.returns-in_default
returns-in_default g c =
    let h = c.verdicts.invariant in
    let verdicts = c.args.verdicts.now in
    let line = g.L.PacketLine.line c.args.line.now in
    let none = ap (λ (ps : List PacketFacts). lines_by line c.verdicts.number ps (drop c.verdicts.verdict-index verdicts)) c.in_default.ensures.0 in
    let all = ap (λ (p : List ℕ). h.front ++ p) c.as_slice.ensures ∙ told_all (h.front ++ c.verdicts.piece) _ _ none h.told in
    let wrote = c.write_all.ensures in
    record {
      put = put_behind g.W.Sink.bytes g.W.Sink.failures c.args.writer.now c.verdicts.writer c.write_all.new.writer h.front c.as_slice.result.now _ c.write_all.result h.written
          h.sound all (wrote.whole, wrote.ok, wrote.failed, wrote.fault, wrote.front);
      left = whatever c.write_all.result (c.in_default.ensures.1 ∙ left_none (remaining c.args.packets.now) (remaining c.verdicts.packets) c.verdicts.verdict-index (length verdicts) h.left
          c.in_default.ensures.0 (let within = c.verdicts-test.true in omega arith));
    }

pub returns-in-Err : goal.returns-in-Err
returns-in-Err g c =
    let h = c.verdicts.invariant in
    let failed = c.in-Err.ensures in
    record {
      put = (
        tt,
        tt,
        failed.2 ∙ ap (λ n. n + 1) h.sound,
        failed.3,
        cut_at _ _ _ h.front c.verdicts.piece _ _ h.told h.written failed.4,
      );
      left = tt;
    }
