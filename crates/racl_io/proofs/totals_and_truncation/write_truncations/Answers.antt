use Rattle.std.proofs.Common.{◌∙◌, ◌++◌, ◌+◌, ℕ, List, ap, append-nil, drop, flat_map, subst, sym}
use Rattle.std.proofs.KnownBytes.{Appends-trans}
use Rattle.std.proofs.Math.ListN.{drop_of_length-le}
use Rattle.std.specs.Io.KnownBytes.{Appends}
use Rattle.racl_io.specs.declared.totals_and_truncation.Captured.{Captured}
use Rattle.racl_io.specs.Tellings.{truncation_of}
use Rattle.racl_io.proofs.ReportLemmas.{cut_at}
use Rattle.racl_io.proofs.TellingLemmas.{truncations_next}
use Rattle.racl_io.proofs.totals_and_truncation.write_truncations.Goals as goal

pub each-preserved : goal.each-preserved
each-preserved g c =
    let h = c.each.invariant in
    let captures = c.args.captures.now in
    record {
      front = h.front ++ _;
      written = Appends-trans _ _ _ _ _ h.written c.in-Ok.ensures.0;
      told = truncations_next h.front _ captures c.each.captured-index _ c.each-test.true h.told;
      sound = c.in-Ok.ensures.1 ∙ h.sound;
    }

pub returns : goal.returns
returns g c =
    let h = c.each.invariant in
    let none = drop_of_length-le c.args.captures.now c.each-test.false in
    let all = sym (append-nil h.front) ∙ sym (ap (λ (cs : List Captured). h.front ++ flat_map truncation_of cs) none) ∙ h.told in
    (subst (λ (t : List ℕ). Appends (g.W.Sink.bytes c.args.writer.now) (g.W.Sink.bytes c.each.writer) t) all h.written, h.sound, tt, tt, tt)

pub returns-in-Err : goal.returns-in-Err
returns-in-Err g c =
    let h = c.each.invariant in
    let failed = c.in-Err.ensures in
    let captures = c.args.captures.now in (
      tt,
      tt,
      failed.2 ∙ ap (λ n. n + 1) h.sound,
      failed.3,
      cut_at _ _ _ h.front _ (flat_map truncation_of (drop (c.each.captured-index + 1) captures)) _
          (truncations_next h.front _ captures c.each.captured-index _ c.each-test.true h.told) h.written failed.4,
    )
