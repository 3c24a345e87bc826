-- So few packets that no verdict says no-pages.
use Rattle.std.proofs.Common.{◌≡◌, ◌≤◌, ◌*◌, ◌^◌, ◌∙◌, ℕ, List, length, map, ap, sym, subst, arith}
use Rattle.std.proofs.lemmas.List.{length-map}
use Rattle.std.proofs.lemmas.List.Sums.{count_by-le-length}
use Rattle.packet_view.specs.Captures.{PacketFacts}
use Rattle.packet_view.specs.declared.tuple.Family.{Family}
use Rattle.packet_view.specs.declared.tuple.Family.TheVariants.{V4, V6}
use Rattle.acl_policy.specs.Policies.{PolicyFacts}
use Rattle.session_state.specs.declared.timeouts.Timeouts.{Timeouts}
use Rattle.session_state.specs.declared.verdict.Verdict.{Verdict}
use Rattle.flow_filter.specs.Judged.{Judged}
use Rattle.flow_filter.specs.OneThread.{Layout, sizes_in}
use Rattle.flow_filter.specs.Readings.{IsReading}
use Rattle.flow_dealing.specs.Dealings.{Deal}
use Rattle.flow_dealing.specs.WorkerRecords.{AreFew, AreJudged, HavePages, is_in, keyed}
use Rattle.flow_dealing.proofs.FewPackets.{verdicts_for_few}
use Rattle.flow_dealing.proofs.Places.{zip_count}

-- a family's table with pages for 64 blocks of the greatest size
few_in : (l : Layout) (family : Family) (js : List Judged) → (sizes_in l family).max_log2 ≡ 6 → 4096 ≤ (sizes_in l family).pages → length js ≤ 64
    → AreFew l family js
few_in l family js log2 pages few =
    let counted : keyed family js ≤ length js = count_by-le-length (λ (j : Judged). is_in family j.asked) js in
    let small : keyed family js * 64 ≤ (sizes_in l family).pages = omega (arith, counted, few, pages) in
    let power : 2 ^ (sizes_in l family).max_log2 ≡ 64 = ap (λ (n : ℕ). 2 ^ n) log2 in
    subst (λ (n : ℕ). keyed family js * n ≤ (sizes_in l family).pages) (sym power) small

pub pages_for_64 : (d : Deal) (times : Timeouts) (policy : PolicyFacts) (packets : List PacketFacts) (verdicts : List Verdict)
    → d.layout.four.max_log2 ≡ 6 → 4096 ≤ d.layout.four.pages → d.layout.six.max_log2 ≡ 6 → 4096 ≤ d.layout.six.pages
    → AreJudged d times policy packets verdicts → length packets ≤ 64 → HavePages verdicts
pages_for_64 d times policy packets verdicts four_log2 four_pages six_log2 six_pages are few =
    verdicts_for_few d times policy packets verdicts are each
  where
    count : length are.judged ≤ 64
    count =
        let same : length packets ≡ length are.judged =
        zip_count (IsReading policy) packets (map (λ (j : Judged). j.reading) are.judged) are.read ∙ length-map are.judged (λ (j : Judged). j.reading) in
        omega (arith, few, same)

    each : (family : Family) → AreFew d.layout family are.judged
    each V4 = few_in d.layout V4 are.judged four_log2 four_pages count
    each V6 = few_in d.layout V6 are.judged six_log2 six_pages count
