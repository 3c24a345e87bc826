-- Workers whose verdicts are compared with expected ones.
use Rattle.std.proofs.Common.{◌≡◌, ◌∙◌, ◌<◌, ◌+◌, ◌++◌, ◌||◌, ◌^◌, List, ap, ap₂, arith, length, sym}
use Rattle.std.proofs.lemmas.List.{length-append}
use Rattle.packet_view.specs.Captures.{PacketFacts}
use Rattle.session_state.specs.declared.verdict.Verdict.{Verdict}
use Rattle.compared_verdicts.specs.Meeting.{unmet_from}
use Rattle.compared_verdicts.specs.declared.expectation.Expectation.{Expectation}
use Rattle.compared_verdicts.proofs.MeetingLemmas.{unmet_both}
use Rattle.racl_runs.specs.Crews.{AreSaidSoFar, HaveSaidAfter, Orders}
use Rattle.racl_runs.specs.declared.compared_judging.Comparing.{Comparing}
use Rattle.racl_runs.specs.inner.Comparings.{HasComparedAfter}

-- so many more verdicts can be counted
pub may_compare : {T : Type 0} (orders : Orders) (expectations : List Expectation) (packets more : List PacketFacts) (said verdicts : List Verdict) (comparing : Comparing T)
    → HasComparedAfter orders expectations packets said comparing → AreSaidSoFar T orders (packets ++ more) (said ++ verdicts)
    → length packets + length more < 2 ^ 64 → comparing.judged + length verdicts < 2 ^ 64
may_compare orders expectations packets more said verdicts comparing has are fits =
    let all = are.count in
    let packets_all = length-append packets more in
    let said_all = length-append said verdicts in
    let each = has.each in
    let counted = has.counted in
    omega arith

-- the workers judged more packets, whose verdicts are compared too
pub compared_more : {T : Type 0} (orders : Orders) (expectations : List Expectation) (packets more : List PacketFacts) (said verdicts : List Verdict) (old new : Comparing T)
    → HasComparedAfter orders expectations packets said old → HaveSaidAfter orders (packets ++ more) (said ++ verdicts) new.crew.workers
    → AreSaidSoFar T orders (packets ++ more) (said ++ verdicts) → new.expectations ≡ old.expectations → new.judged ≡ old.judged + length verdicts
    → new.unmet ≡ (old.unmet || unmet_from old.expectations.now (old.judged + 1) verdicts)
    → HasComparedAfter orders expectations (packets ++ more) (said ++ verdicts) new
compared_more orders expectations packets more said verdicts old new has after are same counted unmet = record {
  after = after;
  each = are.count;
  same = ap (λ e. e.now) same ∙ has.same;
  counted = counted ∙ ap (λ n. n + length verdicts) has.counted ∙ sym (length-append said verdicts);
  compared = unmet ∙ ap₂ (λ b (es : List Expectation). b || unmet_from es (old.judged + 1) verdicts) has.compared has.same
      ∙ sym (unmet_both expectations 1 (old.judged + 1) said verdicts (let count = has.counted in omega arith));
}
