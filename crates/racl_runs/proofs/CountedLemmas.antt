-- Workers that count the packets that they judged, and what stands behind the totals over these.
use Rattle.std.proofs.Common.{◌≡◌, ◌∙◌, ◌<◌, ◌+◌, ◌++◌, ◌^◌, ◌||◌, ℕ, Bool, true, false, true≢false, List, [], ◌∷◌, Option, Result, ap, append-nil, arith, length, refl, subst, sym}
use Rattle.std.specs.Io.KnownBytes.{Appends}
use Rattle.std.specs.Prelude.{⊤}
use Rattle.std.proofs.lemmas.List.{length-append}
use Rattle.packet_view.specs.Captures.{PacketFacts}
use Rattle.acl_policy.specs.Policies.{IsPolicyText, PolicyFacts, policy_facts}
use Rattle.session_state.specs.declared.verdict.Verdict.{Verdict}
use Rattle.racl_io.specs.declared.fault.Fault.{Fault}
use Rattle.racl_io.specs.Sinks.{HasPutFront}
use Rattle.racl_io.specs.Tellings.{HasToldText, IsTellingFault}
use Rattle.racl_io.specs.declared.fault.Fault.TheVariants as fault
use Rattle.racl_io.proofs.TellingLemmas.{front_of_first, put_more, told_put}
use Rattle.racl_views.specs.HitCounts.{HaveCounted, HaveCountedOn, MayCount}
use Rattle.racl_views.specs.Stored.{StoredFacts}
use Rattle.racl_views.specs.declared.hit_counts.HitCounts.{HitCounts}
use Rattle.racl_report.specs.BehindTotals.{IsBehind}
use Rattle.racl_report.specs.RunReports.{told_facts, view_behind}
use Rattle.racl_report.specs.declared.text_behind_totals.Behind.{Behind}
use Rattle.racl_runs.specs.Crews.{AreAllSaidBy, AreAsAsked, AreIdleOf, AreSaid, AreSaidBy, AreSaidSoFar, HaveCountedAfter, HaveEndedCounting, HaveEndedOn, HaveSaidAfter, Orders, size_of, orders_of, views_with}
use Rattle.racl_runs.specs.declared.sized_tables_and_workers.SizedWorkers.{SizedWorkers}
use Rattle.racl_runs.specs.LiveRuns.{IsToldBehind}
use Rattle.racl_runs.specs.Runs.{AreToldOf, ages_in, keeps_stored, layout_for}
use Rattle.racl_runs.specs.inner.LiveEnds.{AreBegun, MayTellBehind}
use Rattle.racl_runs.specs.declared.counted_judging.Counted.{Counted}
use Rattle.racl_runs.specs.declared.live_run.LiveWay.{LiveWay}
use Rattle.racl_runs.specs.declared.sized_tables_and_workers.SizedCallers.{SizedCallers}
use Rattle.racl_runs.specs.declared.sized_tables_and_workers.SizedTables.{SizedTables}
use Rattle.racl_runs.proofs.LiveLemmas.{by_live_workers}
use Rattle.racl_runs.proofs.OutcomeLemmas.{judged_count, told_when}
use Rattle.session_state.specs.declared.timeouts.Timeouts.{Timeouts}
use Rattle.racl_views.specs.Hits.{AreHits, IsHits}
use Rattle.racl_views.specs.RunEntries.{RunFacts}
use Rattle.racl_views.specs.declared.sessions_as_text_and_json.TextOrJson.{TextOrJson}

-- what was said of all packets is as much as there are
pub said_count : (orders : Orders) (packets : List PacketFacts) (said : List Verdict) → AreSaid orders packets said → length said ≡ length packets
said_count orders packets said are = judged_count orders.deal orders.times orders.policy packets said are.1.removals are.1.judged

-- so much is counted of it
pub may_count : {T : Type 0} (orders : Orders) (asked : Bool) (packets more : List PacketFacts) (said verdicts : List Verdict) (counted : Counted T)
    → HaveCountedAfter orders asked packets said counted → counted.asked ≡ true → AreSaidSoFar T orders (packets ++ more) (said ++ verdicts)
    → length packets + length more < 2 ^ 64 → MayCount counted.counts (length verdicts)
may_count orders asked packets more said verdicts counted has is are fits =
    let all = are.count in
    let packets_all = length-append packets more in
    let said_all = length-append said verdicts in
    let each = has.each in
    record {
      policy = orders.policy;
      packets = packets;
      verdicts = said;
      have = has.counts (sym has.same ∙ is);
      each = each;
      fits = omega arith;
    }

-- the workers judged more packets, which are counted too
pub counted_more : {T : Type 0} (orders : Orders) (asked : Bool) (packets more : List PacketFacts) (said verdicts : List Verdict) (old new : Counted T)
    → HaveCountedAfter orders asked packets said old → HaveSaidAfter orders (packets ++ more) (said ++ verdicts) new.crew.workers
    → AreSaidSoFar T orders (packets ++ more) (said ++ verdicts) → new.policy ≡ old.policy → new.asked ≡ old.asked
    → (old.asked ≡ true → HaveCountedOn (policy_facts old.policy.now) old.counts more verdicts new.counts)
    → HaveCountedAfter orders asked (packets ++ more) (said ++ verdicts) new
counted_more orders asked packets more said verdicts old new has after are policy same counts = record {
  after = after;
  each = are.count;
  policy = ap (λ p. policy_facts p.now) policy ∙ has.policy;
  same = same ∙ has.same;
  counts = λ is. subst (λ (p : PolicyFacts). HaveCounted p (packets ++ more) (said ++ verdicts) new.counts) has.policy
      (counts (has.same ∙ is) packets said (subst (λ (p : PolicyFacts). HaveCounted p packets said old.counts) (sym has.policy) (has.counts is)) has.each);
}

none_kept : (kept : List Verdict) → length kept ≡ 0 → kept ≡ []
none_kept [] none = refl
none_kept (x ∷ xs) none = absurd (omega arith)

-- the workers ended
pub crew_end : {T : Type 0} (workers : SizedWorkers T) (kept : List Verdict) (callers : SizedCallers) → HaveEndedOn workers kept callers → AreAllSaidBy workers callers
crew_end workers kept callers ended orders packets said has each =
    let by = subst (λ (o : Orders). AreSaidBy o packets (said ++ kept) callers) has.given (ended said packets has.rest) in
    let all = said_count orders packets (said ++ kept) (views_with callers, by.said) in
    let both = length-append said kept in
    let none = none_kept kept (omega (arith, each)) in
    subst (λ (vs : List Verdict). AreSaidBy orders packets vs callers) (ap (λ (vs : List Verdict). said ++ vs) none ∙ append-nil said) by

pub counted_end : {T : Type 0} (orders : Orders) (asked : Bool) (packets : List PacketFacts) (said : List Verdict) (counted : Counted T) (callers : SizedCallers)
    → HaveCountedAfter orders asked packets said counted → AreAllSaidBy counted.crew.workers callers → HaveEndedCounting orders asked packets said counted.counts callers
counted_end orders asked packets said counted callers has ended = record { by = ended orders packets said has.after has.each; counted = has.counts }

-- what stands behind the totals may be told
pub may_tell_behind : {T : Type 0} (way : LiveWay) (tables : SizedTables) (begun : Counted T) (packets : List PacketFacts) (said : List Verdict) (counts : HitCounts) (callers : SizedCallers)
    → IsPolicyText way.text.now (policy_facts way.filter.now.policy.now) → way.filter.now.times ≡ way.options.now.times
    → AreAsAsked way.options.now.tables (ages_in way.options.now) tables → AreBegun way tables begun
    → HaveEndedCounting (orders_of begun.crew.workers) begun.asked packets said counts callers → MayTellBehind way tables packets said counts callers
may_tell_behind way tables begun packets said counts callers says times asked is ended = record {
  says = says;
  times = times;
  asked = asked;
  orders = orders_of begun.crew.workers;
  given = is.given;
  ended = subst (λ (hits : Bool). HaveEndedCounting (orders_of begun.crew.workers) hits packets said counts callers) is.asked ended;
}

-- its callers hold nothing
pub ended_idle : (way : LiveWay) (tables : SizedTables) (packets : List PacketFacts) (said : List Verdict) (counts : HitCounts) (callers : SizedCallers)
    → MayTellBehind way tables packets said counts callers → AreIdleOf tables callers
ended_idle way tables packets said counts callers may = subst (λ (o : Orders). AreIdleOf o.tables callers) may.given may.ended.by.idle

-- hits that aren't told have no second
hits_at : (asked : Bool) (view : TextOrJson) (times : Timeouts) (m n : ℕ) (run : RunFacts) (stored : StoredFacts) (told : List ℕ) → (asked ≡ true → m ≡ n)
    → AreHits asked view times m run stored told → AreHits asked view times n run stored told
hits_at false view times m n run stored told same are = are
hits_at true view times m n run stored told same are = subst (λ k. IsHits view times k run stored told) (same refl) are

keeps_for_hits : (hits sessions : Bool) → hits ≡ true → (hits || sessions) ≡ true
keeps_for_hits true sessions is = refl
keeps_for_hits false sessions is = absurd (true≢false (sym is))

-- what stands behind the totals
pub told_behind : (way : LiveWay) (tables : SizedTables) (packets : List PacketFacts) (said : List Verdict) (counts : HitCounts) (callers : SizedCallers)
    (stored : StoredFacts) (behind : Behind) (noted second : ℕ) → MayTellBehind way tables packets said counts callers
    → (keeps_stored way.options.now ≡ true → AreToldOf (layout_for (size_of tables)) way.options.now.times (ages_in way.options.now) noted (views_with callers) stored)
    → IsBehind way.options.now way.text.now noted counts stored behind → (keeps_stored way.options.now ≡ true → noted ≡ second)
    → IsToldBehind way.options.now way.text.now (policy_facts way.filter.now.policy.now) packets said second (behind.hits.items ++ behind.sessions.items)
told_behind way tables packets said counts callers stored behind noted second may kept is same =
    let options = way.options.now in
    let ready = way.filter.now in
    let one = by_live_workers options ready tables may.orders options.workers packets said may.given may.asked.four may.asked.size may.times options.few.0 (omega arith)
    (views_with callers, may.ended.by.said) in
    record {
      by_live = one.0;
      stored = stored;
      kept = λ asked. subst (λ v. AreToldOf (layout_for options.tables) options.times (ages_in options) second v stored) (sym one.1)
          (subst (λ s. AreToldOf (layout_for s) options.times (ages_in options) second (views_with callers) stored) may.asked.size
          (told_when (layout_for (size_of tables)) options.times (ages_in options) noted second (views_with callers) stored (λ ages. same asked) (kept asked)));
      hits = behind.hits.items;
      told = λ captures. let run = told_facts (policy_facts ready.policy.now) way.text.now packets (record { verdicts = said; captures = captures }) options.shown in
          hits_at options.hits (view_behind options.lines) options.times noted second run stored behind.hits.items (λ asked. same (keeps_for_hits options.hits options.sessions asked))
          (is.hits run refl may.says
          (λ asked. subst (λ (p : PolicyFacts). HaveCounted p packets said counts) (ap (λ (o : Orders). o.policy) may.given) (may.ended.counted asked)));
      all = ap (λ (text : List ℕ). behind.hits.items ++ text) is.sessions;
    }

-- the totals, and what stands behind them
pub end_then : {W : Type 0} (bytes : W → Option (List ℕ)) (failures : W → ℕ) (a b c : W) (end behind : List ℕ) (result : Result ⊤ Fault)
    → Appends (bytes a) (bytes b) end → failures b ≡ failures a → HasPutFront bytes failures b c behind result
    → HasToldText bytes failures a c (end ++ behind) result
end_then bytes failures a b c end behind result wrote same put =
    let (one, two, three, four, five) = put_more bytes failures a b c end behind result wrote same put in
    told_put bytes failures a c (end ++ behind) result one two three four five

-- they couldn't be told
pub end_cut : (old new : Option (List ℕ)) (end behind : List ℕ) (found : Fault) → IsTellingFault old new end found → IsTellingFault old new (end ++ behind) found
end_cut old new end behind fault.Memory same = same
end_cut old new end behind fault.Write front = front_of_first old new end behind front
end_cut old new end behind found wrong = absurd wrong
