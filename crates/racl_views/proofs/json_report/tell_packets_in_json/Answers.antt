use Rattle.std.proofs.Common.{◌≡◌, ◌∙◌, ◌++◌, ◌+◌, ℕ, List, ap, append_assoc, arith, drop, length, sym}
use Rattle.std.proofs.Math.ListN.{drop_of_length-le}
use Rattle.packet_view.specs.Captures.{PacketFacts, packet_facts}
use Rattle.packet_view.specs.CheckedCaptures.{remaining}
use Rattle.acl_policy.specs.Policies.{policy_facts}
use Rattle.racl_io.proofs.LeftLemmas.{left_more, left_none}
use Rattle.racl_views.specs.Entries.{EntryFacts}
use Rattle.racl_views.specs.RunEntries.{told_from}
use Rattle.racl_views.specs.inner.EntryLists.{entries_on}
use Rattle.racl_views.specs.inner.Tellings.{entries_by, object_by}
use Rattle.racl_views.proofs.EntryLemmas.{entries_next, no_entries, told_all}
use Rattle.racl_views.proofs.json_report.tell_packets_in_json.Goals as goal

pub verdicts-preserved : goal.verdicts-preserved
verdicts-preserved c =
    let h = c.verdicts.invariant in
    let telling = c.args.telling in
    let next = entries_next (policy_facts telling.policy.now) telling.table.now.rules.items (remaining c.verdicts.packets) (remaining c.next.new.self)
    (packet_facts c.in-Some.packet) c.args.verdicts.now c.verdicts.verdict-index _ c.in-Some.ensures c.verdicts-test.true in
    let more = told_from (object_by telling) (c.verdicts.number + 1)
    (entries_by telling (remaining c.next.new.self) (drop (c.verdicts.verdict-index + 1) c.args.verdicts.now)) in
    record {
      numbered = omega (arith, h.numbered);
      left = left_more (remaining c.args.packets.now) (remaining c.verdicts.packets) (remaining c.next.new.self) (packet_facts c.in-Some.packet)
          c.verdicts.verdict-index h.left c.in-Some.ensures;
      told = ap (λ (t : List ℕ). t ++ more) c.in_ok-told.ensures ∙ append_assoc c.verdicts.told.items _ more
          ∙ ap (λ (es : List EntryFacts). c.verdicts.told.items ++ told_from (object_by telling) c.verdicts.number es) (sym next) ∙ h.told;
    }

pub returns : goal.returns
returns c =
    let h = c.verdicts.invariant in
    let telling = c.args.telling in
    let verdicts = c.args.verdicts.now in
    let policy = policy_facts telling.policy.now in
    let rules = telling.table.now.rules.items in
    let none = ap (entries_on policy rules (remaining c.verdicts.packets)) (drop_of_length-le verdicts c.verdicts-test.false) ∙ no_entries policy rules (remaining c.verdicts.packets) in
    let end : c.verdicts.verdict-index ≡ length verdicts = omega (arith, c.verdicts-test.false, c.verdicts.auto.verdict-index-end) in
    record {
      told = told_all (object_by telling) c.verdicts.number _ c.verdicts.told.items _ none h.told;
      left = h.left ∙ ap (λ (k : ℕ). drop k (remaining c.args.packets.now)) end;
    }

pub returns-in_default : goal.returns-in_default
returns-in_default c =
    let h = c.verdicts.invariant in
    let telling = c.args.telling in
    let verdicts = c.args.verdicts.now in
    let policy = policy_facts telling.policy.now in
    let rules = telling.table.now.rules.items in
    let none = ap (λ (ps : List PacketFacts). entries_on policy rules ps (drop c.verdicts.verdict-index verdicts)) c.in_default.ensures.0 in
    record {
      told = told_all (object_by telling) c.verdicts.number _ c.verdicts.told.items _ none h.told;
      left = c.in_default.ensures.1 ∙ left_none (remaining c.args.packets.now) (remaining c.verdicts.packets) c.verdicts.verdict-index (length verdicts) h.left
          c.in_default.ensures.0 (let within = c.verdicts-test.true in omega arith);
    }
