use Rattle.std.proofs.Common.{◌≡◌, ◌-◌, ◌∙◌, List, arith, drop, length, length-drop, refl, subst, sym, take}
use Rattle.std.proofs.lemmas.List.{take_all}
use Rattle.packet_view.specs.Captures.{AreRecords, RecordFacts, packets_at}
use Rattle.packet_view.specs.CheckedCaptures.{records_of}
use Rattle.packet_view.specs.Fronts.{Stops}
use Rattle.acl_policy.specs.Policies.{section_facts}
use Rattle.policy_check.specs.SameHost.{ComesInFromHost, IsOfSoMany, seen_at}
use Rattle.policy_check.proofs.ForeignLemmas.{one_front}
use Rattle.policy_check.proofs.HostLemmas.{one_count}
use Rattle.policy_check.proofs.frames_of_same_host.other_mac.Goals as goal

pub returns-then-count-gt0-clause-holds : goal.returns-then-count-gt0-clause-holds
returns-then-count-gt0-clause-holds c =
    let front = c.args.front.now in
    let at = seen_at (section_facts c.args.section.now) in
    let all : take (length front - 24) (drop 24 front) ≡ drop 24 front = take_all (length front - 24) (drop 24 front) (omega (arith, length-drop 24 front)) in
    let records = records_of c.front_records-first.result.records in record {
      same = refl;
      some = omega (arith, c.if-count-gt0.true);
      order = c.in-Ok.order;
      header = c.in-Ok.ensures.ok;
      records = records;
      rest = c.front_records-first.result.rest.now;
      are = subst (λ bytes. AreRecords c.in-Ok.order bytes records c.front_records-first.result.rest.now) all c.front_records-first.ensures.records;
      stop = c.front_records-first.result.stop;
      ends = c.front_records-first.ensures.stop;
      come = subst (λ number. IsOfSoMany (ComesInFromHost at (packets_at number records)) (packets_at number records) c.frames_from_host-count.result)
          c.front_records-first.ensures.at c.frames_from_host-count.ensures;
    }

pub returns-else-count-gt0-clause-none : goal.returns-else-count-gt0-clause-none
returns-else-count-gt0-clause-none c = λ same number count host.
    let front = c.args.front.now in
    let at = seen_at (section_facts c.args.section.now) in
    let first = c.front_records-first in
    let all : take (length front - 24) (drop 24 front) ≡ drop 24 front = take_all (length front - 24) (drop 24 front) (omega (arith, length-drop 24 front)) in
    let accepted = c.in-Ok.ensures.accepts host.order host.header in
    let order : host.order ≡ c.in-Ok.order = cc in
    let here : number ≡ first.result.records.interface = host.same ∙ sym first.ensures.at in
    let records : host.records ≡ records_of first.result.records = one_front c.in-Ok.order (drop 24 front) host.records
    (records_of first.result.records) host.rest first.result.rest.now host.stop first.result.stop
    (subst (λ o. AreRecords o (drop 24 front) host.records host.rest) order host.are)
    (subst (λ o. Stops o host.rest host.stop) order host.ends)
    (subst (λ bytes. AreRecords c.in-Ok.order bytes (records_of first.result.records) first.result.rest.now) all first.ensures.records)
    first.ensures.stop in
    let come = subst (λ (rs : List RecordFacts). IsOfSoMany (ComesInFromHost at (packets_at first.result.records.interface rs)) (packets_at first.result.records.interface rs) count) records
    (subst (λ n. IsOfSoMany (ComesInFromHost at (packets_at n host.records)) (packets_at n host.records) count) here host.come) in
    let equal = one_count _ _ count c.frames_from_host-count.result come c.frames_from_host-count.ensures in
    omega (arith, host.some, equal, c.if-count-gt0.false)
