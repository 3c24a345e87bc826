use Rattle.std.proofs.Common.{◌≡◌, ◌-◌, ◌∙◌, List, arith, drop, length, length-drop, refl, subst, sym, take}
use Rattle.std.proofs.lemmas.List.{take_all}
use Rattle.packet_view.specs.Captures.{AreRecords, RecordFacts, packets_at}
use Rattle.packet_view.specs.CheckedCaptures.{records_of}
use Rattle.packet_view.specs.Fronts.{Stops}
use Rattle.packet_view.specs.declared.tuple.Mac.{Mac}
use Rattle.policy_check.specs.Foreign.{AreForeign}
use Rattle.policy_check.proofs.ForeignLemmas.{one_front}
use Rattle.policy_check.proofs.captures_of_other_macs.foreign_mac.Goals as goal

pub returns-then-are_foreign-clause-holds : goal.returns-then-are_foreign-clause-holds
returns-then-are_foreign-clause-holds c =
    let front = c.args.front.now in
    let all : take (length front - 24) (drop 24 front) ≡ drop 24 front = take_all (length front - 24) (drop 24 front) (omega (arith, length-drop 24 front)) in
    let records = records_of c.front_records-first.result.records in record {
      same = refl;
      own = c.in-Some.own;
      given = c.in-Some.is;
      order = c.in-Ok.order;
      header = c.in-Ok.ensures.ok;
      records = records;
      rest = c.front_records-first.result.rest.now;
      are = subst (λ bytes. AreRecords c.in-Ok.order bytes records c.front_records-first.result.rest.now) all c.front_records-first.ensures.records;
      stop = c.front_records-first.result.stop;
      ends = c.front_records-first.ensures.stop;
      foreign = subst (λ number. AreForeign c.in-Some.own.0 (packets_at number records)) c.front_records-first.ensures.at
          (c.are_foreign.ensures.yes c.if-are_foreign.true);
    }

pub returns-else-are_foreign-clause-none : goal.returns-else-are_foreign-clause-none
returns-else-are_foreign-clause-none c = λ same number foreign.
    let front = c.args.front.now in
    let first = c.front_records-first in
    let all : take (length front - 24) (drop 24 front) ≡ drop 24 front = take_all (length front - 24) (drop 24 front) (omega (arith, length-drop 24 front)) in
    let accepted = c.in-Ok.ensures.accepts foreign.order foreign.header in
    let order : foreign.order ≡ c.in-Ok.order = cc in
    let given = c.in-Some.is in
    let other = foreign.given in
    let own : foreign.own ≡ c.in-Some.own = cc in
    let here : number ≡ first.result.records.interface = foreign.same ∙ sym first.ensures.at in
    let records : foreign.records ≡ records_of first.result.records = one_front c.in-Ok.order (drop 24 front) foreign.records
    (records_of first.result.records) foreign.rest first.result.rest.now foreign.stop first.result.stop
    (subst (λ o. AreRecords o (drop 24 front) foreign.records foreign.rest) order foreign.are)
    (subst (λ o. Stops o foreign.rest foreign.stop) order foreign.ends)
    (subst (λ bytes. AreRecords c.in-Ok.order bytes (records_of first.result.records) first.result.rest.now) all first.ensures.records)
    first.ensures.stop in
    c.are_foreign.ensures.no c.if-are_foreign.false
    (subst (λ (o : Mac). AreForeign o.0 (packets_at first.result.records.interface (records_of first.result.records))) own
    (subst (λ (rs : List RecordFacts). AreForeign foreign.own.0 (packets_at first.result.records.interface rs)) records
    (subst (λ n. AreForeign foreign.own.0 (packets_at n foreign.records)) here foreign.foreign)))
