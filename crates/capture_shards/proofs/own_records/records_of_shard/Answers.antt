use Rattle.std.proofs.Common.{◌∙◌, ◌+◌, ◌-◌, true, false, ap, append-nil, arith, length, refl, rules, sym}
use Rattle.capture_shards.specs.inner.OwnTests.{own_of}
use Rattle.capture_shards.proofs.OwnRecordLemmas.{found_all, found_begun, found_so, rest_short}
use Rattle.capture_shards.proofs.own_records.records_of_shard.Goals as goal

pub records-init : goal.records-init
records-init c = record {
  after = omega arith;
  few = omega arith;
  found = found_begun (own_of c.args.shard.now) c.args.order (c.args.others + 1) c.args.records.now _ c.new-bytes.ensures.items c.new-numbers.ensures.items (omega arith) refl;
}

pub records-preserved-then-not-is_own : goal.records-preserved-then-not-is_own
records-preserved-then-not-is_own c =
    let front = c.in-Some.ensures.some in
    let so = c.records in
    let own = own_of c.args.shard.now in
    let after = so.invariant.after in
    let few = so.invariant.few in
    let shorter = rest_short c.args.order so.rest.now c.in-Some.front.bytes.now c.in-Some.front.rest.now front.facts front.one front.whole in
    record {
      after = omega arith;
      few = omega arith;
      found = found_so own c.args.order (c.args.others + 1) (so.number + 1) c.args.records.now so.rest.now c.in-Some.front.bytes.now c.in-Some.front.rest.now
          (record { bytes = so.bytes.items; numbers = so.numbers.items; all = so.number - c.args.others; latest = so.latest })
          (record { bytes = so.bytes.items; numbers = so.numbers.items; all = so.number + 1 - c.args.others; latest = c.max-latest.result })
          front.facts false so.invariant.found front.one front.whole (ap (own (so.number + 1)) (sym front.same) ∙ sym c.is_own.ensures ∙ search rules)
          (append-nil so.bytes.items) (append-nil so.numbers.items) (omega arith) (search rules);
    }

pub records-preserved : goal.records-preserved
records-preserved c =
    let front = c.in-Some.ensures.some in
    let so = c.records in
    let own = own_of c.args.shard.now in
    let after = so.invariant.after in
    let few = so.invariant.few in
    let shorter = rest_short c.args.order so.rest.now c.in-Some.front.bytes.now c.in-Some.front.rest.now front.facts front.one front.whole in
    record {
      after = omega arith;
      few = omega arith;
      found = found_so own c.args.order (c.args.others + 1) (so.number + 1) c.args.records.now so.rest.now c.in-Some.front.bytes.now c.in-Some.front.rest.now
          (record { bytes = so.bytes.items; numbers = so.numbers.items; all = so.number - c.args.others; latest = so.latest })
          (record { bytes = c.extend_from_slice.new.self.items; numbers = c.push.new.self.items; all = so.number + 1 - c.args.others; latest = c.max-latest.result })
          front.facts true so.invariant.found front.one front.whole (ap (own (so.number + 1)) (sym front.same) ∙ sym c.is_own.ensures ∙ search rules)
          (sym c.in_ok-extend_from_slice.ensures.items) (sym c.in_ok-push.ensures.items) (omega arith) (search rules);
    }

pub returns : goal.returns
returns c =
    let so = c.records in
    found_all (own_of c.args.shard.now) c.args.order (c.args.others + 1) (so.number + 1) c.args.records.now so.rest.now
    (record { bytes = so.bytes.items; numbers = so.numbers.items; all = so.number - c.args.others; latest = so.latest }) so.invariant.found c.in_default.ensures.none
