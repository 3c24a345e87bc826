use Rattle.std.proofs.Common.{◌≡◌, ◌∙◌, ◌-◌, [], ap, arith, drop, length, lit≤, refl, subst, sym}
use Rattle.packet_view.specs.Captures.{IsPiece, RecordFacts}
use Rattle.packet_view.specs.Fronts.{Stops}
use Rattle.packet_view.specs.RecordLists.{bytes_of, front_record}
use Rattle.packet_view.proofs.RecordLemmas.{part_shown}
use Rattle.packet_view.proofs.RecordListLemmas.{before_few, before_listed, before_mark, before_more}
use Rattle.packet_view.proofs.records_at_front.front_records.Goals as goal
use Rattle.packet_view.proofs.records_at_front.front_records.Goals.{in-End, in-TooLong, in-Truncated}

pub records-init : goal.records-init
records-init c = record {
  before = ([], refl, refl);
  likely = lit≤ tt;
  enough = lit≤ tt;
  marks = c.new-notes.ensures c.args.order c.args.bytes.now;
}

pub overflow_sub-at : goal.overflow_sub-at
overflow_sub-at c =
    let listed = before_listed c.args.order c.args.bytes.now c.records.rest.now c.records.count c.records.invariant.before in
    let size = listed.size in
    omega arith

pub overflow_add-count : goal.overflow_add-count
overflow_add-count c =
    let few = before_few c.args.order c.args.bytes.now c.records.rest.now c.records.count c.records.invariant.before in
    omega arith

pub records-preserved-in-Some : goal.records-preserved-in-Some
records-preserved-in-Some c =
    let rest = c.records.rest.now in
    let front = subst (IsPiece c.args.order rest) c.in-Some.ensures (part_shown c.args.order rest) in
    record {
      before = before_more c.args.order (front_record c.args.order rest) c.in-Some.behind.now c.args.bytes.now rest c.records.count
          c.records.invariant.before front;
      likely = c.records.invariant.likely;
      enough = c.records.invariant.enough;
      marks = c.records.invariant.marks;
    }

pub overflow_add-count-in-Whole : goal.overflow_add-count-in-Whole
overflow_add-count-in-Whole c =
    let few = before_few c.args.order c.args.bytes.now c.records.rest.now c.records.count c.records.invariant.before in
    omega arith

pub records-preserved : goal.records-preserved
records-preserved c =
    let packet : RecordFacts = record { moment = c.in-Whole.moment; micros = c.in-Whole.micros; frame = c.in-Whole.frame.now } in
    record {
      before = before_more c.args.order packet c.in-Whole.behind.now c.args.bytes.now c.records.rest.now c.records.count
          c.records.invariant.before c.in-Whole.ensures.shown;
      likely = c.in-Whole.ensures.shown.2.limit;
      enough = let most = c.max-enough.ensures in omega arith;
      marks = c.note.ensures c.args.order c.args.bytes.now
          (before_mark c.args.order c.args.bytes.now c.records.rest.now c.records.count c.records.invariant.before) c.records.invariant.marks;
    }

pub invariant_of-records : goal.invariant_of-records
invariant_of-records c =
    let listed = before_listed c.args.order c.args.bytes.now c.records.rest.now c.records.count c.records.invariant.before in
    record { whole = let size = listed.size in omega arith }

pub returns-in-records-clause-records : goal.returns-in-records-clause-records
returns-in-records-clause-records c =
    let listed = before_listed c.args.order c.args.bytes.now c.records.rest.now c.records.count c.records.invariant.before in
    listed.records

pub returns-in-records-clause-stop : goal.returns-in-records-clause-stop
returns-in-records-clause-stop c =
    elim c.match-next_record.branch [
      | in-End w ↦ subst (Stops c.args.order c.records.rest.now) (sym w.stop-is) w.in-End.ensures.shown
      | in-Truncated w ↦ subst (Stops c.args.order c.records.rest.now) (sym w.stop-is) w.in-Truncated.ensures.shown
      | in-TooLong w ↦ subst (Stops c.args.order c.records.rest.now) (sym w.stop-is) w.in-TooLong.ensures.shown
    ]

pub returns-in-records-clause-split : goal.returns-in-records-clause-split
returns-in-records-clause-split c =
    let listed = before_listed c.args.order c.args.bytes.now c.records.rest.now c.records.count c.records.invariant.before in
    let size : bytes_of c.args.order c.records.count c.args.bytes.now ≡ length c.args.bytes.now - length c.records.rest.now = let s = listed.size in omega arith in
    record {
      begins = refl;
      same = refl;
      size = listed.size;
      after = listed.after;
      behind = listed.after ∙ ap (λ n. drop n c.args.bytes.now) size;
    }

pub returns-in-records-clause-marks : goal.returns-in-records-clause-marks
returns-in-records-clause-marks c =
    c.note.ensures c.args.order c.args.bytes.now
    (before_mark c.args.order c.args.bytes.now c.records.rest.now c.records.count c.records.invariant.before) c.records.invariant.marks
