use Rattle.std.proofs.Common.{arith, map}
use Rattle.packet_view.specs.Tuples.{tuple_facts}
use Rattle.acl_policy.specs.Rules.{rule_facts}
use Rattle.rule_cover.proofs.PieceLemmas.{met_apart, met_cut, met_whole, opened, piece_cut, piece_empty, piece_free, piece_taken}
use Rattle.rule_cover.proofs.uncovered_packets.uncovered.Goals as goal

pub returns-in-Some-packet_in-clause-cover : goal.returns-in-Some-packet_in-clause-cover
returns-in-Some-packet_in-clause-cover c =
    let one = rule_facts c.args.one.now in
    let two = rule_facts c.args.two.now in
    let all = map rule_facts c.args.rules.now in
    let taken = opened one two all c.pieces.left.items c.pop.new.self.items c.in-Some.piece c.pieces.marks.items c.pieces.invariant.0 c.in-Some.ensures.items in
    let met = c.in-Some-first_meeting.ensures.meets in
    let found = c.in-Some-packet_in.ensures.some in
    piece_free one two all c.in-Some.piece c.in-Some-first_meeting.met.place taken.here met.beside
    (met_apart all c.in-Some.piece c.in-Some-first_meeting.met met c.in-Apart.is) (tuple_facts c.in-Some-packet_in.tuple) found.0 found.1

pub pieces-preserved-in-Apart : goal.pieces-preserved-in-Apart
pieces-preserved-in-Apart c =
    let one = rule_facts c.args.one.now in
    let two = rule_facts c.args.two.now in
    let all = map rule_facts c.args.rules.now in
    let taken = opened one two all c.pieces.left.items c.pop.new.self.items c.in-Some.piece c.pieces.marks.items c.pieces.invariant.0 c.in-Some.ensures.items in
    (piece_empty one two all c.pop.new.self.items c.in-Some.piece c.pieces.marks.items taken (c.packet_in.ensures.none c.in_default-packet_in.is), omega (arith, c.pieces.invariant.1, c.in-Some-first_meeting.ensures.fewer))

pub pieces-preserved-in-Whole : goal.pieces-preserved-in-Whole
pieces-preserved-in-Whole c =
    let one = rule_facts c.args.one.now in
    let two = rule_facts c.args.two.now in
    let all = map rule_facts c.args.rules.now in
    let taken = opened one two all c.pieces.left.items c.pop.new.self.items c.in-Some.piece c.pieces.marks.items c.pieces.invariant.0 c.in-Some.ensures.items in
    let whole = met_whole all c.in-Some.piece c.in-Some-first_meeting.met c.in-Some-first_meeting.ensures.meets c.in-Whole.is in
    (piece_taken one two all c.pop.new.self.items c.in-Some.piece c.pieces.marks.items c.in-Some-first_meeting.met.place whole.0 taken whole.1 whole.2, omega (arith, c.pieces.invariant.1, c.in-Some-first_meeting.ensures.fewer))

pub pieces-preserved : goal.pieces-preserved
pieces-preserved c =
    let one = rule_facts c.args.one.now in
    let two = rule_facts c.args.two.now in
    let all = map rule_facts c.args.rules.now in
    let taken = opened one two all c.pieces.left.items c.pop.new.self.items c.in-Some.piece c.pieces.marks.items c.pieces.invariant.0 c.in-Some.ensures.items in
    let cut = met_cut all c.in-Some.piece c.in-Some-first_meeting.met c.in-Cut.outside c.in-Cut.inside c.in-Some-first_meeting.ensures.meets c.in-Cut.is in (
      piece_cut one two all c.pop.new.self.items c.push.new.self.items c.push-in-Cut.new.self.items c.in-Some.piece c.pieces.marks.items c.in-Some-first_meeting.met.place
          cut.0 c.in-Cut.outside c.in-Cut.inside taken c.in-Some-first_meeting.ensures.meets.beside cut.1 cut.2
          c.in_ok-push-in-Cut.ensures.items c.in_ok-push-in-Cut-2.ensures.items,
      omega (arith, c.pieces.invariant.1, c.in-Some-first_meeting.ensures.fewer),
    )
