use Rattle.std.proofs.Common.{◌∙◌, sym}
use Rattle.acl_policy.specs.Rules.{rule_facts}
use Rattle.rule_cover.proofs.PieceLemmas.{adds_both, adds_none, none_of}
use Rattle.rule_cover.proofs.uncovered_packets.add_shown.Goals as goal

pub returns-then-is_apart : goal.returns-then-is_apart
returns-then-is_apart c =
    adds_none (rule_facts c.args.one.now) (rule_facts c.args.two.now) c.args.shown _
    (λ tuple packet left right shows.
    c.is_apart.ensures.yes c.if-is_apart.true tuple ((c.region_of-first.ensures.region tuple packet).1 (left, shows))
    ((c.region_of-second.ensures.region tuple packet).1 (right, shows)))

pub returns-then-is_none : goal.returns-then-is_none
returns-then-is_none c =
    let one = rule_facts c.args.one.now in
    let two = rule_facts c.args.two.now in
    let both = c.both-region.ensures (c.is_apart.ensures.no c.if-is_apart.false) (c.region_of-first.ensures.shown ∙ sym c.region_of-second.ensures.shown) in
    adds_none one two c.args.shown _
    (λ tuple packet left right shows.
    c.packet_in.ensures.none (none_of c.packet_in.result c.if-is_none.ensures) tuple packet
    ((both tuple).1 ((c.region_of-first.ensures.region tuple packet).1 (left, shows), (c.region_of-second.ensures.region tuple packet).1 (right, shows))))

pub returns : goal.returns
returns c =
    adds_both (rule_facts c.args.one.now) (rule_facts c.args.two.now) c.args.shown c.region_of-first.result c.region_of-second.result c.both-region.result _ _
    c.region_of-first.ensures.region c.region_of-second.ensures.region
    (c.both-region.ensures (c.is_apart.ensures.no c.if-is_apart.false) (c.region_of-first.ensures.shown ∙ sym c.region_of-second.ensures.shown))
    c.in_ok-push.ensures.items
