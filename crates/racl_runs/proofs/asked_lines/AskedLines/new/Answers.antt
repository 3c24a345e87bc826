use Rattle.std.proofs.Common.{ap}
use Rattle.acl_policy.specs.Policies.{policy_facts}
use Rattle.racl_runs.proofs.AskedLineLemmas.{explained_as_asked, objects_as_asked, plain_as_asked}
use Rattle.racl_runs.proofs.asked_lines.AskedLines.new.Goals as goal

pub returns-in_ok-plain-in-Plain : goal.returns-in_ok-plain-in-Plain
returns-in_ok-plain-in-Plain c =
    let plain = c.in_ok-plain-in-Plain.plain in
    let made = c.in_ok-plain-in-Plain.ensures in
    plain_as_asked c.args.way.options.now c.args.way.text.now (policy_facts c.args.way.filter.now.policy.now) c.args.names plain.shown plain.names c.in-Plain.is made.0 made.1

pub returns-in_ok-explained-in-Explained : goal.returns-in_ok-explained-in-Explained
returns-in_ok-explained-in-Explained c =
    let made = c.in_ok-explained-in-Explained.ensures in
    explained_as_asked c.args.way.options.now c.args.way.text.now (policy_facts c.args.way.filter.now.policy.now) c.args.names c.in_ok-explained-in-Explained.explained c.in-Explained.is c.requires
    made.0 (ap policy_facts made.1) made.2 made.3

pub returns-in_ok-objects-in-Json : goal.returns-in_ok-objects-in-Json
returns-in_ok-objects-in-Json c =
    let made = c.in_ok-objects-in-Json.ensures in
    objects_as_asked c.args.way.options.now c.args.way.text.now (policy_facts c.args.way.filter.now.policy.now) c.args.names c.in_ok-objects-in-Json.objects c.in-Json.is c.requires
    made.0 (ap policy_facts made.1) made.2
