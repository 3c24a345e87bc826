use Rattle.std.proofs.Common.{◌≡◌, List, map, subst}
use Rattle.std.specs.Io.KnownBytes.{Appends}
use Rattle.acl_policy.specs.Policies.{policy_facts}
use Rattle.session_state.specs.declared.verdict.Verdict.{Verdict}
use Rattle.compared_verdicts.specs.Meeting.{are_met, told_of, totals_alone}
use Rattle.packet_questions.specs.Answers.{asked_facts}
use Rattle.packet_questions.proofs.compared_answers.compare_answers.Goals as goal

pub returns-in-Ok-write_compared-clause-ok : goal.returns-in-Ok-write_compared-clause-ok
returns-in-Ok-write_compared-clause-ok g c =
    let judged = c.in-Ok-judged_in.judged in
    let expectations = c.args.expectations.now in
    let old = g.W.Sink.bytes c.args.writer.now in
    let new = g.W.Sink.bytes c.write_compared.new.writer in
    let same : c.deref.result.now ≡ judged.verdicts.items = c.deref.ensures.value in
    record {
      judged = record {
        policy = policy_facts c.in-Ok.filter.policy;
        says = c.in-Ok.ensures.ok.0;
        asked = map asked_facts judged.asked.items;
        times = c.in-Ok.filter.times;
        lives = c.in-Ok.ensures.ok.1;
        verdicts = judged.verdicts.items;
        are = c.in-Ok-judged_in.ensures.ok;
      };
      told = subst (λ (v : List Verdict). Appends old new (told_of expectations v (totals_alone v))) same c.in-Ok-write_compared.ensures.told;
      met_is = subst (λ (v : List Verdict). c.in-Ok-write_compared.met ≡ are_met expectations v (totals_alone v)) same c.in-Ok-write_compared.ensures.met;
    }
