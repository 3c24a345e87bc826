use Rattle.std.proofs.Common.{[]}
use Rattle.acl_policy.specs.Words.{words_of}
use Rattle.policy_check.proofs.FormLemmas.{both_right, both_wrong}
use Rattle.policy_check.proofs.port_and_flag_findings.after_both.Goals as goal

pub returns-in-Ok : goal.returns-in-Ok
returns-in-Ok c =
    let words = words_of c.args.text.now in
    let more = words_of c.in-Ok.text.now in
    let used = c.in-Ok.ensures.right in
    let second = c.after_range-in-Ok in
    record {
      right = both_right (λ rest. words_of rest.now) words more used.0 second.result used.1 second.ensures.right;
      wrong = both_wrong (λ f. f.reason) (λ f. f.word.now) words more used.0 c.args.one.now c.args.two.now c.args.most second.result used.1 second.ensures.wrong;
    }

pub returns-in-Err : goal.returns-in-Err
returns-in-Err c = record { right = tt; wrong = λ parts has other. c.in-Err.ensures.wrong parts [] has }
