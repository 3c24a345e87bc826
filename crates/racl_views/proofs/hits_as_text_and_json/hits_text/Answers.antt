use Rattle.std.proofs.Common.{◌≡◌, ◌∙◌, [], arith, max, refl, rules, subst}
use Rattle.std.proofs.lemmas.Result.{IfOk-weaker}
use Rattle.acl_policy.specs.Policies.{policy_facts}
use Rattle.packet_view.specs.CheckedCaptures.{remaining}
use Rattle.racl_views.specs.Hits.{IsHits, latest_second}
use Rattle.racl_views.specs.RunEntries.{run_facts}
use Rattle.racl_views.specs.Stored.{stored_facts}
use Rattle.racl_views.proofs.hits_as_text_and_json.hits_text.Goals as goal

pub count-requires : goal.count-requires
count-requires c = record {
  policy = policy_facts c.args.run.policy.now;
  packets = [];
  verdicts = [];
  have = c.new-counts.ensures (policy_facts c.args.run.policy.now);
  each = refl;
  fits = search rules;
}

pub returns : goal.returns
returns c =
    let latest = latest_second (remaining c.args.run.packets) in
    let first : max 0 latest ≡ latest = omega arith in
    IfOk-weaker c.counted_hits_text.result _ _
    (λ told all is.
    subst (λ n. IsHits c.args.view c.args.times n (run_facts c.args.run) (stored_facts c.args.stored.now) told.items) (c.latest_second-latest.ensures ∙ first)
    (all (run_facts c.args.run) c.args.times c.latest_second-latest.result (stored_facts c.args.stored.now) refl is (c.in_ok-count.ensures [] [] (c.new-counts.ensures (policy_facts c.args.run.policy.now)) refl) c.count_sessions-sessions.ensures))
    c.counted_hits_text.ensures
