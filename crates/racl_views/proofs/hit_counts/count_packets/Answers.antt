use Rattle.std.proofs.Common.{◌≡◌, ◌∙◌, ◌++◌, ◌+◌, [], ◌∷◌, append-nil, arith, ap, drop, get_or, refl, subst, sym}
use Rattle.std.proofs.Math.ListN.{drop_of_length-le}
use Rattle.std.proofs.lemmas.List.{length_push}
use Rattle.packet_view.specs.CheckedCaptures.{remaining}
use Rattle.packet_view.specs.Captures.{packet_facts}
use Rattle.acl_policy.specs.Policies.{policy_facts}
use Rattle.racl_views.specs.Deciding.{AreDecided, hits_on}
use Rattle.racl_views.specs.inner.Places.{place_of}
use Rattle.racl_views.proofs.CountLemmas.{decided_more, hits_more, none_left}
use Rattle.racl_views.proofs.hit_counts.count_packets.Goals as goal

pub verdicts-preserved : goal.verdicts-preserved
verdicts-preserved c =
    let h = c.verdicts.invariant in
    let rule = c.deciding_rule.result in
    let more = length_push h.rules rule in
    record {
      rules = h.rules ++ rule ∷ [];
      goes_on = λ others after. decided_more (policy_facts c.args.policy.now) [] (remaining c.args.packets) (remaining c.verdicts.left) (remaining c.next.new.self)
          (packet_facts c.in-Some.packet) c.args.verdicts.now c.verdicts.verdict-index _ h.rules others rule c.verdicts-test.true c.in-Some.ensures
          c.deciding_rule.ensures.decided h.goes_on after;
      counted = λ name small.
          let now = c.in_ok-count_decided.ensures.counted name small in
          let old = h.counted name small in
          let one = hits_more name h.rules rule in
          omega arith;
      few = λ place. let now = c.in_ok-count_decided.ensures.few place in let old = h.few place in omega arith;
      within = let old = h.within in omega arith;
      most = let old = h.within in let below = c.verdicts-test.true in omega arith;
    }

pub returns : goal.returns
returns c =
    let h = c.verdicts.invariant in
    let policy = policy_facts c.args.policy.now in
    let left : drop c.verdicts.verdict-index c.args.verdicts.now ≡ [] = drop_of_length-le c.args.verdicts.now c.verdicts-test.false in
    record {
      rules = h.rules ++ [];
      decided = h.goes_on [] (subst (λ vs. AreDecided policy (remaining c.verdicts.left) vs []) (sym left) (none_left policy (remaining c.verdicts.left)));
      counted = λ name small. h.counted name small ∙ ap (λ rs. get_or c.args.counts.now.items (place_of name) 0 + hits_on name rs) (sym (append-nil h.rules));
      few = λ place. let few = h.few place in let most = h.most in omega arith;
    }

pub returns-in_default : goal.returns-in_default
returns-in_default c =
    let h = c.verdicts.invariant in
    let policy = policy_facts c.args.policy.now in
    record {
      rules = h.rules ++ [];
      decided = h.goes_on [] (subst (λ ps. AreDecided policy ps (drop c.verdicts.verdict-index c.args.verdicts.now) []) (sym c.in_default.ensures.0) refl);
      counted = λ name small. h.counted name small ∙ ap (λ rs. get_or c.args.counts.now.items (place_of name) 0 + hits_on name rs) (sym (append-nil h.rules));
      few = λ place. let few = h.few place in let most = h.most in omega arith;
    }
