use Rattle.std.proofs.Common.{◌≡◌, ◌∙◌, ◌∷◌, Some, ap, map, rules, subst, sym}
use Rattle.std.specs.Prelude.{count_by, option_map}
use Rattle.clap.specs.Walk.{Text}
use Rattle.racl_options.specs.declared.settings.CaptureFile.{CaptureFile}
use Rattle.racl_options.specs.Origins.{capture_facts, is_standard}
use Rattle.racl_options.proofs.NameLemmas.{AreApart, apart_by_name, too_many_streams}
use Rattle.racl_options.proofs.named_files.interfaces_named.Goals as goal

pub returns-then-streams-from : goal.returns-then-streams-from
returns-then-streams-from c origin says =
    let apart = apart_by_name _ _ _ _ origin says c.in-Ok.ensures in
    let same : Some c.in-Some.policy.now ≡ Some apart.0 = sym (ap (option_map (λ p. p.now)) c.in-Some.is) ∙ apart.1 in
    let policy : c.in-Some.policy.now ≡ apart.0 = cc in
    let counted = c.streams.ensures ∙ ap (count_by (λ (f : CaptureFile). is_standard f.name.now)) c.deref.ensures.value in
    too_many_streams c.in-Some.policy.now c.in-Ok.captures.items c.streams.result c.from.result counted (search rules) c.if-streams-from.true
    (subst (λ (p : Text). AreApart (p ∷ map (λ f. f.name) (map capture_facts c.in-Ok.captures.items))) (sym policy) apart.2)
