use Rattle.racl_options.proofs.NameLemmas.{all_named, none_named}
use Rattle.racl_options.proofs.named_files.captures_named.Goals as goal

pub returns-in_default : goal.returns-in_default
returns-in_default c captures are =
    let left = c.values.invariant.left captures are in
    none_named c.values.rest.now _ left.0 left.1 c.values-test.ensures c.in_default.ensures.none

pub returns : goal.returns
returns c = all_named _ c.values.rest.now _ c.values.invariant.sound c.values-test.ensures
