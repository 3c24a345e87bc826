-- What the callers of both families' tables know.
use Rattle.packet_view.specs.declared.tuple.Family.{Family}
use Rattle.packet_view.specs.declared.tuple.Family.TheVariants.{V4, V6}
use Rattle.bihash_rule.specs.declared.view.View.{View}

pub record Views : Type 0 where
  pub four : View
  pub six : View

abbrev pub view_in : Views → Family → View
view_in v V4 = v.four
view_in v V6 = v.six
