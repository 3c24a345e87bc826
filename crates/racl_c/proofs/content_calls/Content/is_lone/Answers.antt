-- What was told of the judge over large tables is told of what is there.
use Rattle.std.specs.Prelude.{◌≡◌, ℕ}
use Rattle.std.proofs.Common.{subst, sym}
use Rattle.bihash_words.specs.contracts.flow_shapes.ShapeV4Shape.TheImpl as four
use Rattle.bihash_words.specs.contracts.flow_shapes.ShapeV6Shape.TheImpl as six
use Rattle.bihash_words.specs.contracts.large_flow_shapes.LargeV4Shape.TheImpl as large_four
use Rattle.bihash_words.specs.contracts.large_flow_shapes.LargeV6Shape.TheImpl as large_six
use Rattle.flow_filter.specs.OneThread.{Layout, layout_of}
use Rattle.flow_judge.specs.JudgeStates.{JudgeState}
use Rattle.racl_c.specs.Contents.{Calls}
use Rattle.racl_c.specs.Meetings.{LoneTold}
use Rattle.racl_c.specs.declared.content_calls.Content.{Content}
use Rattle.racl_c.specs.declared.content_calls.Content.TheVariants.{Large}
use Rattle.racl_c.proofs.content_calls.Content.is_lone.Goals as goal

told_of_large : (l m : Layout) (answer : ℕ) (x : Content) (s t : JudgeState) → x ≡ Large s → LoneTold m answer s t
    → Calls x (Large t) (LoneTold l answer) (LoneTold m answer)
told_of_large l m answer x s t is told = subst (λ (y : Content). Calls y (Large t) (LoneTold l answer) (LoneTold m answer)) (sym is) told

pub returns-in-Large : goal.returns-in-Large
returns-in-Large c =
    told_of_large (layout_of four.ghosts six.ghosts) (layout_of large_four.ghosts large_six.ghosts) c.lone_answer-in-Large.result
    c.args.self.now c.in-Large.judge c.is_lone-in-Large.new.self c.in-Large.is
    (record { is_lone = c.is_lone-in-Large.result; is = c.is_lone-in-Large.ensures; same = c.lone_answer-in-Large.ensures })
