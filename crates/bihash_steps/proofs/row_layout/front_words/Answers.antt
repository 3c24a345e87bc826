use Rattle.std.proofs.Common.{arith}
use Rattle.bihash_steps.proofs.Bounds.{front_is}
use Rattle.bihash_steps.proofs.row_layout.front_words.Goals as goal

pub overflow_add-result-2 : goal.overflow_add-result-2
overflow_add-result-2 g c = let f = front_is _ _ _ _ c.requires.sound c.MAX_LOG2.ensures c.MAX_LOG2-2.ensures c.lists_words.ensures in omega arith

pub returns-clause-words : goal.returns-clause-words
returns-clause-words g c = (front_is _ _ _ _ c.requires.sound c.MAX_LOG2.ensures c.MAX_LOG2-2.ensures c.lists_words.ensures).0

pub returns-clause-few : goal.returns-clause-few
returns-clause-few g c = (front_is _ _ _ _ c.requires.sound c.MAX_LOG2.ensures c.MAX_LOG2-2.ensures c.lists_words.ensures).1
