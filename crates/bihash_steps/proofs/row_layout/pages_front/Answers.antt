use Rattle.bihash_steps.proofs.Bounds.{pages_are}
use Rattle.bihash_steps.proofs.row_layout.pages_front.Goals as goal

pub returns-clause-words : goal.returns-clause-words
returns-clause-words g c = (pages_are _ _ _ c.requires.sound c.front_words.ensures.words c.front_words.ensures.few c.LOG2_BUCKETS.ensures).0

pub returns-clause-few : goal.returns-clause-few
returns-clause-few g c = (pages_are _ _ _ c.requires.sound c.front_words.ensures.words c.front_words.ensures.few c.LOG2_BUCKETS.ensures).1
