-- The kinds of tables: keys of two words or of five, of the usual size or large.
use Rattle.std.specs.Prelude.{ℕ, List, take}
use Rattle.bihash_words.specs.Sizes.{Sizes, sizes_of}
use Rattle.bihash_words.specs.contracts.flow_shapes.ShapeV4Shape.TheImpl as shape_v4
use Rattle.bihash_words.specs.contracts.flow_shapes.ShapeV6Shape.TheImpl as shape_v6
use Rattle.bihash_words.specs.declared.flow_shapes.ShapeV4.{ShapeV4}
use Rattle.bihash_words.specs.declared.flow_shapes.ShapeV6.{ShapeV6}
use Rattle.bihash_words.specs.declared.shape.Shape.{Ghosts}
use Rattle.bihash_words.specs.contracts.large_flow_shapes.LargeV4Shape.TheImpl as large_v4
use Rattle.bihash_words.specs.contracts.large_flow_shapes.LargeV6Shape.TheImpl as large_v6
use Rattle.bihash_words.specs.declared.large_flow_shapes.LargeV4.{LargeV4}
use Rattle.bihash_words.specs.declared.large_flow_shapes.LargeV6.{LargeV6}
use Rattle.bihash_c.specs.declared.pair.Key.{Key}
use Rattle.bihash_c.specs.declared.options.Kind.{Kind}
use Rattle.bihash_c.specs.declared.options.Kind.TheVariants.{Two, LargeTwo, Five, LargeFive}

-- the type of a kind's shape
abbrev pub Shaped : Kind → Type 0
Shaped Two = ShapeV4
Shaped LargeTwo = LargeV4
Shaped Five = ShapeV6
Shaped LargeFive = LargeV6

-- the shape of a kind's tables
abbrev pub shape_of : (kind : Kind) → Ghosts (Shaped kind) (List ℕ)
shape_of Two = shape_v4.ghosts
shape_of LargeTwo = large_v4.ghosts
shape_of Five = shape_v6.ghosts
shape_of LargeFive = large_v6.ghosts

-- the sizes of a kind's tables
abbrev pub sizes_in : Kind → Sizes
sizes_in kind = sizes_of (shape_of kind)

-- the words of a key that a kind's tables see
abbrev pub words_in : Kind → Key → List ℕ
words_in Two key = take 2 key.words
words_in LargeTwo key = take 2 key.words
words_in Five key = key.words
words_in LargeFive key = key.words
