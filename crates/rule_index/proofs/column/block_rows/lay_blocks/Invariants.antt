use Rattle.std.proofs.Common.{◌≡◌, ◌≤◌, ◌<◌, ◌+◌, ◌*◌, ℕ, length}
use Rattle.std.specs.Prelude.{slice_index}
use Rattle.rule_index.specs.Numbered.{AreOf, AreWords}
use Rattle.rule_index.specs.inner.Columns.{IsBlockLaid}
use Rattle.rule_index.proofs.column.block_rows.lay_blocks.Given as goal

-- the words so far are laid, and the others have no number
abbrev pub invariant-loop-block : goal.invariant-loop-block
invariant-loop-block l =
    record {
      len : length l.numbers ≡ length l.starts * l.width;
      words : AreWords l.words.items;
      within : AreOf l.numbers l.words.items;
      laid : (block : ℕ) → block < l.block → IsBlockLaid l.starts l.ranges l.width block l.numbers l.words.items;
      clear : (row block : ℕ) → l.block ≤ block → block < l.width → row < length l.starts → slice_index l.numbers (row * l.width + block) ≡ 0;
    }
