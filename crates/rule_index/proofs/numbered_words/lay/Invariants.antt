use Rattle.std.proofs.Common.{◌≡◌, ◌≤◌, ◌<◌, ◌+◌, ◌*◌, ℕ, length}
use Rattle.std.specs.Prelude.{slice_index}
use Rattle.rule_index.specs.Numbered.{before, KeepsOthers, Laid}
use Rattle.rule_index.proofs.numbered_words.lay.Given as goal

-- the words so far are laid, and the others have no number
abbrev pub invariant-loop-row : goal.invariant-loop-row
invariant-loop-row l =
    record {
      len : length l.numbers ≡ length l.fn.numbers;
      last : l.last ≡ before l.rows l.row;
      laid : Laid l.row l.width l.block l.rows l.numbers l.words.items;
      clear : (row : ℕ) → l.row ≤ row → row < length l.rows → slice_index l.numbers (row * l.width + l.block) ≡ 0;
      others : KeepsOthers l.width l.block l.fn.numbers l.fn.words.items l.numbers l.words.items;
    }
