use Rattle.std.proofs.Common.{◌≡◌, ◌+◌, ◌*◌, ◌≤◌, ◌++◌, ◌∷◌, get_or, length, take}
use Rattle.std.specs.Net.Text.{groups_text}
use Rattle.packet_words.proofs.address_text.push_address_groups.Given as goal

-- the groups so far
abbrev pub invariant-others : goal.invariant-others
invariant-others l = record {
  told : l.piece ≡ l.fn.piece ++ groups_text (get_or l.groups 0 0 ∷ take l.group-index l.rest);
  short : length l.piece ≤ length l.fn.piece + 4 + 5 * l.group-index;
}
