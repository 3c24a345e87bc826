use Rattle.std.proofs.Common.{◌≡◌, length}
use Rattle.std.specs.List.{list_all}
use Rattle.policy_expand.specs.Visible.{is_ink}
use Rattle.policy_expand.proofs.word_reading.is_ink_alone.Given as goal

-- what is left decides
abbrev pub invariant-bytes : goal.invariant-bytes
invariant-bytes l = list_all is_ink l.rest ≡ list_all is_ink l.word

abbrev pub decreases-bytes : goal.decreases-bytes
decreases-bytes l = length l.rest
