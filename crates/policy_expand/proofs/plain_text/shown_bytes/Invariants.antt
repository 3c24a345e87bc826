use Rattle.std.proofs.Common.{◌≡◌, map, take}
use Rattle.policy_expand.specs.Texts.{shown}
use Rattle.policy_expand.proofs.plain_text.shown_bytes.Given as goal

-- The bytes so far are shown.
abbrev pub invariant-loop-byte : goal.invariant-loop-byte
invariant-loop-byte l = l.out.items ≡ map shown (take l.byte-index l.bytes)
