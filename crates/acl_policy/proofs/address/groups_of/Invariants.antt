use Rattle.std.proofs.Common.{◌≡◌, ◌<◌, ◌^◌, ◌-◌}
use Rattle.acl_policy.specs.inner.WordReading.Prefixes.{groups_after}
use Rattle.acl_policy.proofs.address.groups_of.Given as goal

-- The groups that are left go on from the number that those so far make.
abbrev pub invariant-loop-count : goal.invariant-loop-count
invariant-loop-count l = record {
  fits : l.number < 65536 ^ l.count;
  value : groups_after (8 - l.count) l.number l.count l.rest ≡ groups_after 8 0 0 l.text;
}
