use Rattle.std.proofs.Common.{◌≡◌, ◌≢◌, ◌<◌, ◌*◌, ◌/◌, ℕ, length, map, Some}
use Rattle.std.specs.Prelude.{slice_get}
use Rattle.acl_policy.specs.Rules.{RuleFacts, rule_facts}
use Rattle.rule_index.specs.Rows.{bit_in}
use Rattle.rule_index.proofs.flag_rows.building_and_reading.mark_free.Given as goal

-- the rules so far have their bits, and no row but the first has any
abbrev pub invariant-loop-place : goal.invariant-loop-place
invariant-loop-place l =
    record {
      len : length l.rows ≡ 256 * l.width;
      first : (k : ℕ) (rule : RuleFacts) → k < l.place → slice_get (map rule_facts l.rules) k ≡ Some rule → rule.mask ≡ 0 → bit_in l.width l.rows 0 k ≡ 1;
      still : (row k : ℕ) → k / 64 < l.width → row ≢ 0 → bit_in l.width l.rows row k ≡ 0;
    }
