use Rattle.std.proofs.Common.{◌≡◌, ◌<◌, ◌/◌, ℕ, length}
use Rattle.packet_view.specs.Tuples.{TupleFacts}
use Rattle.acl_policy.specs.Matching.{Matches}
use Rattle.acl_policy.specs.Rules.{rule_facts}
use Rattle.rule_index.specs.Flagged.{IsFlagsOf}
use Rattle.rule_index.specs.Rows.{bit_in}
use Rattle.rule_index.proofs.flag_rows.building_and_reading.mark_flags.Given as goal

-- the values so far are marked, and no mark is gone
abbrev pub invariant-loop-value : goal.invariant-loop-value
invariant-loop-value l =
    record {
      len : length l.rows ≡ length l.fn.rows;
      kept : (i k : ℕ) → k / 64 < l.width → bit_in l.width l.fn.rows i k ≡ 1 → bit_in l.width l.rows i k ≡ 1;
      marked : (x : ℕ) (tuple : TupleFacts) → x < l.value → IsFlagsOf tuple.fields x → Matches (rule_facts l.rule) tuple → bit_in l.width l.rows x l.place ≡ 1;
    }
