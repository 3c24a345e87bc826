use Rattle.std.proofs.Common.{◌≡◌, ◌<◌, ◌*◌, ℕ, length, map, Some}
use Rattle.std.specs.Prelude.{slice_get}
use Rattle.packet_view.specs.Tuples.{TupleFacts}
use Rattle.acl_policy.specs.Matching.{Matches}
use Rattle.acl_policy.specs.Rules.{RuleFacts, rule_facts}
use Rattle.rule_index.specs.FlagBits.{HaveFree}
use Rattle.rule_index.specs.Flagged.{IsFlagsOf}
use Rattle.rule_index.specs.Rows.{bit_in}
use Rattle.rule_index.proofs.flag_rows.building_and_reading.mark_asking.Given as goal

-- the rules so far have their bits, and so do all that ask for no flags
abbrev pub invariant-loop-place : goal.invariant-loop-place
invariant-loop-place l =
    record {
      len : length l.rows ≡ 256 * l.width;
      free : HaveFree (map rule_facts l.rules) l.width l.rows;
      held : (k x : ℕ) (rule : RuleFacts) (tuple : TupleFacts) → k < l.place → slice_get (map rule_facts l.rules) k ≡ Some rule → x < 256
          → IsFlagsOf tuple.fields x → Matches rule tuple → bit_in l.width l.rows x k ≡ 1;
    }
