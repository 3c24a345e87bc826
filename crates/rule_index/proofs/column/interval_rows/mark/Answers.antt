use Rattle.std.proofs.Common.{arith, ◌∙◌, ◌+◌, ◌/◌, length, inl}
use Rattle.rule_index.proofs.ColumnLemmas.{cell_within}
use Rattle.rule_index.proofs.TurnLemmas.{turns_set}
use Rattle.rule_index.proofs.column.interval_rows.mark.Goals as goal

pub set_bit-requires-clause-within : goal.set_bit-requires-clause-within
set_bit-requires-clause-within c =
    let cell = cell_within c.place.result (length c.args.starts.now) (c.args.rule / 64) c.args.width c.place.ensures.within c.requires.rule in
    omega (arith, cell, c.requires.rows)

pub set_bit-requires-then-behind-starts-clause-within : goal.set_bit-requires-then-behind-starts-clause-within
set_bit-requires-then-behind-starts-clause-within c =
    let cell = cell_within (c.place-behind.result + 1) (length c.args.starts.now) (c.args.rule / 64) c.args.width (omega arith) c.requires.rule in
    omega (arith, cell, c.requires.rows, c.set_bit.ensures.len)

pub returns-then-behind-starts-clause-turns : goal.returns-then-behind-starts-clause-turns
returns-then-behind-starts-clause-turns c =
    record {
      first = c.place.result;
      last = c.place-behind.result;
      begin = c.place.ensures;
      ending = c.place-behind.ensures;
      turns = turns_set (length c.args.starts.now) c.args.width c.set_bit.new.rows c.set_bit-then-behind-starts.new.rows c.args.rule c.place.result c.place-behind.result
          c.set_bit.ensures.set
          (λ row within apart. c.set_bit.ensures.others row c.args.rule c.requires.rule (inl apart) ∙ c.requires.clear row within)
          c.set_bit-then-behind-starts.ensures.set
          (λ row behind. c.set_bit-then-behind-starts.ensures.others row c.args.rule c.requires.rule (inl behind));
    }

pub returns-else-behind-starts-clause-turns : goal.returns-else-behind-starts-clause-turns
returns-else-behind-starts-clause-turns c =
    record {
      first = c.place.result;
      last = c.place-behind.result;
      begin = c.place.ensures;
      ending = c.place-behind.ensures;
      turns = record {
        begins = c.set_bit.ensures.set;
        still = λ row within apart behind. c.set_bit.ensures.others row c.args.rule c.requires.rule (inl apart) ∙ c.requires.clear row within;
      };
    }
