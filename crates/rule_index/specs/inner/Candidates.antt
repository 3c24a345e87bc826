-- The rows of bits for one packet.
use Rattle.std.specs.Prelude.{◌≤◌, ℕ, List, length}
use Rattle.acl_policy.specs.Rules.{RuleFacts}
use Rattle.packet_view.specs.Tuples.{TupleFacts}
use Rattle.rule_index.specs.declared.first_candidate.Candidates.{Candidates}
use Rattle.rule_index.specs.inner.NumberedRows.{words_of}
use Rattle.rule_index.specs.inner.Sieves.{Sifts}
use Rattle.std.specs.Option.{ForSome}

-- Each of the rows has the bit of each rule that matches.
pub record AllSift (rules : List RuleFacts) (tuple : TupleFacts) (rows : Candidates) : Type 0 where
  pub source : Sifts rules tuple (words_of rows.source)
  pub dest : Sifts rules tuple (words_of rows.dest)
  pub protocol : Sifts rules tuple (words_of rows.protocol)
  pub first : Sifts rules tuple (words_of rows.first)
  pub second : Sifts rules tuple (words_of rows.second)
  pub flags : ForSome rows.flags (λ flags. Sifts rules tuple flags.now)

-- Each of the rows has this many words at least.
pub record AreLong (rows : Candidates) (words : ℕ) : Type 0 where
  pub source : words ≤ length rows.source.numbers.now
  pub dest : words ≤ length rows.dest.numbers.now
  pub protocol : words ≤ length rows.protocol.numbers.now
  pub first : words ≤ length rows.first.numbers.now
  pub second : words ≤ length rows.second.numbers.now
  pub flags : ForSome rows.flags (λ flags. words ≤ length flags.now)
