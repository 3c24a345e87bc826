-- The word that asks for a shard of a capture (this project's profile).
use Rattle.std.specs.Prelude.{◌≡◌, ◌≤◌, ◌++◌, ℕ, List, ◌∷◌, Option, Some, None}
use Rattle.clap.specs.Words.{Text}
use Rattle.acl_policy.specs.Numerals.{IsNumber}
use Rattle.racl_options.specs.declared.settings.ShardAsked.{ShardAsked}

-- which shard is asked for, of how many; from 1
pub record ShardFacts : Type 0 where
  pub number : ℕ
  pub count : ℕ

abbrev pub shard_facts : ShardAsked → ShardFacts
shard_facts asked = record { number = asked.number; count = asked.count }

-- a shard's number, a slash, and how many shards there are, as decimal numbers
pub record IsShardWord (word : List ℕ) (number count : ℕ) : Type 0 where
  pub first : List ℕ
  pub second : List ℕ
  pub spelt : word ≡ first ++ 47 ∷ second
  pub number_is : IsNumber first number
  pub count_is : IsNumber second count
  pub some : 1 ≤ number
  pub among : number ≤ count
  pub few : count ≤ 1024

-- the value of `--shard` asks for this shard; without one it is none
abbrev pub AskForShard : Option Text → Option ShardFacts → Type 0
AskForShard None None = Unit {0}
AskForShard None (Some shard) = ⊥
AskForShard (Some word) None = ⊥
AskForShard (Some word) (Some shard) = IsShardWord word shard.number shard.count
