-- What C asks for when a judge is made: the struct's own size, which tables, and timeouts of a second at least. A program may know
-- more of the struct than this, and the rest of its bytes are 0 then.
use Rattle.std.specs.Prelude.{◌≡◌, ◌≢◌, ◌<◌, ◌+◌, ◌⊎◌, ℕ, Bool, true, false, List, length, EachIndex, slice_index, Option, None, Some}
use Rattle.racl_c.specs.declared.options.Choice.{Choice}
use Rattle.racl_c.specs.declared.options.Options.{Options}

abbrev pub tables_number : Bool → ℕ
tables_number false = 0
tables_number true = 1

-- the bytes behind those that are known ask for nothing
abbrev pub AskNothing : List ℕ → Type 0
AskNothing rest = EachIndex rest (λ k. slice_index rest k ≡ 0)

-- this was asked for
pub record IsChoice (o : Options) (rest : List ℕ) (choice : Choice) : Type 0 where
  pub size : o.size ≡ 20 + length rest
  pub more : AskNothing rest
  pub tables : o.tables ≡ tables_number choice.is_large
  pub established : choice.times.established ≡ o.established
  pub transient : choice.times.transient ≡ o.transient
  pub udp : choice.times.udp ≡ o.udp

-- it is said, or something isn't right
abbrev pub ChoiceTold : Options → (rest : List ℕ) → Option Choice → Type 0
ChoiceTold o rest (Some choice) = IsChoice o rest choice
ChoiceTold o rest None = (o.size ≢ 20 + length rest) ⊎ ((AskNothing rest → ⊥)
    ⊎ ((1 < o.tables) ⊎ ((o.established ≡ 0) ⊎ ((o.transient ≡ 0) ⊎ (o.udp ≡ 0)))))
