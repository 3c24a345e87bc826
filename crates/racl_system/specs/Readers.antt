-- What is read by a name (this project's profile).
use Rattle.std.specs.Prelude.{◌≡◌, ◌<◌, ℕ, zero, suc, List, Option, IfSome, length}
use Rattle.racl_io.specs.Inputs.{most_bytes}
use Rattle.racl_system.specs.declared.named_reader.Reader.{Reader}
use Rattle.racl_system.specs.declared.named_reader.Reader.TheVariants.{Standard, File}

-- the bytes that standard input or a file has left, where they are known
abbrev pub left_in : {S F : Type 0} → (S → Option (List ℕ)) → (F → Option (List ℕ)) → Reader S F → Option (List ℕ)
left_in standard file (Standard reader) = standard reader
left_in standard file (File reader) = file reader

-- the status where the policy of a live run can't be had: 1 where its text, as far as it is known, has more bytes than an
-- input may have, and else 4
abbrev pub IsLiveStatus : Option (List ℕ) → ℕ → Type 0
IsLiveStatus text (suc zero) = IfSome text (λ all. most_bytes < length all)
IsLiveStatus text status = status ≡ 4
