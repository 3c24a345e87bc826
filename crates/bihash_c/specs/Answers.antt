-- The numbers that C is told, and what they carry (the header names them).
use Rattle.std.specs.Prelude.{ℕ, Option, Some, None, Result, Ok, Err}
use Rattle.bihash_words.specs.declared.patch.Reply.{Reply}
use Rattle.bihash_words.specs.declared.patch.Reply.TheVariants.{Kept, Changed, Worn, Full, NoPages}
use Rattle.bihash_steps.specs.declared.split_fault.SplitFault as Split
use Rattle.bihash_steps.specs.declared.split_fault.SplitFault.TheVariants as SplitFaults
use Rattle.bihash_table.specs.declared.contended.Contended.{Contended}
use Rattle.bihash_c.specs.declared.answer_numbers.Answer.{Answer}
use Rattle.bihash_c.specs.declared.answer_numbers.Stamp.{Stamp}
use Rattle.bihash_c.specs.declared.end_of_table.EndFault as End
use Rattle.bihash_c.specs.declared.end_of_table.EndFault.TheVariants as EndFaults

-- an answer that carries no value
abbrev pub bare : ℕ → Answer
bare kind = record { kind = kind; value = 0; log2 = 0 }

-- the one kind where there was no value, the other with the value
abbrev pub value_told : Option ℕ → ℕ → ℕ → Answer
value_told None none some = bare none
value_told (Some value) none some = record { kind = some; value = value; log2 = 0 }

-- the answer for what a try came to
abbrev pub answer_of : Result Reply Contended → Answer
answer_of (Ok (Kept found)) = value_told found 0 1
answer_of (Ok (Changed found)) = value_told found 2 3
answer_of (Ok (Worn found)) = value_told found 4 5
answer_of (Ok Full) = bare 6
answer_of (Ok (NoPages log2 left)) = record { kind = 7; value = left; log2 = log2 }
answer_of (Err refused) = bare 8

-- the same of a search
abbrev pub search_answer_of : Result (Option ℕ) Contended → Answer
search_answer_of (Ok found) = value_told found 0 1
search_answer_of (Err refused) = bare 8

-- the same of a look for an expired pair: none, or what its removal came to
abbrev pub expire_answer_of : Result (Option Reply) Contended → Answer
expire_answer_of (Ok None) = bare 0
expire_answer_of (Ok (Some reply)) = answer_of (Ok reply)
expire_answer_of (Err refused) = bare 8

-- the numbers of refusals: memory, numbers, contended, strangers
abbrev pub split_number : Split.SplitFault → ℕ
split_number SplitFaults.Memory = 9
split_number SplitFaults.Numbers = 10
split_number SplitFaults.Contended = 8

abbrev pub end_number : End.EndFault → ℕ
end_number EndFaults.Strangers = 11
end_number EndFaults.Contended = 8
end_number EndFaults.Memory = 9

-- a bucket and a stamp, where there is a last call
abbrev pub stamp_told : Option (ℕ × ℕ) → Stamp
stamp_told None = record { known = 0; bucket = 0; stamp = 0 }
stamp_told (Some at) = record { known = 1; bucket = at.0; stamp = at.1 }
