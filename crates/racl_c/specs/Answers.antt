-- The numbers that C is told, and what they carry (the header names them).
use Rattle.std.specs.Prelude.{ℕ, Bool, true, false, Option, Some, None, Result, Ok, Err}
use Rattle.acl_policy.specs.declared.policy.PolicyFault.{PolicyFault}
use Rattle.acl_policy.specs.declared.policy.PolicyFault.TheVariants as Faults
use Rattle.bihash_steps.specs.declared.split_fault.SplitFault.{SplitFault}
use Rattle.bihash_steps.specs.declared.split_fault.SplitFault.TheVariants as SplitFaults
use Rattle.bihash_table.specs.declared.contended.Contended.{Contended}
use Rattle.packet_view.specs.declared.tuple.Direction.{Direction}
use Rattle.packet_view.specs.declared.tuple.Direction.TheVariants.{Inbound, Outbound}
use Rattle.bihash_words.specs.declared.patch.Reply.{Reply}
use Rattle.bihash_words.specs.declared.patch.Reply.TheVariants as replies
use Rattle.session_state.specs.Passes.{passes}
use Rattle.session_state.specs.declared.verdict.Verdict.{Verdict}
use Rattle.session_state.specs.declared.verdict.Verdict.TheVariants.{ByDefault, Deny, Full, Malformed, NoPages, NotIp, Permit, Reflect, Session, Short, Worn}
use Rattle.flow_judge.specs.declared.end_fault.EndFault.{EndFault}
use Rattle.flow_judge.specs.declared.end_fault.EndFault.TheVariants as EndFaults
use Rattle.flow_judge.specs.declared.judged.Judged.{Judged}
use Rattle.flow_judge.specs.declared.take_fault.TakeFault.{TakeFault}
use Rattle.flow_judge.specs.declared.take_fault.TakeFault.TheVariants as TakeFaults
use Rattle.racl_c.specs.declared.answer_numbers.Answer.{Answer}
use Rattle.racl_c.specs.declared.answer_numbers.Made.{Made}

abbrev pub kind_and_rule : Verdict → ℕ × ℕ
kind_and_rule Session = (16, 0)
kind_and_rule (Reflect rule) = (17, rule)
kind_and_rule (Permit rule) = (18, rule)
kind_and_rule (Deny rule) = (19, rule)
kind_and_rule ByDefault = (20, 0)
kind_and_rule Worn = (21, 0)
kind_and_rule Full = (22, 0)
kind_and_rule NoPages = (23, 0)
kind_and_rule NotIp = (24, 0)
kind_and_rule Malformed = (25, 0)
kind_and_rule Short = (26, 0)

abbrev pub one_if : Bool → ℕ
one_if true = 1
one_if false = 0

abbrev pub way_number : Option Direction → ℕ
way_number None = 0
way_number (Some Inbound) = 1
way_number (Some Outbound) = 2

-- the answer for what a frame's judging came to
abbrev pub answer_of : Result Judged Contended → Answer
answer_of (Ok judged) = record {
  kind = (kind_and_rule judged.verdict).0;
  rule = (kind_and_rule judged.verdict).1;
  passes = one_if (passes judged.verdict);
  direction = way_number judged.direction;
}
answer_of (Err refused) = record { kind = 7; rule = 0; passes = 0; direction = 0 }

-- the number for a look at a bucket for a session that has ended: none has, one went, or the bucket takes no more writes
abbrev pub ended_number : Result (Option Reply) Contended → ℕ
ended_number (Ok None) = 0
ended_number (Ok (Some (replies.Changed old))) = 9
ended_number (Ok (Some (replies.Kept old))) = 21
ended_number (Ok (Some (replies.Worn old))) = 21
ended_number (Ok (Some replies.Full)) = 21
ended_number (Ok (Some (replies.NoPages log2 left))) = 21
ended_number (Err refused) = 7

-- the answer for a policy's fault
abbrev pub fault_told : PolicyFault → Made
fault_told Faults.Memory = record { kind = 1; line = 0 }
fault_told Faults.NotUtf8 = record { kind = 2; line = 0 }
fault_told (Faults.BadLine line) = record { kind = 3; line = line }
fault_told (Faults.TooMany line) = record { kind = 4; line = line }

abbrev pub split_number : SplitFault → ℕ
split_number SplitFaults.Memory = 1
split_number SplitFaults.Numbers = 6
split_number SplitFaults.Contended = 7

abbrev pub end_number : EndFault → ℕ
end_number EndFaults.Memory = 1
end_number EndFaults.Strangers = 8
end_number EndFaults.Contended = 7

abbrev pub take_number : TakeFault → ℕ
take_number TakeFaults.Memory = 1
take_number TakeFaults.Strangers = 8
