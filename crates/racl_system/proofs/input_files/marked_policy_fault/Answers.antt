use Rattle.racl_system.proofs.input_files.marked_policy_fault.Goals as goal

pub returns-in-None-clause-none : goal.returns-in-None-clause-none
returns-in-None-clause-none c = λ parts is. absurd (c.in-None.ensures.none parts is)
