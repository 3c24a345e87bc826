use Rattle.bihash_laws.proofs.LogRuns.{is_answer, run_continues, run_grows, run_in_order}
use Rattle.bihash_laws.proofs.row_log_laws.runs_answer_in_real_time.Goals as goal

pub returns-clause-continues : goal.returns-clause-continues
returns-clause-continues c = run_continues

pub returns-clause-grows : goal.returns-clause-grows
returns-clause-grows c = run_grows

pub returns-clause-answers : goal.returns-clause-answers
returns-clause-answers c = is_answer

pub returns-clause-order : goal.returns-clause-order
returns-clause-order c = run_in_order
