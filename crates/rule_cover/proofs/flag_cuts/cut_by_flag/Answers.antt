use Rattle.std.proofs.Common.{◌*◌, ◌%◌, ◌^◌}
use Rattle.std.proofs.lemmas.Nat.{one_shl}
use Rattle.rule_cover.proofs.CutLemmas.{flag_cut}
use Rattle.rule_cover.proofs.flag_cuts.cut_by_flag.Goals as goal

pub returns : goal.returns
returns c = flag_cut c.args.numbers.now c.args.flag ((1 * 2 ^ c.args.flag) % 2 ^ 8) (one_shl c.args.flag 8 c.requires)
