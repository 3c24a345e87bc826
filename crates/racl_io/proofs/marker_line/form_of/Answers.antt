use Rattle.racl_io.proofs.InputLemmas.{no_form, no_number}
use Rattle.racl_io.proofs.marker_line.form_of.Goals as goal

pub returns-in-Every-clause-none : goal.returns-in-Every-clause-none
returns-in-Every-clause-none c = no_form c.args.marks c.args.word.now c.plain_form.result c.in_default.ensures.none c.plain_form.ensures.none

pub returns-in-Numbers-clause-none : goal.returns-in-Numbers-clause-none
returns-in-Numbers-clause-none c = no_number c.args.marks c.args.word.now c.in-Numbers.is c.in_default.ensures.none
