use Rattle.racl_io.proofs.ReportLemmas.{totals_counted}
use Rattle.racl_io.proofs.totals_and_truncation.totals_on.Goals as goal

pub returns : goal.returns
returns c = totals_counted c.args.passed _ c.args.verdicts.now c.args.captures.now _ c.requires c.without_pages.ensures c.is_truncated.ensures
