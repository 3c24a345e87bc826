use Rattle.flow_workers.proofs.HandedOver.{whole_idle}
use Rattle.flow_workers.proofs.handing_over.let_go.Goals as goal

pub returns : goal.returns
returns g c = record {
  idle = whole_idle g.A.Shape g.B.Shape c.args.tables.now c.args.share.now.callers _ c.wait_until_lone.ensures
      c.wait_until_lone-2.ensures c.requires;
  four = c.wait_until_lone.ensures;
  six = c.wait_until_lone-2.ensures;
  silent = search;
  said = search;
}
