use Rattle.std.proofs.Common.{ap, length, subst, ◌↔◌}
use Rattle.std.specs.Prelude.{IsTrue, nat_lt}
use Rattle.racl_system.specs.inner.MergedFiles.{IsNoWholeRecord}
use Rattle.racl_system.proofs.MergeLemmas.{wants_header, wants_record}
use Rattle.racl_system.proofs.merged_files.MergedFile.wants_more.Goals as goal

pub returns-in-None : goal.returns-in-None
returns-in-None g c = wants_header c.args.self.now.ended _ c.args.self.now.order _ c.if-self.false c.in-None.is (ap (λ bytes. nat_lt (length bytes) 24) c.rest.ensures)

pub returns-in-Some : goal.returns-in-Some
returns-in-Some g c =
    wants_record c.args.self.now.ended c.is_cut_short.result c.args.self.now.order c.in-Some.order _ c.if-self.false c.in-Some.is
    (subst (λ bytes. IsTrue c.is_cut_short.result ↔ IsNoWholeRecord c.in-Some.order bytes) c.rest-in-Some.ensures c.is_cut_short.ensures)
