use Rattle.std.proofs.Common.{◌+◌, ap, arith, refl, subst, sym}
use Rattle.packet_view.specs.Captures.{packet_facts}
use Rattle.flow_dealing.specs.Dealt.{HasFlow, IsDealtTo}
use Rattle.flow_dealing.specs.declared.dealer.Dealer.{Dealer}
use Rattle.flow_workers.specs.Callers.{AreIdle}
use Rattle.flow_workers.proofs.DealtLemmas.{worked_on}
use Rattle.flow_workers.proofs.TogetherLemmas.{next_worked}
use Rattle.flow_workers.proofs.judge_in_one_thread.judge_next.Goals as goal

pub age_where_due-requires : goal.age_where_due-requires
age_where_due-requires g c =
    let batch = c.args.batch.now in
    let worker = c.worker_of_packet-worker.result in
    let workers = ap (λ (d : Dealer). d.workers) c.dealer-dealer.ensures in
    let few = c.worker_of_packet-worker.ensures.one in
    let counted = c.requires.count in
    record {
      shapes = c.requires.shapes;
      few = omega arith;
      idle = subst (λ s. AreIdle g.A.Shape g.B.Shape batch.setup.tables.now s.callers) (sym c.index_mut-share.ensures.value)
          (c.requires.idle worker c.index_mut-share.result.now (omega arith));
      packet = packet_facts c.args.packet.now;
      there = c.requires.there;
      timed = refl;
    }

pub judge_other-requires : goal.judge_other-requires
judge_other-requires g c =
    let batch = c.args.batch.now in
    let packet = packet_facts c.args.packet.now in
    let worker = c.worker_of_packet-worker.result in
    let workers = ap (λ (d : Dealer). d.workers) c.dealer-dealer.ensures in
    let few = c.worker_of_packet-worker.ensures.one in
    record {
      packet = packet;
      is = c.see_other-other.ensures;
      may = record {
        shapes = c.requires.shapes;
        few = omega arith;
        idle = c.age_where_due.ensures.idle;
        fits = c.requires.fits;
        there = c.requires.there;
        mine = subst (λ d. IsDealtTo g.A.Shape g.B.Shape d (batch.first + c.args.at) packet worker) c.dealer-dealer.ensures
            (c.worker_of_packet-worker.ensures.dealt packet c.see_other-other.ensures.flow);
      };
    }

pub returns-in_default : goal.returns-in_default
returns-in_default g c =
    let batch = c.args.batch.now in
    let packet = packet_facts c.args.packet.now in
    let dealer = c.dealer-dealer.ensures in
    let worker = c.worker_of_packet-worker.result in
    let workers = ap (λ (d : Dealer). d.workers) dealer in
    let few = c.worker_of_packet-worker.ensures.one in
    let counted = c.requires.count in
    let dealt = subst (λ d. IsDealtTo g.A.Shape g.B.Shape d (batch.first + c.args.at) packet worker) dealer
    (c.worker_of_packet-worker.ensures.dealt packet c.see_other-other.ensures.flow) in
    record {
      worked = next_worked g.A.Shape g.B.Shape batch c.args.at worker packet c.args.shares.now.items c.index_mut-share.result.now
          c.judge_other.new.share c.requires.idle c.requires.there dealt (omega arith)
          (sym c.index_mut-share.ensures.value)
          (worked_on g.A.Shape g.B.Shape batch worker c.args.at c.args.at _ _ _ _ c.age_where_due.ensures c.in_ok-judge_other.ensures);
      dealt = dealt;
      one = omega arith;
    }

pub age_where_due-requires-2 : goal.age_where_due-requires-2
age_where_due-requires-2 g c =
    let batch = c.args.batch.now in
    let worker = c.worker_of_packet-worker-2.result in
    let workers = ap (λ (d : Dealer). d.workers) c.dealer-dealer.ensures in
    let few = c.worker_of_packet-worker-2.ensures.one in
    let counted = c.requires.count in
    record {
      shapes = c.requires.shapes;
      few = omega arith;
      idle = subst (λ s. AreIdle g.A.Shape g.B.Shape batch.setup.tables.now s.callers) (sym c.index_mut-share-2.ensures.value)
          (c.requires.idle worker c.index_mut-share-2.result.now (omega arith));
      packet = packet_facts c.args.packet.now;
      there = c.requires.there;
      timed = c.in-Some.ensures.moment;
    }

pub judge_sighting-requires : goal.judge_sighting-requires
judge_sighting-requires g c =
    let batch = c.args.batch.now in
    let packet = packet_facts c.args.packet.now in
    let worker = c.worker_of_packet-worker-2.result in
    let workers = ap (λ (d : Dealer). d.workers) c.dealer-dealer.ensures in
    let few = c.worker_of_packet-worker-2.ensures.one in
    record {
      packet = packet;
      is = c.in-Some.ensures;
      may = record {
        shapes = c.requires.shapes;
        few = omega arith;
        idle = c.age_where_due-2.ensures.idle;
        fits = c.requires.fits;
        there = c.requires.there;
        mine = subst (λ d. IsDealtTo g.A.Shape g.B.Shape d (batch.first + c.args.at) packet worker) c.dealer-dealer.ensures
            (c.worker_of_packet-worker-2.ensures.dealt packet
            (subst (HasFlow packet) (sym c.hashed_flow.ensures.flow) c.in-Some.ensures.flow));
      };
    }

pub returns : goal.returns
returns g c =
    let batch = c.args.batch.now in
    let packet = packet_facts c.args.packet.now in
    let dealer = c.dealer-dealer.ensures in
    let worker = c.worker_of_packet-worker-2.result in
    let workers = ap (λ (d : Dealer). d.workers) dealer in
    let few = c.worker_of_packet-worker-2.ensures.one in
    let counted = c.requires.count in
    let dealt = subst (λ d. IsDealtTo g.A.Shape g.B.Shape d (batch.first + c.args.at) packet worker) dealer
    (c.worker_of_packet-worker-2.ensures.dealt packet
    (subst (HasFlow packet) (sym c.hashed_flow.ensures.flow) c.in-Some.ensures.flow)) in
    record {
      worked = next_worked g.A.Shape g.B.Shape batch c.args.at worker packet c.args.shares.now.items c.index_mut-share-2.result.now
          c.judge_sighting.new.share c.requires.idle c.requires.there dealt (omega arith)
          (sym c.index_mut-share-2.ensures.value)
          (worked_on g.A.Shape g.B.Shape batch worker c.args.at c.args.at _ _ _ _ c.age_where_due-2.ensures c.in_ok-judge_sighting.ensures);
      dealt = dealt;
      one = omega arith;
    }
