-- Only the reply to a packet's update says that there are no pages, and its entry has that reply.
use Rattle.std.proofs.Common.{◌≡◌, ◌∙◌, ◌+◌, ◌≤◌, ◌++◌, ◌∷◌, [], List, length, arith, ℕ, Bool, true, false, Option, Some, None, ap, refl, sym, subst}
use Rattle.std.specs.Prelude.{if◌then◌else◌, option_map}
use Rattle.std.specs.List.{last_or}
use Rattle.packet_view.specs.Captures.{PacketFacts}
use Rattle.packet_view.specs.Frames as frames
use Rattle.packet_view.specs.Frames.{FrameFacts, frame_facts}
use Rattle.acl_policy.specs.Policies.{PolicyFacts, section_of}
use Rattle.acl_policy.specs.declared.rule.Action.{Action}
use Rattle.acl_policy.specs.declared.rule.Action.TheVariants.{Deny, Permit, Reflect}
use Rattle.bihash_words.specs.declared.patch.Reply.{Reply}
use Rattle.bihash_words.specs.declared.patch.Reply.TheVariants as reply
use Rattle.bihash_words.specs.Maps.{Event}
use Rattle.bihash_words.specs.Sizes.{Sizes}
use Rattle.bihash_words.specs.declared.shape.Shape.{Ghosts}
use Rattle.bihash_steps.specs.BucketSteps.{last_call, push_call}
use Rattle.bihash_rule.specs.declared.view.Call.{Call}
use Rattle.bihash_rule.specs.declared.view.Record.{Record}
use Rattle.bihash_rule.specs.declared.view.View.{View}
use Rattle.bihash_table.specs.Answers.{entry_of}
use Rattle.bihash_table.specs.Promise.{IsAnswered}
use Rattle.session_state.specs.declared.flow.Flow.{Flow}
use Rattle.session_state.specs.declared.flow.FlowKey.{FlowKey}
use Rattle.session_state.specs.declared.flow.FlowKey.TheVariants.{Four, Six}
use Rattle.session_state.specs.declared.timeouts.Timeouts.{Timeouts}
use Rattle.session_state.specs.Decisions.{PatchFacts, is_live_for}
use Rattle.session_state.specs.Flows.{flow_of}
use Rattle.session_state.specs.declared.verdict.Verdict.{Verdict}
use Rattle.session_state.specs.declared.verdict.Verdict.TheVariants as verdict
use Rattle.flow_filter.specs.Readings.{Ruling}
use Rattle.flow_filter.specs.Updates.{Update, update_in, update_of}
use Rattle.flow_filter.specs.Verdicts.{verdict_by, verdict_entered, verdict_of, verdict_of_rules, verdict_reflected}
use Rattle.flow_filter.specs.Judged.{Settled, verdict_with}
use Rattle.flow_filter.specs.OneThread.{Layout}
use Rattle.flow_dealing.specs.Dealings.{flow_of_frame}
use Rattle.flow_dealing.specs.Views.{Views}
use Rattle.flow_workers.specs.declared.viewed_packet.ViewedPacket.{ViewedPacket}
use Rattle.flow_workers.specs.inner.PacketPlans.{reading_with}
use Rattle.flow_workers.specs.Judging.{IsFlowEntry}
use Rattle.flow_workers.specs.OutOfPages.{HasLastReply, IsFlowOutOfPages, IsFlowReply, IsPacketOutOfPages}
use Rattle.flow_workers.specs.inner.ViewedPackets.{IsViewed}
use Rattle.flow_workers.proofs.JudgedPackets.{reading_in}

abbrev IsNoPages : Reply → Type 0
IsNoPages r = (log2 left : ℕ) × (r ≡ reply.NoPages log2 left)

by_rule : (i : ℕ) (action : Action) → verdict_by i action ≡ verdict.NoPages → ⊥
by_rule i Deny e = cc
by_rule i Permit e = cc
by_rule i Reflect e = cc

by_rules : (ruling : Ruling) → verdict_of_rules ruling ≡ verdict.NoPages → ⊥
by_rules None e = cc
by_rules (Some (i, action)) e = by_rule (i + 1) action e

by_entry : (rule : ℕ) (r : Reply) → verdict_entered rule r ≡ verdict.NoPages → IsNoPages r
by_entry rule (reply.NoPages log2 left) e = (log2, left, refl)
by_entry rule (reply.Kept found) e = absurd (let f : ⊥ = cc in f)
by_entry rule (reply.Changed found) e = absurd (let f : ⊥ = cc in f)
by_entry rule (reply.Worn found) e = absurd (let f : ⊥ = cc in f)
by_entry rule reply.Full e = absurd (let f : ⊥ = cc in f)

by_reply : (ruling : Ruling) (r : Reply) → verdict_reflected ruling r ≡ verdict.NoPages → IsNoPages r
by_reply None r e = absurd (let f : ⊥ = cc in f)
by_reply (Some (i, action)) r e = by_entry (i + 1) r e

told_no_pages : (p : PatchFacts) (ruling : Ruling) (found : Option ℕ) (r : Reply)
    → verdict_of p ruling found r ≡ verdict.NoPages → IsNoPages r
told_no_pages p ruling found r = go (is_live_for p found) p.reflects
  where
    go : (live reflects : Bool)
        → (if live then verdict.Session else (if reflects then verdict_reflected ruling r else verdict_of_rules ruling))
        ≡ verdict.NoPages → IsNoPages r
    go true reflects e = absurd (let f : ⊥ = cc in f)
    go false true e = by_reply ruling r e
    go false false e = absurd (by_rules ruling e)

-- a packet without an update has pages
pub settled_has_pages : (times : Timeouts) (moment : ℕ) (view : FrameFacts) (ruling : Ruling) (said : Verdict)
    → (update_of times (reading_with moment view ruling) ≡ None)
    × (said ≡ verdict_with (reading_with moment view ruling) Settled)
    → said ≡ verdict.NoPages → ⊥
settled_has_pages times moment frames.NotIp ruling said is e = let x = sym is.1 ∙ e in cc
settled_has_pages times moment frames.Malformed ruling said is e = let x = sym is.1 ∙ e in cc
settled_has_pages times moment frames.Short ruling said is e = let x = sym is.1 ∙ e in cc
settled_has_pages times moment (frames.Ip direction tuple) ruling said is e =
    by_rules ruling (sym is.1 ∙ e)

-- the update is that of the packet's flow
pub flow_updated : (times : Timeouts) (moment : ℕ) (view : FrameFacts) (ruling : Ruling) (u : Update)
    → update_of times (reading_with moment view ruling) ≡ Some u
    → (flow : Flow) × (flow_of_frame view ≡ Some flow) × (flow.key ≡ u.key)
flow_updated times moment frames.NotIp ruling u is = absurd (let f : ⊥ = cc in f)
flow_updated times moment frames.Malformed ruling u is = absurd (let f : ⊥ = cc in f)
flow_updated times moment frames.Short ruling u is = absurd (let f : ⊥ = cc in f)
flow_updated times moment (frames.Ip direction tuple) ruling u is = go (flow_of tuple) is
  where
    go : (found : Option Flow) → option_map (update_in times moment tuple ruling) found ≡ Some u
        → (flow : Flow) × (found ≡ Some flow) × (flow.key ≡ u.key)
    go None e = absurd (let f : ⊥ = cc in f)
    go (Some flow) e =
        (flow, refl, (let same : update_in times moment tuple ruling flow ≡ u = cc in ap (λ (x : Update). x.key) same))

last_of : (calls : List Call) (c : Call) (o : Option Call) → last_or o (calls ++ c ∷ []) ≡ Some c
last_of [] c o = refl
last_of (x ∷ xs) c o = last_of xs c (Some x)

pub pushed_last : (c : Call) (rs : List Record) → 1 ≤ length (push_call c rs) → last_call (push_call c rs) ≡ Some c
pushed_last c [] some = absurd (omega arith)
pushed_last c (r ∷ rs) some = last_of r.calls c None

last_reply : (z : Sizes) (v w : View) (e : Event) → IsAnswered z v w e → 1 ≤ length w.records → HasLastReply w e.reply
last_reply z v w e answered some =
    let entry : Call = entry_of z (length answered.history) e answered.noted in (
      entry,
      ap last_call answered.records ∙ pushed_last entry _ (subst (λ rs. 1 ≤ length rs) answered.records some),
      refl,
    )

pub flow_reply : (l : Layout) (took : View → View → Reply → Type 0) (key : FlowKey) (e : Event) (v w : Views)
    → IsFlowEntry l took key e v w → 1 ≤ length w.four.records → 1 ≤ length w.six.records → IsFlowReply key w e.reply
flow_reply l took (Four key) e v w entered four six = last_reply l.four v.four w.four e entered.0 four
flow_reply l took (Six key) e v w entered four six = last_reply l.six v.six w.six e entered.0 six

pub short_packet : {A B K L : Type 0} (ga : Ghosts A K) (gb : Ghosts B L) (policy : PolicyFacts) (times : Timeouts)
    (s : PacketFacts) (p : ViewedPacket) (ruling : Ruling) (u : Update) (w : Views) (r : Reply) (found : Option ℕ)
    → IsViewed (section_of s.interface policy).own s p → update_of times (reading_in p ruling) ≡ Some u
    → IsFlowReply u.key w r → ((log2 left : ℕ) → r ≡ reply.NoPages log2 left → IsFlowOutOfPages ga gb u.key w log2 left)
    → verdict_of u.patch ruling found r ≡ verdict.NoPages → IsPacketOutOfPages ga gb policy s w
short_packet ga gb policy times s p ruling u w r found seen asks replied short e =
    let told = told_no_pages u.patch ruling found r e in
    let flow = flow_updated times p.moment (frame_facts p.frame.now) ruling u asks in
    record {
      view = frame_facts p.frame.now;
      framed = seen.1;
      flow = flow.0;
      shown = flow.1;
      log2 = told.0;
      left = told.1;
      replied =
          subst (λ key. IsFlowReply key w (reply.NoPages told.0 told.1)) (sym flow.2)
          (subst (IsFlowReply u.key w) told.2 replied);
      short = subst (λ key. IsFlowOutOfPages ga gb key w told.0 told.1) (sym flow.2) (short told.0 told.1 told.2);
    }
