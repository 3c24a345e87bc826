use Rattle.std.proofs.Common.{◌≡◌, ◌∙◌, List, ℕ, None, subst, sym}
use Rattle.packet_view.specs.declared.frame.Frame.{Frame}
use Rattle.packet_view.specs.Frames.{FrameFacts, Ip, IsFrame, Malformed, NotIp, Short, frame_facts}
use Rattle.packet_view.specs.Interfaces.{Interface}
use Rattle.packet_view.specs.Tuples.{tuple_facts}
use Rattle.packet_view.proofs.FrameLemmas.{goes_of, view_only}
use Rattle.packet_view.proofs.frame.Frame.at.Goals as goal

-- the frame is nothing but what it was seen to be
only_seen : (frame : List ℕ) (at : Interface) (seen : FrameFacts) → IsFrame frame at seen → (other : FrameFacts)
    → IsFrame frame at other → other ≡ seen
only_seen frame at seen is other h = view_only frame at other h ∙ sym (view_only frame at seen is)

-- what was seen, by its case
case : (frame : List ℕ) (number : ℕ) (seen known : Frame) → seen ≡ known
    → IsFrame frame (record { number = number; own = None }) (frame_facts seen)
    → IsFrame frame (record { number = number; own = None }) (frame_facts known)
case frame number seen known same is =
    subst (λ f. IsFrame frame (record { number = number; own = None }) (frame_facts f)) same is

pub returns-in-NotIp-clause-only : goal.returns-in-NotIp-clause-only
returns-in-NotIp-clause-only c =
    only_seen c.args.frame.now (record { number = c.args.interface; own = c.args.own }) NotIp
    (case c.args.frame.now c.args.interface _ _ c.in-NotIp.is c.requires)

pub returns-in-Malformed-clause-only : goal.returns-in-Malformed-clause-only
returns-in-Malformed-clause-only c =
    only_seen c.args.frame.now (record { number = c.args.interface; own = c.args.own }) Malformed
    (case c.args.frame.now c.args.interface _ _ c.in-Malformed.is c.requires)

pub returns-in-Short-clause-only : goal.returns-in-Short-clause-only
returns-in-Short-clause-only c =
    only_seen c.args.frame.now (record { number = c.args.interface; own = c.args.own }) Short
    (case c.args.frame.now c.args.interface _ _ c.in-Short.is c.requires)

pub returns-in-Ip-clause-shown : goal.returns-in-Ip-clause-shown
returns-in-Ip-clause-shown c =
    let (source, packet, ethernet, goes, of) = case c.args.frame.now c.args.interface _ _ c.in-Ip.is c.requires in
    let at : Interface = record { number = c.args.interface; own = c.args.own } in
    subst (λ way. IsFrame c.args.frame.now at (Ip way (tuple_facts c.in-Ip.tuple))) (sym c.direction.ensures)
    (source, packet, ethernet, goes_of c.args.frame.now source at _ packet ethernet, of)

pub returns-in-Ip-clause-only : goal.returns-in-Ip-clause-only
returns-in-Ip-clause-only c =
    only_seen c.args.frame.now (record { number = c.args.interface; own = c.args.own })
    (Ip c.direction.result (tuple_facts c.in-Ip.tuple)) (returns-in-Ip-clause-shown c)
