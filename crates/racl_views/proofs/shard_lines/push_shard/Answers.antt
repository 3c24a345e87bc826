use Rattle.std.proofs.Common.{◌≡◌, ◌∙◌, ◌++◌, ℕ, List, ap, append_assoc, codes}
use Rattle.packet_words.specs.PacketWords.{numbered}
use Rattle.racl_views.proofs.shard_lines.push_shard.Goals as goal

-- two texts behind a first one, one after the other
behind_both : (first second third x y : List ℕ) → second ≡ first ++ x → third ≡ second ++ y → third ≡ first ++ (x ++ y)
behind_both first second third x y one two = two ∙ ap (λ text. text ++ y) one ∙ append_assoc first x y

pub returns : goal.returns
returns c =
    let it = c.args.shard in
    let second = numbered (codes " of ") it.count in
    let third = numbered (codes " of ") it.packets in
    let fourth = numbered (codes " packets until ") it.latest in
    let last = codes "\n" in
    behind_both c.args.piece.now c.push_numbered.new.piece c.push.new.self (numbered (codes "shard ") it.number) (second ++ (third ++ (fourth ++ last)))
    c.push_numbered.ensures.text
    (behind_both c.push_numbered.new.piece c.push_numbered-2.new.piece c.push.new.self second (third ++ (fourth ++ last)) c.push_numbered-2.ensures.text
    (behind_both c.push_numbered-2.new.piece c.push_numbered-3.new.piece c.push.new.self third (fourth ++ last) c.push_numbered-3.ensures.text
    (behind_both c.push_numbered-3.new.piece c.push_numbered-4.new.piece c.push.new.self fourth last (rw c.from.ensures at c.push_numbered-4.ensures.text) c.push.ensures)))
