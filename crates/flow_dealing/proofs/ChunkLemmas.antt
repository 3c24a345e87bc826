-- Chunks of the packets, ahead and over.
use Rattle.std.proofs.Common.{◌≡◌, ◌∙◌, ◌+◌, ◌<◌, ℕ, suc, List, [], ◌∷◌, length, drop, drop-drop, map, get_or, Ok, Err, ap, eq-eqb, refl, sym, subst, arith}
use Rattle.std.specs.Prelude.{◌==◌, ◌≢◌, if◌then◌else◌}
use Rattle.std.proofs.lemmas.Bool.{ne_eqb}
use Rattle.std.proofs.lemmas.List.{length-map}
use Rattle.std.proofs.Math.Seq.{drop-length}
use Rattle.packet_view.specs.CheckedCaptures.{remaining}
use Rattle.packet_view.specs.declared.packets.Packets.{Packets}
use Rattle.bihash_words.specs.declared.shape.Shape.{Ghosts}
use Rattle.flow_dealing.specs.Dealt.{AreDealt}
use Rattle.flow_dealing.specs.declared.dealer.Dealer.{Dealer}
use Rattle.flow_dealing.specs.declared.dealt_chunk.DealtChunk.{DealtChunk}
use Rattle.flow_dealing.specs.declared.chunk.DealingJob.{DealingJob}
use Rattle.flow_dealing.specs.declared.chunk.Chunk.{Chunk}
use Rattle.flow_dealing.specs.declared.chunk.Chunk.TheVariants.{Ahead, Over}
use Rattle.flow_dealing.specs.inner.Chunks.{AreBetween, BecomesDealt, IsAhead, IsJob, IsOver, IsChunkOfJob, IsChunkPast}

-- ---- Where chunks begin

-- one place more is known
abbrev pub begun_at : (ℕ → ℕ) → ℕ → ℕ → ℕ → ℕ
begun_at begin at place i = if i == at then place else begin i

pub begun_here : (begin : ℕ → ℕ) (at place : ℕ) → begun_at begin at place at ≡ place
begun_here begin at place = ap (λ t. if t then place else begin at) (eq-eqb at at refl)

pub begun_else : (begin : ℕ → ℕ) (at place i : ℕ) → i ≢ at → begun_at begin at place i ≡ begin i
begun_else begin at place i other = ap (λ t. if t then place else begin i) (ne_eqb i at other)

-- ---- What becomes of chunks

module _ {A B K L : Type 0} (ga : Ghosts A K) (gb : Ghosts B L) (dealer : Dealer) (number : ℕ)
    (packets : Packets) where
  pub over_past : (first next : ℕ) (chunk : Chunk A B) → IsOver ga gb dealer number packets first next chunk → IsChunkPast chunk
  over_past first next (Ahead job) is = absurd is
  over_past first next (Over done) is = tt

  -- what the job of a chunk asked for
  as_asked : (first next : ℕ) (job : DealingJob A B) (dealt : DealtChunk) → IsJob ga gb dealer number packets first next job
      → IsChunkOfJob ga gb job dealt → AreBetween ga gb dealer number (remaining packets) first next dealt
  as_asked first next job dealt is of =
      subst (λ d. AreBetween ga gb d number (remaining packets) first next dealt) is.by
      (subst (λ n. AreBetween ga gb job.dealer n (remaining packets) first next dealt) is.counts
      (subst (λ ps. AreBetween ga gb job.dealer job.number (remaining ps) first next dealt) is.of
      (subst (λ n. AreBetween ga gb job.dealer job.number (remaining job.packets) first n dealt) is.ends
      (subst (λ n. AreBetween ga gb job.dealer job.number (remaining job.packets) n job.next dealt) is.begins of))))

  pub turned : (first next : ℕ) (chunk other : Chunk A B) → IsAhead ga gb dealer number packets first next chunk
      → BecomesDealt ga gb chunk other → IsOver ga gb dealer number packets first next other
  turned first next (Ahead job) (Ahead other) is did = absurd did
  turned first next (Ahead job) (Over (Ok dealt)) is did = as_asked first next job dealt is did
  turned first next (Ahead job) (Over (Err e)) is did = tt
  turned first next (Over done) other is did = absurd is

  -- Chunks that begin where the ones before them end, up to the last packet, have all packets.
  pub all_dealt : (begin : ℕ → ℕ) (workers : ℕ) → begin workers ≡ length (remaining packets)
      → (k : ℕ) (chunks : List DealtChunk) → k + length chunks ≡ workers
      → ((i : ℕ) (d : Chunk A B) → i < length chunks → IsOver ga gb dealer number packets (begin (k + i)) (begin (k + i + 1))
      (get_or (map (λ chunk. Over (Ok chunk)) chunks) i d))
      → AreDealt ga gb dealer (number + begin k) chunks (drop (begin k) (remaining packets))
  all_dealt begin workers ends k [] count each =
      let last : begin k ≡ length (remaining packets) = ap begin (let e : k ≡ workers = omega arith in e) ∙ ends in
      ap (λ n. drop n (remaining packets)) last ∙ drop-length (remaining packets)
  all_dealt begin workers ends k (chunk ∷ chunks) count each = (
    one.dealt,
    subst (λ ps. AreDealt ga gb dealer (number + begin k + length chunk.workers.items) chunks ps)
        (sym (drop-drop (length chunk.workers.items) (begin k) (remaining packets)))
        (subst (λ n. AreDealt ga gb dealer n chunks (drop (begin k + length chunk.workers.items) (remaining packets)))
        (let e : number + (begin k + length chunk.workers.items) ≡ number + begin k + length chunk.workers.items =
        omega arith in e)
        (subst (λ n. AreDealt ga gb dealer (number + n) chunks (drop n (remaining packets))) (sym one.count)
        (all_dealt begin workers ends (k + 1) chunks (omega arith)
        (λ i d inside. subst (λ n. IsOver ga gb dealer number packets (begin n) (begin (n + 1))
        (get_or (map (λ p. Over (Ok p)) chunks) i d)) (let e : k + suc i ≡ k + 1 + i = omega arith in e)
        (each (suc i) d (omega arith)))))),
  )
    where
      one : AreBetween ga gb dealer number (remaining packets) (begin k) (begin (k + 1)) chunk
      one = subst (λ n. AreBetween ga gb dealer number (remaining packets) (begin n) (begin (n + 1)) chunk)
          (let e : k + 0 ≡ k = omega arith in e) (each 0 (Over (Ok chunk)) (omega arith))

  -- so many chunks have all packets
  pub all_chunks : (begin : ℕ → ℕ) (count : ℕ) (chunks : List DealtChunk) (others : List (Chunk A B)) → begin 0 ≡ 0
      → begin count ≡ length (remaining packets)
      → others ≡ map (λ chunk. Over (Ok chunk)) chunks → length others ≡ count
      → ((i : ℕ) (d : Chunk A B) → i < count → IsOver ga gb dealer number packets (begin i) (begin (i + 1)) (get_or others i d))
      → AreDealt ga gb dealer number chunks (remaining packets)
  all_chunks begin count chunks others starts ends are many each =
      subst (λ n. AreDealt ga gb dealer n chunks (remaining packets)) (let e : number + 0 ≡ number = omega arith in e)
      (subst (λ n. AreDealt ga gb dealer (number + n) chunks (drop n (remaining packets))) starts
      (all_dealt begin count ends 0 chunks counted
      (λ i d inside. subst (λ n. IsOver ga gb dealer number packets (begin n) (begin (n + 1))
      (get_or (map (λ chunk. Over (Ok chunk)) chunks) i d)) (let e : i ≡ 0 + i = omega arith in e)
      (subst (λ os. IsOver ga gb dealer number packets (begin i) (begin (i + 1)) (get_or os i d)) are
      (each i d (let c = counted in omega arith))))))
    where
      counted : 0 + length chunks ≡ count
      counted = let e = sym (length-map chunks (λ p. Over (Ok p))) ∙ (sym (ap length are) ∙ many) in omega arith
