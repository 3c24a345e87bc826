-- Runs of a bounded map, one after another.
use Rattle.std.proofs.Common.{◌+◌, ◌++◌, ℕ, List, [], ◌∷◌, refl, subst, sym}
use Rattle.bihash_words.specs.Maps.{Bounds, Event, Pairs, IsEvent}
use Rattle.bihash_words.specs.Runs.{IsRun, writes_of}

-- a run that begins where another ended
pub run_append : (b : Bounds) (m middle last : Pairs) (w v n : ℕ) (before after : List Event)
    → IsRun b m w before middle v → IsRun b middle v after last n → IsRun b m w (before ++ after) last n
run_append b m middle last w v n [] after h next =
    subst (λ p. IsRun b p w after last n) (sym h.0) (subst (λ k. IsRun b middle k after last n) (sym h.1) next)
run_append b m middle last w v n (e ∷ before) after (m', step, rest) next =
    (m', step, run_append b m' middle last (w + writes_of e.reply) v n before after rest next)

-- a run of two lists, parted where the first of them ends
pub run_parts : (b : Bounds) (m last : Pairs) (w n : ℕ) (before after : List Event)
    → IsRun b m w (before ++ after) last n
    → (middle : Pairs) × (v : ℕ) × IsRun b m w before middle v × IsRun b middle v after last n
run_parts b m last w n [] after h = (m, w, (refl, refl), h)
run_parts b m last w n (e ∷ before) after (m', step, rest) =
    let (middle, v, first, second) = run_parts b m' last (w + writes_of e.reply) n before after rest in
    (middle, v, (m', step, first), second)

-- one more step at a run's end
pub run_push : (b : Bounds) (m middle last : Pairs) (w v : ℕ) (es : List Event) (e : Event)
    → IsRun b m w es middle v → IsEvent b middle v e last → IsRun b m w (es ++ e ∷ []) last (v + writes_of e.reply)
run_push b m middle last w v es e h step =
    run_append b m middle last w v (v + writes_of e.reply) es (e ∷ []) h (last, step, (refl, refl))
