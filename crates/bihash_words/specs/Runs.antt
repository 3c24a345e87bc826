-- Calls one after another on one bounded map (this project's profile).
use Rattle.std.specs.Prelude.{◌≡◌, ℕ, ◌+◌, List, [], ◌∷◌}
use Rattle.bihash_words.specs.declared.patch.Reply.{Reply}
use Rattle.bihash_words.specs.declared.patch.Reply.TheVariants.{Kept, Changed, Worn, Full, NoPages}
use Rattle.bihash_words.specs.Maps.{Bounds, Event, Pairs, IsEvent}

-- how many changes of the map a call with this reply made
abbrev pub writes_of : Reply → ℕ
writes_of (Kept found) = 0
writes_of (Changed found) = 1
writes_of (Worn found) = 0
writes_of Full = 0
writes_of (NoPages log2 left) = 0

-- The events are a run of one bounded map: each is a step of the map that the one before it left. They
-- lead from the map m after w changes to the map `last` after n.
abbrev pub IsRun : Bounds → Pairs → ℕ → List Event → Pairs → ℕ → Type 0
IsRun b m w [] last n = (m ≡ last) × (w ≡ n)
IsRun b m w (e ∷ es) last n = (m' : Pairs) × IsEvent b m w e m' × IsRun b m' (w + writes_of e.reply) es last n
