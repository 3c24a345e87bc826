-- The bounded map of a bucket: what one call finds, decides, answers and leaves (this project's profile).
use Rattle.std.specs.Prelude.{◌≡◌, ◌≢◌, ◌≤◌, ◌<◌, ◌⊎◌, ℕ, true, [], ◌∷◌, ◌*◌, ◌^◌, ◌==◌, if◌then◌else◌, List, Option, Some, None, nat_lt}
use Rattle.std.specs.Ordering.{nat_cmp}
use Rattle.std.specs.declared.cmp.Ordering.TheVariants.{Greater}
use Rattle.std.specs.Cmp.Lexicographic.{slice_cmp}
use Rattle.std.specs.FinMap.{FinMap, entries, get, insert, remove, len}
use Rattle.bihash_words.specs.Expiries.{first_expired, is_among}
use Rattle.bihash_words.specs.declared.recycling_note.Recycling.{Recycling}
use Rattle.bihash_words.specs.declared.patch.Change.{Change}
use Rattle.bihash_words.specs.declared.patch.Change.TheVariants.{Keep, Set, Remove}
use Rattle.bihash_words.specs.declared.patch.Reply.{Reply}
use Rattle.bihash_words.specs.declared.patch.Reply.TheVariants.{Kept, Changed, Worn, Full, NoPages}

-- the pairs of a bucket; a key is seen as its words, and the keys stand in the order of their words
abbrev pub Pairs : Type 0
Pairs = FinMap (slice_cmp nat_cmp) ℕ

-- how often the map may change, and the log2 of the most pages in its block
pub record Bounds : Type 0 where
  pub limit : ℕ
  pub max_log2 : ℕ

-- a page has four places
abbrev pub most_pairs : Bounds → ℕ
most_pairs b = 4 * 2 ^ b.max_log2

-- a call: its key, the value that was found there, what was decided on that value, the reply, and which values
-- counted as expired with the key that was removed for the new one
pub record Event : Type 0 where
  pub key : List ℕ
  pub found : Option ℕ
  pub change : Change
  pub reply : Reply
  pub recycling : Recycling

-- the value that was found, as a reply tells it: a key that finds no room or no pages was absent
abbrev pub found_by : Reply → Option ℕ
found_by (Kept found) = found
found_by (Changed found) = found
found_by (Worn found) = found
found_by Full = None
found_by (NoPages log2 left) = None

-- what a change comes to: to set the value that was found, or to remove where there is none, is to keep
abbrev pub effect_of : Change → Option ℕ → Change
effect_of Keep found = Keep
effect_of (Set value) None = Set value
effect_of (Set value) (Some old) = if old == value then Keep else Set value
effect_of Remove None = Keep
effect_of Remove (Some old) = Remove

-- the map after a change of a key's value
abbrev pub changed : Pairs → List ℕ → Change → Pairs
changed m key Keep = m
changed m key (Set value) = insert m key value
changed m key Remove = remove m key

-- the key that goes where a new one finds no room: the least whose value counts as expired
abbrev pub spare : Pairs → List ℕ → Option (List ℕ)
spare m [] = None
spare m (word ∷ words) = first_expired (word ∷ words) (entries m)

-- what that comes to: the key's value counts as expired, and no key with such a value is less
pub record IsSpare (m : Pairs) (expired : List ℕ) (gone : List ℕ) : Type 0 where
  pub value : ℕ
  pub stands : get m gone ≡ Some value
  pub counts : is_among value expired ≡ true
  pub least : (key : List ℕ) (other : ℕ) → get m key ≡ Some other → is_among other expired ≡ true
      → slice_cmp nat_cmp gone key ≢ Greater

-- the map without the key that was removed, if any
abbrev pub without : Pairs → Option (List ℕ) → Pairs
without m None = m
without m (Some key) = remove m key

-- the map that a write leaves: the key that it removed is gone, and its own key has its change
abbrev pub written : Pairs → List ℕ → Change → Recycling → Pairs
written m key change recycling = changed (without m recycling.removed) key change

-- a refusal for want of pages names a block that a table may have, and fewer pages than it wants
abbrev pub IsRefusal : Bounds → Reply → Type 0
IsRefusal b reply = (log2 left : ℕ) × (reply ≡ NoPages log2 left) × (log2 ≤ b.max_log2) × (left < 2 ^ log2)

-- the cases of a call
pub data Case : Type 0 where
  -- nothing is to be changed
  Unchanged : Case
  -- a change is wanted, and the map may not change any more
  WornOut : Case
  -- a new key finds no room
  NoRoom : Case
  -- a new key finds room
  NewKey : Case
  -- a key that is there gets another value or goes
  OldKey : Case

-- the case of an effect, at a map of so many pairs after w changes
abbrev pub case_with : Bounds → ℕ → ℕ → Option ℕ → Change → Case
case_with b pairs w found Keep = Unchanged
case_with b pairs w None (Set value) =
    if nat_lt w b.limit then (if nat_lt pairs (most_pairs b) then NewKey else NoRoom) else WornOut
case_with b pairs w (Some old) (Set value) = if nat_lt w b.limit then OldKey else WornOut
case_with b pairs w found Remove = if nat_lt w b.limit then OldKey else WornOut

-- the key that a call of this case removes for its own
abbrev pub removed_in : Case → Pairs → List ℕ → Option (List ℕ)
removed_in Unchanged m expired = None
removed_in WornOut m expired = None
removed_in NoRoom m expired = spare m expired
removed_in NewKey m expired = None
removed_in OldKey m expired = None

-- a new key that finds no room is refused where no key goes for it, and else takes that one's place
abbrev pub AnswersFull : Option (List ℕ) → Pairs → Event → Pairs → Type 0
AnswersFull None m e m' = (e.reply ≡ Full) × (m' ≡ m)
AnswersFull (Some gone) m e m' = (e.reply ≡ Changed None) × (m' ≡ written m e.key e.change e.recycling)

-- the replies of a case, and the map m' that is left
abbrev pub Answers : Case → Bounds → Pairs → Event → Pairs → Type 0
Answers Unchanged b m e m' = (e.reply ≡ Kept e.found) × (m' ≡ m)
Answers WornOut b m e m' = (e.reply ≡ Worn e.found) × (m' ≡ m)
Answers NoRoom b m e m' = AnswersFull e.recycling.removed m e m'
Answers NewKey b m e m' =
    ((e.reply ≡ Changed None) × (m' ≡ written m e.key e.change e.recycling)) ⊎ (IsRefusal b e.reply × (m' ≡ m))
Answers OldKey b m e m' = (e.reply ≡ Changed e.found) × (m' ≡ written m e.key e.change e.recycling)

-- a call leads from the map m after w changes to the map m'
pub record IsEvent (b : Bounds) (m : Pairs) (w : ℕ) (e : Event) (m' : Pairs) : Type 0 where
  pub found : e.found ≡ get m e.key
  pub removed : e.recycling.removed
      ≡ removed_in (case_with b (len m) w e.found (effect_of e.change e.found)) m e.recycling.expired
  pub answers : Answers (case_with b (len m) w e.found (effect_of e.change e.found)) b m e m'

-- The words that an entry bears as expired ones, where the call has an expiry that counts these: they are told where
-- it was asked, for a new key that found no room.
abbrev pub expired_told : Option (List ℕ) → Reply → List ℕ → List ℕ
expired_told (Some gone) reply expired = expired
expired_told None (Kept found) expired = []
expired_told None (Changed found) expired = []
expired_told None (Worn found) expired = []
expired_told None Full expired = expired
expired_told None (NoPages log2 left) expired = []

-- the call has an expiry that counts these words as expired; it counts none where it has no expiry
abbrev pub HasExpiry : List ℕ → Event → Type 0
HasExpiry expired e = e.recycling.expired ≡ expired_told e.recycling.removed e.reply expired
