-- What readers of an open bucket may conclude one after the other.
use Rattle.std.proofs.Common.{◌≡◌, ℕ, zero, suc, ◌+◌, ◌*◌, ◌<◌, ◌≤◌, arith, List, [], ◌∷◌, ◌++◌, length, append_assoc, refl, sym, ap, ◌∙◌, subst, Option, Some, None}
use mathlib.Core.Option.{some, some-ne-none}
use lib.ListN.{get_elem?}
use Rattle.std.specs.Prelude.{slice_index}
use Rattle.bihash_words.specs.Sizes.{IsSound, Sizes}
use Rattle.bihash_rule.specs.Words.{block_words, place_words}
use Rattle.bihash_rule.specs.Blocks.{places}
use Rattle.bihash_rule.specs.Buckets.{AreReadIn}
use Rattle.bihash_steps.specs.BucketSteps.{IsOpenWord, read_more, with_reading}
use Rattle.bihash_steps.specs.Seats.{CallerState, with_view}
use Rattle.bihash_rule.specs.declared.view.Extent.{Extent}
use Rattle.bihash_rule.specs.declared.view.OpenBucket.{OpenBucket}
use Rattle.bihash_rule.specs.declared.view.View.{View}
use Rattle.bihash_steps.proofs.Lists.{at_after}
use Rattle.bihash_table.specs.inner.OpenReads.{HasOpen, HasRead, MayRead, NotesBlock, Saw}
use Rattle.bihash_table.specs.inner.Scans.{IsWordOf, NamesBlock}
use Rattle.bihash_table.proofs.PlaceReads.{place_inside}
use Rattle.bihash_table.proofs.SameCallers.{own_through, same_but_view, same_through, view_is}

-- ---- Words that were read

pub read_last : (xs ys : List (ℕ × ℕ)) (block : List ℕ) → AreReadIn (xs ++ ys) block → AreReadIn ys block
read_last xs ys block h i p e = h (length xs + i) p (at_after xs ys i p e)

pub read_first : (xs ys : List (ℕ × ℕ)) (block : List ℕ) → AreReadIn (xs ++ ys) block → AreReadIn xs block
read_first xs ys block h i p e = h i p (longer xs i e)
  where
    longer : (xs : List (ℕ × ℕ)) (i : ℕ) → get_elem? xs i ≡ some p → get_elem? (xs ++ ys) i ≡ some p
    longer [] i e = absurd (some-ne-none p (sym e))
    longer (x ∷ xs) zero e = e
    longer (x ∷ xs) (suc i) e = longer xs i e

pub read_none : (o : Option OpenBucket) → read_more [] o ≡ o
read_none None = refl
read_none (Some o) = refl

read_twice : (xs ys : List (ℕ × ℕ)) (o : Option OpenBucket) → read_more ys (read_more xs o) ≡ read_more (ys ++ xs) o
read_twice xs ys None = refl
read_twice xs ys (Some o) = ap (λ (reads : List (ℕ × ℕ)). Some (record o { reads = reads })) (sym (append_assoc ys xs o.reads))

-- what the caller noted of the block stays while it reads
abbrev pub notes_more : (z : Sizes) (v : View) (word : ℕ) (e : Extent) (more : List (ℕ × ℕ)) → NotesBlock z v word e → NotesBlock z (with_reading v more) word e
notes_more z v word e more h = record {
  open_bucket = record h.open_bucket { reads = more ++ h.open_bucket.reads };
  noted = ap (read_more more) h.noted;
  extent = h.extent;
  fits = h.fits;
  stood = h.stood;
  small = h.small;
  near = h.near;
  size = h.size;
}

-- ---- What was seen

module _ {P : Extent → List ℕ → Type 0} where
  pub saw_nothing : (v : View) → ((e : Extent) (block : List ℕ) → P e block) → Saw v v P
  saw_nothing v all = record {
    more = [];
    is = ap (λ (o : Option OpenBucket). record v { notes = record v.notes { open_bucket = o } }) (sym (read_none v.notes.open_bucket));
    told = λ o noted reads. all o.extent o.block;
  }

  pub still_noted : (z : Sizes) (v w : View) (word : ℕ) (e : Extent) → Saw v w P → NotesBlock z v word e → NotesBlock z w word e
  still_noted z v w word e s h = subst (λ (x : View). NotesBlock z x word e) (sym s.is) (notes_more z v word e s.more h)

  module _ {Q : Extent → List ℕ → Type 0} where
    pub saw_as : (v w : View) → ((o : OpenBucket) → v.notes.open_bucket ≡ Some o → P o.extent o.block → Q o.extent o.block) → Saw v w P → Saw v w Q
    saw_as v w more s = record { more = s.more; is = s.is; told = λ o noted reads. more o noted (s.told o noted reads) }

    pub saw_both : (u v w : View) → Saw u v P → Saw v w Q → Saw u w (λ e block. P e block × Q e block)
    saw_both u v w s t = record {
      more = t.more ++ s.more;
      is = t.is ∙ (ap (λ (x : View). with_reading x t.more) s.is ∙ ap (λ (o : Option OpenBucket). record u { notes = record u.notes { open_bucket = o } })
          (read_twice s.more t.more u.notes.open_bucket));
      told = λ o noted reads. (
        s.told o noted (read_last t.more s.more o.block reads),
        t.told (record o { reads = s.more ++ o.reads })
            (ap (λ (x : View). x.notes.open_bucket) s.is ∙ ap (read_more s.more) noted) (read_first t.more s.more o.block reads),
      );
    }

    -- what was seen first, and then
    pub saw_then : {R : Extent → List ℕ → Type 0} (u v w : View)
        → ((o : OpenBucket) → u.notes.open_bucket ≡ Some o → P o.extent o.block → Q o.extent o.block → R o.extent o.block)
        → Saw u v P → Saw v w Q → Saw u w R
    saw_then u v w more s t = let b = saw_both u v w s t in record {
      more = b.more;
      is = b.is;
      told = λ o noted reads. let h = b.told o noted reads in more o noted h.0 h.1;
    }

-- one word was read
pub saw_word : (v w : View) (k n : ℕ) → w ≡ with_reading v ((k, n) ∷ []) → Saw v w (λ _ block. n ≡ slice_index block k)
saw_word v w k n is = record { more = (k, n) ∷ []; is = is; told = λ o noted reads. reads 0 (k, n) refl }

-- ---- A caller that reads

module _ {P : Extent → List ℕ → Type 0} where
  pub read_nothing : (s : CallerState) → ((e : Extent) (block : List ℕ) → P e block) → HasRead s s P
  read_nothing s all = record { same = refl; saw = saw_nothing s.view all }

  module _ {Q : Extent → List ℕ → Type 0} where
    pub read_as : (s t : CallerState) → ((o : OpenBucket) → s.view.notes.open_bucket ≡ Some o → P o.extent o.block → Q o.extent o.block)
        → HasRead s t P → HasRead s t Q
    read_as s t more h = record { same = h.same; saw = saw_as s.view t.view more h.saw }

    -- what was read first, and then
    pub read_then : {R : Extent → List ℕ → Type 0} (s t u : CallerState)
        → ((o : OpenBucket) → s.view.notes.open_bucket ≡ Some o → P o.extent o.block → Q o.extent o.block → R o.extent o.block)
        → HasRead s t P → HasRead t u Q → HasRead s u R
    read_then s t u more h k = record {
      same = same_through s t u u.view h.same k.same;
      saw = saw_then s.view t.view u.view more h.saw k.saw;
    }

    pub read_both : (s t u : CallerState) → HasRead s t P → HasRead t u Q → HasRead s u (λ e block. P e block × Q e block)
    read_both s t u h k = read_then s t u (λ o noted first then. (first, then)) h k

-- the caller may read on
abbrev pub may_still : {z : Sizes} {row : _} {s t : CallerState} {word n m : ℕ} {P : Extent → List ℕ → Type 0} → HasRead s t P
    → (h : MayRead z row s word n) → m ≤ places h.extent.page h.extent.size.log2 → MayRead z row t word m
may_still {z} {row} {s} {t} {word} before h inside = record {
  own = own_through s t t.view before.same h.own;
  extent = h.extent;
  block = still_noted z s.view t.view word h.extent before.saw h.block;
  inside = inside;
}

-- a caller that may read may read so many places
pub may_all : {z : Sizes} {row : _} {s : CallerState} {word n m : ℕ} (h : MayRead z row s word n) → m ≤ places h.extent.page h.extent.size.log2
    → MayRead z row s word m
may_all h inside = record { own = h.own; extent = h.extent; block = h.block; inside = inside }

-- and what it may read of more places
pub may_less : {z : Sizes} {row : _} {s : CallerState} {word n m : ℕ} → MayRead z row s word n → m ≤ n → MayRead z row s word m
may_less h less = may_all h (let room = h.inside in omega arith)

pub may_read : {z : Sizes} {row : _} {s : CallerState} {b word : ℕ} → s.row ≡ row → HasOpen z s.view b word → MayRead z row s word 0
may_read own h = record { own = own; extent = h.extent; block = h.block; inside = omega arith }

-- ---- The block that was noted

pub one_note : (z : Sizes) (v : View) (word : ℕ) (e : Extent) (o : OpenBucket) (h : NotesBlock z v word e) → v.notes.open_bucket ≡ Some o
    → h.open_bucket ≡ o
one_note z v word e o h noted = let f = h.noted in cc

pub note_extent : (z : Sizes) (v : View) (word : ℕ) (e : Extent) (o : OpenBucket) → NotesBlock z v word e → v.notes.open_bucket ≡ Some o
    → o.extent ≡ e
note_extent z v word e o h noted = ap (λ (y : OpenBucket). y.extent) (sym (one_note z v word e o h noted)) ∙ h.extent

pub note_size : (z : Sizes) (v : View) (word : ℕ) (e : Extent) (o : OpenBucket) → NotesBlock z v word e → v.notes.open_bucket ≡ Some o
    → length o.block ≡ block_words z o.extent.page o.extent.size.log2
note_size z v word e o h noted = subst (λ (y : OpenBucket). length y.block ≡ block_words z y.extent.page y.extent.size.log2)
    (one_note z v word e o h noted) (subst (λ (x : Extent). length h.open_bucket.block ≡ block_words z x.page x.size.log2) (sym h.extent) h.size)

pub word_notes : (z : Sizes) (v : View) (word : ℕ) (e : Extent) → NotesBlock z v word e → IsWordOf z word e
word_notes z v word e h = record { version = h.open_bucket.version; fits = h.fits; stood = h.stood; small = h.small }

pub names_block : {z : Sizes} {row : _} {s : CallerState} {word n : ℕ} → IsSound z → MayRead z row s word n → NamesBlock z word
names_block {z} {row} {s} {word} sound h = record { sound = sound; extent = h.extent; names = word_notes z s.view word h.extent h.block }

pub open_word_of_place : (z : Sizes) (v : View) (word page i k : ℕ) (e : Extent) → NotesBlock z v word e → page ≡ e.page
    → i < places e.page e.size.log2 → k < place_words z → IsOpenWord z v page (i * place_words z + k)
open_word_of_place z v word page i k e h is inside low = record {
  bucket = h.open_bucket;
  noted = h.noted;
  first = ap (λ (x : Extent). x.page) h.extent ∙ sym is;
  near = rw (is, h.extent) h.near;
  inside = rw (is, h.extent) (place_inside z e.page e.size.log2 i k inside low);
}

-- word k of a place, where a place has one word more than a key
pub read_word_of_place : (s t : CallerState) (words words' i k n : ℕ) → words ≡ words'
    → t ≡ with_view s (with_reading s.view ((i * (words + 1) + k, n) ∷ [])) → HasRead s t (λ _ block. n ≡ slice_index block (i * (words' + 1) + k))
read_word_of_place s t words words' i k n same is = record {
  same = same_but_view s t _ is;
  saw = saw_word s.view t.view (i * (words' + 1) + k) n
      (view_is s t _ is ∙ ap (λ (x : ℕ). with_reading s.view ((i * (x + 1) + k, n) ∷ [])) same);
}
