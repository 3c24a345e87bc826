-- Views to begin with.
use Rattle.std.specs.Prelude.{ℕ, [], ◌∷◌, replicate, true, Option, Some, None}
use Rattle.bihash_words.specs.Sizes.{Sizes}
use Rattle.bihash_rule.specs.Words.{buckets}
use Rattle.bihash_rule.specs.declared.view.Record.{Record}
use Rattle.bihash_rule.specs.declared.view.Known.{Known}
use Rattle.bihash_rule.specs.declared.view.Openings.{Openings}
use Rattle.bihash_rule.specs.declared.view.Holdings.{Holdings}
use Rattle.bihash_rule.specs.declared.view.Notes.{Notes}
use Rattle.bihash_rule.specs.declared.view.View.{View}

-- a caller number under which nothing was done
abbrev pub empty_record : ℕ → Record
empty_record number = record { number = number; calls = []; locks = 0 }

-- a row that began with no pair in any bucket, of which no page had been handed out
abbrev pub no_openings : Openings
no_openings = record { pairs = []; used = 0 }

-- what a row was told that it begins with, where it was told so
abbrev pub openings_told : {A : Type 0} → (A → Openings) → Option A → Openings
openings_told told None = no_openings
openings_told told (Some m) = told m

-- no write of any bucket of a row with these openings
abbrev pub nothing_since : Sizes → Openings → Known
nothing_since z openings = record { openings = openings; writes = replicate (buckets z) [] }

abbrev pub nothing_known : Sizes → Known
nothing_known z = nothing_since z no_openings

abbrev pub nothing_held : Holdings
nothing_held = record { bucket = None; store = None; block = None }

abbrev pub no_notes : Notes
no_notes = record { open_bucket = None; left = None; meeting = None; row = [] }

-- caller 1 of a row with these openings, before its first call
abbrev pub opening_view : Sizes → Openings → View
opening_view z openings = record {
  records = empty_record 1 ∷ [];
  known = nothing_since z openings;
  log = [];
  seen = 1;
  lone = true;
  holds = nothing_held;
  notes = no_notes;
}

-- caller 1 of a new table
abbrev pub first_view : Sizes → View
first_view z = opening_view z no_openings
