-- How long a worker takes for a round over its buckets, and how many of them a packet looks at. No promise rests on it.
use Rattle.std.specs.Prelude.{◌≡◌, ◌+◌, ◌-◌, ◌*◌, ◌/◌, ◌%◌, ◌^◌, ℕ, Bool, true, false, min, max}
use Rattle.session_state.specs.declared.timeouts.Timeouts.{Timeouts}

-- the greatest moment: a worker that doesn't age is due then
abbrev pub no_moment : ℕ
no_moment = 2 ^ 64 - 1

-- from which moment on a worker ages first
abbrev pub first_due : Bool → ℕ
first_due true = 0
first_due false = no_moment

-- the seconds of a round: where pages are short, a quarter of the shortest timeout
abbrev pub seconds_of_round : Timeouts → Bool → ℕ
seconds_of_round times false = 512
seconds_of_round times true = max (min (min times.transient times.udp) times.established / 4) 1

-- those of a part of it
abbrev pub seconds_of_part : ℕ → ℕ
seconds_of_part round = max (round / 64) 1

-- how many parts of this size are in so many, the last of them perhaps not whole
abbrev pub parts_in : ℕ → ℕ → ℕ
parts_in many size = many / size + min 1 (many % size)

-- of so many buckets, how many fall to this worker of so many
abbrev pub count_of_own : ℕ → ℕ → ℕ → ℕ
count_of_own buckets worker workers = parts_in (buckets - worker) workers

-- the most of so many buckets that a packet looks at: a 64th part, or all where pages are short
abbrev pub most_at_once : ℕ → Bool → ℕ
most_at_once buckets false = parts_in buckets 64
most_at_once buckets true = buckets

-- of so many buckets as large a part as these seconds are of a round, and no more than the most
abbrev pub due_after : Timeouts → Bool → ℕ → ℕ → ℕ
due_after times short buckets elapsed =
    min (parts_in (min (buckets * elapsed) (2 ^ 64 - 1)) (seconds_of_round times short)) (most_at_once buckets short)
