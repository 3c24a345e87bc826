-- Tasks that were run.
use Rattle.std.specs.Prelude.{◌≡◌, ◌<◌, ℕ, List, length, slice_index_or}

-- each task became what stands at its place
pub record HaveRun {T : Type 0} (becomes : T → T → Type 0) (olds news : List T) : Type 0 where
  pub count : length news ≡ length olds
  pub each : (i : ℕ) (d e : T) → i < length olds → becomes (slice_index_or olds i e) (slice_index_or news i d)
