-- Stretches of one room, and what a routine that lays bytes there leaves.
use Rattle.std.specs.Prelude.{◌≡◌, ℕ, ◌-◌, List, length, take, drop}

-- the bytes from a up to e
abbrev pub within : ℕ → ℕ → List ℕ → List ℕ
within a e s = take (e - a) (drop a s)

-- s, of r bytes, stands at `to`; nothing below has changed, nor the length; what is behind is not said
pub record Stands (to : ℕ) (room : List ℕ) (r : ℕ) (s : List ℕ) (room' : List ℕ) : Type 0 where
  pub long : length room' ≡ length room
  pub kept : take to room' ≡ take to room
  pub size : r ≡ length s
  pub there : take r (drop to room') ≡ s
