-- What the two conversions give for a size and for a pattern with no sign.
use Rattle.std.specs.Prelude.{◌≡◌, Bool, cond, ℕ, ◌+◌, ◌*◌, ◌/◌, ◌%◌, ◌^◌, ◌<◌, ◌≤◌, Float}
use Rattle.std.specs.Float.{binary32, binary64}
use Rattle.std.specs.Float.Ieee.{of_fields, to_bits}
use Rattle.std.specs.Float.Ieee.Exact.{HasValue}
use Rattle.rules.specs.Floats.{narrowed}
use Rattle.rules.specs.Numerals.{infinity}

-- r, with the sign's bit put in, is the f64 pattern of every v that is q * 2 ^ (k - 149) in size
pub record Widened (q k r : ℕ) : Type 0 where
  pub is : (s : Bool) (v : Float) → HasValue v s (q * 2 ^ k) (2 ^ 149) → to_bits binary64 v ≡ cond s (2 ^ 63) 0 + r
  pub small : r < 2 ^ 63

pub record WidenedBits (m r : ℕ) : Type 0 where
  pub is : (s : Bool) → to_bits binary64 (of_fields binary32 s (m / 2 ^ 23) (m % 2 ^ 23)) ≡ cond s (2 ^ 63) 0 + r
  pub small : r < 2 ^ 63

-- r, with the sign's bit put in, is the f32 pattern nearest to every v that is q * 2 ^ (k - 1074) in size
pub record Narrowed (q k r : ℕ) : Type 0 where
  pub is : (s : Bool) (v : Float) → HasValue v s (q * 2 ^ k) (2 ^ 1074) → narrowed v ≡ cond s (2 ^ 31) 0 + r
  pub small : r ≤ infinity

pub record NarrowedBits (m r : ℕ) : Type 0 where
  pub is : (s : Bool) → narrowed (of_fields binary64 s (m / 2 ^ 52) (m % 2 ^ 52)) ≡ cond s (2 ^ 31) 0 + r
  pub small : r ≤ infinity
