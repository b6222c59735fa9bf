-- What the quick test of a field and a part behind it says where it passes.
use Rattle.std.specs.Prelude.{◌≡◌, ℕ, ◌≤◌, List, true, length}
use Rattle.rules.specs.Bytes.{is_empty, is_text, body_of, rest_of, is_part, is_field_part}

pub record Plain (tag least : ℕ) (b : List ℕ) : Type 0 where
  pub field : is_field_part b ≡ true
  pub held : is_part tag (rest_of b) ≡ true
  pub long : least ≤ length (body_of (rest_of b))
  pub text : is_text (body_of (rest_of b)) ≡ true
  pub end : is_empty (rest_of (rest_of b)) ≡ true
