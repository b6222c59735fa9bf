-- A field and one part behind it that are ASCII throughout: what the quick test finds.
use mathlib.Core.Path.{◌≡◌, refl, ap}
use Prim.Native.Nat.{ℕ, ◌≤◌}
use mathlib.Core.List.{List}
use mathlib.Core.Bool.{true, ◌&&◌}
use native.Mathlib.Omega.{arith}
use lib.ListN.{length, drop}
use borrow.Author.Tests.{le-leb, leb-true}
use lib.Dec.{leb}
use Rattle.rules.specs.Numbers.{field_tag, field_most}
use Rattle.rules.specs.Bytes.{is_empty, is_text, size_of, body_of, rest_of, is_part}
use Rattle.rules.proofs.Bools.{and_l, and_r, both}
use Rattle.rules.proofs.Stored.Parts.{part_is, body_shorter, empty_nil, less_empty}
use Rattle.parts.specs.Part.{Plain}
use Rattle.stretches.proofs.Joining.{text_first, text_later}

text_body : (s : List ℕ) → is_text s ≡ true → is_text (body_of s) ≡ true
unfolding body_of
text_body s h = text_first (size_of s) (drop 3 s) (text_later 3 s h)

text_rest : (s : List ℕ) → is_text s ≡ true → is_text (rest_of s) ≡ true
unfolding rest_of
text_rest s h = text_later (size_of s) (drop 3 s) (text_later 3 s h)

-- code has t, the part behind the field, and what stands in it and behind it
pub plain : (tag least : ℕ) (b t : List ℕ) → t ≡ rest_of b → length b ≤ 32 → is_part field_tag b ≡ true → is_part tag t ≡ true
    → least ≤ length (body_of t) → length (rest_of t) ≤ 0 → is_text b ≡ true → Plain tag least b
plain tag least b t e l p q m z h = record {
  field = both p (both (le-leb (length (body_of b)) field_most (omega (arith, body_shorter b (part_is field_tag b p).0))) (text_body b h));
  held = rw (← e) q;
  long = rw (← e) m;
  text = text_body (rest_of b) (text_rest b h);
  end = less_empty (rest_of (rest_of b)) (rw (← e) z);
}

-- the same, as code tests it
pub plainly : (tag least : ℕ) (b : List ℕ) → length b ≤ field_most → is_part field_tag b ≡ true
    → (is_part tag (rest_of b) && (leb least (length (body_of (rest_of b))) && is_empty (rest_of (rest_of b)))) ≡ true → is_text b ≡ true → Plain tag least b
plainly tag least b l p q h =
    let t = rest_of b in
    let long = leb least (length (body_of t)) in
    let end = is_empty (rest_of t) in
    let m = and_r (is_part tag t) (long && end) q in
    plain tag least b t refl l p (and_l (is_part tag t) (long && end) q) (leb-true least (length (body_of t)) (and_l long end m)) (omega (arith, ap length (empty_nil (rest_of t) (and_r long end m)))) h
