-- What a whole part has at its front, and a header as it is written.
use mathlib.Core.Path.{◌≡◌, sym, ap, ◌∙◌}
use Prim.Native.Nat.{ℕ, ◌+◌, ◌/◌, ◌%◌, ◌≤◌, ◌<◌}
use mathlib.Core.List.{List}
use mathlib.Core.Bool.{true}
use native.Mathlib.Omega.{arith}
use lib.ListN.{length, set, length-set}
use Rattle.rules.specs.Bytes.{big, whole_of}
use Rattle.rules.proofs.Stored.Parts.{whole_le}
use Rattle.rules.proofs.Stored.Bigs.{length_big}
use Rattle.numbers.specs.Laid.{Put, header}
use Rattle.numbers.proofs.Laying.{two_laid, header_laid}

pub header_there : (s : List ℕ) → whole_of s ≡ true → 3 ≤ length s
header_there s h = let l = whole_le s h in omega arith

behind : (at : ℕ) → at + 1 + 1 ≡ at + 2
behind at = omega arith

-- a tag is stored, and the length laid behind it
pub header_put : (out left : List ℕ) (at t n next : ℕ) → at + 3 ≤ length out → n < 65536 → Put (set out at t) (at + 1) (big 2 n) next left
    → Put out at (header t n) next left
header_put out left at t n next fits l p =
    let two = two_laid (set out at t) (at + 1) n (simp length-set (omega (arith, fits))) l in
    record {
      place = p.place ∙ omega (arith, length_big 2 n);
      bytes = p.bytes ∙ sym two ∙ ap (λ (i : ℕ). set (set (set out at t) (at + 1) (n / 256)) i (n % 256)) (behind at) ∙ header_laid out at t n fits;
    }
