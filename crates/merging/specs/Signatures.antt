-- Signatures of clauses: any function of the bytes would do. What a table says of them.
use Rattle.std.specs.Prelude.{◌≡◌, ℕ, suc, ◌+◌, ◌-◌, ◌*◌, ◌/◌, ◌%◌, ◌^◌, ◌≤◌, List, [], Option, Some, None, cond, length, get_or, take, drop, eqb, ltb}
use Rattle.std.specs.Borrow.{Bor}
use Rattle.rules.specs.Bytes.{of_big}
use Rattle.rules.specs.Query.{Clauses, none, clause}
use Rattle.rules.specs.Stored.{encode}
use Rattle.rules.specs.Checked.{Are}
use Rattle.rules.specs.Eating.{held}
use Rattle.places.specs.Within.{within}

-- the bytes of a table, and how many signatures there are: four to a byte
abbrev pub table_bytes : ℕ
table_bytes = 1408

abbrev pub signatures : ℕ
signatures = 5632

-- the four bytes from k before the end on, or the first four
abbrev pub word_of : List ℕ → ℕ → ℕ
word_of s k = of_big (take 4 (drop (length s - k) s))

abbrev pub mix_of : List ℕ → ℕ → ℕ
mix_of s k = word_of s k * 0x9e3_779b + word_of s (k + 4) * 0xc2b_2ae3 + word_of s (k + 8) * 0x85e_bca7 + word_of s (k + 12) * 0xd35_a2d9

unfoldable pub signature_of : List ℕ → ℕ
signature_of s = cond (ltb (length s) 4) 0 ((mix_of s 4 / 0x800_0000 + mix_of s 20 / 0x2000_0000 + length s % 65536) % signatures)

-- how many of the clauses are compared by bytes of the signature g
unfoldable pub having : ℕ → ℕ → Clauses → ℕ
having m g none = 0
having m g (clause j p cs) = cond (eqb (signature_of (encode (held m j p))) g) (suc (having m g cs)) (having m g cs)

-- the cell of a signature: two bits of a byte
unfoldable pub cell_in : ℕ → ℕ → ℕ
cell_in x j = x / 2 ^ (j * 2) % 4

abbrev pub cell_of : List ℕ → ℕ → ℕ
cell_of table g = cell_in (get_or table (g / 4) 0) (g % 4)

-- what a table holds of a signature once a clause more has it
unfoldable pub one_more : ℕ → ℕ
one_more n = cond (ltb n 2) (suc n) n

pub record OneMore (g : ℕ) (table table' : List ℕ) : Type 0 where
  pub long : length table' ≡ length table
  pub here : cell_of table' g ≡ one_more (cell_of table g)
  pub others : (i : ℕ) → (i ≡ g → ⊥) → cell_of table' i ≡ cell_of table i

-- what a table holds that is lent or not
abbrev pub cells_of : Option (Bor (List ℕ)) → List ℕ
cells_of (Some table) = table.now
cells_of None = []

-- where the table has 1, at most one clause has the signature
abbrev pub Noted : ℕ → List ℕ → Clauses → Type 0
Noted m table cs = (g : ℕ) → cell_of table g ≡ 1 → having m g cs ≤ 1

-- where the table has 1 for the base from b up to `at`, no clause from there up to `end` has its signature
abbrev pub Alone : ℕ → List ℕ → ℕ → ℕ → ℕ → List ℕ → Type 0
Alone m table b at end room = (cs : Clauses) → Are (within at end room) cs → cell_of table (signature_of (within b at room)) ≡ 1
    → having m (signature_of (within b at room)) cs ≡ 0
