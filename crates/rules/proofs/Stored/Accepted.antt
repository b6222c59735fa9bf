-- What a reader's answer 0 tells a caller: the bytes are one query's stored form within the limits; the list's records are sound.
use mathlib.Core.Path.{◌≡◌, sym, ◌∙◌}
use Prim.Native.Nat.{ℕ, ◌≤◌}
use mathlib.Core.List.{List}
use mathlib.Core.Bool.{true}
use lib.ListN.{length}
use lib.Dec.{leb}
use borrow.Author.Tests.{leb-true}
use Rattle.rules.specs.Numbers.{long_list, malformed_list, list_most, got}
use Rattle.rules.specs.Bytes.{Bytes, every, each}
use Rattle.rules.specs.Query.{Query, depth}
use Rattle.rules.specs.Reading.{number_of, read_within}
use Rattle.rules.specs.Checked.{Is, Stored}
use Rattle.rules.specs.Lists.{is_record, record_of, read_list}
use Rattle.rules.proofs.Stored.Refusals.{number_got, need_got}
use Rattle.rules.proofs.Stored.Sound.{read_sound}

-- ---- queries

pub record Accepted (most d : ℕ) (s : List ℕ) : Type 0 where
  pub query : Query
  pub read : read_within most d s ≡ got query
  pub is : Is s query
  pub deep : depth query ≤ d
  pub long : length s ≤ most

-- r is what the reader said
pub accepted : (most d : ℕ) (s : List ℕ) (r : ℕ) → Bytes s → r ≡ number_of (read_within most d s) → r ≡ 0 → Accepted most d s
accepted most d s r B e z =
    let g = number_got (read_within most d s) (sym e ∙ z) in
    let S = read_sound most d s g.0 B g.1 in
    record {
      query = g.0;
      read = g.1;
      is = record { valid = S.1.valid; form = S.1.form };
      deep = S.1.deep;
      long = S.0;
    }

pub stored : {most d : ℕ} {s : List ℕ} → Accepted most d s → Stored s
stored a = record { query = a.query; is = a.is }

-- ---- lists

pub record Listed (l : List ℕ) : Type 0 where
  pub read : read_list l ≡ got (each record_of l)
  pub records : every is_record l ≡ true
  pub long : length l ≤ list_most

pub listed : (l : List ℕ) (r : ℕ) → r ≡ number_of (read_list l) → r ≡ 0 → Listed l
unfolding read_list
listed l r e z =
    let g = number_got (read_list l) (sym e ∙ z) in
    let k = need_got (leb (length l) list_most) long_list _ g.0 g.1 in
    let m = need_got (every is_record l) malformed_list (got (each record_of l)) g.0 k.1 in
    record {
      read = g.1 ∙ sym m.1;
      records = m.0;
      long = leb-true (length l) list_most k.0;
    }
