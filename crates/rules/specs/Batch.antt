-- All selectors of a site in one call: the cut of a slice into stored queries, and their turns, each as the single call answers it. Order 2.
use Rattle.std.specs.Prelude.{ℕ, zero, suc, ◌+◌, ◌*◌, List, [], ◌∷◌, ◌++◌, Bool, ◌&&◌, cond, length, take, drop, leb}
use Rattle.rules.specs.Numbers.{number, Read, got, refused, need, on_read, and_then, long_answer, malformed_query, many_queries, short_room, queries_most, select_all_room}
use Rattle.rules.specs.Bytes.{big, of_big, is_empty}
use Rattle.rules.specs.Answers.{Answer, zeros, select_left}

-- ---- the cut: each query stands after its length, two bytes

-- the length of the query at the front, the query, what follows it
abbrev pub long_first : List ℕ → ℕ
long_first s = of_big (take 2 s)

unfoldable pub first_query : List ℕ → List ℕ
first_query s = take (long_first s) (drop 2 s)

unfoldable pub other_queries : List ℕ → List ℕ
other_queries s = drop (long_first s) (drop 2 s)

-- both bytes of the length are there, and as many as it says
unfoldable pub is_first : List ℕ → Bool
is_first s = leb 2 (length s) && leb (2 + long_first s) (length s)

-- the queries of s; n bounds their number
unfoldable pub cut_in : ℕ → List ℕ → Read (List (List ℕ))
cut_in zero s = need (is_empty s) malformed_query (got [])
cut_in (suc n) s =
    let more = on_read (λ qs. first_query s ∷ qs) (cut_in n (other_queries s)) in
    let first = need (is_first s) malformed_query more in
    cond (is_empty s) (got []) first

abbrev pub cut : List ℕ → Read (List (List ℕ))
cut s = cut_in (length s) s

-- 20, then 24
unfoldable pub read_queries : List ℕ → Read (List (List ℕ))
read_queries s = and_then (cut s) (λ qs. need (leb (length qs) queries_most) many_queries (got qs))

-- ---- the turns

-- what is told of the queries, eight bytes each; their rows, and behind these the bytes that were there; how many bytes the rows have
pub record Turns : Type 0 where
  pub told : List ℕ
  pub rows : List ℕ
  pub written : ℕ

-- a refusal and a count, four bytes each
abbrev pub told_of : Answer → List ℕ
told_of a = big 4 a.refusal ++ big 4 a.count

-- each query is answered by the single call, over the rows that those before it left
unfoldable pub turns : List (List ℕ) → List ℕ → List ℕ → Turns
turns [] l rows = record { told = []; rows = rows; written = 0 }
turns (q ∷ qs) l rows =
    let one = select_left q l rows [] in
    let n = one.answer.written in
    let more = turns qs l (drop n one.output) in
    record {
      told = told_of one.answer ++ more.told;
      rows = take n one.output ++ more.rows;
      written = n + more.written;
    }

-- ---- the call

pub record AllLeft : Type 0 where
  pub answer : Answer
  pub answers : List ℕ
  pub rows : List ℕ
  pub room : List ℕ

-- a refusal leaves answers and rows as they were; the room ends all zeros in every case
abbrev pub leave_all : Read (List (List ℕ)) → List ℕ → List ℕ → List ℕ → List ℕ → AllLeft
leave_all (refused r) l answers rows room = record {
  answer = record { refusal = number r; written = 0; count = 0; rounds = 0; place = 0 };
  answers = answers;
  rows = rows;
  room = zeros room;
}
leave_all (got qs) l answers rows room =
    let ts = turns qs l rows in
    record {
      answer = record { refusal = 0; written = ts.written; count = length qs; rounds = 0; place = 0 };
      answers = ts.told ++ drop (length ts.told) answers;
      rows = ts.rows;
      room = zeros room;
    }

-- eight bytes of answers for each query, or 18
abbrev pub answerable : ℕ → List (List ℕ) → Read (List (List ℕ))
answerable n qs = need (leb (8 * length qs) n) long_answer (got qs)

-- 32, 20, 24, then 18
unfoldable pub select_all_left : List ℕ → List ℕ → List ℕ → List ℕ → List ℕ → AllLeft
select_all_left queries l answers rows room =
    leave_all (need (leb select_all_room (length room)) short_room (and_then (read_queries queries) (answerable (length answers)))) l answers rows room
