-- Each public call's whole answer: number, length, count, rounds, place, and what the output and the room hold afterwards. Section 'Refusal numbers'.
use Rattle.std.specs.Prelude.{ℕ, List, [], ◌∷◌, ◌++◌, Bool, length, drop, replicate, leb}
use Rattle.rules.specs.Numbers.{Refusal, number, place_of, Read, got, refused, need, on_read, and_then, long_answer, short_room, parse_room, rewrite_room, select_room}
use Rattle.rules.specs.Bytes.{big}
use Rattle.rules.specs.Query.{Query}
use Rattle.rules.specs.Stored.{encode}
use Rattle.rules.specs.Reading.{read_for_rewriting, read_for_selection}
use Rattle.rules.specs.Setup.{read_setup}
use Rattle.rules.specs.Parsing.{parse}
use Rattle.rules.specs.Rewriting.{Rewritten, rewritten, rewrite}
use Rattle.rules.specs.Lists.{read_list}
use Rattle.rules.specs.Matching.{chosen}

-- the refusal's number or 0, the bytes written, the records chosen, the rounds made, the place of a text's fault or 0
pub record Answer : Type 0 where
  pub refusal : ℕ
  pub written : ℕ
  pub count : ℕ
  pub rounds : ℕ
  pub place : ℕ

-- what a call leaves: its answer, the lent output and the lent room
pub record Left : Type 0 where
  pub answer : Answer
  pub output : List ℕ
  pub room : List ℕ

-- what a call that is not refused has to say
pub record Reply : Type 0 where
  pub bytes : List ℕ
  pub count : ℕ
  pub rounds : ℕ

abbrev pub zeros : List ℕ → List ℕ
zeros room = replicate (length room) 0

-- a refusal leaves the output as it was; success changes the answer's bytes only; the room ends all zeros in every case; w says where a refusal is
abbrev pub leave_with : (Refusal → ℕ) → Read Reply → List ℕ → List ℕ → Left
leave_with w (refused r) output room = record {
  answer = record { refusal = number r; written = 0; count = 0; rounds = 0; place = w r };
  output = output;
  room = zeros room;
}
leave_with w (got a) output room = record {
  answer = record { refusal = 0; written = length a.bytes; count = a.count; rounds = a.rounds; place = 0 };
  output = a.bytes ++ drop (length a.bytes) output;
  room = zeros room;
}

abbrev pub leave : Read Reply → List ℕ → List ℕ → Left
leave r output room = leave_with (λ x. 0) r output room

-- of a call that is handed a text
abbrev pub leave_at : Read Reply → List ℕ → List ℕ → Left
leave_at r output room = leave_with place_of r output room

-- an answer longer than the lent output is refused
abbrev pub fitting : ℕ → Reply → Read Reply
fitting n a = need (leb (length a.bytes) n) long_answer (got a)

-- 32 before all else, then what the call itself refuses, then 18
abbrev pub met : ℕ → Read Reply → List ℕ → List ℕ → Read Reply
met n reply output room = need (leb n (length room)) short_room (and_then reply (fitting (length output)))

unfoldable pub call : ℕ → Read Reply → List ℕ → List ℕ → Left
call n reply output room = leave (met n reply output room) output room

unfoldable pub call_at : ℕ → Read Reply → List ℕ → List ℕ → Left
call_at n reply output room = leave_at (met n reply output room) output room

-- ---- parsing: the setup (3), then the text

abbrev pub stored_reply : Query → Reply
stored_reply q = record { bytes = encode q; count = 0; rounds = 0 }

unfoldable pub parse_reply : ℕ → ℕ → List ℕ → List ℕ → List ℕ → Read Reply
parse_reply o a f es text = on_read stored_reply (and_then (read_setup o a f es) (λ st. parse st text))

unfoldable pub parse_left : ℕ → ℕ → List ℕ → List ℕ → List ℕ → List ℕ → List ℕ → Left
parse_left o a f es text output room = call_at parse_room (parse_reply o a f es text) output room

-- ---- rewriting, in either way

abbrev pub rewritten_reply : Rewritten → Reply
rewritten_reply (rewritten q n) = record { bytes = encode q; count = 0; rounds = n }

unfoldable pub rewrite_reply : Bool → List ℕ → Read Reply
rewrite_reply strict s = on_read (λ q. rewritten_reply (rewrite strict q)) (read_for_rewriting s)

unfoldable pub rewrite_left : Bool → List ℕ → List ℕ → List ℕ → Left
rewrite_left strict s output room = call rewrite_room (rewrite_reply strict s) output room

-- ---- selection: the query (19, 20, 21), the list (22, 23)

unfoldable pub selected : List ℕ → List ℕ → Read (List ℕ)
selected s l = and_then (read_for_selection s) (λ q. on_read (chosen q) (read_list l))

-- record numbers as bytes, four each
unfoldable pub row_bytes : List ℕ → List ℕ
row_bytes [] = []
row_bytes (n ∷ ns) = big 4 n ++ row_bytes ns

abbrev pub rows_reply : List ℕ → Reply
rows_reply ns = record { bytes = row_bytes ns; count = length ns; rounds = 0 }

unfoldable pub select_left : List ℕ → List ℕ → List ℕ → List ℕ → Left
select_left s l rows room = call select_room (on_read rows_reply (selected s l)) rows room
