-- What an input asks to be shown, from the numbers of the calls and the stored bytes that they left; and what the public call leaves.
use Rattle.std.specs.Prelude.{◌≡◌, Result, Ok, Err, ℕ, ◌≤◌, List, ◌++◌, cond, length, take, eqb}
use Rattle.rules.specs.Numbers.{number, long_answer, long_query, got, rewrite_room}
use Rattle.rules.specs.Bytes.{ascii}
use Rattle.rules.specs.Checked.{Stored}
use Rattle.rules.specs.Rewriting.{rewritten}
use Rattle.rules.specs.Show.{decimal, show_rewritten, show_text}
use Rattle.rules.specs.Answers.{Answer, Left, Reply, call}
use Rattle.names.specs.Refusals.{numbered}
use Rattle.names.specs.declared.refusal.Refusal.{Refusal}
use Rattle.names.specs.declared.refusal.Fault.{Fault}
use Rattle.show.specs.Node.{query_in}
use Rattle.show.specs.declared.answer.Made.{Made}

-- a query too long for the stretch that is lent to parsing is too long to be rewritten
abbrev pub shown_refusal : ℕ → ℕ
shown_refusal e = cond (eqb e (number long_answer)) (number long_query) e

-- the numbers of an answer: its refusal or 0, and the place of that
abbrev pub refusal_in : {A : Type 0} → Result A Fault → ℕ
refusal_in (Ok a) = 0
refusal_in (Err f) = numbered f.refusal

abbrev pub place_in : {A : Type 0} → Result A Fault → ℕ
place_in (Ok a) = 0
place_in (Err f) = f.place

abbrev pub rounds_in : Result ℕ Fault → ℕ
rounds_in (Ok n) = n
rounds_in (Err f) = 0

-- the bytes in both stretches, and the rounds; none of a refusal
abbrev pub written_by : Result Made Fault → ℕ
written_by (Ok m) = m.written
written_by (Err f) = 0

abbrev pub rewritten_by : Result Made Fault → ℕ
rewritten_by (Ok m) = m.rewritten
rewritten_by (Err f) = 0

abbrev pub rounds_by : Result Made Fault → ℕ
rounds_by (Ok m) = m.rounds
rounds_by (Err f) = 0

unfoldable pub refusal_text : ℕ → ℕ → List ℕ
refusal_text r p = ascii "refused " ++ decimal r ++ ascii " " ++ decimal p ++ ascii "\n"

-- the text, from a refusal's number or 0, its place, both stored queries and the rounds
unfoldable pub answer_text : ℕ → ℕ → List ℕ → List ℕ → ℕ → List ℕ
answer_text r p w v n = cond (eqb r 0) (show_rewritten (query_in w) (rewritten (query_in v) n)) (refusal_text r p)

pub record ToSay (r p : ℕ) (w v : List ℕ) (n : ℕ) : Type 0 where
  pub written : r ≡ 0 → Stored w
  pub rewritten : r ≡ 0 → Stored v
  pub short : length w ≤ 0xffff
  pub shorter : length v ≤ 0xffff
  pub few : n ≤ 0xffff
  pub near : p ≤ 0xffff

-- the text of the input s is that of what was made, with w bytes in the first stretch and v in the second
pub record Makes (s : List ℕ) (r p w : ℕ) (first : List ℕ) (v : ℕ) (second : List ℕ) (n : ℕ) : Type 0 where
  pub in_first : w ≤ length first
  pub in_second : v ≤ length second
  pub to_say : ToSay r p (take w first) (take v second) n
  pub text : answer_text r p (take w first) (take v second) n ≡ show_text s

-- ---- the public call

abbrev pub text_reply : List ℕ → Reply
text_reply t = record { bytes = t; count = 0; rounds = 0 }

-- 32 for a short room, 18 for a text that is longer than the output; else the text
unfoldable pub show_left : List ℕ → List ℕ → List ℕ → Left
show_left s output room = call rewrite_room (got (text_reply (show_text s))) output room

abbrev pub answer_of : Result ℕ Refusal → Answer
answer_of (Err r) = record { refusal = numbered r; written = 0; count = 0; rounds = 0; place = 0 }
answer_of (Ok n) = record { refusal = 0; written = n; count = 0; rounds = 0; place = 0 }

abbrev pub left_of : Result ℕ Refusal → List ℕ → List ℕ → Left
left_of p output room = record { answer = answer_of p; output = output; room = room }

-- what becomes of a text and an output: it fits, or 18 and the output stays as it was
unfoldable pub delivered : List ℕ → List ℕ → List ℕ → Left
delivered t output room = call 0 (got (text_reply t)) output room
