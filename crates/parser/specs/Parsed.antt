-- What the public call answers, and what it leaves: the numbers and values of each of its cases.
use Rattle.std.specs.Prelude.{◌≡◌, Result, Ok, Err, ℕ, ◌≤◌, List, ◌++◌, leb, length, drop}
use Rattle.rules.specs.Numbers.{text_most, Refusal, Read, got, refused, need, and_then, long_answer, selection_bytes, parse_room}
use Rattle.rules.specs.Query.{Query}
use Rattle.rules.specs.Stored.{encode}
use Rattle.rules.specs.Answers.{Answer, Reply, Left, met, parse_reply, parse_left}
use Rattle.names.specs.Refusals.{numbered, located, answered_at}
use Rattle.names.specs.declared.refusal.Fault.{Fault}

abbrev pub answer_of : Result ℕ Fault → Answer
answer_of (Err e) = record { refusal = numbered e.refusal; written = 0; count = 0; rounds = 0; place = e.place }
answer_of (Ok n) = record { refusal = 0; written = n; count = 0; rounds = 0; place = 0 }

abbrev pub left_of : Result ℕ Fault → List ℕ → List ℕ → Left
left_of p output room = record { answer = answer_of p; output = output; room = room }

-- a query that an output of n bytes has room for
abbrev pub fit : ℕ → Query → Read Query
fit n q = need (leb (length (encode q)) n) long_answer (got q)

-- what was read goes to the output, if it fits; a refusal leaves the output as it was; and bounds on the place and the length, for a caller that narrows them
abbrev pub Delivers : Read Query → List ℕ → Result ℕ Fault → List ℕ → Type 0
Delivers r out (Err e) out' = (x : Refusal) × (and_then r (fit (length out)) ≡ refused x) × (e ≡ located x) × (out' ≡ out) × (e.place ≤ text_most)
Delivers r out (Ok n) out' = (q : Query) × (and_then r (fit (length out)) ≡ got q) × (n ≡ length (encode q)) × (out' ≡ encode q ++ drop n out) × (n ≤ selection_bytes)

-- what the call answers of its reply: how many bytes that has, or the refusal and its place
abbrev pub told : Read Reply → Result ℕ Fault
told r = answered_at (λ a. length a.bytes) r

-- the whole answer of the call, also by its numbers, and the bounds
pub record Parses (o a : ℕ) (f es text out room out-after room_after : List ℕ) (r : Result ℕ Fault) : Type 0 where
  pub answer : r ≡ told (met parse_room (parse_reply o a f es text) out room)
  pub is : left_of r out-after room_after ≡ parse_left o a f es text out room
  pub short : (answer_of r).written ≤ selection_bytes
  pub near : (answer_of r).place ≤ text_most
