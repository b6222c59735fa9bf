-- Rounds until one changes nothing, and the call's answer, also by its numbers.
use Rattle.std.specs.Prelude.{◌≡◌, ℕ, ◌≤◌, List, Bool, Result, Ok, Err, length}
use Rattle.rules.specs.Numbers.{Read, rewrite_room}
use Rattle.rules.specs.Query.{Query}
use Rattle.rules.specs.Stored.{encode}
use Rattle.rules.specs.Answers.{Answer, Reply, Left, met, rewrite_reply, rewrite_left}
use Rattle.names.specs.Refusals.{numbered, answered}
use Rattle.names.specs.declared.refusal.Refusal.{Refusal}
use Rattle.places.specs.Within.{within}
use Rattle.rewriter.specs.declared.rounds.Rounds.{Rounds}

-- the query p, made in k rounds, stands in the first n bytes
pub record Settled (p : Query) (k n made : ℕ) (room : List ℕ) : Type 0 where
  pub low : n ≤ length room
  pub here : within 0 n room ≡ encode p
  pub rounds : made ≡ k

-- the answer's numbers, and what the call leaves by them
abbrev pub answer_of : Result Rounds Refusal → Answer
answer_of (Ok a) = record { refusal = 0; written = a.len; count = 0; rounds = a.rounds; place = 0 }
answer_of (Err e) = record { refusal = numbered e; written = 0; count = 0; rounds = 0; place = 0 }

abbrev pub left : Result Rounds Refusal → List ℕ → List ℕ → Left
left r output room = record { answer = answer_of r; output = output; room = room }

-- what the call answers of its reply: the bytes and the rounds, or the refusal
abbrev pub told : Read Reply → Result Rounds Refusal
told r = answered (λ a. record { len = length a.bytes; rounds = a.rounds }) r

-- the whole answer of the call, and what it leaves
pub record Rewrites (strict : Bool) (s out room : List ℕ) (r : Result Rounds Refusal) (out-after room_after : List ℕ) : Type 0 where
  pub answer : r ≡ told (met rewrite_room (rewrite_reply strict s) out room)
  pub is : left r out-after room_after ≡ rewrite_left strict s out room
