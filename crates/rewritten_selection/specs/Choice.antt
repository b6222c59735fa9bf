-- Rewriting and then selecting, as one answer; and demand 3 of it, which speaks of the query as it was written.
use Rattle.std.specs.Prelude.{◌≡◌, ◌↔◌, ℕ, ◌≤◌, Bool, length, take, drop, leb, Result, Ok, Err}
use mathlib.Core.List.{List, ◌++◌, Memᴰ}
use Rattle.rules.specs.Numbers.{number, Read, got, refused, need, on_read, and_then, long_answer, short_room, rewrite_room}
use Rattle.rules.specs.Query.{Query}
use Rattle.rules.specs.Reading.{read_for_rewriting}
use Rattle.rules.specs.Rewriting.{weight, largest, Fair}
use Rattle.rules.specs.Lists.{Entry, read_list}
use Rattle.rules.specs.Answers.{Reply, zeros, rewrite_reply, selected}
use Rattle.rules.specs.Matching.{IsChosen, RisingFrom}
use Rattle.names.specs.Refusals.{numbered, answered}
use Rattle.names.specs.declared.refusal.Refusal.{Refusal}
use Rattle.rewritten_selection.specs.declared.Choice.{Choice}

-- room for what the rewriter makes of any query: no round passes it
abbrev pub held_room : ℕ
held_room = 38229

-- ---- the answer

pub record Chosen : Type 0 where
  pub rows : List ℕ
  pub rounds : ℕ

-- the records chosen by what was written for the query, and the rounds that this took
abbrev pub chosen_by : List ℕ → Reply → Read Chosen
chosen_by l a = on_read (λ ns. record { rows = ns; rounds = a.rounds }) (selected a.bytes l)

-- more records than there are rows are refused
abbrev pub fitting : ℕ → Chosen → Read Chosen
fitting n c = need (leb (length c.rows) n) long_answer (got c)

-- 19, 20, 21 of the query, 22, 23 of the list, and 18
abbrev pub chosen : Bool → List ℕ → List ℕ → ℕ → Read Chosen
chosen strict s l n = and_then (and_then (rewrite_reply strict s) (chosen_by l)) (fitting n)

-- what the call leaves
pub record Left : Type 0 where
  pub refusal : ℕ
  pub count : ℕ
  pub rounds : ℕ
  pub rows : List ℕ
  pub held : List ℕ
  pub room : List ℕ

abbrev pub left : ℕ → ℕ → ℕ → List ℕ → List ℕ → List ℕ → Left
left refusal count rounds rows held room = record { refusal = refusal; count = count; rounds = rounds; rows = rows; held = held; room = room }

-- a refusal leaves the rows as they were; success changes those of the answer only; both rooms end all zeros in every case
abbrev pub leave : Read Chosen → List ℕ → List ℕ → List ℕ → Left
leave (refused r) rows held room = left (number r) 0 0 rows (zeros held) (zeros room)
leave (got c) rows held room = left 0 (length c.rows) c.rounds (c.rows ++ drop (length c.rows) rows) (zeros held) (zeros room)

-- 32 before all else
abbrev pub met : Bool → List ℕ → List ℕ → List ℕ → List ℕ → List ℕ → Read Chosen
met strict s l rows held room = need (leb held_room (length held)) short_room (need (leb rewrite_room (length room)) short_room (chosen strict s l (length rows)))

unfoldable pub choice_left : Bool → List ℕ → List ℕ → List ℕ → List ℕ → List ℕ → Left
choice_left strict s l rows held room = leave (met strict s l rows held room) rows held room

-- the answer's numbers, and what the call leaves by them
abbrev pub refusal_of : Result Choice Refusal → ℕ
refusal_of (Ok c) = 0
refusal_of (Err e) = numbered e

abbrev pub count_of : Result Choice Refusal → ℕ
count_of (Ok c) = c.count
count_of (Err e) = 0

abbrev pub rounds_of : Result Choice Refusal → ℕ
rounds_of (Ok c) = c.rounds
rounds_of (Err e) = 0

abbrev pub left_of : Result Choice Refusal → List ℕ → List ℕ → List ℕ → Left
left_of r rows held room = left (refusal_of r) (count_of r) (rounds_of r) rows held room

-- what the call answers of what was read
abbrev pub told : Read Chosen → Result Choice Refusal
told o = answered (λ c. record { count = length c.rows; rounds = c.rounds }) o

-- the whole answer of the call, and what it leaves
pub record Chooses (strict : Bool) (s l rows held room : List ℕ) (r : Result Choice Refusal) (rows' held' room' : List ℕ) : Type 0 where
  pub answer : r ≡ told (met strict s l rows held room)
  pub is : left_of r rows' held' room' ≡ choice_left strict s l rows held room

-- ---- demand 3

-- The query is read as q and the list as rs. The rounds are at most q's weight. Where the call is not refused, the rows it wrote are those records of rs
-- that q is true of, and no other, each once, rising. And it is not refused where rooms are as long as stated and there is a row for every record.
pub record DemandedOf (q : Query) (rs : List (List Entry)) (rows held room : List ℕ) (refusal count rounds : ℕ) (rows' : List ℕ) : Type 0 where
  pub few : rounds ≤ weight q
  pub these : refusal ≡ 0 → (k : ℕ) → Memᴰ k (take count rows') ↔ IsChosen q rs k
  pub in_order : refusal ≡ 0 → RisingFrom 0 (take count rows')
  pub taken : held_room ≤ length held → rewrite_room ≤ length room → length rs ≤ length rows → refusal ≡ 0

-- of every query that the rewriter reads, strict at every minimum and else where none is above 1, and every sound list
unfoldable pub Demanded : Bool → List ℕ → List ℕ → List ℕ → List ℕ → List ℕ → ℕ → ℕ → ℕ → List ℕ → Type 0
Demanded strict s l rows held room refusal count rounds rows' =
    (q : Query) (rs : List (List Entry)) → read_for_rewriting s ≡ got q → Fair strict (largest q) → read_list l ≡ got rs
    → DemandedOf q rs rows held room refusal count rounds rows'
