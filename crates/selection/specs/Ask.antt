-- A query that is asked of one record after the other: what is found once of it, and what is known once it was asked of a record.
use Rattle.std.specs.Prelude.{◌≡◌, ℕ, ◌+◌, ◌≤◌, List, [], Bool, true, Option, Some, None, length, replicate}
use Rattle.rules.specs.Numbers.{list_most, selection_depth}
use Rattle.rules.specs.Bytes.{every, each}
use Rattle.rules.specs.Lists.{is_entry, entry_of}
use Rattle.entries.specs.Slots.{slots_many, Before}
use Rattle.wanted.specs.Marks.{Marks}
use Rattle.matching.specs.Truth.{Truth, StoredFor}
use Rattle.selection.specs.declared.ask.Plan.{Plan}
use Rattle.selection.specs.declared.ask.Question.{Question}

-- of a long query: what it can want is marked, and its truth of the record with no entry
pub record Planned (s wanted : List ℕ) (o : Option Plan) : Type 0 where
  pub many : length wanted ≡ slots_many
  pub marks : (p : Plan) → o ≡ Some p → Marks s wanted p.ranges
  pub bare : (p : Plan) → o ≡ Some p → Truth s [] p.bare

pub record Prepared (q : Question) : Type 0 where
  pub stored : StoredFor q.query.now
  pub planned : Planned q.query.now q.wanted q.plan
  pub deep : selection_depth ≤ length q.row

-- of which nothing is found yet
pub record Clean (q : Question) : Type 0 where
  pub none : q.plan ≡ None
  pub many : length q.wanted ≡ slots_many
  pub zeros : q.slots ≡ replicate slots_many 0
  pub deep : selection_depth ≤ length q.row

pub record Fresh (s : List ℕ) (q : Question) : Type 0 where
  pub query : q.query.now ≡ s
  pub clean : Clean q

-- before the first record
pub record Begun (s : List ℕ) (q : Question) : Type 0 where
  pub prepared : Prepared q
  pub query : q.query.now ≡ s
  pub zeros : q.slots ≡ replicate slots_many 0

-- a record, whose entries stand from `from` on in the list
pub record Ready (slots rec : List ℕ) (from : ℕ) : Type 0 where
  pub entries : every is_entry rec ≡ true
  pub fits : from + length rec ≤ list_most
  pub before : Before slots from

-- the truth of the record, and that no slot holds a place behind it
pub record Asked (q : Question) (rec : List ℕ) (from : ℕ) (new : Question) (r : Bool) : Type 0 where
  pub truth : Truth q.query.now (each entry_of rec) r
  pub before : Before new.slots (from + length rec)
  pub prepared : Prepared new
  pub query : new.query.now ≡ q.query.now
