-- What was read, or the refusal: laws of `need`, `on_read`, `closed` and `added`, and of the number that an answer gives for it.
use mathlib.Core.Path.{◌≡◌, refl, sym}
use Prim.Native.Nat.{ℕ, ◌≤◌}
use mathlib.Core.Bool.{Bool, true, false}
use native.Mathlib.Omega.{arith}
use Rattle.rules.specs.Numbers.{Fault, fault_number, Refusal, long_text, not_ascii, bad_setup, faulty, open_quote, nothing_escaped, range_bracket, wildcard, fuzzy_term, sloppy_phrase, unexpected_end, unexpected_token, open_bracket, bad_numeral, no_numeral, long_field, many_brackets, long_numeral, long_answer, long_query, malformed_query, deep_query, long_list, malformed_list, many_queries, short_room, number, Read, got, refused, need, on_read}
use Rattle.rules.specs.Query.{Kind, Query, Clauses, clause}
use Rattle.rules.specs.Reading.{number_of, closed, added}
use Rattle.rules.proofs.Bools.{clash}

-- ---- a refusal is nothing that was read

pub no_got : {A B : Type 0} {r : Refusal} {a : A} → refused r ≡ got a → B
no_got h = absurd (let z : ◌≡◌ {A = ℕ} 0 1 = cc in omega arith)

pub got_same : {A : Type 0} {a b : A} → got a ≡ got b → a ≡ b
got_same h = cc

-- a fault has one of the numbers 4 to 17
pub fault_number_lem : (f : Fault) → (4 ≤ fault_number f) × (fault_number f ≤ 17)
fault_number_lem open_quote = omega arith
fault_number_lem nothing_escaped = omega arith
fault_number_lem range_bracket = omega arith
fault_number_lem wildcard = omega arith
fault_number_lem fuzzy_term = omega arith
fault_number_lem sloppy_phrase = omega arith
fault_number_lem unexpected_end = omega arith
fault_number_lem unexpected_token = omega arith
fault_number_lem open_bracket = omega arith
fault_number_lem bad_numeral = omega arith
fault_number_lem no_numeral = omega arith
fault_number_lem long_field = omega arith
fault_number_lem many_brackets = omega arith
fault_number_lem long_numeral = omega arith

-- no refusal has the number of a success
pub number_some : (r : Refusal) → number r ≡ 0 → ⊥
number_some long_text e = omega arith
number_some not_ascii e = omega arith
number_some bad_setup e = omega arith
number_some (faulty f p) e = omega (arith, fault_number_lem f)
number_some long_answer e = omega arith
number_some long_query e = omega arith
number_some malformed_query e = omega arith
number_some deep_query e = omega arith
number_some long_list e = omega arith
number_some malformed_list e = omega arith
number_some many_queries e = omega arith
number_some short_room e = omega arith

module _ {A : Type 0} where
  pub number_got : (o : Read A) → number_of o ≡ 0 → (a : A) × (o ≡ got a)
  number_got (got a) e = (a, refl)
  number_got (refused r) e = absurd (number_some r e)

  pub number_not : (o : Read A) → (number_of o ≡ 0 → ⊥) → (r : Refusal) × (o ≡ refused r)
  number_not (got a) n = absurd (n refl)
  number_not (refused r) n = (r, refl)

  pub number_read : {a : A} (o : Read A) → o ≡ got a → 0 ≡ number_of o
  number_read o e = rw e

  pub number_refused : {r : Refusal} (o : Read A) → o ≡ refused r → number r ≡ number_of o
  number_refused o e = rw e

-- ---- a test that has to pass

module _ {A : Type 0} where
  pub need_yes : {b : Bool} (r : Refusal) (o : Read A) → b ≡ true → need b r o ≡ o
  need_yes r o h = rw h

  pub need_no : {b : Bool} (r : Refusal) (o : Read A) → b ≡ false → need b r o ≡ refused r
  need_no r o h = rw h

  pub need_got : (b : Bool) (r : Refusal) (o : Read A) (a : A) → need b r o ≡ got a → (b ≡ true) × (o ≡ got a)
  need_got true r o a h = (refl, h)
  need_got false r o a h = no_got h

-- ---- what is made of what was read

module _ {A B : Type 0} (f : A → B) where
  pub on_number : (o : Read A) → number_of (on_read f o) ≡ number_of o
  on_number (got a) = refl
  on_number (refused r) = refl

  pub on_got : (o : Read A) (b : B) → on_read f o ≡ got b → (a : A) × (o ≡ got a) × (b ≡ f a)
  on_got (got a) b h = (a, refl, sym (got_same h))
  on_got (refused r) b h = no_got h

-- ---- what was read, if nothing is left over

pub closed_got : (o : Read Query) (e : Bool) (q : Query) → closed o e ≡ got q → (o ≡ got q) × (e ≡ true)
unfolding closed
closed_got (got p) true q h = (h, refl)
closed_got (got p) false q h = no_got h
closed_got (refused r) e q h = no_got h

pub closed_good : (o : Read Query) (e : Bool) → number_of o ≡ 0 → e ≡ true → number_of (closed o e) ≡ 0
unfolding closed
closed_good (got q) true n h = refl
closed_good (got q) false n h = clash h refl
closed_good (refused r) e n h = absurd (number_some r n)

pub closed_more : (o : Read Query) (e : Bool) → number_of o ≡ 0 → e ≡ false → number_of (closed o e) ≡ number malformed_query
unfolding closed
closed_more (got q) true n h = clash refl h
closed_more (got q) false n h = refl
closed_more (refused r) e n h = absurd (number_some r n)

pub closed_fault : (o : Read Query) (e : Bool) → (number_of o ≡ 0 → ⊥) → number_of (closed o e) ≡ number_of o
unfolding closed
closed_fault (got q) e n = absurd (n refl)
closed_fault (refused r) e n = refl

-- ---- a clause and those that follow it

module _ (k : Kind) where
  pub added_got : (o : Read Query) (os : Read Clauses) (cs : Clauses) → added k o os ≡ got cs
      → (q : Query) × (rest : Clauses) × (o ≡ got q) × (os ≡ got rest) × (cs ≡ clause k q rest)
  unfolding added
  added_got (got q) os cs h = let a = on_got (clause k q) os cs h in (q, a.0, refl, a.1, a.2)
  added_got (refused r) os cs h = no_got h

  pub added_number : (o : Read Query) (os : Read Clauses) → number_of o ≡ 0 → number_of (added k o os) ≡ number_of os
  unfolding added
  added_number (got q) os n = on_number (clause k q) os
  added_number (refused r) os n = absurd (number_some r n)

  pub added_fault : (o : Read Query) (os : Read Clauses) → (number_of o ≡ 0 → ⊥) → number_of (added k o os) ≡ number_of o
  unfolding added
  added_fault (got q) os n = absurd (n refl)
  added_fault (refused r) os n = refl
