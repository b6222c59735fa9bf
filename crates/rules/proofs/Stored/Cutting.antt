-- The cut of a slice into queries, a query at a time. Section 'All selectors of a site in one call' of the orders.
use mathlib.Core.Path.{◌≡◌, refl, sym, ap, ◌∙◌}
use Prim.Native.Nat.{ℕ, zero, suc, ◌+◌, ◌-◌, ◌≤◌, ◌<◌}
use mathlib.Core.List.{List, [], ◌∷◌}
use mathlib.Core.Bool.{true, false}
use native.Mathlib.Omega.{arith}
use lib.ListN.{length, length-drop}
use lib.Dec.{leb}
use borrow.Author.Tests.{leb-true}
use Rattle.rules.specs.Numbers.{malformed_query, Read, got, refused, need, on_read}
use Rattle.rules.specs.Bytes.{is_empty}
use Rattle.rules.specs.Batch.{long_first, first_query, other_queries, is_first, cut_in, cut}
use Rattle.rules.proofs.Bools.{clash, and_r}
use Rattle.rules.proofs.Stored.Rows.{enough}
use Rattle.rules.proofs.Stored.Refusals.{need_yes, need_no, need_got, on_got}

-- the bytes that the front of a slice says that it has are there
pub first_fits : (s : List ℕ) → is_first s ≡ true → 2 + long_first s ≤ length s
unfolding is_first
first_fits s h = leb-true (2 + long_first s) (length s) (and_r (leb 2 (length s)) (leb (2 + long_first s) (length s)) h)

pub first_long : (s : List ℕ) → is_first s ≡ true → 2 ≤ length s
first_long s h = omega (arith, first_fits s h)

pub length_others : (s : List ℕ) → length (other_queries s) ≡ length s - (2 + long_first s)
unfolding other_queries
length_others s = simp length-drop (omega arith)

others_within : (n x : ℕ) (s : List ℕ) → length (x ∷ s) ≤ suc n → length (other_queries (x ∷ s)) ≤ n
others_within n x s h = omega (arith, length_others (x ∷ s))

pub others_shorter : (s : List ℕ) → 0 < length s → length (other_queries s) < length s
others_shorter s h = omega (arith, length_others s)

-- what the query at the front makes of those that follow it
abbrev cut_of : List ℕ → Read (List (List ℕ)) → Read (List (List ℕ))
cut_of s more = need (is_first s) malformed_query (on_read (λ qs. first_query s ∷ qs) more)

cut_end : (n : ℕ) → cut_in n [] ≡ got []
unfolding cut_in
cut_end zero = refl
cut_end (suc n) = refl

cut_more : (n x : ℕ) (s : List ℕ) → cut_in (suc n) (x ∷ s) ≡ cut_of (x ∷ s) (cut_in n (other_queries (x ∷ s)))
unfolding cut_in
cut_more n x s = refl

cut_in_lem : (n : ℕ) (s : List ℕ) → length s ≤ n → cut_in n s ≡ cut s
cut_in_lem n s h = enough other_queries others_within cut_in (got []) cut_of cut_end cut_more n (length s) s h (omega arith)

pub cut_done : (s : List ℕ) → is_empty s ≡ true → cut s ≡ got []
cut_done [] e = cut_end 0
cut_done (x ∷ s) e = clash e refl

cut_step : (s : List ℕ) → is_empty s ≡ false → cut s ≡ cut_of s (cut (other_queries s))
cut_step [] e = clash refl e
cut_step (x ∷ s) e = cut_more (length s) x s ∙ ap (cut_of (x ∷ s)) (cut_in_lem (length s) (other_queries (x ∷ s)) (others_within (length s) x s (omega arith)))

pub cut_bad : (s : List ℕ) → is_empty s ≡ false → is_first s ≡ false → cut s ≡ refused malformed_query
cut_bad s e h = cut_step s e ∙ need_no malformed_query _ h

pub cut_next : (s : List ℕ) → is_empty s ≡ false → is_first s ≡ true → cut s ≡ on_read (λ qs. first_query s ∷ qs) (cut (other_queries s))
cut_next s e h = cut_step s e ∙ need_yes malformed_query _ h

-- a slice that was cut, by its first query and the others
pub record Front (s : List ℕ) (qs : List (List ℕ)) : Type 0 where
  pub is : is_first s ≡ true
  pub others : List (List ℕ)
  pub rest : cut (other_queries s) ≡ got others
  pub split : qs ≡ first_query s ∷ others

pub front : (s : List ℕ) (qs : List (List ℕ)) → is_empty s ≡ false → cut s ≡ got qs → Front s qs
front s qs e h =
    let n = need_got (is_first s) malformed_query (on_read (λ qs. first_query s ∷ qs) (cut (other_queries s))) qs (sym (cut_step s e) ∙ h) in
    let o = on_got (λ (qs : List (List ℕ)). first_query s ∷ qs) (cut (other_queries s)) qs n.1 in
    record { is = n.0; others = o.0; rest = o.1; split = o.2 }
