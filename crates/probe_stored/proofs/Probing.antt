-- What a probe says of a query that was read, and of one that was not.
use mathlib.Core.Path.{◌≡◌, refl, sym, ap, ◌∙◌}
use Prim.Native.Nat.{ℕ}
use mathlib.Core.List.{List}
use Rattle.std.specs.Prelude.{Ok, Err}
use Rattle.names.specs.Refusals.{checked}
use Rattle.names.specs.declared.refusal.Refusal.{Refusal}
use Rattle.rules.specs.Numbers.{selection_bytes, selection_depth, Read, got, refused}
use Rattle.rules.specs.Bytes.{Bytes}
use Rattle.rules.specs.Checked.{Stored}
use Rattle.rules.specs.Query.{Query}
use Rattle.rules.specs.Reading.{number_of, read_for_selection}
use Rattle.rules.proofs.Stored.Accepted.{Accepted, accepted, stored}
use Rattle.measures.specs.Measure.{Weighs, Largest}
use Rattle.probe_stored.specs.Probe.{weight_read, largest_read}

pub no_weight : (o : Read Query) {r : Refusal} → Err r ≡ checked o → 0 ≡ weight_read o
no_weight (got q) e = cc
no_weight (refused r) e = refl

pub no_largest : (o : Read Query) {r : Refusal} → Err r ≡ checked o → 0 ≡ largest_read o
no_largest (got q) e = cc
no_largest (refused r) e = refl

number_ok : (o : Read Query) {u : Unit {0}} → Ok u ≡ checked o → 0 ≡ number_of o
number_ok (got q) e = refl
number_ok (refused r) e = cc

module _ (s : List ℕ) {u : Unit {0}} (e : Ok u ≡ checked (read_for_selection s)) (B : Bytes s) where
  A : Accepted selection_bytes selection_depth s
  A = accepted selection_bytes selection_depth s 0 B (number_ok (read_for_selection s) e) refl

  pub is_stored_lem : Stored s
  is_stored_lem = stored A

  pub weighs : (w : ℕ) → Weighs s w → w ≡ weight_read (read_for_selection s)
  weighs w W = W.weighs A.query A.is ∙ sym (ap weight_read A.read)

  pub has : (m : ℕ) → Largest s m → m ≡ largest_read (read_for_selection s)
  has m L = L.is A.query A.is ∙ sym (ap largest_read A.read)
