-- What the two spans of the code find: the first token's start, and where its chunk ends. Assumes nothing.
use mathlib.Core.Path.{◌≡◌, refl, sym, ap, ◌∙◌}
use mathlib.Core.Bool.{Bool, true, false, cond, true≢false}
use mathlib.Core.List.{List}
use Prim.Native.Nat.{ℕ, ◌+◌, ◌-◌, ◌<◌, min}
use native.Mathlib.Omega.{arith}
use lib.Dec.{eqb}
use lib.ListN.{length, take, drop, length-take, length-drop}
use lib.Seq.{take_all}
use Rattle.rules.specs.Numbers.{chunk_most}
use Rattle.rules.specs.Analysis.{front, after, is_words}
use Rattle.rules.proofs.Text.Pieces.{outside, first_length, front_most, front_take}
use Rattle.analysis.specs.Tokens.{by_analyzer, inside, wanted, span_from, first_of, start_from, text_from, Found}
use Rattle.analysis.proofs.Steps.{whole_start, whole_text_lem, every_inside, found, rest_is, text_most_lem}

-- ---- analyzers that take a text whole, by the code's test

whole_not : (a : ℕ) → by_analyzer a false false true ≡ true → (a ≡ 1 → ⊥) × (a ≡ 2 → ⊥)
whole_not a h =
    (λ e. true≢false (sym h ∙ ap (λ (b : ℕ). by_analyzer b false false true) e), λ e. true≢false (sym h ∙ ap (λ (b : ℕ). by_analyzer b false false true) e))

cut_first : (a : ℕ) (r : List ℕ) → by_analyzer a false false true ≡ false → first_of a r ≡ take chunk_most r
unfolding first_of
cut_first a r = pass (eqb a 1) (eqb a 2)
  where
    pass : (b c : Bool) → cond b false (cond c false true) ≡ false → cond b (take chunk_most r) (cond c (take chunk_most r) r) ≡ take chunk_most r
    pass true c h = refl
    pass false true h = refl
    pass false false h = absurd (true≢false h)

module _ (a : ℕ) (s : List ℕ) (x : is_words a ≡ false) (at : ℕ) where
  pub whole : by_analyzer a false false true ≡ true → Found a s at at (length s - at)
  whole h =
      let n = whole_not a h in
      let q = every_inside a n.0 n.1 in
      found a s x at at (length s - at) (sym (whole_start (inside a) q s at)) (rw (whole_text_lem (inside a) q s at a n.0 n.1, length-drop))

  pub skipped : span_from (wanted a false) s at (length s) ≡ start_from (inside a) s at
  unfolding span_from wanted start_from
  skipped = rw (take_all (length s - at) (drop at s) (rw length-drop (omega arith)))

  pub chunk : (start end : ℕ) → start ≡ start_from (inside a) s at → end ≡ start + min 255 (length s - start) →
      by_analyzer a false false true ≡ false → Found a s at start (span_from (wanted a true) s start end - start)
  unfolding span_from wanted text_from
  chunk start end p e w =
      let u = drop start s in
      let f = front (inside a) u in
      let m : length (take (end - start) f) ≡ length (take chunk_most f) =
      rw (length-take, length-take chunk_most f) (omega (arith, front_most (inside a) u, length-drop start s)) in
      found a s x at start (span_from (wanted a true) s start end - start) p
      (rw (← p, cut_first a f w, front_take (inside a) (end - start) u, m) (omega arith))

  -- no byte that a token has is left
  pub none_left : (start : ℕ) → start ≡ start_from (inside a) s at → start ≡ length s → Found a s at (length s) 0
  none_left start p z = found a s x at (length s) 0 (sym z ∙ p) (omega (arith, text_most_lem (inside a) a s at))

  -- one is, and so the chunk has it
  pub chunk_some : (start end : ℕ) → start ≡ start_from (inside a) s at → start < length s → end ≡ start + min 255 (length s - start) →
      0 < span_from (wanted a true) s start end - start
  unfolding span_from wanted
  chunk_some start end p l e =
      let u = drop start s in
      let v : after (outside (inside a)) (drop at s) ≡ u = rest_is (inside a) s at ∙ ap (λ (i : ℕ). drop i s) (sym p) in
      let f = rw v at (first_length (inside a) (drop at s) (rw v (rw length-drop (omega arith)))) in
      rw (front_take (inside a) (end - start) u, length-take) (omega (arith, f, length-take 255 (front (inside a) u)))
