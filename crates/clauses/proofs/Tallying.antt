-- The tokens of a text counted one after the other, and how long a term's and a phrase's query is. Assumes nothing.
use mathlib.Core.Path.{◌≡◌, refl, ap, ◌∙◌}
use mathlib.Core.Bool.{Bool, true, false}
use Prim.Native.Nat.{ℕ, ◌+◌, ◌-◌, ◌*◌, ◌≤◌, ◌<◌}
use mathlib.Core.List.{List, [], ◌∷◌, map}
use native.Mathlib.Omega.{arith}
use native.Mathlib.Numerals.{add-one}
use lib.ListN.{length, take, drop, length-drop}
use lib.Seq.{length-take-le}
use Rattle.rules.specs.Analysis.{tokenize}
use Rattle.rules.specs.Query.{Word, word, text_of, Kind, term}
use Rattle.rules.specs.Stored.{encodes, encode_words}
use Rattle.rules.specs.Parsing.{operator_kind, term_clauses, term_of, counted_from, from_first, phrase_of}
use Rattle.rules.proofs.Stored.Sizes.{length_word, length_term, length_phrase, length_boolean, length_none, length_clause}
use Rattle.rules.proofs.Text.Pieces.{total}
use Rattle.rules.proofs.Text.Tokens.{kept_bytes, kept_most}
use Rattle.analysis.specs.Tokens.{spelled, rest_words, Next}
use Rattle.analysis.proofs.Spelling.{spelled_length}
use Rattle.analysis.proofs.Keeping.{rest_words_lem}
use Rattle.counted.specs.Kinds.{made_length}
use Rattle.clauses.specs.Leaves.{tallied, Tallied, leaf_of}

-- ---- a token at a time

pub cut_length : (a : ℕ) (s : List ℕ) (start len : ℕ) → len ≤ length s - start → length (spelled a (take len (drop start s))) ≡ len
cut_length a s start len h = spelled_length a (take len (drop start s)) ∙ length-take-le len (drop start s) (rw length-drop h)

pub record Counting (a : ℕ) (s : List ℕ) (each at position count bytes : ℕ) : Type 0 where
  pub within : at ≤ length s
  pub rising : position ≤ at
  pub counted : length (tokenize a s) ≡ count + length (rest_words a s at position)
  pub size : tallied each (tokenize a s) ≡ bytes + tallied each (rest_words a s at position)

pub counting_starts : (a : ℕ) (s : List ℕ) (each : ℕ) → Counting a s each 0 0 0 0
counting_starts a s each =
    let e = rest_words_lem a s in
    record { within = omega arith; rising = omega arith; counted = omega (arith, ap length e); size = omega (arith, ap (tallied each) e) }

module _ {a : ℕ} {s : List ℕ} {each at p count bytes start len position : ℕ} (C : Counting a s each at p count bytes) (F : Next a s at p start len position) where
  pub counting_ends : len ≡ 0 → Tallied (tokenize a s) each count bytes
  unfolding tallied
  counting_ends e = record {
    counted = let z = ap length (F.none e) in omega (arith, C.counted);
    size = let z = ap (tallied each) (F.none e) in omega (arith, C.size);
  }

  pub counting_goes : (len ≡ 0 → ⊥) → Counting a s each (start + len) (position + 1) (count + 1) (bytes + each + len)
  unfolding tallied
  counting_goes n =
      let h : 0 < len = omega arith in
      let l = cut_length a s start len (omega (arith, F.within, C.within)) in
      let y = ap length (F.one h) in
      let z = ap (tallied each) (F.one h) in
      rw (add-one position)
      (record {
        within = omega (arith, F.within, C.within);
        rising = omega (arith, F.few, C.rising);
        counted = omega (arith, C.counted);
        size = omega (arith, C.size);
      })

-- ---- how much it comes to

tallied_rises : (d e : ℕ) → d ≤ e → (ws : List Word) → tallied d ws ≤ tallied e ws
unfolding tallied
tallied_rises d e h [] = omega arith
tallied_rises d e h (word p t ∷ ws) = omega (arith, tallied_rises d e h ws)

tallied_terms : (ws : List Word) → tallied 44 ws ≡ 44 * length ws + total (map text_of ws)
unfolding tallied total
tallied_terms [] = refl
tallied_terms (word p t ∷ ws) = omega (arith, tallied_terms ws)

tallied_words : (ws : List Word) → tallied 7 ws ≡ 7 * length ws + total (map text_of ws)
unfolding tallied total
tallied_words [] = refl
tallied_words (word p t ∷ ws) = omega (arith, tallied_words ws)

pub terms_most : (a : ℕ) (s : List ℕ) (each : ℕ) → each ≤ 44 → tallied each (tokenize a s) ≤ 45 * length s
terms_most a s each h = omega (arith, tallied_rises each 44 h (tokenize a s), tallied_terms (tokenize a s), kept_bytes a s, kept_most a s)

pub words_most : (a : ℕ) (s : List ℕ) → tallied 7 (tokenize a s) ≤ 8 * length s
words_most a s = omega (arith, tallied_words (tokenize a s), kept_bytes a s, kept_most a s)

module _ {a : ℕ} {s : List ℕ} {each at position count bytes : ℕ} (C : Counting a s each at position count bytes) (e : each ≤ 44) where
  pub counting_few : count ≤ length s
  counting_few = omega (arith, C.counted, kept_most a s)

  pub counting_most : bytes ≤ 45 * length s
  counting_most = omega (arith, C.size, terms_most a s each e)

pub tallied_least : (each : ℕ) (ws : List Word) → length ws ≡ 1 → each ≤ tallied each ws
unfolding tallied
tallied_least each [] e = absurd (omega arith)
tallied_least each (word p t ∷ ws) e = omega arith

-- ---- the lengths of queries

pub term_clauses_length : (k : Kind) (f : List ℕ) (ws : List Word) → length (encodes (term_clauses k f ws)) ≡ tallied (12 + length f) ws
unfolding term_clauses tallied
term_clauses_length k f [] = length_none
term_clauses_length k f (word p t ∷ ws) =
    length_clause k (term f t) (term_clauses k f ws)
    ∙ omega (arith, length_term f t, term_clauses_length k f ws)

counted_length : (b : ℕ) (ws : List Word) → length (encode_words (counted_from b ws)) ≡ tallied 7 ws
unfolding counted_from tallied encode_words
counted_length b [] = refl
counted_length b (word p t ∷ ws) = length_word (p - b) t (counted_from b ws) ∙ omega (arith, counted_length b ws)

pub words_length : (ws : List Word) → length (encode_words (from_first ws)) ≡ tallied 7 ws
unfolding from_first counted_from tallied encode_words
words_length [] = refl
words_length (word p t ∷ ws) = counted_length p (word p t ∷ ws)

module _ (f : List ℕ) where
  pub term_length_none : (o : ℕ) (ws : List Word) → length ws ≡ 0 → 0 ≡ made_length (term_of o f ws)
  unfolding term_of
  term_length_none o [] e = refl
  term_length_none o (w ∷ ws) e = absurd (omega arith)

  pub term_length_one : (o : ℕ) (ws : List Word) → length ws ≡ 1 → tallied (12 + length f) ws - 3 ≡ made_length (term_of o f ws)
  unfolding term_of tallied
  term_length_one o [] e = absurd (omega arith)
  term_length_one o (word p t ∷ []) e = omega (arith, length_term f t)
  term_length_one o (w ∷ v ∷ ws) e = absurd (omega arith)

  pub term_length_many : (o : ℕ) (ws : List Word) → (length ws ≡ 0 → ⊥) → (length ws ≡ 1 → ⊥) → 8 + tallied (12 + length f) ws ≡ made_length (term_of o f ws)
  unfolding term_of
  term_length_many o [] n m = absurd (n refl)
  term_length_many o (word p t ∷ []) n m = absurd (m refl)
  term_length_many o (w ∷ v ∷ ws) n m =
      omega (arith, length_boolean 0 (term_clauses (operator_kind o) f (w ∷ v ∷ ws)), term_clauses_length (operator_kind o) f (w ∷ v ∷ ws))

  pub phrase_length_none : (ws : List Word) → length ws ≡ 0 → 0 ≡ made_length (phrase_of f ws)
  unfolding phrase_of
  phrase_length_none [] e = refl
  phrase_length_none (w ∷ ws) e = absurd (omega arith)

  pub phrase_length_one : (ws : List Word) → length ws ≡ 1 → tallied 7 ws + 2 + length f ≡ made_length (phrase_of f ws)
  unfolding phrase_of tallied
  phrase_length_one [] e = absurd (omega arith)
  phrase_length_one (word p t ∷ []) e = omega (arith, length_term f t)
  phrase_length_one (w ∷ v ∷ ws) e = absurd (omega arith)

  pub phrase_length_many : (ws : List Word) → (length ws ≡ 0 → ⊥) → (length ws ≡ 1 → ⊥) → 6 + length f + tallied 7 ws ≡ made_length (phrase_of f ws)
  unfolding phrase_of
  phrase_length_many [] n m = absurd (n refl)
  phrase_length_many (word p t ∷ []) n m = absurd (m refl)
  phrase_length_many (w ∷ v ∷ ws) n m =
      omega (arith, length_phrase f (from_first (w ∷ v ∷ ws)), words_length (w ∷ v ∷ ws))

-- ---- a text that is one token

module _ (a : ℕ) (s : List ℕ) (one : tokenize a s ≡ word 0 (spelled a s) ∷ []) where
  pub one_some : 0 < length s
  one_some = omega (arith, kept_most a s, ap length one)

  pub leaf_length_one : (plain : Bool) (o : ℕ) (f : List ℕ) → 9 + length f + length s ≡ made_length (leaf_of plain o f (tokenize a s))
  unfolding tallied
  leaf_length_one true o f =
      rw one (omega (arith, spelled_length a s, term_length_one f o (word 0 (spelled a s) ∷ []) refl))
  leaf_length_one false o f =
      rw one (omega (arith, spelled_length a s, phrase_length_one f (word 0 (spelled a s) ∷ []) refl))
