-- What is read is what was written: bytes that are read as q are its stored form, and q is valid and not too deep. Section 'Stored form'.
use mathlib.Core.Path.{◌≡◌, refl, sym, ap, ◌∙◌}
use Prim.Native.Nat.{ℕ, zero, suc, ◌≤◌}
use mathlib.Core.List.{List, [], ◌∷◌, ◌++◌}
use mathlib.Core.Bool.{true, ◌&&◌}
use native.Mathlib.Omega.{arith}
use lib.ListN.{length, take, drop, take-append-drop}
use lib.Seq.{length-take-le}
use lib.Dec.{leb, eqb}
use borrow.Author.Tests.{leb-true, eqb-true}
use Rattle.rules.specs.Numbers.{term_tag, phrase_tag, boolean_tag, boost_tag, constant_score_tag, match_all_tag, match_none_tag, field_tag, text_tag, minimum_tag, long_query, malformed_query, deep_query, Read, got, refused}
use Rattle.rules.specs.Bytes.{Bytes, of_big, is_empty, is_text, part, tag_of, body_of, rest_of, whole_of, is_part, is_field_part, every, each}
use Rattle.rules.specs.Query.{Numbers, Query, boolean, boost, constant_score, match_all, match_none, Clauses, none, clause, depth, depths}
use Rattle.rules.specs.Stored.{kind_tag, range_tag, encode_bound, encode_words, encode, encodes, is_boost, Valid, Valids}
use Rattle.rules.specs.Reading.{empty_in, term_in, is_word, word_of, phrase_in, is_bound, bound_of, range_in, boost_in, constant_score_in, is_kind, kind_of, clauses_in, boolean_in, is_query, body_in, decode, read_within}
use Rattle.rules.proofs.Bools.{and_l, and_r, and_four}
use Rattle.rules.proofs.Stored.Bigs.{write_big, below_big}
use Rattle.rules.proofs.Stored.Parts.{bytes_body, bytes_rest, bytes_drop, bytes_take, part_again, part_tag, part_only, part_last, field_is}
use Rattle.rules.proofs.Stored.Tags.{QueryTag, t_term, t_phrase, t_boolean, t_boost, t_constant_score, t_match_all, t_match_none, t_range, query_tag, kind_again}
use Rattle.rules.proofs.Stored.Leaves.{words_again, bound_again, bound_last}
use Rattle.rules.proofs.Stored.Refusals.{no_got, got_same, need_got, on_got, closed_got, added_got}
use Rattle.rules.proofs.Stored.Steps.{clauses_of, in_range}
use Rattle.rules.proofs.Stored.Inverse.{range_form}

-- what is read as q: its stored form, with a depth of at most d
pub record ReadAs (d : ℕ) (s : List ℕ) (q : Query) : Type 0 where
  pub form : encode q ≡ s
  pub deep : depth q ≤ d
  pub valid : Valid q

pub record ReadAll (d : ℕ) (s : List ℕ) (cs : Clauses) : Type 0 where
  pub form : encodes cs ≡ s
  pub deep : depths cs ≤ d
  pub valid : Valids cs

-- a field, and what follows it
fielded : (b l : List ℕ) → Bytes b → is_part field_tag b ≡ true → l ≡ rest_of b → part field_tag (body_of b) ++ l ≡ b
fielded b l B h e = ap {B = List ℕ} (λ r. part field_tag (body_of b) ++ r) e ∙ part_tag field_tag b B h

no_clause : {d : ℕ} (cs : Clauses) → got none ≡ got cs → ReadAll d [] cs
unfolding encode depth Valid
no_clause cs h = rw (sym (got_same h)) (record { form = refl; deep = omega arith; valid = tt })

one_clause : (x : ℕ) (q : Query) (cs : Clauses) (s : List ℕ) → kind_tag (kind_of x) ≡ x → encode q ≡ body_of s → encodes cs ≡ rest_of s
    → part x (body_of s) ++ rest_of s ≡ s → encodes (clause (kind_of x) q cs) ≡ s
unfolding encode
one_clause x q cs s k e f h = rw (k, e, f) h

-- the bodies, each by its test; sub reads what stands inside
module _ (d : ℕ) (sub : List ℕ → Read Query) (S : (b : List ℕ) (q : Query) → Bytes b → sub b ≡ got q → ReadAs d b q) where
  is_empty_lem : (t : ℕ) (p : Query) (b : List ℕ) (q : Query) → ReadAs (suc d) (part t []) p → empty_in p b ≡ got q → ReadAs (suc d) (part t b) q
  unfolding empty_in
  is_empty_lem t p [] q i h = rw (sym (got_same h)) i
  is_empty_lem t p (x ∷ b) q i h = no_got h

  is_term_lem : (b : List ℕ) (q : Query) → Bytes b → term_in b ≡ got q → ReadAs (suc d) (part term_tag b) q
  unfolding term_in encode depth Valid
  is_term_lem b q B h =
      let r = rest_of b in
      let k = need_got (is_field_part b && (is_part text_tag r && (is_text (body_of r) && is_empty (rest_of r)))) malformed_query _ q h in
      let c = and_four (is_field_part b) (is_part text_tag r) (is_text (body_of r)) (is_empty (rest_of r)) k.0 in
      let f = field_is b c.0 in
      rw (sym (got_same k.1)) (record {
        form = ap (part term_tag) (fielded b (part text_tag (body_of r)) B f.0 (part_last text_tag r (bytes_rest b B) c.1 c.3));
        deep = omega arith;
        valid = (f.1, c.2);
      })

  is_phrase_lem : (b : List ℕ) (q : Query) → Bytes b → phrase_in b ≡ got q → ReadAs (suc d) (part phrase_tag b) q
  unfolding phrase_in encode depth Valid
  is_phrase_lem b q B h =
      let r = rest_of b in
      let k = need_got (is_field_part b && every is_word r) malformed_query _ q h in
      let f = field_is b (and_l (is_field_part b) (every is_word r) k.0) in
      let W = words_again r (bytes_rest b B) (and_r (is_field_part b) (every is_word r) k.0) in
      rw (sym (got_same k.1)) (record {
        form = ap (part phrase_tag) (fielded b (encode_words (each word_of r)) B f.0 W.0);
        deep = omega arith;
        valid = (f.1, W.1);
      })

  is_range_lem : (n : Numbers) (b : List ℕ) (q : Query) → Bytes b → range_in n b ≡ got q → ReadAs (suc d) (part (range_tag n) b) q
  unfolding range_in encode depth Valid
  is_range_lem n b q B h =
      let l = rest_of b in
      let u = rest_of l in
      let k = need_got (is_field_part b && (is_bound l && (is_bound u && is_empty (rest_of u)))) malformed_query _ q h in
      let c = and_four (is_field_part b) (is_bound l) (is_bound u) (is_empty (rest_of u)) k.0 in
      let f = field_is b c.0 in
      let Bl = bytes_rest b B in
      let Bu = bytes_rest l Bl in
      let L = bound_again l Bl c.1 in
      let e = ap {B = List ℕ} (λ r. encode_bound (bound_of l) ++ r) (bound_last u Bu c.2 c.3) ∙ L.0 in
      rw (sym (got_same k.1)) (record {
        form = range_form n (body_of b) (bound_of l) (bound_of u) ∙ ap (part (range_tag n)) (fielded b (encode_bound (bound_of l) ++ encode_bound (bound_of u)) B f.0 e);
        deep = omega arith;
        valid = (f.1, L.1, (bound_again u Bu c.2).1);
      })

  is_constant : (b : List ℕ) (q : Query) → Bytes b → constant_score_in sub b ≡ got q → ReadAs (suc d) (part constant_score_tag b) q
  unfolding constant_score_in encode depth Valid
  is_constant b q B h =
      let a = on_got constant_score (sub b) q h in
      let I = S b a.0 B a.1 in
      rw a.2 (record { form = ap (part constant_score_tag) I.form; deep = omega arith; valid = I.valid })

  is_boost_lem : (b : List ℕ) (q : Query) → Bytes b → boost_in sub b ≡ got q → ReadAs (suc d) (part boost_tag b) q
  unfolding boost_in encode depth Valid
  is_boost_lem b q B h =
      let n = of_big (take 4 b) in
      let k = need_got (leb 4 (length b) && is_boost n) malformed_query _ q h in
      let a = on_got (boost n) (sub (drop 4 b)) q k.1 in
      let I = S (drop 4 b) a.0 (bytes_drop 4 b B) a.1 in
      let w = write_big 4 (take 4 b) (bytes_take 4 b B) (length-take-le 4 b (leb-true 4 (length b) (and_l (leb 4 (length b)) (is_boost n) k.0))) in
      rw a.2 (record {
        form = ap (part boost_tag) (ap {B = List ℕ} (λ r. r ++ encode a.0) w ∙ ap {B = List ℕ} (λ r. take 4 b ++ r) I.form ∙ take-append-drop 4 b);
        deep = omega arith;
        valid = (and_r (leb 4 (length b)) (is_boost n) k.0, I.valid);
      })

  pub clauses_sound : (n : ℕ) (s : List ℕ) (cs : Clauses) → Bytes s → clauses_in sub n s ≡ got cs → ReadAll d s cs
  unfolding clauses_in encode depth Valid
  clauses_sound zero [] cs B h = no_clause cs h
  clauses_sound zero (x ∷ r) cs B h = no_got h
  clauses_sound (suc n) [] cs B h = no_clause cs h
  clauses_sound (suc n) (x ∷ r) cs B h =
      let s = x ∷ r in
      let k = need_got (whole_of s && is_kind x) malformed_query _ cs h in
      let w = and_l (whole_of s) (is_kind x) k.0 in
      let a = added_got (kind_of x) (sub (body_of s)) (clauses_in sub n (rest_of s)) cs k.1 in
      let I = S (body_of s) a.0 (bytes_body s B) a.2 in
      let R = clauses_sound n (rest_of s) a.1 (bytes_rest s B) a.3 in
      rw a.4 (record {
        form = one_clause x a.0 a.1 s (kind_again x (and_r (whole_of s) (is_kind x) k.0)) I.form R.form (part_again s B w);
        deep = omega arith;
        valid = (I.valid, R.valid);
      })

  is_boolean : (b : List ℕ) (q : Query) → Bytes b → boolean_in sub b ≡ got q → ReadAs (suc d) (part boolean_tag b) q
  unfolding boolean_in encode depth Valid
  is_boolean b q B h =
      let m = of_big (body_of b) in
      let two = eqb (length (body_of b)) 2 in
      let k = need_got (is_part minimum_tag b && two) malformed_query _ q h in
      let l = eqb-true (length (body_of b)) 2 (and_r (is_part minimum_tag b) two k.0) in
      let a = on_got (boolean m) (clauses_of sub (rest_of b)) q k.1 in
      let A = clauses_sound (length (rest_of b)) (rest_of b) a.0 (bytes_rest b B) a.1 in
      rw a.2 (record {
        form = ap (part boolean_tag) (ap {B = List ℕ} (λ r. part minimum_tag r ++ encodes a.0) (write_big 2 (body_of b) (bytes_body b B) l)
            ∙ ap {B = List ℕ} (λ r. part minimum_tag (body_of b) ++ r) A.form ∙ part_tag minimum_tag b B (and_l (is_part minimum_tag b) two k.0));
        deep = omega arith;
        valid = (below_big 2 (body_of b) (bytes_body b B) l, A.valid);
      })

  body_sound : {t : ℕ} → QueryTag t → (b : List ℕ) (q : Query) → Bytes b → body_in sub t b ≡ got q → ReadAs (suc d) (part t b) q
  unfolding body_in encode depth Valid
  body_sound t_term b q B h = is_term_lem b q B h
  body_sound t_phrase b q B h = is_phrase_lem b q B h
  body_sound t_boolean b q B h = is_boolean b q B h
  body_sound t_boost b q B h = is_boost_lem b q B h
  body_sound t_constant_score b q B h = is_constant b q B h
  body_sound t_match_all b q B h = is_empty_lem match_all_tag match_all b q (record { form = refl; deep = omega arith; valid = tt }) h
  body_sound t_match_none b q B h = is_empty_lem match_none_tag match_none b q (record { form = refl; deep = omega arith; valid = tt }) h
  body_sound (t_range n) b q B h = is_range_lem n b q B (sym (in_range sub b (range_tag n) n refl) ∙ h)

pub decode_sound : (d : ℕ) (s : List ℕ) (q : Query) → Bytes s → decode d s ≡ got q → ReadAs d s q
unfolding decode
decode_sound zero s q B h = no_got (need_got (whole_of s && is_query (tag_of s)) malformed_query (refused deep_query) q h).1
decode_sound (suc d) s q B h =
    let k = need_got (whole_of s && is_query (tag_of s)) malformed_query _ q h in
    let w = and_l (whole_of s) (is_query (tag_of s)) k.0 in
    let t = query_tag (tag_of s) (and_r (whole_of s) (is_query (tag_of s)) k.0) in
    let c = closed_got (body_in (decode d) (tag_of s) (body_of s)) (is_empty (rest_of s)) q k.1 in
    rw (part_only s B w c.1) at (body_sound d (decode d) (decode_sound d) t (body_of s) q (bytes_body s B) c.0)

-- with the limit on the bytes before it
pub read_sound : (most d : ℕ) (s : List ℕ) (q : Query) → Bytes s → read_within most d s ≡ got q → (length s ≤ most) × ReadAs d s q
read_sound most d s q B h =
    let k = need_got (leb (length s) most) long_query (decode d s) q h in
    (leb-true (length s) most k.0, decode_sound d s q B k.1)
