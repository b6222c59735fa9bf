-- Signatures: a clause whose signature no other has takes up none; and the loop that notes them.
use mathlib.Core.Path.{◌≡◌, refl, sym, ap, ◌∙◌, subst}
use mathlib.Core.Logic.{inl}
use Prim.Native.Nat.{ℕ, zero, suc, ◌+◌, ◌-◌, ◌/◌, ◌%◌, ◌≤◌, ◌<◌}
use mathlib.Core.List.{List}
use mathlib.Core.Bool.{Bool, true, false, cond}
use native.Mathlib.Omega.{arith}
use lib.ListN.{length, get_or, take, drop}
use lib.Dec.{eqb, leb}
use lib.Ieee.{Float}
use borrow.Author.Tests.{eqb-true, eq-eqb, ne_eqb, lt-ltb, le-ltb, le-leb, lt-leb}
use Rattle.rules.specs.Bytes.{of_big, body_of, rest_of}
use Rattle.rules.specs.Query.{Kind, Query, Clauses, none, clause, equal}
use Rattle.rules.specs.Stored.{kind_tag, encode}
use Rattle.rules.specs.Checked.{Is, Are, StoredClauses}
use Rattle.rules.specs.Rewriting.{stands_for}
use Rattle.rules.specs.Eating.{held, eats, fed, sum_eaten, stayed}
use Rattle.rules.proofs.Bools.{clash, and_r}
use Rattle.rules.proofs.Stored.Equal.{equal_eq}
use Rattle.rules.proofs.Stored.Parts.{cut_from}
use Rattle.rules.proofs.Stored.Views.{Front}
use Rattle.places.specs.Within.{within}
use Rattle.merging.specs.Merge.{Eatable, Ate, few, how_many}
use Rattle.merging.specs.Signatures.{table_bytes, signatures, word_of, mix_of, signature_of, having, cell_of, one_more, OneMore, Noted, Alone}
use Rattle.merging.proofs.Forms.{are_same, some_left, none_left, front, no_clause, front_is, front_are}

-- ---- the signature of a stretch

pub signature_short : (s : List ℕ) → length s < 4 → 0 ≡ signature_of s
unfolding signature_of
signature_short s h = rw (lt-ltb (length s) 4 h)

pub word_later : (s : List ℕ) (k b x : ℕ) → b ≡ of_big (take 4 (take (length s - (length s - k)) (drop (length s - k) s))) → x ≡ b → x ≡ word_of s k
word_later s k b x eb ex = ex ∙ eb ∙ ap (λ (l : List ℕ). of_big (take 4 l)) (cut_from (length s - k) s)

pub signature_long : (s : List ℕ) → 4 ≤ length s → (a b x : ℕ) → a ≡ mix_of s 4 → b ≡ mix_of s 20 → x ≡ a / 0x800_0000 + b / 0x2000_0000
    → (x + length s % 65536) % signatures ≡ signature_of s
unfolding signature_of
signature_long s h a b x ea eb ex =
    let e = ex ∙ ap (λ (y : ℕ). y / 0x800_0000 + b / 0x2000_0000) ea ∙ ap (λ (y : ℕ). mix_of s 4 / 0x800_0000 + y / 0x2000_0000) eb in
    rw (le-ltb (length s) 4 h) (ap (λ (y : ℕ). (y + length s % 65536) % signatures) e)

-- ---- a clause that no other equals

module _ (strict : Bool) (m : ℕ) (k : Kind) (h : Query) where
  -- one that is taken up has its signature
  alike : (j : Kind) (p : Query) → eats strict m k h j p ≡ true → eqb (signature_of (encode (held m j p))) (signature_of (encode h)) ≡ true
  alike j p e =
      let z : h ≡ held m j p = equal_eq h (held m j p) (and_r (stands_for strict m k j) (equal h (held m j p)) e) in
      eq-eqb (signature_of (encode (held m j p))) (signature_of (encode h)) (ap (λ (q : Query). signature_of (encode q)) (sym z))

  pub none_eaten : (cs : Clauses) → having m (signature_of (encode h)) cs ≡ 0 → (s : Float) → (stayed strict m k h cs ≡ cs) × (sum_eaten strict m k h s cs ≡ s)
  unfolding having stayed sum_eaten
  none_eaten none n s = (refl, refl)
  none_eaten (clause j p cs) n s = go (eats strict m k h j p) refl (eqb (signature_of (encode (held m j p))) (signature_of (encode h))) refl n (λ z. none_eaten cs z s)
    where
      go : (b : Bool) → eats strict m k h j p ≡ b → (c : Bool) → eqb (signature_of (encode (held m j p))) (signature_of (encode h)) ≡ c
          → cond c (suc (having m (signature_of (encode h)) cs)) (having m (signature_of (encode h)) cs) ≡ 0
          → (having m (signature_of (encode h)) cs ≡ 0 → (stayed strict m k h cs ≡ cs) × (sum_eaten strict m k h s cs ≡ s))
          → (cond b (stayed strict m k h cs) (clause j p (stayed strict m k h cs)) ≡ clause j p cs) × (sum_eaten strict m k h (cond b (fed m j p s) s) cs ≡ s)
      go true e c f z ih = clash (alike j p e) (f ∙ gone c z)
        where
          gone : (c : Bool) → cond c (suc (having m (signature_of (encode h)) cs)) (having m (signature_of (encode h)) cs) ≡ 0 → c ≡ false
          gone true z = absurd (omega arith)
          gone false z = refl
      go false e true f z ih = absurd (omega arith)
      go false e false f z ih = let r = ih z in (ap (clause j p) r.0, r.1)

  pub stayed_having : (g : ℕ) (cs : Clauses) → having m g (stayed strict m k h cs) ≤ having m g cs
  unfolding having stayed
  stayed_having g none = omega arith
  stayed_having g (clause j p cs) = go (eats strict m k h j p) (eqb (signature_of (encode (held m j p))) g) refl (stayed_having g cs)
    where
      go : (b c : Bool) → eqb (signature_of (encode (held m j p))) g ≡ c → having m g (stayed strict m k h cs) ≤ having m g cs
          → having m g (cond b (stayed strict m k h cs) (clause j p (stayed strict m k h cs))) ≤ cond c (suc (having m g cs)) (having m g cs)
      go true true e l = omega arith
      go true false e l = l
      go false true e l = rw e (omega arith)
      go false false e l = rw e l

pub having_first : (m : ℕ) (k : Kind) (q : Query) (cs : Clauses) → having m (signature_of (encode (held m k q))) (clause k q cs) ≡ suc (having m (signature_of (encode (held m k q))) cs)
unfolding having
having_first m k q cs = rw (eq-eqb (signature_of (encode (held m k q))) (signature_of (encode (held m k q))) refl)

pub having_fewer : (m g : ℕ) (k : Kind) (q : Query) (cs : Clauses) → having m g cs ≤ having m g (clause k q cs)
unfolding having
having_fewer m g k q cs = go (eqb (signature_of (encode (held m k q))) g)
  where
    go : (b : Bool) → having m g cs ≤ cond b (suc (having m g cs)) (having m g cs)
    go true = omega arith
    go false = omega arith

-- so it is as if it had gone over them
pub alone_ate : {strict : Bool} {m b k at end : ℕ} {room : List ℕ} (table : List ℕ) (s : Float) → Eatable b k at end room → Alone m table b at end room
    → cell_of table (signature_of (within b at room)) ≡ 1 → (i : Kind) (h : Query) (cs : Clauses) → kind_tag i ≡ k → Is (within b at room) h → Are (within at end room) cs
    → Ate strict m at end room i h cs s at s room
alone_ate {strict} {m} {b} {k} {at} {end} {room} table s E A t i h cs ei ih a =
    let z : having m (signature_of (encode h)) cs ≡ 0 = ap (λ (l : List ℕ). having m (signature_of l) cs) ih.form ∙ A cs a t in
    let r = none_eaten strict m i h cs z s in
    record {
      kept = refl;
      low = omega arith;
      high = E.high;
      are = subst (λ (ds : Clauses). Are (within at end room) ds) (sym r.0) a;
      sum = sym r.1;
      grown = inl (refl, refl);
    }

-- ---- the loop that notes signatures

-- what a table has once a clause more has a signature
grew : (x : ℕ) → (one_more x ≡ 0 → ⊥) × (one_more x ≡ 1 → x ≡ 0)
unfolding one_more
grew zero = ((λ z. omega arith), (λ z. refl))
grew (suc zero) = ((λ z. omega arith), (λ z. absurd (omega arith)))
grew (suc (suc x)) =
    let d : one_more (suc (suc x)) ≡ suc (suc x) = rw (le-ltb (suc (suc x)) 2 (omega arith)) in
    ((λ z. omega (arith, d)), (λ z. absurd (omega (arith, d))))

-- the clauses in t are left
pub record Noting (m : ℕ) (s t table : List ℕ) : Type 0 where
  pub all : StoredClauses s
  pub left : StoredClauses t
  pub long : length table ≡ table_bytes
  pub noted : (g : ℕ)
      → (cell_of table g ≡ 0 → having m g all.clauses ≤ having m g left.clauses) × (cell_of table g ≡ 1 → having m g all.clauses ≤ 1 + having m g left.clauses)

pub noting_start : (m : ℕ) {s table : List ℕ} → StoredClauses s → length table ≡ table_bytes → Noting m s s table
noting_start m S l = record { all = S; left = S; long = l; noted = λ g. ((λ z. omega arith), (λ z. omega arith)) }

module _ {m : ℕ} {s t table : List ℕ} (n : Noting m s t table) where
  pub noting_front : 0 < length t → Front t n.left.clauses
  noting_front p = front n.left.are p

  module _ (p : 0 < length t) (v : List ℕ) (ev : (x : Query) (j : Kind) → Is (body_of t) x → kind_tag j ≡ get_or t 0 0 → Is v (held m j x)) (g₀ : ℕ) (eg : g₀ ≡ signature_of v)
      (u : List ℕ) (eu : u ≡ rest_of t) {table₁ : List ℕ} (M : OneMore g₀ table table₁) where
    F : Front t n.left.clauses
    F = noting_front p

    is : Is v (held m F.kind F.query)
    is = ev F.query F.kind (front_is F) (sym F.tag)

    unroll : (g : ℕ) → having m g n.left.clauses ≡ cond (eqb g₀ g) (suc (having m g F.others)) (having m g F.others)
    unfolding having
    unroll g =
        ap (having m g) F.split
        ∙ ap (λ (l : List ℕ). cond (eqb (signature_of l) g) (suc (having m g F.others)) (having m g F.others)) is.form
        ∙ ap (λ (x : ℕ). cond (eqb x g) (suc (having m g F.others)) (having m g F.others)) (sym eg)

    pub noting_next : Noting m s u table₁
    noting_next = record {
      all = n.all;
      left = record { clauses = F.others; are = subst (λ (l : List ℕ). Are l F.others) (sym eu) (front_are F) };
      long = M.long ∙ n.long;
      noted = λ g. go g (eqb g₀ g) refl;
    }
      where
        hit : (g : ℕ) → g₀ ≡ g → having m g n.left.clauses ≡ suc (having m g F.others)
        hit g e = unroll g ∙ rw (eq-eqb g₀ g e)

        miss : (g : ℕ) → (g₀ ≡ g → ⊥) → having m g n.left.clauses ≡ having m g F.others
        miss g e = unroll g ∙ rw (ne_eqb g₀ g e)

        go : (g : ℕ) (b : Bool) → eqb g₀ g ≡ b
            → (cell_of table₁ g ≡ 0 → having m g n.all.clauses ≤ having m g F.others) × (cell_of table₁ g ≡ 1 → having m g n.all.clauses ≤ 1 + having m g F.others)
        go g true e =
            let z = eqb-true g₀ g e in
            let a : cell_of table₁ g ≡ one_more (cell_of table g) = ap (cell_of table₁) (sym z) ∙ M.here ∙ ap (λ (i : ℕ). one_more (cell_of table i)) z in
            let w = grew (cell_of table g) in
            ((λ x. absurd (w.0 (sym a ∙ x))), (λ x. omega (arith, (n.noted g).0 (w.1 (sym a ∙ x)), hit g z)))
        go g false e =
            let d : g₀ ≡ g → ⊥ = λ z. clash (eq-eqb g₀ g z) e in
            let o = M.others g (λ z. d (sym z)) in
            ((λ x. omega (arith, (n.noted g).0 (sym o ∙ x), miss g d)), (λ x. omega (arith, (n.noted g).1 (sym o ∙ x), miss g d)))

  pub noting_end : length t ≤ 0 → (cs : Clauses) → Are s cs → Noted m table cs
  unfolding having
  noting_end p cs a g z =
      let e = ap (having m g) (no_clause n.left.are p) in
      let d = ap (having m g) (are_same n.all.are a) in
      omega (arith, (n.noted g).1 z)

-- ---- whether there are few

-- n clauses were counted, and those in t are left
pub record Counting (s t : List ℕ) (n : ℕ) : Type 0 where
  pub all : StoredClauses s
  pub left : StoredClauses t
  pub low : n ≤ few
  pub sum : n + how_many left.clauses ≡ how_many all.clauses

pub counting_start : {s : List ℕ} → StoredClauses s → Counting s s 0
counting_start S = record { all = S; left = S; low = omega arith; sum = omega arith }

module _ {s t : List ℕ} {n : ℕ} (g : Counting s t n) where
  pub counting_front : 0 < length t → Front t g.left.clauses
  counting_front p = front g.left.are p

  step : (p : 0 < length t) → how_many g.left.clauses ≡ suc (how_many (counting_front p).others)
  unfolding how_many
  step p = ap how_many (counting_front p).split

  pub counting_next : (p : 0 < length t) → n < few → (u : List ℕ) → u ≡ rest_of t → Counting s u (n + 1)
  counting_next p d u eu =
      let F = counting_front p in
      record {
        all = g.all;
        left = record { clauses = F.others; are = subst (λ (l : List ℕ). Are l F.others) (sym eu) (front_are F) };
        low = omega arith;
        sum = omega (arith, g.sum, step p);
      }

  pub not_many : length t ≤ 0 → (cs : Clauses) → Are s cs → true ≡ leb (how_many cs) few
  unfolding how_many
  not_many p cs a =
      let e = ap how_many (no_clause g.left.are p) in
      sym (le-leb (how_many cs) few (omega (arith, g.sum, g.low, ap how_many (are_same g.all.are a))))

  -- so many were counted that none may be left
  pub as_many : few ≤ n → (b : Bool) → b ≡ eqb (length t) 0 → (cs : Clauses) → Are s cs → b ≡ leb (how_many cs) few
  as_many h true e cs a = not_many (none_left t true e refl) cs a
  as_many h false e cs a = sym (lt-leb (how_many cs) few (omega (arith, g.sum, step (some_left t false e refl), ap how_many (are_same g.all.are a))))
