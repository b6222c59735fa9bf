-- A query written in one loop, whether it is a Boolean or its one clause stands for itself. Assumes nothing.
use mathlib.Core.Path.{◌≡◌, refl, sym, ap, subst, ◌∙◌}
use mathlib.Core.Bool.{Bool, true, false}
use Prim.Native.Nat.{ℕ, ◌+◌, ◌-◌, ◌≤◌, ◌<◌}
use mathlib.Core.List.{List, ◌++◌}
use native.Mathlib.Omega.{arith}
use lib.Dec.{ltb}
use lib.ListN.{length}
use borrow.Author.Tests.{le-ltb}
use Rattle.rules.specs.Numbers.{got}
use Rattle.rules.specs.Query.{Kind, Query, Clauses, none, clause}
use Rattle.rules.specs.Stored.{kind_tag, encode}
use Rattle.rules.specs.Lexing.{Token}
use Rattle.rules.specs.Setup.{Setup}
use Rattle.rules.specs.Parsing.{Conjunction, Modifier, Made, nothing, made, found, kept, stops_at, kind_after, query_of}
use Rattle.rules.proofs.Bools.{clash}
use Rattle.rules.proofs.Stored.Sizes.{length_encode}
use Rattle.numbers.specs.Laid.{laid, Put, header}
use Rattle.numbers.proofs.Laying.{laid_all}
use Rattle.clauses.specs.Joining.{Leads}
use Rattle.counted.specs.Kinds.{is_kept, bytes_of, is_alone, made_bytes, made_length}
use Rattle.clauses.specs.Measured.{clause_run, clauses_run}
use Rattle.clauses.specs.Written.{Eventually, HasRoom, bool_front, PutUnless, body_start, Touches}
use Rattle.counted.proofs.Keeping.{alone_is}
use Rattle.clauses.proofs.Filling.{Filling, grows, ev_clause, filled_wide, filled_last, several_size, several_bytes, filling_start, filling_clause, filling_room, filling_nothing, filling_made, filling_ends, first_none, first_nothing, first_made}
use Rattle.clauses.proofs.Fronts.{put_nothing}

-- ---- the stretch of n bytes fits: it is as long as the one clause's query, or as a Boolean of all

abbrev Fits : Bool → Clauses → ℕ → Type 0
Fits true cs n = (k : Kind) × (q : Query) × (cs ≡ clause k q none) × (query_of cs ≡ made q) × (n ≡ length (encode q))
Fits false cs n = (8 + length (bytes_of cs) ≡ n) × (bool_front n ++ bytes_of cs ≡ made_bytes (query_of cs))

fits_of : (b : Bool) (cs : Clauses) (n : ℕ) → b ≡ is_alone cs → n ≡ made_length (query_of cs) → 0 < n → Fits b cs n
fits_of true cs n e l h = let a = alone_is cs (sym e) in (a.0, a.1, a.2, a.3, l ∙ ap made_length a.3)
fits_of false cs n e l h = (several_size cs n h l (sym e), several_bytes cs n h l (sym e))

-- ---- between two turns: nothing is kept, or what is kept is laid

abbrev Halfway : Bool → Setup → List Token → List ℕ → ℕ → Clauses → ℕ → List ℕ → ℕ → ℕ → ℕ → List ℕ → Type 0
Halfway true st ts f d cs j out₀ i w last out =
    (w ≡ 0) × (last ≡ 0) × (length out ≡ length out₀) × Eventually (clauses_run st ts f d none i) (got (kept cs j))
Halfway false st ts f d cs j out₀ i w last out = Filling st ts f d cs j out₀ i w last out

pub record Going (b : Bool) (st : Setup) (ts : List Token) (f : List ℕ) (d : ℕ) (cs : Clauses) (j : ℕ) (out₀ : List ℕ) (i w last : ℕ) (out : List ℕ) : Type 0 where
  pub fits : Fits b cs (length out₀)
  pub state : Halfway b st ts f d cs j out₀ i w last out

-- the least length of the stretch
pub going_room : (b : Bool) (cs : Clauses) (n : ℕ) → b ≡ is_alone cs → n ≡ made_length (query_of cs) → 0 < n → b ≡ false → 8 ≤ n
going_room true cs n e l h x = clash refl x
going_room false cs n e l h x = omega (arith, (fits_of false cs n e l h).0)

pub going_start : (b : Bool) (st : Setup) (ts : List Token) (f : List ℕ) (d : ℕ) (cs : Clauses) (j : ℕ) (entry out : List ℕ) (i w : ℕ)
    → b ≡ is_alone cs → length out ≡ made_length (query_of cs) → 0 < length out → length out ≡ length entry
    → PutUnless b entry 0 (bool_front (length entry)) w out → Eventually (clauses_run st ts f d none i) (got (kept cs j))
    → Going b st ts f d cs j out i w 0 out
going_start true st ts f d cs j entry out i w e l h s P E = record { fits = fits_of true cs (length out) e l h; state = (P.0, refl, refl, E) }
going_start false st ts f d cs j entry out i w e l h s P E =
    let F = fits_of false cs (length out) e l h in
    record { fits = F; state = filling_start st ts f d cs j entry out i w P s (omega (arith, F.0)) E }

module _ {st : Setup} {ts : List Token} {f : List ℕ} {d : ℕ} {cs : Clauses} {j : ℕ} {out₀ : List ℕ} {i w last : ℕ} {out : List ℕ} where
  pub going_last : (b : Bool) → Going b st ts f d cs j out₀ i w last out → 0 < length out₀ → last < length out
  going_last true G h = omega (arith, G.state.1, G.state.2)
  going_last false G h = filled_last G.state G.fits.0

  pub going_wide : (b : Bool) → Going b st ts f d cs j out₀ i w last out → w ≤ length out₀
  going_wide true G = omega (arith, G.state.0)
  going_wide false G = omega (arith, filled_wide G.state, (grows st ts f d G.state.acc i G.state.is).size, G.fits.0)

  pub going_ends : (b : Bool) → Going b st ts f d cs j out₀ i w last out → stops_at ts i ≡ true → out ≡ made_bytes (query_of cs)
  going_ends true G e =
      first_none st ts f d i (subst (λ (c : Clauses). Eventually (clauses_run st ts f d none i) (got (kept c j))) G.fits.2 G.state.3) e
  going_ends false G e = filling_ends G.state G.fits.0 e (length out₀) refl G.fits.1

-- ---- a turn

-- what the code found before the clause at k
pub record Turned (st : Setup) (ts : List Token) (i w last o : ℕ) (out : List ℕ) (c : Conjunction) (m : Modifier) (k : ℕ) (out₁ : List ℕ) : Type 0 where
  pub joins : st.operator ≡ o
  pub goes : stops_at ts i ≡ false
  pub lead : (acc : Clauses) → is_kept acc ≡ ltb 8 w → Leads ts acc i c m k
  pub touches : Touches (ltb 8 w) last o c out out₁
  pub same : length out₁ ≡ length out

first_lead : {st : Setup} {ts : List Token} {i w last o : ℕ} {out : List ℕ} {c : Conjunction} {m : Modifier} {k : ℕ} {out₁ : List ℕ}
    → Turned st ts i w last o out c m k out₁ → w ≡ 0 → Leads ts none i c m k
first_lead {w = w} T e = T.lead none (sym (le-ltb 8 w (omega arith)))

module _ {st : Setup} {ts : List Token} {f : List ℕ} {d : ℕ} {cs : Clauses} {j : ℕ} {out₀ : List ℕ} {i w last : ℕ} {out : List ℕ}
    {o : ℕ} {c : Conjunction} {m : Modifier} {k : ℕ} {out₁ : List ℕ} (T : Turned st ts i w last o out c m k out₁) where
  -- what the clause at k is, and room for it
  pub going_clause : (b : Bool) → Going b st ts f d cs j out₀ i w last out
      → (q : Made) × (next : ℕ) × Eventually (clause_run st ts f d k) (got (found q next)) × HasRoom q (body_start b w) (length out₀)
  going_clause true G = let z = ev_clause st ts f d none i G.state.3 T.goes (first_lead T G.state.0) in (z.0, z.1, z.2, fits z.0 z.2)
    where
      fits : (q : Made) {next : ℕ} → Eventually (clause_run st ts f d k) (got (found q next)) → HasRoom q w (length out₀)
      fits nothing C h = absurd (omega arith)
      fits (made p) C h =
          let e = first_made st ts f d i G.state.3 T.goes c m k (first_lead T G.state.0) (ap (λ (a : Clauses). got (kept a j)) G.fits.2) C in
          omega (arith, G.state.0, G.fits.4, ap (λ (x : Query). length (encode x)) e)
  going_clause false G = let z = filling_clause G.state G.fits.0 c m k o T.joins T.goes T.lead in (z.0, z.1, z.2, fits z.0 z.2)
    where
      fits : (q : Made) {next : ℕ} → Eventually (clause_run st ts f d k) (got (found q next)) → HasRoom q (w + 3) (length out₀)
      fits nothing C h = absurd (omega arith)
      fits (made p) C h = filling_room G.state G.fits.0 c m k o T.joins T.goes T.lead C

  module _ {next r : ℕ} (e : r ≡ next) {end : ℕ} {out₂ : List ℕ} where
    -- it is nothing
    pub going_nothing : (b : Bool) → Going b st ts f d cs j out₀ i w last out → (s : ℕ) → s ≡ body_start b w → (q : Made) → Eventually (clause_run st ts f d k) (got (found q next))
        → Put out₁ s (made_bytes q) end out₂ → end ≡ s → Going b st ts f d cs j out₀ r w last out₂
    going_nothing b G s es (made q) C P x = absurd (omega (arith, P.place, length_encode q))
    going_nothing true G s es nothing C P x = rw (e, put_nothing P x) (record {
      fits = G.fits;
      state = (G.state.0, G.state.1, T.same ∙ G.state.2, first_nothing st ts f d i G.state.3 T.goes c m k (first_lead T G.state.0) C);
    })
    going_nothing false G s es nothing C P x = rw (e, put_nothing P x) (record {
      fits = G.fits;
      state = filling_nothing G.state G.fits.0 c m k o T.joins T.goes T.lead out₁ T.touches T.same C;
    })

    -- it is the next of the Boolean's clauses
    pub going_made : (b : Bool) → Going b st ts f d cs j out₀ i w last out → b ≡ false → (s : ℕ) → s ≡ body_start b w → (q : Made) → Eventually (clause_run st ts f d k) (got (found q next))
        → Put out₁ s (made_bytes q) end out₂ → (end ≡ s → ⊥) → (tag len p : ℕ) (out₃ : List ℕ)
        → tag ≡ kind_tag (kind_after o c m) → Put out₂ w (header tag len) p out₃ → len ≡ end - s → length out₃ ≡ length out₁
        → Going b st ts f d cs j out₀ r end w out₃
    going_made true G a s es q C P x tag len p out₃ et Q el l = clash refl a
    going_made false G a s es nothing C P x tag len p out₃ et Q el l = absurd (x (P.place ∙ omega arith))
    going_made false G a s es (made q) C P x tag len p out₃ et Q el l = rw e (record {
      fits = G.fits;
      state = filling_made G.state G.fits.0 c m k o T.joins T.goes T.lead out₁ T.touches T.same C tag len p end out₂ out₃ et
          (subst (λ (y : ℕ). Put out₁ y (encode q) end out₂) es P) Q (el ∙ ap (λ (y : ℕ). end - y) es) l;
    })

    -- or it is the whole query
    pub going_alone : (b : Bool) → Going b st ts f d cs j out₀ i w last out → b ≡ true → (s : ℕ) → s ≡ body_start b w → (q : Made) → Eventually (clause_run st ts f d k) (got (found q next))
        → Put out₁ s (made_bytes q) end out₂ → (end ≡ s → ⊥) → out₂ ≡ made_bytes (query_of cs)
    going_alone false G a s es q C P x = clash a refl
    going_alone true G a s es nothing C P x = absurd (x (P.place ∙ omega arith))
    going_alone true G a s es (made p) C P x =
        let q = G.fits.1 in
        let same = first_made st ts f d i G.state.3 T.goes c m k (first_lead T G.state.0) (ap (λ (a : Clauses). got (kept a j)) G.fits.2) C in
        P.bytes ∙ ap (λ (y : Query). laid out₁ s (encode y)) same ∙ ap (λ (y : ℕ). laid out₁ y (encode q)) (es ∙ G.state.0)
        ∙ laid_all out₁ (encode q) (sym (T.same ∙ G.state.2 ∙ G.fits.4)) ∙ sym (ap made_bytes G.fits.3)

-- where a body begins
pub body_near : (b : Bool) (w : ℕ) → body_start b w ≤ w + 3
body_near true w = omega arith
body_near false w = omega arith

pub body_after : (b : Bool) (w : ℕ) → b ≡ false → body_start b w ≡ w + 3
body_after b w e = rw e
