-- A query written clause by clause: what is kept only grows, and what is laid follows it. Assumes nothing.
use mathlib.Core.Path.{◌≡◌, refl, sym, ap, subst, ◌∙◌}
use mathlib.Core.Bool.{Bool, true, false, cond}
use Prim.Native.Nat.{ℕ, zero, suc, ◌+◌, ◌-◌, ◌/◌, ◌%◌, ◌≤◌, ◌<◌}
use mathlib.Core.List.{List, [], ◌∷◌, ◌++◌, append_assoc, append-nil}
use native.Mathlib.Omega.{arith}
use lib.Dec.{ltb}
use lib.ListN.{length, drop, get_or, set, length-append}
use lib.Seq.{set_at, get_or_at}
use borrow.Author.Tests.{lt-ltb, le-ltb}
use Rattle.rules.specs.Numbers.{Read, got, refused, on_read, and_then}
use Rattle.rules.specs.Bytes.{big, part}
use Rattle.rules.specs.Query.{Kind, Query, Clauses, none, clause}
use Rattle.rules.specs.Stored.{kind_tag, encode}
use Rattle.rules.specs.Lexing.{Token}
use Rattle.rules.specs.Setup.{Setup}
use Rattle.rules.specs.Parsing.{Made, nothing, made, Found, found, Kept, kept, stops_at, Conjunction, Modifier, kind_before, kind_after, touched, add_clause, query_found, query_of, in_order_before, parse_clauses, clause_at, conjunction_at, after_conjunction, modifier_at, after_modifier}
use Rattle.rules.proofs.Bools.{clash}
use Rattle.rules.proofs.Stored.Refusals.{no_got}
use Rattle.rules.proofs.Stored.Sizes.{length_boolean}
use Rattle.numbers.specs.Laid.{laid, Put, header}
use Rattle.numbers.proofs.Laying.{laid_front, laid_all, laid_over, put_then}
use Rattle.clauses.specs.Joining.{Leads}
use Rattle.counted.specs.Kinds.{is_kept, last_tag, bytes_of, is_alone, made_bytes, made_length, with_made}
use Rattle.clauses.specs.Measured.{clause_run, clauses_run}
use Rattle.clauses.specs.Written.{Eventually, bool_front, Touches}
use Rattle.counted.proofs.Deciding.{length_touched}
use Rattle.counted.proofs.Keeping.{all_in_order, several_is}
use Rattle.clauses.proofs.Steps.{run_is, added_is}
use Rattle.clauses.proofs.Fuel.{clause_fuel}
use Rattle.clauses.proofs.Fronts.{head_before}

-- ---- what is kept stays

-- the query of the clause that was kept first
unfoldable pub base : Query → Clauses → Query
base d none = d
base d (clause k q cs) = base q cs

base_touched : (d : Query) (o : ℕ) (c : Conjunction) (cs : Clauses) → base d (touched o c cs) ≡ base d cs
unfolding base touched
base_touched d o c none = refl
base_touched d o c (clause k q cs) = refl

kept_touched : (o : ℕ) (c : Conjunction) (cs : Clauses) → is_kept (touched o c cs) ≡ is_kept cs
unfolding touched
kept_touched o c none = refl
kept_touched o c (clause k q cs) = refl

pub record Grows (acc cs : Clauses) : Type 0 where
  pub size : length (bytes_of acc) ≤ length (bytes_of cs)
  pub root : (d : Query) → is_kept acc ≡ true → base d acc ≡ base d cs

grows_refl : {acc cs : Clauses} → acc ≡ cs → Grows acc cs
grows_refl e = record { size = rw e (omega arith); root = λ d k. rw e }

base_any : (d e : Query) (cs : Clauses) → is_kept cs ≡ true → base d cs ≡ base e cs
unfolding base
base_any d e none k = clash k refl
base_any d e (clause j q cs) k = refl

grows_made : (o : ℕ) (c : Conjunction) (m : Modifier) {acc cs : Clauses} (q : Made) → Grows (with_made o c m acc q) cs → Grows acc cs
unfolding bytes_of base
grows_made o c m {acc} nothing G = record {
  size = omega (arith, G.size, length_touched o c acc);
  root = λ d k. sym (base_touched d o c acc) ∙ G.root d (kept_touched o c acc ∙ k);
}
grows_made o c m {acc} (made q) G = record {
  size = omega (arith, G.size, length_touched o c acc, length-append (bytes_of (touched o c acc)) (part (kind_tag (kind_after o c m)) (encode q)));
  root = λ d k. base_any d q acc k ∙ sym (base_touched q o c acc) ∙ G.root d refl;
}

kept_same : {acc cs : Clauses} {i j : ℕ} → got (kept acc i) ≡ got (kept cs j) → acc ≡ cs
kept_same e = cc

module _ (o : ℕ) (c : Conjunction) (m : Modifier) (rest : Clauses → ℕ → Read Kept) (acc cs : Clauses) (i j : ℕ)
    (more : (ds : Clauses) (h : ℕ) → rest ds h ≡ got (kept cs j) → Grows ds cs) where
  grows_found : (f : Found) → add_clause o c m rest acc f ≡ got (kept cs j) → Grows acc cs
  unfolding add_clause
  grows_found (found nothing h) e = grows_made o c m nothing (more (touched o c acc) h e)
  grows_found (found (made q) h) e = grows_made o c m (made q) (more (clause (kind_after o c m) q (touched o c acc)) h e)

  grows_turn : (b : Bool) (one : Read Found) → cond b (got (kept acc i)) (and_then one (add_clause o c m rest acc)) ≡ got (kept cs j) → Grows acc cs
  grows_turn true one e = grows_refl (kept_same e)
  grows_turn false (refused x) e = no_got e
  grows_turn false (got f) e = grows_found f e

abbrev one_at : Setup → List Token → List ℕ → ℕ → ℕ → Clauses → ℕ → Read Found
one_at st ts f d k acc i =
    let j = after_conjunction (conjunction_at acc ts i) i in
    clause_at st ts (λ g e h. on_read query_found (parse_clauses st ts k g e none h)) f d (after_modifier (modifier_at ts j) j)

grows_in : (st : Setup) (ts : List Token) (f : List ℕ) (d k : ℕ) (acc : Clauses) (i : ℕ) {cs : Clauses} {j : ℕ}
    → parse_clauses st ts k f d acc i ≡ got (kept cs j) → Grows acc cs
unfolding parse_clauses
grows_in st ts f d zero acc i e = no_got e
grows_in st ts f d (suc k) acc i {cs} {j} e =
    grows_turn st.operator (conjunction_at acc ts i) (modifier_at ts (after_conjunction (conjunction_at acc ts i) i)) (λ ds h. parse_clauses st ts k f d ds h) acc cs i j
    (λ ds h g. grows_in st ts f d k ds h g) (stops_at ts i) (one_at st ts f d k acc i) e

pub grows : (st : Setup) (ts : List Token) (f : List ℕ) (d : ℕ) (acc : Clauses) (i : ℕ) {cs : Clauses} {j : ℕ}
    → Eventually (clauses_run st ts f d acc i) (got (kept cs j)) → Grows acc cs
grows st ts f d acc i (m, s) = grows_in st ts f d m acc i (s m (omega arith))

-- ---- a turn, from some fuel on

module _ (st : Setup) (ts : List Token) (f : List ℕ) (d : ℕ) (cs : Clauses) (i : ℕ) {R : Read Kept} (E : Eventually (clauses_run st ts f d cs i) R) where
  pub ev_stops : stops_at ts i ≡ true → got (kept cs i) ≡ R
  unfolding parse_clauses
  ev_stops e = sym (stop E.0) ∙ E.1 (suc E.0) (omega arith)
    where
      stop : (m : ℕ) → clauses_run st ts f d cs i (suc m) ≡ got (kept cs i)
      stop m = rw e

  module _ {c : Conjunction} {m : Modifier} {k : ℕ} (goes : stops_at ts i ≡ false) (L : Leads ts cs i c m k) where
    turn_is : (x : ℕ) → E.0 ≤ x → and_then (clause_run st ts f d k x) (add_clause st.operator c m (λ ds h. parse_clauses st ts x f d ds h) cs) ≡ R
    turn_is x h = sym (run_is st ts f d cs i goes L x) ∙ E.1 (suc x) (omega arith)

    pub ev_found : {q : Made} {next : ℕ} → Eventually (clause_run st ts f d k) (got (found q next))
        → Eventually (clauses_run st ts f d (with_made st.operator c m cs q) next) R
    ev_found {q} {next} (n, s) = (
      n + E.0,
      λ x h.
          sym (added_is st.operator c m (λ ds y. parse_clauses st ts x f d ds y) cs q next)
          ∙ sym (ap (λ (r : Read Found). and_then r (add_clause st.operator c m (λ ds y. parse_clauses st ts x f d ds y) cs)) (s x (omega arith)))
          ∙ turn_is x (omega arith),
    )

-- a clause is read, since a refusal would refuse the whole
pub ev_clause : (st : Setup) (ts : List Token) (f : List ℕ) (d : ℕ) (acc : Clauses) (i : ℕ) {cs : Clauses} {j : ℕ} → Eventually (clauses_run st ts f d acc i) (got (kept cs j))
    → {c : Conjunction} {m : Modifier} {k : ℕ} → stops_at ts i ≡ false → Leads ts acc i c m k → (q : Made) × (next : ℕ) × Eventually (clause_run st ts f d k) (got (found q next))
ev_clause st ts f d acc i {cs} {j} E {c} {m} {k} goes L = by (clause_run st ts f d k E.0) refl (turn_is st ts f d acc i E goes L E.0 (omega arith))
  where
    by : (r : Read Found) → clause_run st ts f d k E.0 ≡ r
        → and_then r (add_clause st.operator c m (λ ds h. parse_clauses st ts E.0 f d ds h) acc) ≡ got (kept cs j)
        → (q : Made) × (next : ℕ) × Eventually (clause_run st ts f d k) (got (found q next))
    by (refused x) e z = no_got z
    by (got (found q next)) e z = (q, next, clause_fuel st ts f d k E.0 e)

-- ---- the first clause that is kept

touched_none : (o : ℕ) (c : Conjunction) → touched o c none ≡ none
unfolding touched
touched_none o c = refl

root_first : (o : ℕ) (c : Conjunction) {k l : Kind} {p q : Query} → Grows (clause k p (touched o c none)) (clause l q none) → p ≡ q
unfolding base touched
root_first o c {p = p} G = G.root p refl

none_kept : {A : Type 0} {k : Kind} {q : Query} {i j : ℕ} → got (kept none i) ≡ got (kept (clause k q none) j) → A
none_kept e = absurd (never e)
  where
    never : {k : Kind} {q : Query} {i j : ℕ} → got (kept none i) ≡ got (kept (clause k q none) j) → ⊥
    never e = let z : ◌≡◌ {A = ℕ} 0 1 = cc in omega arith

pub first_none : (st : Setup) (ts : List Token) (f : List ℕ) (d i : ℕ) {k : Kind} {q : Query} {j : ℕ} {A : Type 0}
    → Eventually (clauses_run st ts f d none i) (got (kept (clause k q none) j)) → stops_at ts i ≡ true → A
first_none st ts f d i E e = none_kept (ev_stops st ts f d none i E e)

module _ (st : Setup) (ts : List Token) (f : List ℕ) (d i : ℕ) {R : Read Kept} (E : Eventually (clauses_run st ts f d none i) R) (goes : stops_at ts i ≡ false)
    (c : Conjunction) (m : Modifier) (k : ℕ) (L : Leads ts none i c m k) where
  pub first_nothing : {next : ℕ} → Eventually (clause_run st ts f d k) (got (found nothing next)) → Eventually (clauses_run st ts f d none next) R
  first_nothing {next} C =
      subst (λ (a : Clauses). Eventually (clauses_run st ts f d a next) R) (touched_none st.operator c) (ev_found st ts f d none i E goes L C)

  pub first_made : {next : ℕ} {l : Kind} {p q : Query} {j : ℕ} → R ≡ got (kept (clause l q none) j) → Eventually (clause_run st ts f d k) (got (found (made p) next)) → p ≡ q
  first_made {next} {p = p} r C =
      root_first st.operator c
      (grows st ts f d _ next (subst (Eventually (clauses_run st ts f d (with_made st.operator c m none (made p)) next)) r (ev_found st ts f d none i E goes L C)))

-- ---- what is laid

-- where the header of the last clause stands
abbrev pub LastAt : ℕ → Clauses → Type 0
LastAt last none = last ≡ 0
LastAt last (clause k q cs) = last ≡ 8 + length (bytes_of cs)

bytes_none : length (bytes_of none) ≡ 0
unfolding bytes_of
bytes_none = refl

bytes_some : (k : Kind) (q : Query) (cs : Clauses) → length (bytes_of (clause k q cs)) ≡ length (bytes_of cs) + (3 + length (encode q))
unfolding bytes_of
bytes_some k q cs = length-append (bytes_of cs) (part (kind_tag k) (encode q)) ∙ omega arith

no_query : made_length (query_of none) ≡ 0
unfolding query_of
no_query = refl

last_touched : (o : ℕ) (c : Conjunction) (last : ℕ) (cs : Clauses) → LastAt last cs → LastAt last (touched o c cs)
unfolding touched
last_touched o c last none e = e
last_touched o c last (clause k q cs) e = e

-- one part more
grown : (out₀ : List ℕ) (acc : Clauses) (k : Kind) (q : Query) (tag w end : ℕ) (out₁ out₃ : List ℕ) → tag ≡ kind_tag k → Put out₀ 0 (bool_front (length out₀) ++ bytes_of acc) w out₁
    → Put out₁ w (part tag (encode q)) end out₃ → 8 + length (bytes_of acc) + (3 + length (encode q)) ≤ length out₀
    → Put out₀ 0 (bool_front (length out₀) ++ bytes_of (clause k q acc)) end out₃
unfolding bytes_of
grown out₀ acc k q tag w end out₁ out₃ e P Q h =
    let D = bool_front (length out₀) ++ bytes_of acc in
    let Z = put_then P Q (omega (arith, length-append (bool_front (length out₀)) (bytes_of acc))) in
    subst (λ (s : List ℕ). Put out₀ 0 s end out₃) (ap (λ (t : ℕ). D ++ part t (encode q)) e ∙ append_assoc (bool_front (length out₀)) (bytes_of acc) (part (kind_tag k) (encode q))) Z

-- the last kind altered where it stands
patched : (out₀ : List ℕ) (o : ℕ) (c : Conjunction) (k : Kind) (q : Query) (acc : Clauses) (w last : ℕ) (out out₁ : List ℕ)
    → Put out₀ 0 (bool_front (length out₀) ++ bytes_of (clause k q acc)) w out → last ≡ 8 + length (bytes_of acc)
    → ((cs : Clauses) → get_or out last 0 ≡ last_tag cs → out₁ ≡ set out last (last_tag (touched o c cs)))
    → 8 + (length (bytes_of acc) + (3 + length (encode q))) ≤ length out₀
    → Put out₀ 0 (bool_front (length out₀) ++ bytes_of (touched o c (clause k q acc))) w out₁
unfolding bytes_of touched
patched out₀ o c k q acc w last out out₁ P L T h =
    let D = bool_front (length out₀) ++ bytes_of acc in
    let b = encode q in
    let R = length b / 256 ∷ length b % 256 ∷ b in
    let tail = drop (length (D ++ part (kind_tag k) b)) out₀ in
    let dl : length D ≡ last = length-append (bool_front (length out₀)) (bytes_of acc) ∙ sym L in
    let shape : (t : ℕ) → laid out₀ 0 (bool_front (length out₀) ++ (bytes_of acc ++ part t b)) ≡ D ++ t ∷ (R ++ tail) =
    λ t. ap (laid out₀ 0) (sym (append_assoc (bool_front (length out₀)) (bytes_of acc) (part t b))) ∙ laid_front out₀ (D ++ part t b)
    ∙ append_assoc D (part t b) (drop (length (D ++ part t b)) out₀)
    ∙ ap (λ (x : ℕ). D ++ t ∷ (R ++ drop x out₀)) (length-append D (part t b) ∙ sym (length-append D (part (kind_tag k) b))) in
    let there : out ≡ D ++ kind_tag k ∷ (R ++ tail) = P.bytes ∙ shape (kind_tag k) in
    let tag : get_or out last 0 ≡ kind_tag k = ap (λ (x : List ℕ). get_or x last 0) there ∙ get_or_at D (kind_tag k) (R ++ tail) 0 last dl in
    let new = kind_tag (kind_before o c k) in
    record {
      place = P.place ∙ ap (λ (x : ℕ). 0 + x) (length-append (bool_front (length out₀)) (bytes_of acc ++ part (kind_tag k) b) ∙ ap (λ (x : ℕ). length (bool_front (length out₀)) + x) (length-append (bytes_of acc) (part (kind_tag k) b) ∙ sym (length-append (bytes_of acc) (part new b))) ∙ sym (length-append (bool_front (length out₀)) (bytes_of acc ++ part new b)));
      bytes = T (clause k q acc) tag ∙ ap (λ (x : List ℕ). set x last new) there ∙ set_at D (kind_tag k) (R ++ tail) new last dl ∙ sym (shape new);
    }

-- what is kept so far is laid behind the front, and the definition goes on to cs
pub record Filling (st : Setup) (ts : List Token) (f : List ℕ) (d : ℕ) (cs : Clauses) (j : ℕ) (out₀ : List ℕ) (i w last : ℕ) (out : List ℕ) : Type 0 where
  pub acc : Clauses
  pub is : Eventually (clauses_run st ts f d acc i) (got (kept cs j))
  pub put : Put out₀ 0 (bool_front (length out₀) ++ bytes_of acc) w out
  pub header_at : LastAt last acc
  pub long : length out ≡ length out₀

module _ {st : Setup} {ts : List Token} {f : List ℕ} {d : ℕ} {cs : Clauses} {j : ℕ} {out₀ : List ℕ} {i w last : ℕ} {out : List ℕ}
    (F : Filling st ts f d cs j out₀ i w last out) where
  pub filled_wide : w ≡ 8 + length (bytes_of F.acc)
  filled_wide = F.put.place ∙ omega (arith, length-append (bool_front (length out₀)) (bytes_of F.acc))

  pub filled_kept : is_kept F.acc ≡ ltb 8 w
  filled_kept = by F.acc filled_wide
    where
      by : (acc : Clauses) → w ≡ 8 + length (bytes_of acc) → is_kept acc ≡ ltb 8 w
      by none e = sym (le-ltb 8 w (omega (arith, bytes_none)))
      by (clause k q acc) e = sym (lt-ltb 8 w (omega (arith, bytes_some k q acc)))

  pub filled_last : 8 + length (bytes_of cs) ≡ length out₀ → last < length out
  filled_last fits = by F.acc F.header_at (grows st ts f d F.acc i F.is).size
    where
      by : (acc : Clauses) → LastAt last acc → length (bytes_of acc) ≤ length (bytes_of cs) → last < length out
      by none e g = omega (arith, F.long)
      by (clause k q acc) e g = omega (arith, F.long, bytes_some k q acc)

-- a query of several clauses, or of one that does not stand for itself
module _ (cs : Clauses) (n : ℕ) (some : 0 < n) (fills : n ≡ made_length (query_of cs)) (several : is_alone cs ≡ false) where
  some_kept : is_kept cs ≡ true
  some_kept = by cs fills
    where
      by : (cs : Clauses) → n ≡ made_length (query_of cs) → is_kept cs ≡ true
      by none e = absurd (omega (arith, no_query))
      by (clause k q cs) e = refl

  pub several_size : 8 + length (bytes_of cs) ≡ n
  several_size =
      sym (fills ∙ ap made_length (several_is cs some_kept several) ∙ length_boolean 0 (in_order_before none cs) ∙ ap (λ (b : List ℕ). 8 + length b) (all_in_order cs))

  pub several_bytes : bool_front n ++ bytes_of cs ≡ made_bytes (query_of cs)
  unfolding encode
  several_bytes =
      let m : n - 3 ≡ length (part 0x13 (big 2 0) ++ bytes_of cs) = omega (arith, several_size, length-append (part 0x13 (big 2 0)) (bytes_of cs)) in
      ap (λ (x : ℕ). (header 3 x ++ part 0x13 (big 2 0)) ++ bytes_of cs) m
      ∙ ap (λ (b : List ℕ). part 3 (part 0x13 (big 2 0) ++ b)) (sym (all_in_order cs)) ∙ sym (ap made_bytes (several_is cs some_kept several))

-- ---- the loop

pub filling_start : (st : Setup) (ts : List Token) (f : List ℕ) (d : ℕ) (cs : Clauses) (j : ℕ) (entry out : List ℕ) (i w : ℕ)
    → Put entry 0 (bool_front (length entry)) w out → length out ≡ length entry → 8 ≤ length entry → Eventually (clauses_run st ts f d none i) (got (kept cs j))
    → Filling st ts f d cs j out i w 0 out
unfolding bytes_of
filling_start st ts f d cs j entry out i w P l h E = record {
  acc = none;
  is = E;
  put = record {
    place = P.place;
    bytes =
        P.bytes
        ∙ sym (ap (λ (o : List ℕ). laid o 0 (bool_front (length out) ++ [])) P.bytes ∙ ap (λ (s : List ℕ). laid (laid entry 0 (bool_front (length entry))) 0 s) (append-nil (bool_front (length out)) ∙ ap bool_front l)
        ∙ laid_over entry 0 (bool_front (length entry)) (bool_front (length entry)) (omega arith) refl);
  };
  header_at = refl;
  long = refl;
}

module _ {st : Setup} {ts : List Token} {f : List ℕ} {d : ℕ} {cs : Clauses} {j : ℕ} {out₀ : List ℕ} {i w last : ℕ} {out : List ℕ}
    (F : Filling st ts f d cs j out₀ i w last out) (fits : 8 + length (bytes_of cs) ≡ length out₀) where
  -- the conjunction alters the last kind
  touched_put : (o : ℕ) (c : Conjunction) (out₁ : List ℕ) → Touches (ltb 8 w) last o c out out₁
      → Put out₀ 0 (bool_front (length out₀) ++ bytes_of (touched o c F.acc)) w out₁
  touched_put o c out₁ T = by F.acc F.put F.header_at (subst (λ (b : Bool). Touches b last o c out out₁) (sym (filled_kept F)) T) (grows st ts f d F.acc i F.is).size
    where
      by : (acc : Clauses) → Put out₀ 0 (bool_front (length out₀) ++ bytes_of acc) w out → LastAt last acc → Touches (is_kept acc) last o c out out₁
          → length (bytes_of acc) ≤ length (bytes_of cs) → Put out₀ 0 (bool_front (length out₀) ++ bytes_of (touched o c acc)) w out₁
      by none P L T g = subst (λ (x : List ℕ). Put out₀ 0 (bool_front (length out₀) ++ bytes_of (touched o c none)) w x) (sym T)
          (subst (λ (a : Clauses). Put out₀ 0 (bool_front (length out₀) ++ bytes_of a) w out) (sym (touched_none o c)) P)
      by (clause k q acc) P L T g = patched out₀ o c k q acc w last out out₁ P L T (omega (arith, bytes_some k q acc))

  module _ (c : Conjunction) (m : Modifier) (k : ℕ) (o : ℕ) (joins : st.operator ≡ o) (goes : stops_at ts i ≡ false) (L : (acc : Clauses) → is_kept acc ≡ ltb 8 w → Leads ts acc i c m k) where
    lead : Leads ts F.acc i c m k
    lead = L F.acc (filled_kept F)

    -- one clause more, and room for it
    after : Query → Clauses
    after q = clause (kind_after st.operator c m) q (touched st.operator c F.acc)

    pub filling_clause : (q : Made) × (next : ℕ) × Eventually (clause_run st ts f d k) (got (found q next))
    filling_clause = ev_clause st ts f d F.acc i F.is goes lead

    pub filling_room : {q : Query} {next : ℕ} → Eventually (clause_run st ts f d k) (got (found (made q) next)) → w + 3 + length (encode q) ≤ length out₀
    unfolding after
    filling_room {q} {next} C =
        let E = ev_found st ts f d F.acc i F.is goes lead C in
        omega (arith, filled_wide F, (grows st ts f d (after q) next E).size, bytes_some (kind_after st.operator c m) q (touched st.operator c F.acc), length_touched st.operator c F.acc)

    module _ (out₁ : List ℕ) (T : Touches (ltb 8 w) last o c out out₁) (l₁ : length out₁ ≡ length out) where
      turned_put : Put out₀ 0 (bool_front (length out₀) ++ bytes_of (touched st.operator c F.acc)) w out₁
      turned_put = subst (λ (p : ℕ). Put out₀ 0 (bool_front (length out₀) ++ bytes_of (touched p c F.acc)) w out₁) (sym joins) (touched_put o c out₁ T)

      pub filling_nothing : {next : ℕ} → Eventually (clause_run st ts f d k) (got (found nothing next)) → Filling st ts f d cs j out₀ next w last out₁
      filling_nothing C = record {
        acc = touched st.operator c F.acc;
        is = ev_found st ts f d F.acc i F.is goes lead C;
        put = turned_put;
        header_at = last_touched st.operator c last F.acc F.header_at;
        long = l₁ ∙ F.long;
      }

      pub filling_made : {q : Query} {next : ℕ} → Eventually (clause_run st ts f d k) (got (found (made q) next)) → (tag len p end : ℕ) (out₂ out₃ : List ℕ)
          → tag ≡ kind_tag (kind_after o c m) → Put out₁ (w + 3) (encode q) end out₂ → Put out₂ w (header tag len) p out₃
          → len ≡ end - (w + 3) → length out₃ ≡ length out₁ → Filling st ts f d cs j out₀ next end w out₃
      unfolding after
      filling_made {q} C tag len p end out₂ out₃ et P Q el l₃ =
          let acc = touched st.operator c F.acc in
          let lw : w ≡ 8 + length (bytes_of acc) = filled_wide F ∙ omega (arith, length_touched st.operator c F.acc) in
          let r = filling_room C in
          let B : Put out₁ w (part tag (encode q)) end out₃ = head_before P Q refl (omega (arith, P.place)) (omega (arith, F.long)) in
          let kd : tag ≡ kind_tag (kind_after st.operator c m) = et ∙ ap (λ (p : ℕ). kind_tag (kind_after p c m)) (sym joins) in
          record {
            acc = after q;
            is = ev_found st ts f d F.acc i F.is goes lead C;
            put = grown out₀ acc (kind_after st.operator c m) q tag w end out₁ out₃ kd turned_put B (omega arith);
            header_at = lw;
            long = l₃ ∙ l₁ ∙ F.long;
          }

  pub filling_ends : stops_at ts i ≡ true → (n : ℕ) → n ≡ length out₀ → bool_front n ++ bytes_of cs ≡ made_bytes (query_of cs) → out ≡ made_bytes (query_of cs)
  filling_ends e n en b =
      let same : F.acc ≡ cs = kept_same (ev_stops st ts f d F.acc i F.is e) in
      F.put.bytes ∙ ap (λ (a : Clauses). laid out₀ 0 (bool_front (length out₀) ++ bytes_of a)) same
      ∙ laid_all out₀ (bool_front (length out₀) ++ bytes_of cs) (length-append (bool_front (length out₀)) (bytes_of cs) ∙ omega arith)
      ∙ ap (λ (x : ℕ). bool_front x ++ bytes_of cs) (sym en) ∙ b
