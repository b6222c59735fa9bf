-- Equal bytes are equal queries: comparing stored forms compares queries. Sections 'Stored form' and 'One round of rewriting'.
use mathlib.Core.Path.{◌≡◌, refl, sym, ap, ◌∙◌, subst}
use mathlib.Core.Logic.{◌↔◌}
use Prim.Native.Nat.{ℕ, ◌+◌, ◌≤◌}
use mathlib.Core.List.{List, [], ◌∷◌}
use mathlib.Core.Bool.{true}
use native.Mathlib.Omega.{arith}
use lib.Dec.{eqb}
use borrow.Author.Tests.{eqb-true, eq-eqb}
use Rattle.rules.specs.Numbers.{got}
use Rattle.rules.specs.Bytes.{Bytes, same}
use Rattle.rules.specs.Query.{Query, Clauses, depth, depths, same_query, is_yes, equal}
use Rattle.rules.specs.Stored.{encode, encodes, Valid, Valids}
use Rattle.rules.specs.Reading.{decode}
use Rattle.rules.proofs.Bools.{clash, and_l, and_r, both, alike}
use Rattle.rules.proofs.Stored.Refusals.{got_same}
use Rattle.rules.proofs.Stored.Steps.{clauses_of}
use Rattle.rules.proofs.Stored.Inverse.{decode_encode, clauses_encodes}
use Rattle.rules.proofs.Stored.Sound.{ReadAs, decode_sound}

-- ---- the comparison of bytes

pub same_refl : (s : List ℕ) → same s s ≡ true
unfolding same
same_refl [] = refl
same_refl (x ∷ s) = both (eq-eqb x x refl) (same_refl s)

pub same_eq : (s t : List ℕ) → same s t ≡ true → s ≡ t
unfolding same
same_eq [] [] h = refl
same_eq [] (y ∷ t) h = clash h refl
same_eq (x ∷ s) [] h = clash h refl
same_eq (x ∷ s) (y ∷ t) h =
    let e : x ≡ y = eqb-true x y (and_l (eqb x y) (same s t) h) in
    let f : s ≡ t = same_eq s t (and_r (eqb x y) (same s t) h) in
    cc

-- ---- stored forms

pub encode_injective : (p q : Query) → Valid p → Valid q → encode p ≡ encode q → p ≡ q
encode_injective p q v w e =
    let d = depth p + depth q in
    got_same (sym (decode_encode p d v (omega arith)) ∙ ap (decode d) e ∙ decode_encode q d w (omega arith))

pub encodes_injective : (cs ds : Clauses) → Valids cs → Valids ds → encodes cs ≡ encodes ds → cs ≡ ds
encodes_injective cs ds v w e =
    let d = depths cs + depths ds in
    got_same (sym (clauses_encodes cs d v (omega arith)) ∙ ap (clauses_of (decode d)) e ∙ clauses_encodes ds d w (omega arith))

-- what is shown of one query that has these bytes is shown of each that has them
pub of_one : (P : Query → Type 0) (p : Query) → Valid p → P p → (q : Query) → Valid q → encode p ≡ encode q → P q
of_one P p v x q w e = subst P (encode_injective p q v w e) x

pub of_ones : (P : Clauses → Type 0) (cs : Clauses) → Valids cs → P cs → (ds : Clauses) → Valids ds → encodes cs ≡ encodes ds → P ds
of_ones P cs v x ds w e = subst P (encodes_injective cs ds v w e) x

pub equal_eq : (p q : Query) → equal p q ≡ true → p ≡ q
equal_eq p q h = go (same_query p q) h
  where
    go : (d : Dec (p ≡ q)) → is_yes d ≡ true → p ≡ q
    go (yes e) h = e
    go (no n) h = clash h refl

pub equal_refl : (p q : Query) → p ≡ q → equal p q ≡ true
equal_refl p q e = go (same_query p q)
  where
    go : (d : Dec (p ≡ q)) → is_yes d ≡ true
    go (yes e) = refl
    go (no n) = absurd (n e)

pub equal_bytes : (p q : Query) → Valid p → Valid q → equal p q ≡ same (encode p) (encode q)
equal_bytes p q v w =
    alike (equal p q) (same (encode p) (encode q))
    (λ h. rw (equal_eq p q h) (same_refl (encode q)))
    (λ h. equal_refl p q (encode_injective p q v w (same_eq (encode p) (encode q) h)))

-- ---- what is read

pub is_same_lem : {d e : ℕ} {s t : List ℕ} {p q : Query} → ReadAs d s p → ReadAs e t q → (p ≡ q) ↔ (s ≡ t)
is_same_lem {p = p} {q = q} I J = (λ h. sym I.form ∙ ap encode h ∙ J.form, λ h. encode_injective p q I.valid J.valid (I.form ∙ h ∙ sym J.form))

-- two lists that are read, at whatever depth, are read as equal queries exactly when they are equal
pub read_same : (d e : ℕ) (s t : List ℕ) (p q : Query) → Bytes s → Bytes t → decode d s ≡ got p → decode e t ≡ got q → (p ≡ q) ↔ (s ≡ t)
read_same d e s t p q B C h k = is_same_lem (decode_sound d s p B h) (decode_sound e t q C k)

pub decode_deeper : (d e : ℕ) (s : List ℕ) (q : Query) → Bytes s → decode d s ≡ got q → d ≤ e → decode e s ≡ got q
decode_deeper d e s q B h l =
    let I = decode_sound d s q B h in
    ap (decode e) (sym I.form) ∙ decode_encode q e I.valid (omega arith)
