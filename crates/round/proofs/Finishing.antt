-- The last step of a round: a boost, a constant score, a phrase and a lone clause, finished in place.
use mathlib.Core.Path.{◌≡◌, refl, sym, ap, ◌∙◌, subst}
use Prim.Native.Nat.{ℕ, ◌+◌, ◌-◌, ◌≤◌, ◌<◌}
use mathlib.Core.List.{List, ◌++◌}
use native.Mathlib.Omega.{arith}
use lib.ListN.{length, get_or, take, drop, length-append, length-take, length-drop, take-append-drop}
use lib.Seq.{get_or-take, get_or-drop, drop-drop, length-take-le}
use Rattle.rules.specs.Numbers.{term_tag, text_tag, boost_tag}
use Rattle.rules.specs.Bytes.{of_big, big, part, tag_of}
use Rattle.rules.specs.Query.{Kind, must, should, must_not, filter, Query, term, phrase, boolean, boost, constant_score, match_all, match_none, range}
use Rattle.rules.specs.Stored.{kind_tag, encode, Valid}
use Rattle.rules.specs.Checked.{Is}
use Rattle.rules.specs.Rewriting.{boosted, scored, lone}
use Rattle.rules.specs.Floats.{times}
use Rattle.rules.proofs.Stored.Bigs.{read_big}
use Rattle.rules.proofs.Stored.Inverse.{boost_below}
use Rattle.rules.proofs.Stored.Sizes.{length_encode}
use Rattle.rules.proofs.Stored.Views.{View, v_boost, v_constant_score, at_tag}
use Rattle.numbers.specs.Laid.{laid, Put, header}
use Rattle.numbers.proofs.Laying.{length_laid, there_laid, laid_over, laid_inside, put_then, put_body}
use Rattle.places.specs.Within.{within, Stands}
use Rattle.round.specs.Over.{Inner}
use Rattle.places.proofs.Standing.{stands_laid, stands_put, stands_here, stands_before, within_length, behind_laid}
use Rattle.merging.proofs.Forms.{long_of, kind_is}
use Rattle.merging.proofs.Laid.{put_long}

-- ---- what stands at a place, by its tag

pub tag_of_lem : (room : List ℕ) (a n : ℕ) (q : Query) → Is (take n (drop a room)) q → get_or room a 0 ≡ tag_of (encode q)
tag_of_lem room a n q i =
    let h : 0 < n = omega (arith, long_of i, length-take n (drop a room)) in
    let z : a ≡ a + 0 = omega arith in
    ap (λ (k : ℕ). get_or room k 0) z ∙ sym (get_or-drop a room 0 0) ∙ sym (get_or-take n (drop a room) 0 0 h) ∙ ap tag_of (sym i.form)

pub length_of : (room : List ℕ) (a n : ℕ) (q : Query) → Is (take n (drop a room)) q → a + n ≤ length room → n ≡ length (encode q)
length_of room a n q i h = sym (length-take-le n (drop a room) (simp length-drop (omega arith))) ∙ ap length (sym i.form)

pub boost_form : (q : Query) → tag_of (encode q) ≡ 4 → (c : ℕ) × (p : Query) × (q ≡ boost c p)
boost_form q h = go (at_tag (encode q) _ 4 q h refl refl)
  where
    go : {b : List ℕ} {q : Query} → View 4 b q → (c : ℕ) × (p : Query) × (q ≡ boost c p)
    go (v_boost {b} {q}) = (b, q, refl)

pub score_form : (q : Query) → tag_of (encode q) ≡ 5 → (p : Query) × (q ≡ constant_score p)
score_form q h = go (at_tag (encode q) _ 5 q h refl refl)
  where
    go : {b : List ℕ} {q : Query} → View 5 b q → (p : Query) × (q ≡ constant_score p)
    go (v_constant_score {q}) = (q, refl)

pub none_form : (q : Query) → tag_of (encode q) ≡ 7 → q ≡ match_none
none_form q h = (Rattle.rules.proofs.Stored.Views.as_match_none (at_tag (encode q) _ 7 q h refl refl)).0

pub boosted_none : (b : ℕ) (q : Query) → tag_of (encode q) ≡ 7 → boosted b q ≡ match_none
unfolding boosted
boosted_none b q h = ap (boosted b) (none_form q h)

pub scored_none : (q : Query) → tag_of (encode q) ≡ 7 → scored q ≡ match_none
unfolding scored
scored_none q h = ap scored (none_form q h)

pub boosted_plain : (b : ℕ) (q : Query) → (tag_of (encode q) ≡ 7 → ⊥) → (tag_of (encode q) ≡ 4 → ⊥) → boosted b q ≡ boost b q
unfolding boosted encode
boosted_plain b (term f t) n o = refl
boosted_plain b (phrase f ws) n o = refl
boosted_plain b (boolean m cs) n o = refl
boosted_plain b (boost c q) n o = absurd (o refl)
boosted_plain b (constant_score q) n o = refl
boosted_plain b match_all n o = refl
boosted_plain b match_none n o = absurd (n refl)
boosted_plain b (range k f l u) n o = refl

pub scored_plain : (q : Query) → (tag_of (encode q) ≡ 7 → ⊥) → (tag_of (encode q) ≡ 5 → ⊥) → (tag_of (encode q) ≡ 4 → ⊥) → scored q ≡ constant_score q
unfolding scored encode
scored_plain (term f t) n m o = refl
scored_plain (phrase f ws) n m o = refl
scored_plain (boolean k cs) n m o = refl
scored_plain (boost c q) n m o = absurd (o refl)
scored_plain (constant_score q) n m o = absurd (m refl)
scored_plain match_all n m o = refl
scored_plain match_none n m o = absurd (n refl)
scored_plain (range k f l u) n m o = refl

-- ---- what is laid

pub none_put : {room room₁ : List ℕ} {p : ℕ} → Put room 0 (header 7 0) p room₁ → 3 ≤ length room → Stands 0 room p (encode match_none) room₁
unfolding encode
none_put {p = p} P h = stands_put P p P.place (omega (arith, P.place))

-- something moved
pub moved : {room room₁ : List ℕ} {to p : ℕ} {s : List ℕ} (a n : ℕ) → Put room to (take n (drop a room)) p room₁ → take n (drop a room) ≡ s → a + n ≤ length room → to + n ≤ length room
    → Stands to room n s room₁
moved {room} a n P e h k =
    stands_put (rw e at P) n (sym (length-take-le n (drop a room) (simp length-drop (omega arith))) ∙ ap length e) k

-- x in the place of as many bytes of s
pub patched : {room room₁ room₂ : List ℕ} {to p r : ℕ} {s x : List ℕ} (k : ℕ) → Put room to s p room₁ → Put room₁ (to + k) x r room₂ → k + length x ≤ length s → to + length s ≤ length room
    → room₂ ≡ laid room to (laid s k x)
patched {room} {room₁} {to = to} {s = s} {x = x} k P Q h fits =
    let l = put_long P fits in
    let t : take (length s) (drop to room₁) ≡ s = ap (λ (m : List ℕ). take (length s) (drop to m)) P.bytes ∙ there_laid room to s fits in
    Q.bytes ∙ sym (laid_inside room₁ to (length s) k x h (omega arith)) ∙ ap (λ (m : List ℕ). laid room₁ to (laid m k x)) t
    ∙ ap (λ (m : List ℕ). laid m to (laid s k x)) P.bytes ∙ laid_over room to s (laid s k x) fits (length_laid s k x h)

-- a boost of what stands at to + 7
pub boost_laid : {room room₁ room₂ : List ℕ} {to p r : ℕ} (n b : ℕ) (q : Query) → Is (take n (drop (to + 7) room)) q → to + 7 + n ≤ length room
    → Put room to (header boost_tag (4 + n)) p room₁ → Put room₁ p (big 4 b) r room₂ → Stands to room (7 + n) (encode (boost b q)) room₂
unfolding encode
boost_laid {room} {to = to} n b q i fits P Q =
    let e = length_of room (to + 7) n q i fits in
    let hd = header boost_tag (4 + n) ++ big 4 b in
    let S = stands_before to hd (stands_here room (to + 7) n (encode q) fits (sym i.form)) (omega arith) fits in
    let R = put_then P Q (omega arith) in
    let z : 4 + n ≡ length (big 4 b ++ encode q) = omega (arith, length-append (big 4 b) (encode q)) in
    rw R.bytes (subst (λ (k : ℕ). Stands to room (7 + n) (header boost_tag k ++ big 4 b ++ encode q) (laid room to hd)) z S)

-- a boost over a boost: the product takes its place
pub product_laid : {room room₁ room₂ : List ℕ} {to p r n : ℕ} (c y : ℕ) (q : Query) → Is (take n (drop (to + 7) room)) (boost c q) → to + 7 + n ≤ length room
    → Put room to (take n (drop (to + 7) room)) p room₁ → Put room₁ (to + 3) (big 4 y) r room₂ → Stands to room n (encode (boost y q)) room₂
unfolding encode laid
product_laid {room} {to = to} {n = n} c y q i fits P Q =
    let e = length_of room (to + 7) n (boost c q) i fits in
    let s = encode (boost c q) in
    let z = patched 3 (rw (← i.form) at P) Q (omega arith) (omega arith) in
    rw (z, e) (stands_laid room to (encode (boost y q)) (omega arith))

-- the boost of what stands at a
pub boost_bits : (room : List ℕ) (a n c : ℕ) (q : Query) → Is (take n (drop a room)) (boost c q) → of_big (take 4 (drop (a + 3) room)) ≡ c
unfolding encode Valid
boost_bits room a n c q i =
    let e : drop a room ≡ encode (boost c q) ++ drop n (drop a room) =
    sym (take-append-drop n (drop a room)) ∙ ap {B = List ℕ} (λ l. l ++ drop n (drop a room)) (sym i.form) in
    ap (λ (l : List ℕ). of_big (take 4 l)) (sym (drop-drop 3 a room) ∙ ap (drop 3) e) ∙ read_big 4 c (boost_below c i.valid.0)

-- a constant score of what stands at to + 3
pub score_laid : {room room₁ room₂ : List ℕ} {to p n : ℕ} (q : Query) → Stands (to + 3) room n (encode q) room₁ → Put room₁ to (header 5 n) p room₂ → to + 3 + n ≤ length room
    → Stands to room (3 + n) (encode (constant_score q)) room₂
unfolding encode
score_laid {room} {room₁} {to = to} {n = n} q S P fits =
    rw P.bytes
    (subst (λ (k : ℕ). Stands to room (3 + n) (header 5 k ++ encode q) (laid room₁ to (header 5 n))) S.size (stands_before to (header 5 n) S (omega arith) fits))

-- what a boost at a holds
pub boost_inner : (room : List ℕ) (a n c : ℕ) (q : Query) → Is (take n (drop a room)) (boost c q) → a + n ≤ length room → (7 ≤ n) × (take (n - 7) (drop (a + 7) room) ≡ encode q)
unfolding encode
boost_inner room a n c q i fits =
    let e = length_of room a n (boost c q) i fits in
    let z : a + n - a ≡ n = omega arith in
    let y : a + n - (a + 7) ≡ n - 7 = omega arith in
    let w : within a (a + n) room ≡ encode (boost c q) = ap (λ (k : ℕ). take k (drop a room)) z ∙ sym i.form in
    (omega arith, ap (λ (k : ℕ). take k (drop (a + 7) room)) (sym y) ∙ Rattle.places.proofs.Standing.second room a (a + n) (header 4 (length (big 4 c ++ encode q)) ++ big 4 c) (encode q) (omega arith) fits w)

-- ---- a lone clause

pub lone_none : (k : Kind) (q : Query) → kind_tag k ≡ 0x22 → lone k q ≡ match_none
unfolding lone
lone_none k q e = ap (λ (j : Kind). lone j q) (kind_is k 0x22 e)

pub lone_filter : (k : Kind) (q : Query) → kind_tag k ≡ 0x23 → lone k q ≡ boost 0 (constant_score q)
unfolding lone
lone_filter k q e = ap (λ (j : Kind). lone j q) (kind_is k 0x23 e)

pub lone_plain : (k : Kind) (q : Query) → (kind_tag k ≡ 0x22 → ⊥) → (kind_tag k ≡ 0x23 → ⊥) → lone k q ≡ q
unfolding lone
lone_plain must q n o = refl
lone_plain should q n o = refl
lone_plain must_not q n o = absurd (n refl)
lone_plain filter q n o = absurd (o refl)

-- the boost 0 over a constant score of what was moved to to + 10
pub filter_laid : {room room₁ room₂ room₃ room₄ : List ℕ} {to p c d n : ℕ} (q : Query) → Stands (to + 10) room n (encode q) room₁ → to + 10 + n ≤ length room
    → Put room₁ (to + 7) (header 5 n) p room₂ → Put room₂ (to + 3) (big 4 0) c room₃ → Put room₃ to (header boost_tag (7 + n)) d room₄
    → Stands to room (10 + n) (encode (boost 0 (constant_score q))) room₄
unfolding encode
filter_laid {room} {room₁} {room₂} {room₃} {room₄} {to = to} {n = n} q S fits P C D =
    let a : to + 10 ≡ to + 7 + 3 = omega arith in
    let z : to + 7 + 3 + n ≤ length room = omega arith in
    let S₂ : Stands (to + 7) room (3 + n) (encode (constant_score q)) room₂ = score_laid q (rw a at S) P z in
    let S₃ : Stands (to + 3) room (4 + (3 + n)) (big 4 0 ++ encode (constant_score q)) room₃ = rw C.bytes (stands_before (to + 3) (big 4 0) S₂ (omega arith) (omega arith)) in
    let S₄ : Stands to room (3 + (4 + (3 + n))) (header boost_tag (7 + n) ++ (big 4 0 ++ encode (constant_score q))) room₄ =
    rw D.bytes (stands_before to (header boost_tag (7 + n)) S₃ (omega arith) (omega arith)) in
    let e : 7 + n ≡ length (big 4 0 ++ encode (constant_score q)) = omega (arith, S.size, length-append (big 4 0) (encode (constant_score q))) in
    let y : 3 + (4 + (3 + n)) ≡ 10 + n = omega arith in
    subst (λ (j : ℕ). Stands to room j (encode (boost 0 (constant_score q))) room₄) y
    (subst (λ (k : ℕ). Stands to room (3 + (4 + (3 + n))) (header boost_tag k ++ (big 4 0 ++ encode (constant_score q))) room₄) e S₄)

-- ---- a term, of a field part and a text that stand further up

put_above : {room room₁ : List ℕ} {at p : ℕ} {s : List ℕ} → Put room at s p room₁ → at + length s ≤ length room → (a e : ℕ) → at + length s ≤ a → within a e room₁ ≡ within a e room
put_above {room} {at = at} {s = s} P fits a e h = ap (within a e) P.bytes ∙ behind_laid room s a e at h fits

pub term_put : {room room₁ room₂ room₃ room₄ : List ℕ} {p q r u : ℕ} (field wd from end : ℕ) → 3 ≤ field → field ≤ wd → wd + 3 ≤ from → from ≤ end → end ≤ length room
    → Put room 0 (header term_tag (wd - field + 3 + (end - from))) p room₁ → Put room₁ p (take (wd - field) (drop field room₁)) q room₂
    → Put room₂ q (header text_tag (end - from)) r room₃ → Put room₃ r (take (end - from) (drop from room₃)) u room₄
    → Put room 0 (part term_tag (within field wd room ++ part text_tag (within from end room))) u room₄
term_put {room} {room₁} {room₂} {room₃} {p = p} {q = q} field wd from end l a b c d P Q R S =
    let f = within field wd room in
    let t = within from end room in
    let nf = within_length room field wd a (omega arith) in
    let nt = within_length room from end c d in
    let l₁ = put_long P (omega arith) in
    let ep : p ≡ 3 = P.place in
    let Q₂ = rw (put_above P (omega arith) field wd l) at Q in
    let l₂ = put_long Q₂ (omega arith) in
    let eq : q ≡ 3 + (wd - field) = omega (arith, Q₂.place) in
    let l₃ = put_long R (omega arith) in
    let same : within from end room₃ ≡ t =
    put_above R (omega arith) from end (omega arith) ∙ put_above Q₂ (omega arith) from end (omega arith) ∙ put_above P (omega arith) from end (omega arith) in
    let T = put_body R (rw same at S) (sym nt) (omega arith) in
    put_body P (put_then Q₂ T (omega arith)) (omega (arith, length-append f (part text_tag t))) (omega (arith, length-append f (part text_tag t)))

-- ---- the ways out of a boost and of a constant score

pub inner_long : {a n : ℕ} {room : List ℕ} → Inner a n room → 3 ≤ n
inner_long {a} {n} {room} I = omega (arith, length_of room a n I.query I.is I.fits, length_encode I.query)

pub boost_long : {a n : ℕ} {room : List ℕ} → Inner a n room → get_or room a 0 ≡ 4 → 7 ≤ n
boost_long {a} {n} {room} I h =
    let F = boost_form I.query (sym (tag_of_lem room a n I.query I.is) ∙ h) in
    (boost_inner room a n F.0 F.1 (subst (λ (q : Query). Is (take n (drop a room)) q) F.2 I.is) I.fits).0

module _ {room room₁ room₂ : List ℕ} {to p r : ℕ} (n : ℕ) (q : Query) where
  pub boost_over_boost : (b : ℕ) → Is (take n (drop (to + 7) room)) q → get_or room (to + 7) 0 ≡ 4 → to + 7 + n ≤ length room → (c : ℕ) → c ≡ of_big (take 4 (drop (to + 10) room))
      → (y : ℕ) → y ≡ times c b → Put room to (take n (drop (to + 7) room)) p room₁ → Put room₁ (to + 3) (big 4 y) r room₂ → Stands to room n (encode (boosted b q)) room₂
  unfolding boosted
  boost_over_boost b i h fits c ec y ey P Q =
      let F = boost_form q (sym (tag_of_lem room (to + 7) n q i) ∙ h) in
      let j = subst (λ (x : Query). Is (take n (drop (to + 7) room)) x) F.2 i in
      let z : to + 10 ≡ to + 7 + 3 = omega arith in
      let e : c ≡ F.0 = ec ∙ ap (λ (k : ℕ). of_big (take 4 (drop k room))) z ∙ boost_bits room (to + 7) n F.0 F.1 j in
      subst (λ (x : Query). Stands to room n (encode (boosted b x)) room₂) (sym F.2)
      (subst (λ (x : ℕ). Stands to room n (encode (boost x F.1)) room₂) (ey ∙ ap (λ (x : ℕ). times x b) e) (product_laid F.0 y F.1 j fits P Q))

  pub score_over_boost : Is (take n (drop (to + 3) room)) q → get_or room (to + 3) 0 ≡ 4 → to + 3 + n ≤ length room
      → Put room (to + 3) (take (n - 7) (drop (to + 10) room)) p room₁ → Put room₁ to (header 5 (n - 7)) r room₂ → Stands to room (n - 4) (encode (scored q)) room₂
  unfolding scored
  score_over_boost i h fits P Q =
      let F = boost_form q (sym (tag_of_lem room (to + 3) n q i) ∙ h) in
      let j = subst (λ (x : Query). Is (take n (drop (to + 3) room)) x) F.2 i in
      let B = boost_inner room (to + 3) n F.0 F.1 j fits in
      let l = B.0 in
      let z : to + 10 ≡ to + 3 + 7 = omega arith in
      let y : 3 + (n - 7) ≡ n - 4 = omega arith in
      let S = moved (to + 10) (n - 7) P (ap (λ (k : ℕ). take (n - 7) (drop k room)) z ∙ B.1) (omega arith) (omega arith) in
      subst (λ (x : Query). Stands to room (n - 4) (encode (scored x)) room₂) (sym F.2)
      (subst (λ (k : ℕ). Stands to room k (encode (constant_score F.1)) room₂) y (score_laid F.1 S Q (omega arith)))

pub scored_score : (q : Query) → tag_of (encode q) ≡ 5 → scored q ≡ q
unfolding scored
scored_score q h = let F = score_form q h in ap scored F.1 ∙ sym F.1

-- where what was moved ends
pub shifted : {room room₁ : List ℕ} {to p : ℕ} (a n : ℕ) → Put room to (take n (drop a room)) p room₁ → a + n ≤ length room → p ≡ to + n
shifted {room} a n P h = omega (arith, P.place, length-take-le n (drop a room) (simp length-drop (omega arith)))
