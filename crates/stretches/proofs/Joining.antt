-- Texts and pairs of stretches, byte by byte and in words of eight and four bytes: what is joined by `|`, and what it says at the end.
use mathlib.Core.Path.{◌≡◌, refl, sym, ap, ◌∙◌}
use Prim.Native.Nat.{ℕ, zero, suc, ◌+◌, ◌-◌, ◌*◌, ◌/◌, ◌%◌, ◌≤◌, ◌<◌}
use mathlib.Core.List.{List, [], ◌∷◌}
use mathlib.Core.Bool.{Bool, true, false, ◌&&◌, and-true}
use native.Mathlib.Omega.{arith}
use native.Mathlib.Numerals.{add-one}
use lib.ListN.{length, get_or, take, drop, length-drop, drop_of_length-le}
use lib.Seq.{take-nil, drop-cons, drop-drop, take_all, length-take-le}
use lib.Dec.{leb, eqb}
use lib.Bits.{bit_and, bit_or, bit_xor, and_le_l, and_le_r, and_block, and_high, or_lt, or_add_and, xor_add_and, xor_self, or_zero_l}
use borrow.Author.Tests.{leb-true, le-leb, eqb-true, eq-eqb}
use Rattle.rules.specs.Bytes.{Bytes, onto, of_big, big, is_text, same}
use Rattle.rules.proofs.Bools.{alike, and_l, and_r, both, and_no_r}
use Rattle.rules.proofs.Stored.Bigs.{write_big}
use Rattle.rules.proofs.Stored.Parts.{none_empty, empty_nil, bytes_take, cut_from, text_step}
use Rattle.rules.proofs.Stored.Equal.{same_refl, same_eq}

-- ---- bits

or_above : (a b : ℕ) → (a ≤ bit_or a b) × (b ≤ bit_or a b)
or_above a b = omega (arith, or_add_and a b, and_le_l a b, and_le_r a b)

-- nothing comes out where nothing goes in
zero_joined : (a b : ℕ) → eqb (bit_or a b) 0 ≡ (eqb a 0 && eqb b 0)
zero_joined a b =
    alike (eqb (bit_or a b) 0) (eqb a 0 && eqb b 0)
    (λ h. let z = eqb-true (bit_or a b) 0 h in let o = or_above a b in both (eq-eqb a 0 (omega arith)) (eq-eqb b 0 (omega arith)))
    (λ h.
    let x : a ≡ 0 = eqb-true a 0 (and_l (eqb a 0) (eqb b 0) h) in
    let y : b ≡ 0 = eqb-true b 0 (and_r (eqb a 0) (eqb b 0) h) in
    eq-eqb (bit_or a b) 0 (rw (x, y) (or_zero_l 0)))

-- three bytes are ASCII exactly when what comes out is
text_joined : (a b : ℕ) → leb (bit_or a b) 0x7f ≡ (leb a 0x7f && leb b 0x7f)
text_joined a b =
    alike (leb (bit_or a b) 0x7f) (leb a 0x7f && leb b 0x7f)
    (λ h. let l = leb-true (bit_or a b) 0x7f h in let o = or_above a b in both (le-leb a 0x7f (omega arith)) (le-leb b 0x7f (omega arith)))
    (λ h.
    let x = leb-true a 0x7f (and_l (leb a 0x7f) (leb b 0x7f) h) in
    let y = leb-true b 0x7f (and_r (leb a 0x7f) (leb b 0x7f) h) in
    let z = or_lt 7 a b (omega arith) (omega arith) in
    le-leb (bit_or a b) 0x7f (omega arith))

differ_zero : (x y : ℕ) → eqb (bit_xor x y) 0 ≡ eqb x y
differ_zero x y =
    alike (eqb (bit_xor x y) 0) (eqb x y)
    (λ h. let z = eqb-true (bit_xor x y) 0 h in eq-eqb x y (omega (arith, xor_add_and x y, and_le_l x y, and_le_r x y)))
    (λ h. let e : x ≡ y = eqb-true x y h in eq-eqb (bit_xor x y) 0 (rw e (xor_self y)))

-- two bytes are equal exactly when nothing comes out
same_joined : (a x y : ℕ) → eqb (bit_or a (bit_xor x y)) 0 ≡ (eqb a 0 && eqb x y)
same_joined a x y = zero_joined a (bit_xor x y) ∙ ap (λ (b : Bool). eqb a 0 && b) (differ_zero x y)

and_again : (a b c : Bool) → ((a && b) && c) ≡ (a && (b && c))
and_again true b c = refl
and_again false b c = refl

-- ---- byte by byte: a turn of each loop, and its end

pub text_turn : (s : List ℕ) (i seen : ℕ) → i < length s → is_text s ≡ (leb seen 0x7f && is_text (drop i s))
    → is_text s ≡ (leb (bit_or seen (get_or s i 0)) 0x7f && is_text (drop (i + 1) s))
text_turn s i seen h e =
    let x = get_or s i 0 in
    e ∙ rw (text_step s i h, add-one, text_joined seen x) (sym (and_again (leb seen 0x7f) (leb x 0x7f) (is_text (drop (suc i) s))))

pub text_end : (s : List ℕ) (i seen : ℕ) → length s ≤ i → is_text s ≡ (leb seen 0x7f && is_text (drop i s)) → leb seen 0x7f ≡ is_text s
unfolding is_text
text_end s i seen h e = sym (e ∙ rw (drop_of_length-le s h) (and-true (leb seen 0x7f)))

same_step : (a b : List ℕ) (i : ℕ) → i < length a → i < length b
    → same (drop i a) (drop i b) ≡ (eqb (get_or a i 0) (get_or b i 0) && same (drop (suc i) a) (drop (suc i) b))
unfolding same
same_step a b i h k = rw (drop-cons a i 0 h, drop-cons b i 0 k)

pub same_turn : (a b : List ℕ) (i seen : ℕ) → i < length a → i < length b → same a b ≡ (eqb seen 0 && same (drop i a) (drop i b))
    → same a b ≡ (eqb (bit_or seen (bit_xor (get_or a i 0) (get_or b i 0))) 0 && same (drop (i + 1) a) (drop (i + 1) b))
same_turn a b i seen h k e =
    let x = get_or a i 0 in
    let y = get_or b i 0 in
    e ∙ rw (same_step a b i h k, add-one, same_joined seen x y) (sym (and_again (eqb seen 0) (eqb x y) (same (drop (suc i) a) (drop (suc i) b))))

pub same_end : (a b : List ℕ) (i seen : ℕ) → length a ≤ i → length b ≤ i → same a b ≡ (eqb seen 0 && same (drop i a) (drop i b)) → eqb seen 0 ≡ same a b
unfolding same
same_end a b i seen h k e = sym (e ∙ rw (drop_of_length-le a h, drop_of_length-le b k) (and-true (eqb seen 0)))

-- ---- the top bits of a word

-- the word of k bytes whose top bits are set, behind t
abbrev pub tops_from : ℕ → ℕ → ℕ
tops_from t zero = t
tops_from t (suc k) = tops_from (t * 256 + 128) k

top_bit : (x : ℕ) → x < 256 → eqb (bit_and x 128) 0 ≡ leb x 0x7f
top_bit x h =
    let m : x / 128 % 2 ≡ x / 128 = omega arith in
    let e : bit_and x 128 ≡ x / 128 * 128 = and_high x 1 7 ∙ ap (λ (k : ℕ). k * 128) m in
    alike (eqb (bit_and x 128) 0) (leb x 0x7f)
    (λ t. let z = eqb-true (bit_and x 128) 0 t in le-leb x 0x7f (omega (arith, e)))
    (λ t. let l = leb-true x 0x7f t in eq-eqb (bit_and x 128) 0 (omega (arith, e)))

sum_zero : (a b : ℕ) → eqb (a * 256 + b) 0 ≡ (eqb a 0 && eqb b 0)
sum_zero a b =
    alike (eqb (a * 256 + b) 0) (eqb a 0 && eqb b 0)
    (λ t. let z = eqb-true (a * 256 + b) 0 t in both (eq-eqb a 0 (omega arith)) (eq-eqb b 0 (omega arith)))
    (λ t.
    let x = eqb-true a 0 (and_l (eqb a 0) (eqb b 0) t) in
    let y = eqb-true b 0 (and_r (eqb a 0) (eqb b 0) t) in
    eq-eqb (a * 256 + b) 0 (omega arith))

tops_onto : (s : List ℕ) (a t : ℕ) → Bytes s → eqb (bit_and (onto a s) (tops_from t (length s))) 0 ≡ (eqb (bit_and a t) 0 && is_text s)
unfolding is_text
tops_onto [] a t B = sym (and-true (eqb (bit_and a t) 0))
tops_onto (x ∷ s) a t B =
    let x< : x < 256 = B 0 in
    let e : eqb (bit_and (a * 256 + x) (t * 256 + 128)) 0 ≡ (eqb (bit_and a t) 0 && leb x 0x7f) =
    ap (λ (k : ℕ). eqb k 0) (and_block 8 a t x 128 x< (omega arith)) ∙ sum_zero (bit_and a t) (bit_and x 128) ∙ rw (top_bit x x<) in
    tops_onto s (a * 256 + x) (t * 256 + 128) (λ i. B (suc i)) ∙ ap (λ (b : Bool). b && is_text s) e
    ∙ and_again (eqb (bit_and a t) 0) (leb x 0x7f) (is_text s)

-- a word's top bits are clear exactly when its bytes are ASCII
pub tops_text : (k : ℕ) (s : List ℕ) (n : ℕ) → Bytes s → k ≤ length s → n ≡ of_big (take k s) → eqb (bit_and n (tops_from 0 k)) 0 ≡ is_text (take k s)
tops_text k s n B h e =
    let l : k ≡ length (take k s) = sym (length-take-le k s h) in
    ap (λ (m : ℕ). eqb (bit_and m (tops_from 0 k)) 0) e
    ∙ ap (λ (m : ℕ). eqb (bit_and (of_big (take k s)) (tops_from 0 m)) 0) l ∙ tops_onto (take k s) 0 0 (bytes_take k s B)

-- ---- the difference of two words

words_same : (k : ℕ) (x y : List ℕ) → Bytes x → Bytes y → length x ≡ k → length y ≡ k → eqb (of_big x) (of_big y) ≡ same x y
words_same k x y B C l m =
    alike (eqb (of_big x) (of_big y)) (same x y)
    (λ t. let e : x ≡ y = sym (write_big k x B l) ∙ ap (big k) (eqb-true (of_big x) (of_big y) t) ∙ write_big k y C m in rw e (same_refl y))
    (λ t. eq-eqb (of_big x) (of_big y) (ap of_big (same_eq x y t)))

pub differ_same : (k : ℕ) (a b : List ℕ) (p q : ℕ) → Bytes a → Bytes b → k ≤ length a → k ≤ length b → p ≡ of_big (take k a) → q ≡ of_big (take k b)
    → eqb (bit_xor p q) 0 ≡ same (take k a) (take k b)
differ_same k a b p q B C h i e f =
    differ_zero p q ∙ rw (e, f) (words_same k (take k a) (take k b) (bytes_take k a B) (bytes_take k b C) (length-take-le k a h) (length-take-le k b i))

-- ---- a stretch's end

pub drop_take : (k n : ℕ) (l : List ℕ) → drop k (take n l) ≡ take (n - k) (drop k l)
drop_take zero n l = let z : n ≡ n - 0 = omega arith in ap (λ (m : ℕ). take m l) z
drop_take (suc k) zero l = let z : 0 ≡ 0 - suc k = omega arith in ap (λ (m : ℕ). take m (drop (suc k) l)) z
drop_take (suc k) (suc n) [] = sym (take-nil (suc n - suc k))
drop_take (suc k) (suc n) (x ∷ l) =
    let z : n - k ≡ suc n - suc k = omega arith in
    drop_take k n l ∙ ap (λ (m : ℕ). take m (drop k l)) z

-- ---- a text, and two stretches, in two pieces that meet or overlap: the last k bytes and the first k

pub text_split : (k : ℕ) (s : List ℕ) → is_text s ≡ (is_text (take k s) && is_text (drop k s))
unfolding is_text
text_split zero s = refl
text_split (suc k) [] = refl
text_split (suc k) (x ∷ s) = ap (λ (b : Bool). leb x 0x7f && b) (text_split k s) ∙ sym (and_again (leb x 0x7f) (is_text (take k s)) (is_text (drop k s)))

pub text_first : (k : ℕ) (s : List ℕ) → is_text s ≡ true → is_text (take k s) ≡ true
text_first k s h = and_l (is_text (take k s)) (is_text (drop k s)) (sym (text_split k s) ∙ h)

pub text_later : (j : ℕ) (s : List ℕ) → is_text s ≡ true → is_text (drop j s) ≡ true
text_later j s h = and_r (is_text (take j s)) (is_text (drop j s)) (sym (text_split j s) ∙ h)

same_split : (k : ℕ) (a b : List ℕ) → length a ≡ length b → same a b ≡ (same (take k a) (take k b) && same (drop k a) (drop k b))
unfolding same
same_split zero a b l = refl
same_split (suc k) [] [] l = refl
same_split (suc k) [] (y ∷ b) l = absurd (omega arith)
same_split (suc k) (x ∷ a) [] l = absurd (omega arith)
same_split (suc k) (x ∷ a) (y ∷ b) l =
    ap (λ (t : Bool). eqb x y && t) (same_split k a b (omega arith)) ∙ sym (and_again (eqb x y) (same (take k a) (take k b)) (same (drop k a) (drop k b)))

-- T is the test of all from a place on, and C that of the first k
two : (T : ℕ → Bool) (C : Bool) (e k : ℕ) → T 0 ≡ (C && T k) → (T 0 ≡ true → T e ≡ true) → (T e ≡ true → T k ≡ true) → T 0 ≡ (T e && C)
two T C e k s f g =
    alike (T 0) (T e && C)
    (λ h. both (f h) (and_l C (T k) (sym s ∙ h)))
    (λ h. s ∙ both (and_r (T e) C h) (g (and_l (T e) C h)))

-- the last k bytes, as code cuts them out
last_cut : (k e : ℕ) (s : List ℕ) → e + k ≡ length s → take k (take (length s - e) (drop e s)) ≡ drop e s
last_cut k e s h = ap (take k) (cut_from e s) ∙ take_all k (drop e s) (simp length-drop (omega arith))

pub last_length : (e : ℕ) (s : List ℕ) → length (take (length s - e) (drop e s)) ≡ length s - e
last_length e s = ap length (cut_from e s) ∙ length-drop e s

pub text_two : (k e : ℕ) (s : List ℕ) → e + k ≡ length s → e ≤ k → is_text s ≡ (is_text (take k (take (length s - e) (drop e s))) && is_text (take k s))
text_two k e s h l =
    let m : e + (k - e) ≡ k = omega arith in
    two (λ i. is_text (drop i s)) (is_text (take k s)) e k (text_split k s) (text_later e s)
    (λ t. ap (λ (i : ℕ). is_text (drop i s)) (sym m) ∙ ap is_text (sym (drop-drop (k - e) e s)) ∙ text_later (k - e) (drop e s) t)
    ∙ ap (λ (x : List ℕ). is_text x && is_text (take k s)) (sym (last_cut k e s h))

-- the same of two halves that are tested whole
pub text_halves : (k e : ℕ) (s : List ℕ) → e + k ≡ length s → e ≤ k → is_text s ≡ (is_text (take (length s - e) (drop e s)) && is_text (take k s))
text_halves k e s h l = text_two k e s h l ∙ ap (λ (x : List ℕ). is_text x && is_text (take k s)) (last_cut k e s h ∙ sym (cut_from e s))

pub same_two : (k e : ℕ) (a b : List ℕ) → length a ≡ length b → e + k ≡ length a → e ≤ k
    → same a b ≡ (same (take k (take (length a - e) (drop e a))) (take k (take (length b - e) (drop e b))) && same (take k a) (take k b))
same_two k e a b n h l =
    let later : (i j : ℕ) → i ≤ j → same (drop i a) (drop i b) ≡ true → same (drop j a) (drop j b) ≡ true = λ i j o t.
    let f : i + (j - i) ≡ j = omega arith in
    let q : drop i a ≡ drop i b = same_eq (drop i a) (drop i b) t in
    let r : drop j a ≡ drop j b = ap (λ (x : ℕ). drop x a) (sym f) ∙ sym (drop-drop (j - i) i a) ∙ ap (drop (j - i)) q ∙ drop-drop (j - i) i b ∙ ap (λ (x : ℕ). drop x b) f in
    rw r (same_refl (drop j b)) in
    two (λ i. same (drop i a) (drop i b)) (same (take k a) (take k b)) e k (same_split k a b n) (later 0 e (omega arith)) (later e k l)
    ∙ ap (λ (x : List ℕ). same x (drop e b) && same (take k a) (take k b)) (sym (last_cut k e a h))
    ∙ ap (λ (x : List ℕ). same (take k (take (length a - e) (drop e a))) x && same (take k a) (take k b)) (sym (last_cut k e b (h ∙ n)))

-- stretches of different lengths differ
pub same_length : (a b : List ℕ) → (length a ≡ length b → ⊥) → false ≡ same a b
unfolding same
same_length [] [] h = absurd (h refl)
same_length [] (y ∷ b) h = refl
same_length (x ∷ a) [] h = refl
same_length (x ∷ a) (y ∷ b) h = sym (and_no_r (eqb x y) (sym (same_length a b (λ e. h (ap suc e)))))

-- ---- no bytes

pub no_text : (s : List ℕ) → length s ≡ 0 → true ≡ is_text s
unfolding is_text
no_text s e = let n = empty_nil s (none_empty s e) in rw n

pub no_same : (a b : List ℕ) → length a ≡ length b → length a ≡ 0 → true ≡ same a b
unfolding same
no_same a b l e = let m = empty_nil a (none_empty a e) in let n = empty_nil b (none_empty b (sym l ∙ e)) in rw (m, n)

-- ---- at most three bytes: the first, the middle one and the last

-- three tests, of which some are of the same byte
once : (a : Bool) → ((a && a) && a) ≡ (a && true)
once true = refl
once false = refl

twice : (a b : Bool) → ((a && b) && b) ≡ (a && (b && true))
twice true true = refl
twice true false = refl
twice false b = refl

thrice : (a b c : Bool) → ((a && b) && c) ≡ (a && (b && (c && true)))
thrice a b c = and_again a b c ∙ rw (and-true c)

three_joined : (a b c : ℕ) → leb (bit_or (bit_or a b) c) 0x7f ≡ ((leb a 0x7f && leb b 0x7f) && leb c 0x7f)
three_joined a b c = text_joined (bit_or a b) c ∙ ap (λ (t : Bool). t && leb c 0x7f) (text_joined a b)

pub three_text : (s : List ℕ) (n : ℕ) → n ≡ length s → 1 ≤ n → n < 4
    → leb (bit_or (bit_or (get_or s 0 0) (get_or s (n / 2) 0)) (get_or s (n - 1) 0)) 0x7f ≡ is_text s
unfolding is_text
three_text [] n e h k = absurd (omega arith)
three_text (x ∷ []) n e h k = rw e (three_joined x x x ∙ once (leb x 0x7f))
three_text (x ∷ y ∷ []) n e h k = rw e (three_joined x y y ∙ twice (leb x 0x7f) (leb y 0x7f))
three_text (x ∷ y ∷ z ∷ []) n e h k = rw e (three_joined x y z ∙ thrice (leb x 0x7f) (leb y 0x7f) (leb z 0x7f))
three_text (x ∷ y ∷ z ∷ u ∷ s) n e h k = absurd (omega arith)

three_differ : (a b c x y z : ℕ) → eqb (bit_or (bit_or (bit_xor a x) (bit_xor b y)) (bit_xor c z)) 0 ≡ ((eqb a x && eqb b y) && eqb c z)
three_differ a b c x y z =
    zero_joined (bit_or (bit_xor a x) (bit_xor b y)) (bit_xor c z)
    ∙ ap (λ (t : Bool). t && eqb (bit_xor c z) 0) (zero_joined (bit_xor a x) (bit_xor b y)) ∙ rw (differ_zero a x, differ_zero b y, differ_zero c z)

pub three_same : (a b : List ℕ) (n : ℕ) → n ≡ length a → n ≡ length b → 1 ≤ n → n < 4
    → eqb (bit_or (bit_or (bit_xor (get_or a 0 0) (get_or b 0 0)) (bit_xor (get_or a (n / 2) 0) (get_or b (n / 2) 0))) (bit_xor (get_or a (n - 1) 0) (get_or b (n - 1) 0))) 0 ≡ same a b
unfolding same
three_same [] b n e f h k = absurd (omega arith)
three_same (x ∷ []) [] n e f h k = absurd (omega arith)
three_same (x ∷ []) (p ∷ []) n e f h k = rw e (three_differ x x x p p p ∙ once (eqb x p))
three_same (x ∷ []) (p ∷ q ∷ b) n e f h k = absurd (omega arith)
three_same (x ∷ y ∷ []) [] n e f h k = absurd (omega arith)
three_same (x ∷ y ∷ []) (p ∷ []) n e f h k = absurd (omega arith)
three_same (x ∷ y ∷ []) (p ∷ q ∷ []) n e f h k = rw e (three_differ x y y p q q ∙ twice (eqb x p) (eqb y q))
three_same (x ∷ y ∷ []) (p ∷ q ∷ r ∷ b) n e f h k = absurd (omega arith)
three_same (x ∷ y ∷ z ∷ []) [] n e f h k = absurd (omega arith)
three_same (x ∷ y ∷ z ∷ []) (p ∷ []) n e f h k = absurd (omega arith)
three_same (x ∷ y ∷ z ∷ []) (p ∷ q ∷ []) n e f h k = absurd (omega arith)
three_same (x ∷ y ∷ z ∷ []) (p ∷ q ∷ r ∷ []) n e f h k = rw e (three_differ x y z p q r ∙ thrice (eqb x p) (eqb y q) (eqb z r))
three_same (x ∷ y ∷ z ∷ []) (p ∷ q ∷ r ∷ s ∷ b) n e f h k = absurd (omega arith)
three_same (x ∷ y ∷ z ∷ u ∷ a) b n e f h k = absurd (omega arith)
