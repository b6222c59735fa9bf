-- The row of tokens: what is read back, what a part of the room that is left as it was keeps, and what one more token adds.
use mathlib.Core.Path.{◌≡◌, refl, sym, ap, ◌∙◌}
use Prim.Native.Nat.{ℕ, zero, suc, ◌+◌, ◌-◌, ◌*◌, ◌/◌, ◌%◌, ◌≤◌, ◌<◌}
use mathlib.Core.List.{List, [], ◌∷◌, ◌++◌}
use native.Mathlib.Omega.{arith}
use native.Mathlib.Nat.{zero-add, suc-add, add-zero}
use native.Mathlib.Numerals.{add-one}
use native.Mathlib.Decide.{dec_lt}
use lib.ListN.{length, get_or, take, drop, length-append, get_or-append, get_or-eq_default}
use lib.Seq.{take-nil, take-take, take_at, get_or-take, get_or-drop, get_or_at, get_or-append-add, length-take-le}
use Rattle.rules.specs.Numbers.{text_most}
use Rattle.rules.specs.Lexing.{Token}
use Rattle.row.specs.Row.{room_least, entry_at, kind_in, note_in, place_in, size_in, token_at, tokens_of, Below, LaidBelow, Laid, entry, name_from, word_note, Worded, Kept}
use Rattle.analysis.specs.Tokens.{OneWord}

-- ---- lists that have a front or a rest in common

take_drop : (n at : ℕ) (l : List ℕ) → take n (drop at l) ≡ drop at (take (at + n) l)
take_drop n zero l = ap (λ (k : ℕ). take k l) (sym (zero-add n))
take_drop n (suc at) [] = take-nil n ∙ sym (ap (drop (suc at)) (take-nil (suc at + n)) ∙ refl)
take_drop n (suc at) (x ∷ l) = rw suc-add (take_drop n at l)

module _ (p : ℕ) (a b : List ℕ) (e : take p a ≡ take p b) where
  pub front_byte : (k : ℕ) → k < p → get_or a k 0 ≡ get_or b k 0
  front_byte k h = sym (get_or-take p a k 0 h) ∙ ap (λ (l : List ℕ). get_or l k 0) e ∙ get_or-take p b k 0 h

  pub front_part : (at n : ℕ) → at + n ≤ p → take n (drop at a) ≡ take n (drop at b)
  front_part at n h =
      take_drop n at a
      ∙ ap (drop at) (sym (take-take (at + n) p a h) ∙ ap (take (at + n)) e ∙ take-take (at + n) p b h)
      ∙ sym (take_drop n at b)

pub rest_byte : (p : ℕ) (a b : List ℕ) → drop p a ≡ drop p b → (k : ℕ) → p ≤ k → get_or a k 0 ≡ get_or b k 0
rest_byte p a b e k h =
    let s : p + (k - p) ≡ k = omega arith in
    rw (← s) (sym (get_or-drop p a (k - p) 0) ∙ ap (λ (l : List ℕ). get_or l (k - p) 0) e ∙ get_or-drop p b (k - p) 0)

-- ---- the row, read

pub length_tokens : (room : List ℕ) (n : ℕ) → length (tokens_of room n) ≡ n
unfolding tokens_of
length_tokens room zero = refl
length_tokens room (suc n) = length-append (tokens_of room n) (token_at room n ∷ []) ∙ omega (arith, length_tokens room n)

pub token_is : (room : List ℕ) (n i : ℕ) (d : Token) → i < n → get_or (tokens_of room n) i d ≡ token_at room i
unfolding tokens_of
token_is room zero i d h = absurd (omega arith)
token_is room (suc n) i d h = pass (token_is room n i d) (dec_lt i n)
  where
    pass : (i < n → get_or (tokens_of room n) i d ≡ token_at room i) → Dec (i < n) → get_or (tokens_of room n ++ (token_at room n ∷ [])) i d ≡ token_at room i
    pass more (yes l) = get_or-append (tokens_of room n) _ _ i (omega (arith, length_tokens room n)) ∙ more l
    pass more (no m) =
        let e : i ≡ n = omega arith in
        rw e (get_or_at (tokens_of room n) (token_at room n) [] _ n (length_tokens room n))

pub token_none : (room : List ℕ) (n i : ℕ) (d : Token) → n ≤ i → get_or (tokens_of room n) i d ≡ d
token_none room n i d h = get_or-eq_default (tokens_of room n) d (omega (arith, length_tokens room n))

-- ---- the row, kept

pub tokens_same : (a b : List ℕ) (n : ℕ) → ((i : ℕ) → i < n → token_at a i ≡ token_at b i) → tokens_of a n ≡ tokens_of b n
unfolding tokens_of
tokens_same a b zero h = refl
tokens_same a b (suc n) h = rw (tokens_same a b n (λ i l. h i (omega arith)), h n (omega arith))

-- a token whose numbers are the same, and whose text stands where nothing changed
pub token_like : (a b : List ℕ) (i p : ℕ) → kind_in a i ≡ kind_in b i → place_in a i ≡ place_in b i → size_in a i ≡ size_in b i
    → take p a ≡ take p b → Below p b i → token_at a i ≡ token_at b i
unfolding token_at
token_like a b i p kind place size f h = rw (kind, size, place, front_part p a b f (place_in b i) (size_in b i) h)

module _ (a b : List ℕ) (i : ℕ) (e : (k : ℕ) → entry_at i ≤ k → k < entry_at i + 4 → get_or a k 0 ≡ get_or b k 0) where
  pub note_same : note_in a i ≡ note_in b i
  note_same = rw (e (entry_at i + 1) (omega arith) (omega arith))

  pub place_same : place_in a i ≡ place_in b i
  place_same = rw (e (entry_at i + 1) (omega arith) (omega arith), e (entry_at i + 2) (omega arith) (omega arith))

  pub size_same : size_in a i ≡ size_in b i
  size_same = rw (e (entry_at i + 2) (omega arith) (omega arith), e (entry_at i + 3) (omega arith) (omega arith))

  pub token_same : (p : ℕ) → take p a ≡ take p b → Below p b i → token_at a i ≡ token_at b i
  token_same p f h = token_like a b i p (e (entry_at i) (omega arith) (omega arith)) place_same size_same f h

-- where the bytes below p, and below the end of the nth token, are as they were
module _ (a b : List ℕ) (n p : ℕ) (e : (i : ℕ) → i < n → (k : ℕ) → entry_at i ≤ k → k < entry_at i + 4 → get_or a k 0 ≡ get_or b k 0) (f : take p a ≡ take p b)
    (laid : LaidBelow p b n) where
  pub tokens_kept : tokens_of a n ≡ tokens_of b n
  tokens_kept = tokens_same a b n (λ i h. token_same a b i (e i h) p f (laid i h))

  pub laid_kept : LaidBelow p a n
  laid_kept i h = rw (place_same a b i (e i h), size_same a b i (e i h)) (laid i h)

  pub worded_kept : Worded b n → Worded a n
  worded_kept w i h q = rw (token_same a b i (e i h) p f (laid i h)) (w i h (sym (note_same a b i (e i h)) ∙ q))

-- a text that is read into the room from p on keeps the row
module _ (p n : ℕ) (b a : List ℕ) (kept : Kept p b a) (laid : LaidBelow p b n) where
  row_bytes_lem : (i : ℕ) → i < n → (k : ℕ) → entry_at i ≤ k → k < entry_at i + 4 → get_or a k 0 ≡ get_or b k 0
  row_bytes_lem i h k l m = rest_byte text_most a b kept.row k (omega arith)

  pub read_tokens : tokens_of a n ≡ tokens_of b n
  read_tokens = tokens_kept a b n p row_bytes_lem kept.front laid

  pub read_laid : LaidBelow p a n
  read_laid = laid_kept a b n p row_bytes_lem kept.front laid

  pub read_worded : Worded b n → Worded a n
  read_worded = worded_kept a b n p row_bytes_lem kept.front laid

-- what stands in the first 5,120 bytes is all that the row needs
module _ (b a : List ℕ) (n : ℕ) (e : take room_least a ≡ take room_least b) (few : n ≤ text_most) (laid : Laid b n) where
  first_texts : take text_most a ≡ take text_most b
  first_texts = sym (take-take text_most room_least a (omega arith)) ∙ ap (take text_most) e ∙ take-take text_most room_least b (omega arith)

  first_bytes : (i : ℕ) → i < n → (k : ℕ) → entry_at i ≤ k → k < entry_at i + 4 → get_or a k 0 ≡ get_or b k 0
  first_bytes i h k l m = front_byte room_least a b e k (omega arith)

  pub first_tokens : tokens_of a n ≡ tokens_of b n
  first_tokens = tokens_kept a b n text_most first_bytes first_texts laid

  pub first_laid : Laid a n
  first_laid = laid_kept a b n text_most first_bytes first_texts laid

  pub first_worded : Worded b n → Worded a n
  first_worded = worded_kept a b n text_most first_bytes first_texts laid

-- ---- one more token

-- note, place and length, read back from the bytes that hold them
note_back : (a p : ℕ) → p < 1024 → (a * 32 + p / 32) / 32 ≡ a
note_back a p h = omega arith

place_back : (a p m : ℕ) → p < 1024 → m ≤ 1024 → (a * 32 + p / 32) % 32 * 32 + (p % 32 * 8 + m / 256) / 8 ≡ p
place_back a p m h l = omega arith

size_back : (p m : ℕ) → m ≤ 1024 → (p % 32 * 8 + m / 256) % 8 * 256 + m % 256 ≡ m
size_back p m l = omega arith

module _ (k o p m n : ℕ) (b a : List ℕ) (few : n < text_most) (long : room_least ≤ length b)
    (e : a ≡ take (entry_at n) b ++ (entry k o p m ++ drop (entry_at n + 4) b)) where
  front_put : take (entry_at n) a ≡ take (entry_at n) b
  front_put = rw e (take_at (take (entry_at n) b) _ (entry_at n) (length-take-le (entry_at n) b (omega arith)))

  byte_put : (j : ℕ) → get_or a (entry_at n + j) 0 ≡ get_or (entry k o p m ++ drop (entry_at n + 4) b) j 0
  byte_put j =
      let l : length (take (entry_at n) b) ≡ entry_at n = length-take-le (entry_at n) b (omega arith) in
      rw e (rw l at (get_or-append-add (take (entry_at n) b) (entry k o p m ++ drop (entry_at n + 4) b) j 0))

  put_bytes : (i : ℕ) → i < n → (j : ℕ) → entry_at i ≤ j → j < entry_at i + 4 → get_or a j 0 ≡ get_or b j 0
  put_bytes i h j l r = front_byte (entry_at n) a b front_put j (omega arith)

  put_texts : take text_most a ≡ take text_most b
  put_texts = sym (take-take text_most (entry_at n) a (omega arith)) ∙ ap (take text_most) front_put ∙ take-take text_most (entry_at n) b (omega arith)

  module _ (h : p + m ≤ text_most) (w : p < text_most) where
    put_note : note_in a n ≡ o
    put_note = ap (λ (x : ℕ). x / 32) (byte_put 1) ∙ note_back o p w

    put_place : place_in a n ≡ p
    put_place = rw (byte_put 1, byte_put 2) (place_back o p m w (omega arith))

    put_size : size_in a n ≡ m
    put_size = rw (byte_put 2, byte_put 3) (size_back p m (omega arith))

    -- the texts, and the token's own among them
    pub put_token : token_at a n ≡ record { kind = k; text = take m (drop p b); place = p }
    unfolding token_at
    put_token = rw (put_kind, put_place, put_size, front_part (entry_at n) a b front_put p m (omega arith))
      where
        put_kind : kind_in a n ≡ k
        put_kind = rw add-zero at (byte_put 0)

    pub put_tokens : Laid b n → tokens_of a (n + 1) ≡ tokens_of b n ++ (record { kind = k; text = take m (drop p b); place = p } ∷ [])
    unfolding tokens_of
    put_tokens laid = rw (add-one n, tokens_kept a b n text_most put_bytes put_texts laid, put_token)

    pub put_laid : (q r : ℕ) → p + m ≤ r → q ≤ r → LaidBelow q b n → LaidBelow r a (n + 1)
    put_laid q r s l laid i o = pass (dec_lt i n)
      where
        pass : Dec (i < n) → Below r a i
        pass (yes w) = omega (arith, place_same a b i (put_bytes i w), size_same a b i (put_bytes i w), laid i w)
        pass (no w) = let e : i ≡ n = omega arith in rw e (rw (put_place, put_size) s)

    pub put_worded : Laid b n → Worded b n → (o ≡ word_note → OneWord (take m (drop p b))) → Worded a (n + 1)
    put_worded laid worded new i l q = pass (dec_lt i n)
      where
        pass : Dec (i < n) → OneWord (token_at a i).text
        pass (yes w) = worded_kept a b n text_most put_bytes put_texts laid worded i w q
        pass (no w) =
            let e : i ≡ n = omega arith in
            rw (e, put_token) (new (sym put_note ∙ rw e at q))

-- ---- the field in force

pub name_token : (room field : List ℕ) (k : ℕ) → 0 < k → name_from room field k ≡ (token_at room (k - 1)).text
name_token room field zero h = absurd (omega arith)
name_token room field (suc k) h = let e : k ≡ suc k - 1 = omega arith in ap (λ (j : ℕ). (token_at room j).text) e
