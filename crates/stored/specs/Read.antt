-- What the reader's functions say: the tests of `rules`, each by a name, and a verdict that is `good` where the reading succeeds.
use Rattle.std.specs.Prelude.{◌≡◌, ℕ, ◌+◌, ◌-◌, ◌≤◌, ◌<◌, List, Bool, not, ◌&&◌, cond, length, take, drop, leb, eqb, set, get_or, suc, Result, Ok, Err, Option, Some, None}
use Rattle.names.specs.Refusals.{coded}
use Rattle.names.specs.declared.refusal.Refusal.{Refusal}
use Rattle.names.specs.declared.refusal.Refusal.TheVariants.{MalformedQuery}
use Rattle.rules.specs.Numbers.{term_tag, phrase_tag, match_all_tag, match_none_tag, text_tag, minimum_tag, Read, got, refused}
use Rattle.rules.specs.Bytes.{of_big, is_empty, is_text, tag_of, body_of, rest_of, whole_of, is_part, is_field_part, every}
use Rattle.rules.specs.Query.{Clauses}
use Rattle.rules.specs.Stored.{is_boost}
use Rattle.rules.specs.Reading.{is_word, is_bound, is_kind, is_query, clauses_in, decode}
use Rattle.stored.specs.declared.read.Around.{Around}
use Rattle.stored.specs.declared.read.Held.{Held}
use Rattle.stored.specs.declared.read.Outer.{Outer}
use Rattle.stored.specs.declared.read.Front.{Front}
use Rattle.stored.specs.declared.read.Front.TheVariants as front
use Rattle.stored.specs.declared.read.Opened.{Opened}
use Rattle.stored.specs.declared.read.Opened.TheVariants as opened
use Rattle.stored.specs.declared.read.Next.{Next}
use Rattle.stored.specs.declared.read.Next.TheVariants as next

abbrev pub Verdict : Type 0
Verdict = Result (Unit {0}) Refusal

abbrev pub verdict : {A : Type 0} → Verdict → Read A → Verdict
verdict good (got a) = good
verdict good (refused r) = Err (coded r)

abbrev pub bad : Verdict
bad = Err MalformedQuery

-- what is said of sound bytes, if a test passes
abbrev pub said_as : Bool → Verdict → Verdict
said_as ok good = cond ok good bad

abbrev pub said : Bool → Verdict
said ok = said_as ok (Ok tt)

-- ---- bodies that hold no query

abbrev pub is_term : List ℕ → Bool
is_term b = is_field_part b && (is_part text_tag (rest_of b) && (is_text (body_of (rest_of b)) && is_empty (rest_of (rest_of b))))

abbrev pub is_phrase : List ℕ → Bool
is_phrase b = is_field_part b && every is_word (rest_of b)

abbrev pub is_range : List ℕ → Bool
is_range b = is_field_part b && (is_bound (rest_of b) && (is_bound (rest_of (rest_of b)) && is_empty (rest_of (rest_of (rest_of b)))))

abbrev pub is_leaf : ℕ → List ℕ → Bool
is_leaf t b =
    cond (eqb t term_tag) (is_term b)
    (cond (eqb t phrase_tag) (is_phrase b)
    (cond (eqb t match_all_tag) (is_empty b)
    (cond (eqb t match_none_tag) (is_empty b)
    (is_range b))))

-- ---- headers

abbrev pub is_minimum : List ℕ → Bool
is_minimum b = is_part minimum_tag b && eqb (length (body_of b)) 2

abbrev pub is_clause : List ℕ → Bool
is_clause s = whole_of s && is_kind (tag_of s)

abbrev pub is_record : List ℕ → Bool
is_record s = whole_of s && is_query (tag_of s)

abbrev pub is_boosted : List ℕ → Bool
is_boosted b = leb 4 (length b) && is_boost (of_big (take 4 b))

-- one sound Term and nothing more, where a record may stand
abbrev pub is_simple : ℕ → List ℕ → Bool
is_simple d q = not (eqb d 0) && (is_part term_tag q && (is_term (body_of q) && is_empty (rest_of q)))

-- ---- what nests, as code goes through it

-- the bytes from a to e
abbrev pub cut : ℕ → ℕ → List ℕ → List ℕ
cut a e s = take (e - a) (drop a s)

-- a row of clauses, whose queries may be d records deep
abbrev pub row_of : ℕ → List ℕ → Read Clauses
row_of d t = clauses_in (decode d) (length t) t

-- what a record holds
abbrev pub held : Held → List ℕ → List ℕ
held h s = cut h.from h.to s

-- the same in bytes that have n more in front
abbrev pub behind : ℕ → Held → Held
behind n h = record { from = n + h.from; to = n + h.to; left = h.left }

-- a row kept with those around it, above the others; and one taken from there
abbrev pub pushed : Held → Around → Around
pushed h a = record { rows = set a.rows a.n (record { end = h.to; left = h.left }); n = a.n + 1 }

abbrev pub no_row : Outer
no_row = record { end = 0; left = 0 }

abbrev pub Popped : Around → Around → Option Outer → Type 0
Popped a b None = (a.n ≡ 0) × (b ≡ a)
Popped a b (Some r) = (a.n ≡ suc b.n) × (b.rows ≡ a.rows) × (r ≡ get_or a.rows b.n no_row)

-- what is said of a record that ends at e, or holds what ends there: sound only if nothing is left over behind it
abbrev pub closed_at : ℕ → List ℕ → Verdict → Verdict
closed_at e s good = said_as (eqb e (length s)) good

-- a fault, whatever is said of sound bytes
abbrev pub IsFault : {A : Type 0} → Read A → Refusal → Type 0
IsFault o r = (g : Verdict) → verdict g o ≡ Err r

-- a stretch of s behind a header
pub record Within (s : List ℕ) (h : Held) : Type 0 where
  pub some : 3 ≤ h.from
  pub order : h.from ≤ h.to
  pub end : h.to ≤ length s
  pub short : h.to - h.from < 65536

pub record HoldsRow (d : ℕ) (s : List ℕ) (h : Held) : Type 0 where
  pub at : Within s h
  pub less : h.left < d
  pub is : (g : Verdict) → verdict g (decode d s) ≡ verdict (closed_at h.to s g) (row_of h.left (held h s))

pub record HoldsQuery (d : ℕ) (s : List ℕ) (h : Held) : Type 0 where
  pub at : Within s h
  pub less : h.left < d
  pub is : (g : Verdict) → verdict g (decode d s) ≡ verdict (closed_at h.to s g) (decode h.left (held h s))

pub record IsLeafRecord (d : ℕ) (s : List ℕ) (e : ℕ) : Type 0 where
  pub end : e ≤ length s
  pub is : (g : Verdict) → verdict g (decode d s) ≡ closed_at e s g

abbrev pub OfFront : ℕ → List ℕ → Result Front Refusal → Type 0
OfFront d s (Err r) = IsFault (decode d s) r
OfFront d s (Ok (front.Leaf e)) = IsLeafRecord d s e
OfFront d s (Ok (front.Row h)) = HoldsRow d s h
OfFront d s (Ok (front.Inner h)) = HoldsQuery d s h

abbrev pub OfOpened : ℕ → List ℕ → Result Opened Refusal → Type 0
OfOpened d s (Err r) = IsFault (decode d s) r
OfOpened d s (Ok (opened.Leaf e)) = IsLeafRecord d s e
OfOpened d s (Ok (opened.Row h)) = HoldsRow d s h

-- what is said first, and x where that is sound
abbrev pub after : Verdict → Verdict → Verdict
after (Ok u) x = x
after (Err r) x = Err r

pub record PastClause (d : ℕ) (t : List ℕ) (k : ℕ) : Type 0 where
  pub some : 3 ≤ k
  pub end : k ≤ length t
  pub is : (g : Verdict) → verdict g (row_of d t) ≡ verdict g (row_of d (drop k t))

pub record IntoClause (d : ℕ) (t : List ℕ) (h : Held) : Type 0 where
  pub at : Within t h
  pub less : h.left < d
  pub is : (g : Verdict) → verdict g (row_of d t) ≡ after (verdict (Ok tt) (row_of h.left (held h t))) (verdict g (row_of d (drop h.to t)))

pub record LastClause (d : ℕ) (t : List ℕ) (h : Held) : Type 0 where
  pub at : Within t h
  pub less : h.left < d
  pub is : (g : Verdict) → verdict g (row_of d t) ≡ verdict bad (row_of h.left (held h t))

abbrev pub OfNext : ℕ → List ℕ → Result Next Refusal → Type 0
OfNext d t (Err r) = IsFault (row_of d t) r
OfNext d t (Ok (next.Past k)) = PastClause d t k
OfNext d t (Ok (next.Into h)) = IntoClause d t h
OfNext d t (Ok (next.Last h)) = LastClause d t h
