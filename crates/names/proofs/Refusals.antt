-- The refusals by their numbers: those that the rules give them; no two have the same, none is 0, and each is a byte.
use mathlib.Core.Path.{◌≡◌, refl, sym, ap, ◌∙◌}
use mathlib.Core.Bool.{cond}
use mathlib.Core.List.{List, [], ◌∷◌}
use Prim.Native.Nat.{ℕ, ◌≤◌}
use native.Mathlib.Omega.{arith}
use lib.Dec.{eqb}
use Rattle.rules.specs.Numbers.{fault_number, number}
use Rattle.rules.specs.Numbers as rules
use Rattle.names.specs.Refusals.{coded_fault, coded, numbered}
use Rattle.names.specs.declared.refusal.Refusal.{Refusal}
use Rattle.names.specs.declared.refusal.Refusal.TheVariants as code

numbered_fault : (f : rules.Fault) → numbered (coded_fault f) ≡ fault_number f
numbered_fault rules.open_quote = refl
numbered_fault rules.nothing_escaped = refl
numbered_fault rules.range_bracket = refl
numbered_fault rules.wildcard = refl
numbered_fault rules.fuzzy_term = refl
numbered_fault rules.sloppy_phrase = refl
numbered_fault rules.unexpected_end = refl
numbered_fault rules.unexpected_token = refl
numbered_fault rules.open_bracket = refl
numbered_fault rules.bad_numeral = refl
numbered_fault rules.no_numeral = refl
numbered_fault rules.long_field = refl
numbered_fault rules.many_brackets = refl
numbered_fault rules.long_numeral = refl

-- a refusal has the number that the rules give it
pub numbered_coded : (r : rules.Refusal) → numbered (coded r) ≡ number r
numbered_coded rules.long_text = refl
numbered_coded rules.not_ascii = refl
numbered_coded rules.bad_setup = refl
numbered_coded rules.long_answer = refl
numbered_coded rules.long_query = refl
numbered_coded rules.malformed_query = refl
numbered_coded rules.deep_query = refl
numbered_coded rules.long_list = refl
numbered_coded rules.malformed_list = refl
numbered_coded rules.many_queries = refl
numbered_coded rules.short_room = refl
numbered_coded (rules.faulty f p) = numbered_fault f

-- ---- a refusal by its number

all : List Refusal
all =
    code.LongText ∷ code.NotAscii ∷ code.BadSetup ∷ code.OpenQuote ∷ code.NothingEscaped ∷ code.RangeBracket ∷
    code.Wildcard ∷ code.FuzzyTerm ∷ code.SloppyPhrase ∷ code.UnexpectedEnd ∷ code.UnexpectedToken ∷ code.OpenBracket ∷
    code.BadNumeral ∷ code.NoNumeral ∷ code.LongField ∷ code.ManyBrackets ∷ code.LongNumeral ∷ code.LongAnswer ∷
    code.LongQuery ∷ code.MalformedQuery ∷ code.DeepQuery ∷ code.LongList ∷ code.MalformedList ∷ code.ManyQueries ∷
    code.ShortRoom ∷ []

first_with : List Refusal → ℕ → Refusal
first_with [] n = code.ShortRoom
first_with (r ∷ rs) n = cond (eqb (numbered r) n) r (first_with rs n)

-- the refusal that has the number
pub with_number : ℕ → Refusal
with_number n = first_with all n

known : (r : Refusal) → (with_number (numbered r) ≡ r) × (numbered r ≤ 0xff)
unfolding all first_with with_number
known code.LongText = (refl, omega arith)
known code.NotAscii = (refl, omega arith)
known code.BadSetup = (refl, omega arith)
known code.OpenQuote = (refl, omega arith)
known code.NothingEscaped = (refl, omega arith)
known code.RangeBracket = (refl, omega arith)
known code.Wildcard = (refl, omega arith)
known code.FuzzyTerm = (refl, omega arith)
known code.SloppyPhrase = (refl, omega arith)
known code.UnexpectedEnd = (refl, omega arith)
known code.UnexpectedToken = (refl, omega arith)
known code.OpenBracket = (refl, omega arith)
known code.BadNumeral = (refl, omega arith)
known code.NoNumeral = (refl, omega arith)
known code.LongField = (refl, omega arith)
known code.ManyBrackets = (refl, omega arith)
known code.LongNumeral = (refl, omega arith)
known code.LongAnswer = (refl, omega arith)
known code.LongQuery = (refl, omega arith)
known code.MalformedQuery = (refl, omega arith)
known code.DeepQuery = (refl, omega arith)
known code.LongList = (refl, omega arith)
known code.MalformedList = (refl, omega arith)
known code.ManyQueries = (refl, omega arith)
known code.ShortRoom = (refl, omega arith)

pub back : (r : Refusal) → with_number (numbered r) ≡ r
back r = (known r).0

pub numbered_some : (r : Refusal) → numbered r ≡ 0 → ⊥
unfolding all first_with with_number
numbered_some r z =
    let e : code.ShortRoom ≡ r = sym (ap with_number z) ∙ back r in
    let n : 32 ≡ numbered r = ap numbered e in
    omega arith

pub numbered_low : (r : Refusal) → numbered r ≤ 0xff
numbered_low r = (known r).1
