-- What a refusal of the code stands for: one of the rules, without its place; and its number. Section 'Refusal numbers'.
use Rattle.std.specs.Prelude.{ℕ, Result, Ok, Err}
use Rattle.rules.specs.Numbers.{Read, got, refused, place_of}
use Rattle.rules.specs.Numbers as rules
use Rattle.names.specs.declared.refusal.Refusal.{Refusal}
use Rattle.names.specs.declared.refusal.Refusal.TheVariants as code
use Rattle.names.specs.declared.refusal.Fault.{Fault}

abbrev pub coded_fault : rules.Fault → Refusal
coded_fault rules.open_quote = code.OpenQuote
coded_fault rules.nothing_escaped = code.NothingEscaped
coded_fault rules.range_bracket = code.RangeBracket
coded_fault rules.wildcard = code.Wildcard
coded_fault rules.fuzzy_term = code.FuzzyTerm
coded_fault rules.sloppy_phrase = code.SloppyPhrase
coded_fault rules.unexpected_end = code.UnexpectedEnd
coded_fault rules.unexpected_token = code.UnexpectedToken
coded_fault rules.open_bracket = code.OpenBracket
coded_fault rules.bad_numeral = code.BadNumeral
coded_fault rules.no_numeral = code.NoNumeral
coded_fault rules.long_field = code.LongField
coded_fault rules.many_brackets = code.ManyBrackets
coded_fault rules.long_numeral = code.LongNumeral

abbrev pub coded : rules.Refusal → Refusal
coded rules.long_text = code.LongText
coded rules.not_ascii = code.NotAscii
coded rules.bad_setup = code.BadSetup
coded (rules.faulty f p) = coded_fault f
coded rules.long_answer = code.LongAnswer
coded rules.long_query = code.LongQuery
coded rules.malformed_query = code.MalformedQuery
coded rules.deep_query = code.DeepQuery
coded rules.long_list = code.LongList
coded rules.malformed_list = code.MalformedList
coded rules.many_queries = code.ManyQueries
coded rules.short_room = code.ShortRoom

abbrev pub numbered : Refusal → ℕ
numbered code.LongText = 1
numbered code.NotAscii = 2
numbered code.BadSetup = 3
numbered code.OpenQuote = 4
numbered code.NothingEscaped = 5
numbered code.RangeBracket = 6
numbered code.Wildcard = 7
numbered code.FuzzyTerm = 8
numbered code.SloppyPhrase = 9
numbered code.UnexpectedEnd = 10
numbered code.UnexpectedToken = 11
numbered code.OpenBracket = 12
numbered code.BadNumeral = 13
numbered code.NoNumeral = 14
numbered code.LongField = 15
numbered code.ManyBrackets = 16
numbered code.LongNumeral = 17
numbered code.LongAnswer = 18
numbered code.LongQuery = 19
numbered code.MalformedQuery = 20
numbered code.DeepQuery = 21
numbered code.LongList = 22
numbered code.MalformedList = 23
numbered code.ManyQueries = 24
numbered code.ShortRoom = 32

-- the refusal and its place
abbrev pub located : rules.Refusal → Fault
located r = record { refusal = coded r; place = place_of r }

-- what f makes of what is read, or the refusal
abbrev pub answered : {A B : Type 0} → (A → B) → Read A → Result B Refusal
answered f (got a) = Ok (f a)
answered f (refused r) = Err (coded r)

-- that something is read, or the refusal
abbrev pub checked : {A : Type 0} → Read A → Result (Unit {0}) Refusal
checked o = answered (λ _. tt) o

-- what f makes of what is read, or the refusal and its place
abbrev pub answered_at : {A B : Type 0} → (A → B) → Read A → Result B Fault
answered_at f (got a) = Ok (f a)
answered_at f (refused r) = Err (located r)
