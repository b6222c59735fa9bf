-- The paper's numbers, each once, with a name. Sections 'What is ported', 'Refusal numbers' and 'Stored form'.
use Rattle.std.specs.Prelude.{ℕ, Bool, true, false}

-- ---- limits

abbrev pub text_most : ℕ
text_most = 1024

abbrev pub field_most : ℕ
field_most = 32

-- entries of a setup, open brackets, bytes of a numeral, bytes of a token
abbrev pub entries_most : ℕ
entries_most = 8

abbrev pub brackets_most : ℕ
brackets_most = 24

abbrev pub numeral_most : ℕ
numeral_most = 40

abbrev pub chunk_most : ℕ
chunk_most = 255

-- a stored query, as the rewriter and as selection accept it
abbrev pub rewriter_bytes : ℕ
rewriter_bytes = 32768

abbrev pub rewriter_depth : ℕ
rewriter_depth = 64

abbrev pub selection_bytes : ℕ
selection_bytes = 65535

abbrev pub selection_depth : ℕ
selection_depth = 192

abbrev pub list_most : ℕ
list_most = 65536

-- queries of a batch
abbrev pub queries_most : ℕ
queries_most = 64

-- working room, as docs/ROOM.md states it for each call
abbrev pub parse_room : ℕ
parse_room = 5120

abbrev pub rewrite_room : ℕ
rewrite_room = 38229

abbrev pub select_room : ℕ
select_room = 0

abbrev pub select_all_room : ℕ
select_all_room = 16384

-- ---- operators and analyzers

abbrev pub or_operator : ℕ
or_operator = 0

abbrev pub and_operator : ℕ
and_operator = 1

abbrev pub whitespace_analyzer : ℕ
whitespace_analyzer = 1

abbrev pub simple_analyzer : ℕ
simple_analyzer = 2

abbrev pub keyword_analyzer : ℕ
keyword_analyzer = 3

abbrev pub words_analyzer : ℕ
words_analyzer = 4

abbrev pub english_analyzer : ℕ
english_analyzer = 5

-- ---- tags: queries

abbrev pub term_tag : ℕ
term_tag = 0x01

abbrev pub phrase_tag : ℕ
phrase_tag = 0x02

abbrev pub boolean_tag : ℕ
boolean_tag = 0x03

abbrev pub boost_tag : ℕ
boost_tag = 0x04

abbrev pub constant_score_tag : ℕ
constant_score_tag = 0x05

abbrev pub match_all_tag : ℕ
match_all_tag = 0x06

abbrev pub match_none_tag : ℕ
match_none_tag = 0x07

abbrev pub whole_range_tag : ℕ
whole_range_tag = 0x08

abbrev pub float_range_tag : ℕ
float_range_tag = 0x09

-- ---- tags: what queries and entries hold

abbrev pub field_tag : ℕ
field_tag = 0x10

abbrev pub text_tag : ℕ
text_tag = 0x11

abbrev pub word_tag : ℕ
word_tag = 0x12

abbrev pub minimum_tag : ℕ
minimum_tag = 0x13

abbrev pub value_tag : ℕ
value_tag = 0x14

-- ---- tags: clauses

abbrev pub must_tag : ℕ
must_tag = 0x20

abbrev pub should_tag : ℕ
should_tag = 0x21

abbrev pub must_not_tag : ℕ
must_not_tag = 0x22

abbrev pub filter_tag : ℕ
filter_tag = 0x23

-- ---- tags: bounds

abbrev pub open_tag : ℕ
open_tag = 0x30

abbrev pub included_tag : ℕ
included_tag = 0x31

abbrev pub excluded_tag : ℕ
excluded_tag = 0x32

-- ---- tags: lists

abbrev pub record_tag : ℕ
record_tag = 0x40

abbrev pub place_tag : ℕ
place_tag = 0x41

abbrev pub whole_tag : ℕ
whole_tag = 0x44

abbrev pub float_tag : ℕ
float_tag = 0x45

-- ---- refusals

-- what is wrong with a text, met while it is lexed and parsed
pub data Fault : Type 0 where
  open_quote nothing_escaped : Fault
  range_bracket wildcard : Fault
  fuzzy_term sloppy_phrase : Fault
  unexpected_end unexpected_token : Fault
  open_bracket : Fault
  bad_numeral no_numeral : Fault
  long_field many_brackets long_numeral : Fault

abbrev pub fault_number : Fault → ℕ
fault_number open_quote = 4
fault_number nothing_escaped = 5
fault_number range_bracket = 6
fault_number wildcard = 7
fault_number fuzzy_term = 8
fault_number sloppy_phrase = 9
fault_number unexpected_end = 10
fault_number unexpected_token = 11
fault_number open_bracket = 12
fault_number bad_numeral = 13
fault_number no_numeral = 14
fault_number long_field = 15
fault_number many_brackets = 16
fault_number long_numeral = 17

-- a refusal is no bare number, so that none has the number of a success; a fault stands at a place
pub data Refusal : Type 0 where
  long_text not_ascii bad_setup : Refusal
  faulty : Fault → ℕ → Refusal
  long_answer : Refusal
  long_query malformed_query deep_query : Refusal
  long_list malformed_list : Refusal
  many_queries : Refusal
  short_room : Refusal

abbrev pub number : Refusal → ℕ
number long_text = 1
number not_ascii = 2
number bad_setup = 3
number (faulty f p) = fault_number f
number long_answer = 18
number long_query = 19
number malformed_query = 20
number deep_query = 21
number long_list = 22
number malformed_list = 23
number many_queries = 24
number short_room = 32

-- the place of a fault; all other refusals give 0
abbrev pub place_of : Refusal → ℕ
place_of long_text = 0
place_of not_ascii = 0
place_of bad_setup = 0
place_of (faulty f p) = p
place_of long_answer = 0
place_of long_query = 0
place_of malformed_query = 0
place_of deep_query = 0
place_of long_list = 0
place_of malformed_list = 0
place_of many_queries = 0
place_of short_room = 0

-- the same refusal, a fault's place counted anew by g
abbrev pub moved : (ℕ → ℕ) → Refusal → Refusal
moved g long_text = long_text
moved g not_ascii = not_ascii
moved g bad_setup = bad_setup
moved g (faulty f p) = faulty f (g p)
moved g long_answer = long_answer
moved g long_query = long_query
moved g malformed_query = malformed_query
moved g deep_query = deep_query
moved g long_list = long_list
moved g malformed_list = malformed_list
moved g many_queries = many_queries
moved g short_room = short_room

-- what is read, or the refusal
pub data Read (A : Type 0) : Type 0 where
  got : A → Read A
  refused : Refusal → Read A

-- a test that has to pass, else the refusal r
abbrev pub need : {A : Type 0} → Bool → Refusal → Read A → Read A
need true r o = o
need false r o = refused r

-- what f makes of what was read
abbrev pub on_read : {A B : Type 0} → (A → B) → Read A → Read B
on_read f (got a) = got (f a)
on_read f (refused r) = refused r

-- what f reads after it
abbrev pub and_then : {A B : Type 0} → Read A → (A → Read B) → Read B
and_then (got a) f = f a
and_then (refused r) f = refused r

-- the same, with a fault's place counted anew by g
abbrev pub placed : {A : Type 0} → (ℕ → ℕ) → Read A → Read A
placed g (got a) = got a
placed g (refused r) = refused (moved g r)
