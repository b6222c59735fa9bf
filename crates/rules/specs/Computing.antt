-- All that a closed case computes with, under one name: a proof that says `unfolding computing` opens every definition of the paper.
use Rattle.std.proofs.Math.Decide.{ℕ_discrete}
use Rattle.std.specs.Float.Ieee.{of_bits, to_bits, mul, add, eq, le, lt, is_nan, nan_bits, round as roundTo}
use Rattle.rules.specs.Bytes.{ascii, same, is_text, body_of, rest_of, whole_of, every_in, each_in, some, all, those}
use Rattle.rules.specs.Query.{list_discrete, same_query, depth}
use Rattle.rules.specs.Stored.{encode_words, encode}
use Rattle.rules.specs.Reading.{closed, empty_in, term_in, phrase_in, is_bound, bound_of, range_in, boost_in, constant_score_in, added, clauses_in, boolean_in, body_in, decode}
use Rattle.rules.specs.Words.{word_break, joins, values, joined, reach_in, words_in, words, stop_words, is_stop_word}
use Rattle.rules.specs.Analysis.{class_of, front, after, runs_in, chunks_in, cut, whitespace_tokens, simple_tokens, keyword_tokens, word_tokens, token_texts, placed_from, kept_of}
use Rattle.rules.specs.Lexing.{before, term_text, quoted_text, word_kind, term_end, term_from, quoted_from, sign_kind, token_at, token_then, tokens_step, tokens_in, lex}
use Rattle.rules.specs.Numerals.{digits_on, exponent, after_digits, after_whole, unsigned, significand, units_of, nearest, numeral_bits}
use Rattle.rules.specs.Setup.{is_setup, analyzer_among, entries_step, entries_in, setup_with, read_setup}
use Rattle.rules.specs.Parsing.{term_clauses, term_of, counted_from, from_first, phrase_of, boost_at, plain_at, quoted_at, closed_at, bracket_at, body_at, clause_at, touched, in_order_before, query_of, add_clause, parse_clauses, whole_query, parse_tokens, parse}
use Rattle.rules.specs.Floats.{one, rounded, widened, narrowed, plus, times, is_one}
use Rattle.rules.specs.Rewriting.{is_none, boosted, scored, phrased, base, boost_of, put, add_merged, merge_onto, clauses_of, merged_boolean, lone, lone_or_merged, should_count, only_must_not, of_live, is_dead, live, rewrite_boolean, rounds, weight, largest, rewrite_once}
use Rattle.rules.specs.Lists.{is_entry, is_record, entry_of, record_of, read_list}
use Rattle.rules.specs.Matching.{has_term, has_phrase, lies_in, has_range, any_needed, chosen_from, matches}
use Rattle.rules.specs.Show.{decimal_onto, hex, shown, shown_words, line, operator_in, show_setup, show_rewritten, show_parsed, show_text, show}
use Rattle.rules.specs.Answers.{call, call_at, parse_reply, parse_left, rewrite_reply, rewrite_left, selected, row_bytes, select_left}
use Rattle.rules.specs.Batch.{first_query, other_queries, is_first, cut_in, read_queries, turns, select_all_left}

unfoldable pub computing : Unit {0}
unfolding ℕ_discrete of_bits to_bits mul add eq le lt is_nan nan_bits roundTo ascii same is_text body_of rest_of whole_of every_in each_in some all those list_discrete same_query depth encode_words encode closed empty_in term_in phrase_in is_bound bound_of range_in boost_in constant_score_in added clauses_in boolean_in body_in decode class_of front after runs_in chunks_in cut whitespace_tokens simple_tokens keyword_tokens word_break joins values joined reach_in words_in words stop_words is_stop_word word_tokens token_texts placed_from kept_of before term_text quoted_text word_kind term_end term_from quoted_from sign_kind token_at token_then tokens_step tokens_in lex digits_on exponent after_digits after_whole unsigned significand units_of nearest numeral_bits is_setup analyzer_among entries_step entries_in setup_with read_setup term_clauses term_of counted_from from_first phrase_of boost_at plain_at quoted_at closed_at bracket_at body_at clause_at touched in_order_before query_of add_clause parse_clauses whole_query parse_tokens parse one rounded widened narrowed plus times is_one is_none boosted scored phrased base boost_of put add_merged merge_onto clauses_of merged_boolean lone lone_or_merged should_count only_must_not of_live is_dead live rewrite_boolean rounds weight largest rewrite_once is_entry is_record entry_of record_of read_list has_term has_phrase lies_in has_range any_needed chosen_from matches decimal_onto hex shown shown_words line operator_in show_setup show_rewritten show_parsed show_text show call call_at parse_reply parse_left rewrite_reply rewrite_left selected row_bytes select_left first_query other_queries is_first cut_in read_queries turns select_all_left
computing = tt
