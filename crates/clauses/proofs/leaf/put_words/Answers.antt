-- `clauses::leaf::put_words` meets its contract.
use Prim.Native.Nat.{◌+◌, ◌-◌}
use Rattle.analysis.specs.Tokens.{spelled, rest_words}
use Rattle.clauses.proofs.Writing.{words_all, laying_ends, laying_fits, laying_on, words_none, words_here, slice_length, word_room}
use Rattle.rules.specs.Bytes.{big, part}
use Rattle.rules.specs.Numbers.{word_tag}
use Rattle.rules.specs.Parsing.{counted_from}
use Rattle.rules.specs.Stored.{encode_words}
use lib.ListN.{take, drop}
use mathlib.Core.List.{◌++◌}
use native.Mathlib.Omega.{arith}
use Rattle.clauses.proofs.leaf.put_words.Goals as goal

pub loop-t-init : goal.loop-t-init
loop-t-init c = (words_all c.next_token-first.ensures c.args.out.now c.args.at, omega arith, omega arith, omega (arith, c.next_token-first.ensures.counted))

pub returns-then-t-eq0 : goal.returns-then-t-eq0
returns-then-t-eq0 c = laying_ends c.loop-t.invariant.0 (words_none _ (c.next_token-t.ensures.none c.if-t-eq0.true))

pub put_word-w-requires : goal.put_word-w-requires
put_word-w-requires c = let r = words_here c.next_token-t.ensures c.next_token-first.result.position c.offset.ensures c.if-t-eq0.false in
    let l = laying_fits c.loop-t.invariant.0 (part word_tag (big 4 c.offset.result ++ spelled c.args.analyzer (take (c.next_token-t.result.start + c.next_token-t.result.len - c.next_token-t.result.start) (drop c.next_token-t.result.start c.args.text.now)))) (encode_words (counted_from c.next_token-first.result.position (rest_words c.args.analyzer c.args.text.now (c.next_token-t.result.start + c.next_token-t.result.len) (c.next_token-t.result.position + 1)))) r c.requires.0 in
    let n = slice_length c.args.text.now c.next_token-t.result.start c.next_token-t.result.len (omega (arith, c.next_token-t.ensures.within, c.loop-t.invariant.1)) in
    (word_room (take (c.next_token-t.result.start + c.next_token-t.result.len - c.next_token-t.result.start) (drop c.next_token-t.result.start c.args.text.now)) c.loop-t.out c.args.analyzer c.loop-t.w c.offset.result l, omega (arith, c.next_token-t.ensures.within, c.loop-t.invariant.1, c.requires.1))

pub loop-t-preserved : goal.loop-t-preserved
loop-t-preserved c = (laying_on c.loop-t.invariant.0 _ _ (words_here c.next_token-t.ensures c.next_token-first.result.position c.offset.ensures c.if-t-eq0.false) c.requires.0 c.put_word-w.ensures c.put_word-w.auto.out, omega (arith, c.next_token-t.ensures.within, c.loop-t.invariant.1, c.if-t-eq0.false), omega (arith, c.next_token-t.ensures.few, c.loop-t.invariant.2, c.if-t-eq0.false), omega (arith, c.next_token-t.ensures.counted, c.loop-t.invariant.3))
