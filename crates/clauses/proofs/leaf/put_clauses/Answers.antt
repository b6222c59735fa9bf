-- `clauses::leaf::put_clauses` meets its contract.
use Prim.Native.Nat.{◌+◌, ◌-◌}
use Rattle.analysis.specs.Tokens.{spelled, rest_words}
use Rattle.clauses.proofs.Writing.{row_all, laying_ends, laying_fits, laying_on, row_none, row_here, slice_length, clause_room}
use Rattle.clauses.specs.Leaves.{term_row}
use Rattle.rules.specs.Bytes.{part}
use Rattle.rules.specs.Query.{term}
use Rattle.rules.specs.Stored.{encode}
use lib.ListN.{take, drop}
use native.Mathlib.Omega.{arith}
use Rattle.clauses.proofs.leaf.put_clauses.Goals as goal

pub loop-t-init : goal.loop-t-init
loop-t-init c = (row_all c.args.tag c.args.field.now c.args.analyzer c.args.text.now c.args.out.now c.args.at, omega arith, omega arith)

pub returns-then-t-eq0 : goal.returns-then-t-eq0
returns-then-t-eq0 c = laying_ends c.loop-t.invariant.0 (row_none _ _ (c.next_token-t.ensures.none c.if-t-eq0.true))

pub put_clause-w-requires : goal.put_clause-w-requires
put_clause-w-requires c = let r = row_here c.next_token-t.ensures c.args.tag c.args.field.now c.if-t-eq0.false in
    let l = laying_fits c.loop-t.invariant.0 (part c.args.tag (encode (term c.args.field.now (spelled c.args.analyzer (take (c.next_token-t.result.start + c.next_token-t.result.len - c.next_token-t.result.start) (drop c.next_token-t.result.start c.args.text.now)))))) (term_row c.args.tag c.args.field.now (rest_words c.args.analyzer c.args.text.now (c.next_token-t.result.start + c.next_token-t.result.len) (c.next_token-t.result.position + 1))) r c.requires.0 in
    let n = slice_length c.args.text.now c.next_token-t.result.start c.next_token-t.result.len (omega (arith, c.next_token-t.ensures.within, c.loop-t.invariant.1)) in
    (clause_room c.args.field.now (take (c.next_token-t.result.start + c.next_token-t.result.len - c.next_token-t.result.start) (drop c.next_token-t.result.start c.args.text.now)) c.loop-t.out c.args.analyzer c.loop-t.w c.args.tag l, c.requires.1, omega (arith, c.next_token-t.ensures.within, c.loop-t.invariant.1, c.requires.2))

pub loop-t-preserved : goal.loop-t-preserved
loop-t-preserved c = (laying_on c.loop-t.invariant.0 _ _ (row_here c.next_token-t.ensures c.args.tag c.args.field.now c.if-t-eq0.false) c.requires.0 c.put_clause-w.ensures c.put_clause-w.auto.out, omega (arith, c.next_token-t.ensures.within, c.loop-t.invariant.1, c.if-t-eq0.false), omega (arith, c.next_token-t.ensures.few, c.loop-t.invariant.2, c.if-t-eq0.false))
