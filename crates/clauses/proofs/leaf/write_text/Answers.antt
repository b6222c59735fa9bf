-- `clauses::leaf::write_text` meets its contract.
use Prim.Native.Nat.{◌+◌, ◌-◌}
use Rattle.analysis.proofs.Spelling.{spelled_length}
use Rattle.analysis.specs.Tokens.{spelled}
use Rattle.clauses.proofs.Fronts.{put_empty}
use Rattle.clauses.proofs.Writing.{text_none, text_one, text_many, leaf_none, leaf_one, leaf_boolean, leaf_phrase, made_room, made_put, slice_length}
use Rattle.counted.specs.Kinds.{made_length}
use Rattle.rules.proofs.Stored.Sizes.{length_term}
use lib.ListN.{length, take, drop}
use mathlib.Core.Path.{ap}
use native.Mathlib.Omega.{arith}
use Rattle.clauses.proofs.leaf.write_text.Goals as goal

pub put_term-requires : goal.put_term-requires
put_term-requires c = let e = leaf_one c.args.operator c.args.field.now c.args.plain (c.requires.4 c.if-one.true) in
    (omega (arith, made_room c.args.at (length c.args.out.now) e c.requires.0, length_term c.args.field.now (spelled c.args.analyzer c.args.text.now), spelled_length c.args.analyzer c.args.text.now), c.requires.1, c.requires.2)

pub returns-then-one : goal.returns-then-one
returns-then-one c = let e = leaf_one c.args.operator c.args.field.now c.args.plain (c.requires.4 c.if-one.true) in made_put e c.put_term.ensures

pub returns-then-t-eq0 : goal.returns-then-t-eq0
returns-then-t-eq0 c = put_empty c.args.out.now c.args.at _ (ap made_length (leaf_none c.args.operator c.args.field.now c.args.plain (text_none c.next_token-t.ensures c.if-t-eq0.true)))

pub put_term-requires-then-u-eq0 : goal.put_term-requires-then-u-eq0
put_term-requires-then-u-eq0 c = let e = leaf_one c.args.operator c.args.field.now c.args.plain (text_one c.next_token-t.ensures c.if-t-eq0.false c.next_token-u.ensures c.if-u-eq0.true) in
    let n = slice_length c.args.text.now c.next_token-t.result.start c.next_token-t.result.len (omega (arith, c.next_token-t.ensures.within)) in
    (omega (arith, made_room c.args.at (length c.args.out.now) e c.requires.0, length_term c.args.field.now (spelled c.args.analyzer (take (c.next_token-t.result.start + c.next_token-t.result.len - c.next_token-t.result.start) (drop c.next_token-t.result.start c.args.text.now))), spelled_length c.args.analyzer (take (c.next_token-t.result.start + c.next_token-t.result.len - c.next_token-t.result.start) (drop c.next_token-t.result.start c.args.text.now)), n), c.requires.1, omega (arith, n, c.next_token-t.ensures.within, c.requires.2))

pub returns-then-u-eq0 : goal.returns-then-u-eq0
returns-then-u-eq0 c = let e = leaf_one c.args.operator c.args.field.now c.args.plain (text_one c.next_token-t.ensures c.if-t-eq0.false c.next_token-u.ensures c.if-u-eq0.true) in made_put e c.put_term-then-u-eq0.ensures

pub write_boolean-requires : goal.write_boolean-requires
write_boolean-requires c = let w = text_many c.next_token-t.ensures c.if-t-eq0.false c.next_token-u.ensures c.if-u-eq0.false in
    let e = leaf_boolean c.args.operator c.args.field.now c.if-plain.true w.3 in
    (made_room c.args.at (length c.args.out.now) e c.requires.0, c.requires.1, c.requires.2, c.requires.3)

pub returns-then-plain : goal.returns-then-plain
returns-then-plain c = let w = text_many c.next_token-t.ensures c.if-t-eq0.false c.next_token-u.ensures c.if-u-eq0.false in let e = leaf_boolean c.args.operator c.args.field.now c.if-plain.true w.3 in made_put e c.write_boolean.ensures

pub write_phrase-requires : goal.write_phrase-requires
write_phrase-requires c = let w = text_many c.next_token-t.ensures c.if-t-eq0.false c.next_token-u.ensures c.if-u-eq0.false in
    let e = leaf_phrase c.args.operator c.args.field.now c.if-plain.false w.3 in
    (made_room c.args.at (length c.args.out.now) e c.requires.0, c.requires.1, c.requires.2, c.requires.3)

pub returns : goal.returns
returns c = let w = text_many c.next_token-t.ensures c.if-t-eq0.false c.next_token-u.ensures c.if-u-eq0.false in let e = leaf_phrase c.args.operator c.args.field.now c.if-plain.false w.3 in made_put e c.write_phrase.ensures
