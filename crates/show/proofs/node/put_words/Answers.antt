-- `show::node::put_words` meets its contract.
use Rattle.rules.proofs.Stored.Parts as parts
use Rattle.rules.proofs.Stored.Rows as rows
use Rattle.rules.specs.Bytes.{each, rest_of}
use Rattle.rules.specs.Reading.{is_word, word_of}
use Rattle.rules.specs.Show.{shown_words}
use Rattle.show.proofs.Laying as laying
use Rattle.show.proofs.Nodes as nodes
use Rattle.show.specs.Node.{word_text}
use mathlib.Core.Path.{refl}
use native.Mathlib.Omega.{arith}
use Rattle.show.proofs.node.put_words.Goals as goal

pub loop-t-init : goal.loop-t-init
loop-t-init c = (c.requires, refl, laying.going_start _ _ _)

pub put_word-a-requires : goal.put_word-a-requires
put_word-a-requires c = rows.first is_word c.loop-t.t.now (parts.more_empty c.loop-t.t.now c.loop-t-test.true) c.loop-t.invariant.0

pub rest-u-requires : goal.rest-u-requires
rest-u-requires c = nodes.word_whole c.loop-t.t.now (rows.first is_word c.loop-t.t.now (parts.more_empty c.loop-t.t.now c.loop-t-test.true) c.loop-t.invariant.0)

pub loop-t-smaller : goal.loop-t-smaller
loop-t-smaller c = rw c.rest-u.ensures (parts.rest_shorter _ c.loop-t-test.true)

pub loop-t-preserved : goal.loop-t-preserved
loop-t-preserved c = (rw c.rest-u.ensures (rows.others is_word c.loop-t.t.now (parts.more_empty c.loop-t.t.now c.loop-t-test.true) c.loop-t.invariant.0), omega (arith, c.put_word-a.auto.out, c.loop-t.invariant.1), rw c.rest-u.ensures (laying.going_next c.loop-t.invariant.2 (word_text c.loop-t.t.now) (shown_words (each word_of (rest_of c.loop-t.t.now))) (nodes.words_next c.loop-t.t.now c.loop-t-test.true) c.put_word-a.ensures))

pub shape_of-out : goal.shape_of-out
shape_of-out c = c.loop-t.invariant.1

pub returns : goal.returns
returns c = laying.going_end c.loop-t.invariant.2 (nodes.words_done c.loop-t.t.now c.loop-t-test.false)
