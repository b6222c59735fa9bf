-- `texts::read_term` meets its contract: the letters are the term, or it is read on behind them. Assumes nothing.
use Prim.Native.Nat.{◌+◌, ◌-◌}
use Rattle.rules.proofs.Text.Tokenizing.{term_unescapes}
use Rattle.rules.specs.Analysis.{ends_term}
use Rattle.rules.specs.Lexing.{term_text}
use Rattle.std.proofs.Common.{rules, of_calls}
use Rattle.std.proofs.lemmas.List.{take_rest}
use Rattle.std.proofs.lemmas.Result.{err_from_is_err_and}
use Rattle.texts.proofs.Flags.{text_byte}
use Rattle.texts.proofs.Unescaped.{part_kept, unescaping, rest_long, text_rest, term_word, term_room, term_kept, term_fault, term_more}
use lib.ListN.{length}
use native.Mathlib.Omega.{arith}
use Rattle.texts.proofs.read_term.Goals.{then-next-text-via-then-next-text, then-next-text-via-else-next-text+then-ends_term}
use Rattle.texts.proofs.read_term.Goals as goal

pub read_letters-len-requires : goal.read_letters-len-requires
read_letters-len-requires c = (omega arith, rw take_rest (text_rest c.args.at c.args.text.now c.requires.2))

pub ends_term-requires : goal.ends_term-requires
ends_term-requires c = text_byte c.args.text.now (c.args.at + c.read_letters-len.result) c.requires.2

pub returns-then-next-text : goal.returns-then-next-text
returns-then-next-text c = record {
  kept = part_kept c.args.at (length c.args.text.now - c.args.at) c.args.room.now c.read_letters-len.new.out c.read_letters-len.auto.out (omega arith) (omega arith);
  reads = term_word c.args.text.now c.args.at c.read_letters-len.result (omega (arith, rest_long c.args.at c.args.text.now, c.read_letters-len.ensures.within, c.requires.0)) c.requires.2 (rw take_rest at c.read_letters-len.ensures.letters) c.args.room.now c.read_letters-len.new.out c.read_letters-len.auto.out (omega arith) (rw take_rest at c.read_letters-len.ensures.laid)
      (λ l. elim c.then-next-text.branch [
        | then-next-text-via-then-next-text w ↦ absurd (omega arith)
        | then-next-text-via-else-next-text+then-ends_term w ↦ cc
      ]);
}

pub unescape-requires : goal.unescape-requires
unescape-requires c = ((omega (arith, rest_long c.args.at c.args.text.now, c.read_letters-len.ensures.within, c.requires.0)), term_room c.args.text.now c.args.at c.read_letters-len.result (omega (arith, rest_long c.args.at c.args.text.now, c.read_letters-len.ensures.within, c.requires.0)) c.requires.2 (rw take_rest at c.read_letters-len.ensures.letters) c.args.room.now c.read_letters-len.new.out c.read_letters-len.auto.out (omega arith) (rw take_rest at c.read_letters-len.ensures.laid), λ i l. search (rules, text_byte c.args.text.now i c.requires.2))

pub returns-in_err-more : goal.returns-in_err-more
returns-in_err-more c = let p = err_from_is_err_and c.from_residual.result c.from_residual.ensures.1 in
    record {
      kept = term_kept c.args.text.now c.args.at c.read_letters-len.result (omega (arith, rest_long c.args.at c.args.text.now, c.read_letters-len.ensures.within, c.requires.0)) c.requires.2 (rw take_rest at c.read_letters-len.ensures.letters) c.args.room.now c.read_letters-len.new.out c.read_letters-len.auto.out (omega arith) (rw take_rest at c.read_letters-len.ensures.laid) c.unescape.new.out c.unescape.auto.out c.requires.1;
      reads = rw (p.1, p.2) (term_fault c.args.text.now c.args.at c.read_letters-len.result (omega (arith, rest_long c.args.at c.args.text.now, c.read_letters-len.ensures.within, c.requires.0)) c.requires.2 (rw take_rest at c.read_letters-len.ensures.letters) c.args.room.now c.read_letters-len.new.out c.read_letters-len.auto.out (omega arith) (rw take_rest at c.read_letters-len.ensures.laid) c.unescape.new.out c.unescape.auto.out c.in_err-more.field-0.0
          (c.in_err-more.ensures (term_text (length c.args.text.now)) ends_term (unescaping (term_unescapes _)) (λ i b h q. search (rules, of_calls))));
    }

pub overflow_add-result : goal.overflow_add-result
overflow_add-result c = let u = (c.in_ok-more.ensures (term_text (length c.args.text.now)) ends_term (unescaping (term_unescapes _)) (λ i b h q. search (rules, of_calls))) in omega (arith, u.1, u.2, c.requires.1)

pub returns : goal.returns
returns c = record {
  kept = term_kept c.args.text.now c.args.at c.read_letters-len.result (omega (arith, rest_long c.args.at c.args.text.now, c.read_letters-len.ensures.within, c.requires.0)) c.requires.2 (rw take_rest at c.read_letters-len.ensures.letters) c.args.room.now c.read_letters-len.new.out c.read_letters-len.auto.out (omega arith) (rw take_rest at c.read_letters-len.ensures.laid) c.unescape.new.out c.unescape.auto.out c.requires.1;
  reads = term_more c.args.text.now c.args.at c.read_letters-len.result (omega (arith, rest_long c.args.at c.args.text.now, c.read_letters-len.ensures.within, c.requires.0)) c.requires.2 (rw take_rest at c.read_letters-len.ensures.letters) c.args.room.now c.read_letters-len.new.out c.read_letters-len.auto.out (omega arith) (rw take_rest at c.read_letters-len.ensures.laid) c.unescape.new.out c.unescape.auto.out c.in_ok-more.more (c.in_ok-more.ensures (term_text (length c.args.text.now)) ends_term (unescaping (term_unescapes _)) (λ i b h q. search (rules, of_calls)));
}
