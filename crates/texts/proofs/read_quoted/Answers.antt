-- `texts::read_quoted` meets its contract: a closing quote ends what was read, or nothing does. Assumes nothing.
use Prim.Native.Nat.{◌-◌}
use Rattle.rules.proofs.Text.Tokenizing.{quoted_unescapes}
use Rattle.rules.specs.Lexing.{quoted_text, is_quote}
use Rattle.rules.specs.Numbers.{open_quote}
use Rattle.std.proofs.lemmas.Result.{err_from_is_err_and}
use Rattle.texts.proofs.Unescaped.{part_kept, unescaping, quote_fault, quote_open, quote_closed}
use Rattle.std.proofs.Common.{rules, of_calls}
use lib.ListN.{length}
use mathlib.Core.Path.{refl}
use native.Mathlib.Omega.{arith}
use Rattle.texts.proofs.read_quoted.Goals as goal

pub returns-in_err-quote : goal.returns-in_err-quote
returns-in_err-quote c = let p = err_from_is_err_and c.from_residual.result c.from_residual.ensures.1 in
    record {
      kept = part_kept c.args.at (length c.args.text.now - c.args.at) c.args.room.now c.unescape.new.out c.unescape.auto.out (omega arith) (omega arith);
      reads = rw (p.1, p.2) (quote_fault c.args.text.now c.args.at c.args.room.now c.unescape.new.out c.requires.0 c.unescape.auto.out (omega arith) c.in_err-quote.field-0.0
          (c.in_err-quote.ensures (quoted_text (length c.args.text.now) c.args.at) is_quote (unescaping (quoted_unescapes _ _)) (λ i b h q. search (rules, of_calls))));
    }

pub returns-then-quote-text : goal.returns-then-quote-text
returns-then-quote-text c = record {
  kept = part_kept c.args.at (length c.args.text.now - c.args.at) c.args.room.now c.unescape.new.out c.unescape.auto.out (omega arith) (omega arith);
  reads = (open_quote, quote_open c.args.text.now c.args.at c.args.room.now c.unescape.new.out c.requires.0 c.unescape.auto.out (omega arith) c.in_ok-quote.quote (c.in_ok-quote.ensures (quoted_text (length c.args.text.now) c.args.at) is_quote (unescaping (quoted_unescapes _ _)) (λ i b h q. search (rules, of_calls))) c.if-quote-text.true, refl, c.requires.0);
}

pub overflow_add-result : goal.overflow_add-result
overflow_add-result c = let u = (c.in_ok-quote.ensures (quoted_text (length c.args.text.now) c.args.at) is_quote (unescaping (quoted_unescapes _ _)) (λ i b h q. search (rules, of_calls))) in omega (arith, u.1, c.requires.1)

pub returns : goal.returns
returns c = record {
  kept = part_kept c.args.at (length c.args.text.now - c.args.at) c.args.room.now c.unescape.new.out c.unescape.auto.out (omega arith) (omega arith);
  reads = quote_closed c.args.text.now c.args.at c.args.room.now c.unescape.new.out c.requires.0 c.unescape.auto.out (omega arith) c.in_ok-quote.quote (c.in_ok-quote.ensures (quoted_text (length c.args.text.now) c.args.at) is_quote (unescaping (quoted_unescapes _ _)) (λ i b h q. search (rules, of_calls))) c.if-quote-text.false;
}
