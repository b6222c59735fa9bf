-- `lex` meets its contract. The loop's invariant: the tokens in the row, before those of what is still to be read, are the definition's answer. The measure is what is left of the text. Assumes nothing.
use Prim.Native.Nat.{◌-◌}
use Rattle.lexer.proofs.Turns.{lexing_none, lexing_refused, lexing_token, lexing_over, ends_behind, token_starts, none_starts}
use Rattle.rules.specs.Analysis.{is_space}
use Rattle.std.proofs.Common.{rules}
use Rattle.std.proofs.lemmas.Iterator.{IsFirst-from_position, YieldsList-from_slice}
use Rattle.std.proofs.lemmas.Option.{MatchOption-at_none}
use borrow.Author.Tests.{tests}
use Rattle.std.proofs.lemmas.Result.{err_from_is_err_and}
use lib.ListN.{length, take, drop}
use mathlib.Core.Path.{◌≡◌}
use mathlib.Core.Bool.{true, false}
use native.Mathlib.Omega.{arith}
use Rattle.lexer.proofs.lex.Goals as goal

pub loop-spaces-init : goal.loop-spaces-init
loop-spaces-init c = lexing_none c.args.text.now c.args.room.now

pub token_at-requires : goal.token_at-requires
token_at-requires c = let (l, other, r) = token_starts c.args.text.now c.loop-spaces.invariant c.in-Some.spaces (IsFirst-from_position _ _ _ (λ x. is_space x ≡ false) (λ x. is_space x ≡ true) c.in-Some.ensures.ran (YieldsList-from_slice (take (length c.args.text.now - c.loop-spaces.i) (drop c.loop-spaces.i c.args.text.now)) cc) (λ x q k. search (rules, tests)) (λ x q k. search (rules, tests))) in (l, c.requires.0, c.requires.2, omega (arith, c.loop-spaces.invariant.as_long, c.requires.1))

pub returns-in_err-token : goal.returns-in_err-token
returns-in_err-token c = let (l, other, r) = token_starts c.args.text.now c.loop-spaces.invariant c.in-Some.spaces (IsFirst-from_position _ _ _ (λ x. is_space x ≡ false) (λ x. is_space x ≡ true) c.in-Some.ensures.ran (YieldsList-from_slice (take (length c.args.text.now - c.loop-spaces.i) (drop c.loop-spaces.i c.args.text.now)) cc) (λ x q k. search (rules, tests)) (λ x q k. search (rules, tests))) in
    let p = err_from_is_err_and c.from_residual.result c.from_residual.ensures.1 in
    let it = lexing_refused c.args.text.now r l other c.token_at.new.room c.in_err-token.field-0.0 c.in_err-token.ensures.makes c.requires.0 in
    record { answer = rw (p.1, p.2) it.0; row = it.1 }

pub put_token-requires : goal.put_token-requires
put_token-requires c = let (l, other, r) = token_starts c.args.text.now c.loop-spaces.invariant c.in-Some.spaces (IsFirst-from_position _ _ _ (λ x. is_space x ≡ false) (λ x. is_space x ≡ true) c.in-Some.ensures.ran (YieldsList-from_slice (take (length c.args.text.now - c.loop-spaces.i) (drop c.loop-spaces.i c.args.text.now)) cc) (λ x q k. search (rules, tests)) (λ x q k. search (rules, tests))) in
    let e = ends_behind c.args.text.now r l other c.token_at.new.room c.in_ok-token.token c.in_ok-token.ensures.makes in
    omega (arith, e.0, e.1, e.2, e.3, r.few, c.requires.0, c.requires.1, l, c.token_at.auto.room, r.as_long, c.loop-spaces.invariant.few)

pub overflow_add-n : goal.overflow_add-n
overflow_add-n c = omega (arith, c.loop-spaces.invariant.few, c.loop-spaces.invariant.within, c.requires.0)

pub loop-spaces-smaller : goal.loop-spaces-smaller
loop-spaces-smaller c = let (l, other, r) = token_starts c.args.text.now c.loop-spaces.invariant c.in-Some.spaces (IsFirst-from_position _ _ _ (λ x. is_space x ≡ false) (λ x. is_space x ≡ true) c.in-Some.ensures.ran (YieldsList-from_slice (take (length c.args.text.now - c.loop-spaces.i) (drop c.loop-spaces.i c.args.text.now)) cc) (λ x q k. search (rules, tests)) (λ x q k. search (rules, tests))) in
    let e = ends_behind c.args.text.now r l other c.token_at.new.room c.in_ok-token.token c.in_ok-token.ensures.makes in
    omega (arith, e.0, e.1, l)

pub loop-spaces-preserved : goal.loop-spaces-preserved
loop-spaces-preserved c = let (l, other, r) = token_starts c.args.text.now c.loop-spaces.invariant c.in-Some.spaces (IsFirst-from_position _ _ _ (λ x. is_space x ≡ false) (λ x. is_space x ≡ true) c.in-Some.ensures.ran (YieldsList-from_slice (take (length c.args.text.now - c.loop-spaces.i) (drop c.loop-spaces.i c.args.text.now)) cc) (λ x q k. search (rules, tests)) (λ x q k. search (rules, tests))) in
    lexing_token c.args.text.now r l other c.token_at.new.room c.in_ok-token.token c.in_ok-token.ensures.makes c.requires.0 c.requires.1
    c.token_at.auto.room c.token_at.ensures.kept c.put_token.new.room c.put_token.auto.room c.put_token.ensures

pub returns : goal.returns
returns c = let first = (IsFirst-from_position _ _ _ (λ x. is_space x ≡ false) (λ x. is_space x ≡ true) c.position.ensures.ran (YieldsList-from_slice (take (length c.args.text.now - c.loop-spaces.i) (drop c.loop-spaces.i c.args.text.now)) cc) (λ x q k. search (rules, tests)) (λ x q k. search (rules, tests))) in
    let none = MatchOption-at_none _ _ c.in_default.is first in
    let it = lexing_over c.args.text.now (none_starts c.args.text.now c.loop-spaces.invariant none) (omega arith) c.requires.0 in record { answer = it.0; row = it.1 }
