-- `parser::parse::parse_tokens` meets its contract.
use Rattle.clauses.proofs.Rows.{place_most_lem}
use Rattle.parser.proofs.Delivering.{start_most, delivers_as, tokens_fault, tokens_more, tokens_kept, tokens_end, tokens_write}
use borrow.Author.Tests.{eq-eqb, ne_eqb}
use mathlib.Core.Path.{refl, sym, ◌∙◌}
use native.Mathlib.Omega.{arith}
use Rattle.parser.proofs.parse.parse_tokens.Goals as goal

pub returns-in-Err : goal.returns-in-Err
returns-in-Err c = let l = start_most c.args.row.now.rowed c.args.end c.in-Err.e.place c.requires.0 in
    λ st T ef. tokens_fault st c.args.row.now.room.now c.args.row.now.n c.args.row.now.default.now ef (c.measure_query.ensures.means st T) c.args.end c.in-Err.is _ c.place_at.ensures (rw c.place_at.ensures l) c.args.out.now

pub returns-in-Ok : goal.returns-in-Ok
returns-in-Ok c = let l = start_most c.args.row.now.rowed c.args.end c.in-Ok.g.next c.requires.0 in
    λ st T ef. tokens_more st c.args.row.now.room.now c.args.row.now.n c.args.row.now.default.now ef (c.measure_query.ensures.means st T) c.args.end c.in-Ok.is (ne_eqb _ 0 (λ e. c.if-kind_at-ne-END_KIND.true (c.kind_at.ensures ∙ e))) _ c.place_at-in-Ok.ensures (rw c.place_at-in-Ok.ensures l) c.args.out.now

pub write_whole-requires : goal.write_whole-requires
write_whole-requires c = let K = c.in-Ok.ensures.within in
    (record { upto = omega arith; short = c.requires.1 }, omega (arith, c.query_len.ensures.bound, K.3, place_most_lem c.args.row.now.rowed c.in-Ok.g.next), (c.requires.2.0, tokens_kept c.requires.2.0 c.args.row.now.room.now c.args.row.now.n c.args.row.now.default.now c.requires.2.2 (c.measure_query.ensures.means c.requires.2.0 c.requires.2.1) c.in-Ok.is, c.in-Ok.g.next, tokens_write c.requires.2.0 c.args.row.now.room.now c.args.row.now.n c.args.row.now.default.now c.requires.2.2 (c.measure_query.ensures.means c.requires.2.0 c.requires.2.1) c.in-Ok.is refl c.requires.2.1 c.is_alone.ensures c.query_len.ensures.made), omega arith)

pub returns-in-Ok-2 : goal.returns-in-Ok-2
returns-in-Ok-2 c = λ st T ef. delivers_as c.args.out.now _ c.write_whole.result (tokens_end st c.args.row.now.room.now c.args.row.now.n c.args.row.now.default.now ef (c.measure_query.ensures.means st T) c.in-Ok.is c.args.end (eq-eqb _ 0 (sym c.kind_at.ensures ∙ c.if-kind_at-ne-END_KIND.false))) (c.write_whole.ensures st (tokens_kept st c.args.row.now.room.now c.args.row.now.n c.args.row.now.default.now ef (c.measure_query.ensures.means st T) c.in-Ok.is) c.in-Ok.g.next (tokens_write st c.args.row.now.room.now c.args.row.now.n c.args.row.now.default.now ef (c.measure_query.ensures.means st T) c.in-Ok.is refl T c.is_alone.ensures c.query_len.ensures.made))
