-- `clauses::write::write_leaf` meets its contract.
use Prim.Native.Nat.{ℕ, ◌+◌}
use Rattle.clauses.proofs.Fronts.{boost_room, size_none, boost_bare}
use Rattle.clauses.proofs.Placing.{leaf_boost}
use Rattle.clauses.proofs.Rows.{text_is, place_text, place_most_lem}
use Rattle.clauses.specs.Written.{is_boosted}
use Rattle.row.specs.Row.{tokens_of}
use lib.ListN.{length}
use mathlib.Core.Path.{refl, sym, ap, ◌∙◌}
use native.Mathlib.Omega.{arith}
use Rattle.clauses.proofs.write.write_leaf.Goals as goal

pub write_text-end-requires : goal.write_text-end-requires
write_text-end-requires c = let B = leaf_boost c.requires.5.3 c.args.plain c.requires.4 _ _ c.field_part-field.ensures (c.text_at-text.ensures ∙ sym (text_is c.args.row.now.room.now c.args.row.now.n c.args.i c.requires.1)) in
    let R = boost_room c.requires.5.0 (tokens_of c.args.row.now.room.now c.args.row.now.n) _ (c.args.i + 1) c.args.at (length c.args.out.now) B c.requires.5.3.fits in
    ((λ h. omega (arith, R h, c.boost_size-size.ensures, c.if-size-eq0.true)), rw c.field_part-field.ensures c.requires.0.short, rw (c.text_at-text.ensures, ← text_is c.args.row.now.room.now c.args.row.now.n c.args.i c.requires.1) (omega (arith, place_text c.args.row.now.rowed c.args.i c.requires.1, place_most_lem c.args.row.now.rowed (c.args.i + 1))), c.requires.3, (λ x. rw c.text_at-text.ensures (c.one_at-one.ensures x)))

pub returns-then-size-eq0 : goal.returns-then-size-eq0
returns-then-size-eq0 c = record { wrote = (λ st m j W. boost_bare st (tokens_of c.args.row.now.room.now c.args.row.now.n) _ (c.args.i + 1) (leaf_boost W c.args.plain c.requires.4 _ _ c.field_part-field.ensures (c.text_at-text.ensures ∙ sym (text_is c.args.row.now.room.now c.args.row.now.n c.args.i c.requires.1))) c.write_text-end.ensures (size_none (is_boosted (tokens_of c.args.row.now.room.now c.args.row.now.n) (c.args.i + 1)) (ap (λ (x : ℕ). c.args.at + x) c.boost_size-size.ensures) (omega (arith, c.if-size-eq0.true))) refl); within = (omega arith, omega (arith, c.requires.1)) }

pub write_text-end-requires-2 : goal.write_text-end-requires-2
write_text-end-requires-2 c = let B = leaf_boost c.requires.5.3 c.args.plain c.requires.4 _ _ c.field_part-field.ensures (c.text_at-text.ensures ∙ sym (text_is c.args.row.now.room.now c.args.row.now.n c.args.i c.requires.1)) in
    let R = boost_room c.requires.5.0 (tokens_of c.args.row.now.room.now c.args.row.now.n) _ (c.args.i + 1) c.args.at (length c.args.out.now) B c.requires.5.3.fits in
    ((λ h. omega (arith, R h, c.boost_size-size.ensures)), rw c.field_part-field.ensures c.requires.0.short, rw (c.text_at-text.ensures, ← text_is c.args.row.now.room.now c.args.row.now.n c.args.i c.requires.1) (omega (arith, place_text c.args.row.now.rowed c.args.i c.requires.1, place_most_lem c.args.row.now.rowed (c.args.i + 1))), c.requires.3, (λ x. rw c.text_at-text.ensures (c.one_at-one.ensures x)))

pub put_boost-requires : goal.put_boost-requires
put_boost-requires c = let B = leaf_boost c.requires.5.3 c.args.plain c.requires.4 _ _ c.field_part-field.ensures (c.text_at-text.ensures ∙ sym (text_is c.args.row.now.room.now c.args.row.now.n c.args.i c.requires.1)) in
    let R = boost_room c.requires.5.0 (tokens_of c.args.row.now.room.now c.args.row.now.n) _ (c.args.i + 1) c.args.at (length c.args.out.now) B c.requires.5.3.fits in
    (omega (arith, c.requires.1), ap (λ (x : ℕ). c.args.at + x) c.boost_size-size.ensures, omega (arith, c.write_text-end-2.ensures.place), (λ h. omega (arith, R (omega (arith, c.write_text-end-2.ensures.place)), c.write_text-end-2.ensures.place, c.boost_size-size.ensures, c.write_text-end-2.auto.out)), omega (arith, c.write_text-end-2.auto.out, c.requires.3))

pub returns : goal.returns
returns c = record { wrote = (λ st m j W. let B = leaf_boost W c.args.plain c.requires.4 _ _ c.field_part-field.ensures (c.text_at-text.ensures ∙ sym (text_is c.args.row.now.room.now c.args.row.now.n c.args.i c.requires.1)) in c.put_boost.ensures.wrote st _ m j c.args.out.now B c.write_text-end-2.ensures (sym c.write_text-end-2.auto.out)); within = (omega (arith, c.put_boost.ensures.within), c.put_boost.ensures.within.1) }
