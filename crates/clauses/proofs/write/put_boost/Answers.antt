-- `clauses::write::put_boost` meets its contract.
use Prim.Native.Nat.{◌+◌, ◌-◌}
use Rattle.clauses.proofs.Fronts.{size_none, size_some, boost_bare, boost_empty, boost_front}
use Rattle.clauses.proofs.Rows.{kind_in_lem}
use Rattle.clauses.specs.Written.{is_boosted}
use Rattle.row.specs.Row.{tokens_of}
use Rattle.rules.proofs.Bools.{and_r}
use Rattle.rules.specs.Parsing.{is_at}
use mathlib.Core.Path.{refl}
use native.Mathlib.Omega.{arith}
use Rattle.clauses.proofs.write.put_boost.Goals as goal

pub returns-then-start-at : goal.returns-then-start-at
returns-then-start-at c = record { wrote = (λ st m w j before e P l. boost_bare st (tokens_of c.args.row.now.room.now c.args.row.now.n) m c.args.i e P (size_none (is_boosted (tokens_of c.args.row.now.room.now c.args.row.now.n) c.args.i) c.requires.1 c.if-start-at.true) c.if-start-at.true); within = (omega arith, c.requires.0) }

pub returns-then-end-start : goal.returns-then-end-start
returns-then-end-start c = let y = size_some (is_boosted (tokens_of c.args.row.now.room.now c.args.row.now.n) c.args.i) c.requires.1 c.if-start-at.false in
    let k = kind_in_lem c.args.row.now.room.now c.args.row.now.n 1 (c.args.i + 1) (λ z. omega arith) (and_r (is_at 11 (tokens_of c.args.row.now.room.now c.args.row.now.n) c.args.i) (is_at 1 (tokens_of c.args.row.now.room.now c.args.row.now.n) (c.args.i + 1)) y.0) in
    record { wrote = (λ st m w j before e P l. boost_empty st (tokens_of c.args.row.now.room.now c.args.row.now.n) m c.args.i e P y.0 c.if-end-start.true); within = (omega arith, omega (arith, k)) }

pub bits_at-requires : goal.bits_at-requires
bits_at-requires c = let y = size_some (is_boosted (tokens_of c.args.row.now.room.now c.args.row.now.n) c.args.i) c.requires.1 c.if-start-at.false in
    let k = kind_in_lem c.args.row.now.room.now c.args.row.now.n 1 (c.args.i + 1) (λ z. omega arith) (and_r (is_at 11 (tokens_of c.args.row.now.room.now c.args.row.now.n) c.args.i) (is_at 1 (tokens_of c.args.row.now.room.now c.args.row.now.n) (c.args.i + 1)) y.0) in
    (k)

pub returns : goal.returns
returns c = let y = size_some (is_boosted (tokens_of c.args.row.now.room.now c.args.row.now.n) c.args.i) c.requires.1 c.if-start-at.false in
    let k = kind_in_lem c.args.row.now.room.now c.args.row.now.n 1 (c.args.i + 1) (λ z. omega arith) (and_r (is_at 11 (tokens_of c.args.row.now.room.now c.args.row.now.n) c.args.i) (is_at 1 (tokens_of c.args.row.now.room.now c.args.row.now.n) (c.args.i + 1)) y.0) in
    let h = c.requires.3 (omega (arith, c.requires.2, c.if-end-start.false)) in
    record { wrote = (λ st m w j before e P l. boost_front st (tokens_of c.args.row.now.room.now c.args.row.now.n) m c.args.i e P y.0 c.if-end-start.false (c.args.end - c.args.at - 3) c.bits_at.result c.put_header-b.ensures c.put_big4.ensures c.bits_at.ensures y.1 refl (omega (arith, h, l)) l); within = (omega arith, omega (arith, k)) }
