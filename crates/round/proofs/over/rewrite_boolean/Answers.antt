-- `round::over::rewrite_boolean` meets its contract.
use Rattle.places.specs.Within.{within}
use Rattle.round.proofs.Booleans as booleans
use Rattle.rules.specs.Checked.{Are}
use Rattle.rules.specs.Query.{Clauses}
use Rattle.rules.specs.Rewriting.{should_count}
use Prim.Native.Nat.{◌≤◌}
use mathlib.Core.Logic.{inl, inr}
use mathlib.Core.Path.{sym, ◌∙◌, subst}
use native.Mathlib.Omega.{arith}
use Rattle.round.proofs.over.rewrite_boolean.Goals.{then-only_must_not-via-then-only_must_not, then-only_must_not-via-else-only_must_not+then-should_count-least}
use Rattle.round.proofs.over.rewrite_boolean.Goals.{else-least-le1-via-then-least-le1+else-is_single, else-least-le1-via-else-least-le1}
use Rattle.round.proofs.over.rewrite_boolean.Goals as goal

pub returns-then-only_must_not : goal.returns-then-only_must_not
returns-then-only_must_not c = λ cs a. elim c.then-only_must_not.branch [
  | then-only_must_not-via-then-only_must_not w ↦ rw (booleans.of_negative c.args.strict c.args.least cs (sym (c.only_must_not.ensures cs a) ∙ w.if-only_must_not.true)) c.put_none.ensures
  | then-only_must_not-via-else-only_must_not+then-should_count-least w ↦ rw (booleans.of_few c.args.strict c.args.least cs (sym (c.only_must_not.ensures cs a) ∙ w.if-only_must_not.false) (omega (arith, w.should_count.ensures.0 cs a, w.if-should_count-least.true))) c.put_none.ensures
]

pub put_lone-requires : goal.put_lone-requires
put_lone-requires c = let s = booleans.single c.requires.clauses (sym (c.is_single.ensures _ c.requires.are) ∙ c.if-is_single.true) in booleans.lone_of c.requires s.0 s.1 s.2

pub returns-then-is_single : goal.returns-then-is_single
returns-then-is_single c = λ cs a. let s = booleans.single cs (sym (c.is_single.ensures cs a) ∙ c.if-is_single.true) in rw (booleans.of_lone c.args.strict c.args.least cs
    (sym (c.only_must_not.ensures cs a) ∙ c.if-only_must_not.false)
    (omega (arith, c.should_count.ensures.0 cs a, c.if-should_count-least.false)) (omega (arith, c.if-least-le1.true))
    s.0 s.1 s.2) (c.put_lone.ensures s.0 s.1 (subst (λ (ds : Clauses). Are (within 8 c.args.end c.args.room.now) ds) s.2 a))

pub returns : goal.returns
returns c = λ cs a.
    let not_few : c.args.least ≤ should_count cs = omega (arith, c.should_count.ensures.0 cs a, c.if-should_count-least.false) in
    let alive = sym (c.only_must_not.ensures cs a) ∙ c.if-only_must_not.false in
    elim c.else-least-le1.branch [
      | else-least-le1-via-then-least-le1+else-is_single w ↦ rw (booleans.of_merged c.args.strict c.args.least cs alive not_few (inr (sym (w.is_single.ensures cs a) ∙ w.if-is_single.false))) (c.put_merged_boolean.ensures cs a)
      | else-least-le1-via-else-least-le1 w ↦ rw (booleans.of_merged c.args.strict c.args.least cs alive not_few (inl (omega (arith, w.if-least-le1.false)))) (c.put_merged_boolean.ensures cs a)
    ]
