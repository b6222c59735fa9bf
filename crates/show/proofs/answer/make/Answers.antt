-- `show::answer::make` meets its contract.
use Prim.Native.Nat.{ℕ, ◌-◌}
use Rattle.names.specs.Refusals.{numbered}
use Rattle.rules.proofs.Stored.Parts as parts
use Rattle.rules.specs.Answers.{zeros}
use Rattle.show.proofs.Answering as answering
use Rattle.show.proofs.Mapped as mapped
use Rattle.names.proofs.Refusals as refusals
use Rattle.show.specs.Answer.{shown_refusal}
use Rattle.show.specs.Lines.{written_in}
use Rattle.std.proofs.lemmas.Result.{err_from_is_err_and}
use lib.ListN.{replicate}
use lib.ListN.{take, drop, length, length-replicate}
use mathlib.Core.Path.{◌≡◌, sym, ap, ◌∙◌}
use native.Mathlib.Omega.{arith}
use Rattle.show.proofs.answer.make.Goals as goal

pub slice_bounds-rewrite-end : goal.slice_bounds-rewrite-end
slice_bounds-rewrite-end c = (answering.parsed_length (written_in c.args.input.now) c.args.first.now c.args.room.now (omega (arith, c.requires.2)) (answering.parse_bytes (written_in c.args.input.now) c.args.first.now c.args.room.now (omega (arith, c.requires.2)) c.in_ok-n.n c.parse_lines.new.out c.parse_lines.new.room (mapped.at_ok _ c.parse_lines.result c.map_err.ensures.cases c.in_ok-n.was) c.parse_lines.ensures.is)).0

pub returns-in_err-n-clause-makes : goal.returns-in_err-n-clause-makes
returns-in_err-n-clause-makes c =
    let m = mapped.at_err _ c.parse_lines.result c.map_err.ensures.cases c.in_err-n.was in
    let q = err_from_is_err_and c.from_residual.result c.from_residual.ensures.1 in
    let a : numbered c.in_err-n.field-0.0.refusal ≡ shown_refusal (numbered m.0.refusal) = m.2.0 in
    let b : c.in_err-n.field-0.0.place ≡ m.0.place = m.2.1 in
    let U = answering.unparsed c.args.input.now c.args.first.now c.args.room.now (omega (arith, c.requires.2)) c.requires.0
    (answering.parse_refused (written_in c.args.input.now) c.args.first.now c.args.room.now (omega (arith, c.requires.2)) m.0 c.parse_lines.new.out c.parse_lines.new.room m.1 c.parse_lines.ensures.is) a b in
    let near = rw m.1 at c.parse_lines.ensures.near in
    rw (q.1, q.2) (answering.makes_refused U.0 U.1 (omega (arith, b, near)) c.parse_lines.new.out c.args.second.now 0 0 0 (omega arith) (omega arith) (omega arith) (omega arith) (omega arith))

pub returns-in_err-n-clause-room_after : goal.returns-in_err-n-clause-room_after
returns-in_err-n-clause-room_after c = answering.parse_room_lem (written_in c.args.input.now) c.args.first.now c.args.room.now (omega (arith, c.requires.2)) c.parse_lines.result c.parse_lines.new.out c.parse_lines.new.room c.parse_lines.ensures.is

pub returns-in_err-a-clause-makes : goal.returns-in_err-a-clause-makes
returns-in_err-a-clause-makes c = let P = answering.parse_bytes (written_in c.args.input.now) c.args.first.now c.args.room.now (omega (arith, c.requires.2)) c.in_ok-n.n c.parse_lines.new.out c.parse_lines.new.room (mapped.at_ok _ c.parse_lines.result c.map_err.ensures.cases c.in_ok-n.was) c.parse_lines.ensures.is in
    let e = answering.parsed_cut (written_in c.args.input.now) c.args.first.now c.args.room.now (omega (arith, c.requires.2)) P in
    let t = answering.parsed_there (written_in c.args.input.now) c.args.first.now c.args.room.now (omega (arith, c.requires.2)) P in
    let l = answering.parsed_length (written_in c.args.input.now) c.args.first.now c.args.room.now (omega (arith, c.requires.2)) P in
    let z = answering.parse_room_lem (written_in c.args.input.now) c.args.first.now c.args.room.now (omega (arith, c.requires.2)) c.parse_lines.result c.parse_lines.new.out c.parse_lines.new.room c.parse_lines.ensures.is in
    let k = ap length z ∙ length-replicate (length c.args.room.now) 0 in
    let m = mapped.at_err _ c.rewrite.result c.map_err-2.ensures.cases c.in_err-a.was in
    let q = err_from_is_err_and c.from_residual-in_err-a.result c.from_residual-in_err-a.ensures.1 in
    let a : c.in_err-a.field-0.0.refusal ≡ m.0 = m.2.0 in
    let b : c.in_err-a.field-0.0.place ≡ 0 = m.2.1 in
    rw (q.1, q.2) (answering.makes_none (answering.makes_rewritten c.args.input.now P.is (take (c.in_ok-n.n - 0) (drop 0 c.parse_lines.new.out)) c.args.second.now c.parse_lines.new.room e
    (omega (arith, k, c.requires.2)) c.requires.1 (answering.rewritten_refused c.rewrite.ensures m.1) (t ∙ sym e) l.0 (omega (arith, l.1, c.requires.0)) (parts.bytes_take (c.in_ok-n.n - 0) c.parse_lines.new.out (λ i. omega (arith, c.slice_known-4-1.given i)))) (refusals.numbered_some m.0) (ap numbered a) b)

pub returns-in_err-a-clause-room_after : goal.returns-in_err-a-clause-room_after
returns-in_err-a-clause-room_after c = let z = answering.parse_room_lem (written_in c.args.input.now) c.args.first.now c.args.room.now (omega (arith, c.requires.2)) c.parse_lines.result c.parse_lines.new.out c.parse_lines.new.room c.parse_lines.ensures.is in
    answering.rewrite_room_lem _ _ _ c.rewrite.ensures ∙ ap zeros z ∙ ap (λ (n : ℕ). replicate n 0) (length-replicate (length c.args.room.now) 0)

pub returns-clause-makes : goal.returns-clause-makes
returns-clause-makes c = let P = answering.parse_bytes (written_in c.args.input.now) c.args.first.now c.args.room.now (omega (arith, c.requires.2)) c.in_ok-n.n c.parse_lines.new.out c.parse_lines.new.room (mapped.at_ok _ c.parse_lines.result c.map_err.ensures.cases c.in_ok-n.was) c.parse_lines.ensures.is in
    let e = answering.parsed_cut (written_in c.args.input.now) c.args.first.now c.args.room.now (omega (arith, c.requires.2)) P in
    let t = answering.parsed_there (written_in c.args.input.now) c.args.first.now c.args.room.now (omega (arith, c.requires.2)) P in
    let l = answering.parsed_length (written_in c.args.input.now) c.args.first.now c.args.room.now (omega (arith, c.requires.2)) P in
    let z = answering.parse_room_lem (written_in c.args.input.now) c.args.first.now c.args.room.now (omega (arith, c.requires.2)) c.parse_lines.result c.parse_lines.new.out c.parse_lines.new.room c.parse_lines.ensures.is in
    let k = ap length z ∙ length-replicate (length c.args.room.now) 0 in
    answering.makes_rewritten c.args.input.now P.is (take (c.in_ok-n.n - 0) (drop 0 c.parse_lines.new.out)) c.args.second.now c.parse_lines.new.room e
    (omega (arith, k, c.requires.2)) c.requires.1 (answering.rewritten_bytes c.rewrite.ensures (mapped.at_ok _ c.rewrite.result c.map_err-2.ensures.cases c.in_ok-a.was)) (t ∙ sym e) l.0 (omega (arith, l.1, c.requires.0)) (parts.bytes_take (c.in_ok-n.n - 0) c.parse_lines.new.out (λ i. omega (arith, c.slice_known-4-1.given i)))

pub returns-clause-room_after : goal.returns-clause-room_after
returns-clause-room_after c = let z = answering.parse_room_lem (written_in c.args.input.now) c.args.first.now c.args.room.now (omega (arith, c.requires.2)) c.parse_lines.result c.parse_lines.new.out c.parse_lines.new.room c.parse_lines.ensures.is in
    answering.rewrite_room_lem _ _ _ c.rewrite.ensures ∙ ap zeros z ∙ ap (λ (n : ℕ). replicate n 0) (length-replicate (length c.args.room.now) 0)
