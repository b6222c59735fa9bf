-- What the call leaves, refused or not.
use mathlib.Core.Path.{◌≡◌, refl, sym, ap, ◌∙◌}
use Prim.Native.Nat.{ℕ, ◌*◌, ◌/◌, ◌≤◌, ◌<◌}
use mathlib.Core.List.{List}
use native.Mathlib.Omega.{arith}
use lib.ListN.{length}
use lib.Dec.{leb}
use borrow.Author.Tests.{le-leb, lt-leb}
use Rattle.rules.specs.Numbers.{Refusal, number, Read, got, refused, need, and_then, short_room, long_answer, queries_most, select_all_room}
use Rattle.rules.specs.Answers.{zeros}
use Rattle.rules.specs.Batch.{read_queries, answerable, leave_all, select_all_left}
use Rattle.std.specs.Prelude.{Result, Err}
use Rattle.names.specs.Refusals.{numbered}
use Rattle.names.specs.declared.refusal.Refusal.{Refusal as Code}
use Rattle.names.proofs.Refusals.{numbered_coded}
use Rattle.batch.specs.Cut.{cut_as, queries_of, Cuts}
use Rattle.batch.specs.All.{all_left, Few, Turned}

err_code : {c d : Code} → ◌≡◌ {A = Result ℕ Code} (Err c) (Err d) → c ≡ d
err_code h = cc

-- what is tested before the first turn
abbrev gate : List ℕ → List ℕ → List ℕ → Read (List (List ℕ))
gate s answers room = need (leb select_all_room (length room)) short_room (and_then (read_queries s) (answerable (length answers)))

module _ (s answers room : List ℕ) where
  pub gate_room : length room < select_all_room → gate s answers room ≡ refused short_room
  gate_room h = rw (lt-leb select_all_room (length room) h)

  module _ (long : select_all_room ≤ length room) where
    passed : gate s answers room ≡ and_then (read_queries s) (answerable (length answers))
    passed = rw (le-leb select_all_room (length room) long)

    pub gate_cut : {r : Result ℕ Code} {c : Code} → r ≡ cut_as (read_queries s) → r ≡ Err c → (x : Refusal) × (gate s answers room ≡ refused x) × (numbered c ≡ number x)
    gate_cut {r} {c} e h = go (read_queries s) refl (sym h ∙ e)
      where
        same : (x : Refusal) → Err c ≡ cut_as (refused x) → numbered c ≡ number x
        same x k = (let e = err_code k in ap numbered e) ∙ numbered_coded x

        go : (o : Read (List (List ℕ))) → read_queries s ≡ o → Err c ≡ cut_as o → (x : Refusal) × (gate s answers room ≡ refused x) × (numbered c ≡ number x)
        go (got qs) p k = absurd (let z : ◌≡◌ {A = ℕ} 0 1 = cc in omega arith)
        go (refused x) p k = (x, passed ∙ ap (λ (o : Read (List (List ℕ))). and_then o (answerable (length answers))) p, same x k)

    module _ {many : ℕ} (C : Cuts s many) where
      cut_read : read_queries s ≡ got (queries_of s)
      unfolding read_queries
      cut_read = let c = C.count in let f = C.few in rw (C.is, le-leb (length (queries_of s)) queries_most (omega arith))

      told : gate s answers room ≡ answerable (length answers) (queries_of s)
      told = passed ∙ ap (λ (o : Read (List (List ℕ))). and_then o (answerable (length answers))) cut_read

      pub gate_long : length answers / 8 < many → gate s answers room ≡ refused long_answer
      gate_long h = let c = C.count in told ∙ rw (lt-leb (8 * length (queries_of s)) (length answers) (omega arith))

      pub gate_open : many ≤ length answers / 8 → gate s answers room ≡ got (queries_of s)
      gate_open h = let c = C.count in told ∙ rw (le-leb (8 * length (queries_of s)) (length answers) (omega arith))

module _ (s l answers rows room : List ℕ) where
  left_by : (o : Read (List (List ℕ))) → gate s answers room ≡ o → select_all_left s l answers rows room ≡ leave_all o l answers rows room
  unfolding select_all_left
  left_by o e = ap (λ (o : Read (List (List ℕ))). leave_all o l answers rows room) e

  pub refused_left : {r : Refusal} {refusal written count : ℕ} {room' : List ℕ} → gate s answers room ≡ refused r → refusal ≡ number r → written ≡ 0 → count ≡ 0
      → room' ≡ zeros room → all_left refusal written count answers rows room' ≡ select_all_left s l answers rows room
  refused_left {r} g a b c d = rw (a, b, c, d) (sym (left_by (refused r) g))

  pub turned_left : {many w : ℕ} {answers' rows' room' : List ℕ} → select_all_room ≤ length room → Cuts s many → many ≤ length answers / 8
      → Turned s many l answers rows w answers' rows' → room' ≡ zeros room → all_left 0 w many answers' rows' room' ≡ select_all_left s l answers rows room
  turned_left {many} long C h T d =
      rw (T.written, T.output, T.told, d, C.count) (sym (left_by (got (queries_of s)) (gate_open s answers room long C h)))

pub no_few : {written count : ℕ} → written ≡ 0 → count ≡ 0 → Few written count
no_few a b = record { bytes = omega arith; queries = omega arith }

pub turned_few : {s l answers rows answers' rows' : List ℕ} {many w : ℕ} → Cuts s many → Turned s many l answers rows w answers' rows' → Few w many
turned_few C T = record { bytes = (let f = C.few in let t = T.few in omega arith); queries = C.few }
