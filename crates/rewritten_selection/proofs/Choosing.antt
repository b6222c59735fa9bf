-- From the two calls' contracts to the contract of both, and from that to demand 3.
use mathlib.Core.Path.{◌≡◌, refl, sym, ap, ◌∙◌, subst}
use mathlib.Core.Logic.{◌↔◌}
use Prim.Native.Nat.{ℕ, ◌-◌, ◌≤◌, ◌<◌}
use mathlib.Core.List.{List, ◌++◌, Memᴰ}
use mathlib.Core.Bool.{Bool, true, false}
use native.Mathlib.Omega.{arith}
use lib.ListN.{length, take, drop, length-append}
use lib.Seq.{take_at}
use lib.Dec.{leb}
use borrow.Author.Tests.{le-leb, lt-leb}
use Rattle.rules.specs.Numbers.{Refusal, Read, got, refused, need, on_read, and_then, long_answer, short_room, rewrite_room, rewriter_bytes, rewriter_depth}
use Rattle.rules.specs.Bytes.{Bytes}
use Rattle.rules.specs.Query.{Query}
use Rattle.rules.specs.Stored.{encode}
use Rattle.rules.specs.Reading.{read_for_rewriting}
use Rattle.rules.specs.Rewriting.{weight, Rewritten, rewritten, rewrite, result_of, count_of}
use Rattle.rules.specs.Lists.{Entry, read_list}
use Rattle.rules.specs.Answers.{Reply, Left as CallLeft, zeros, leave as call_leaves, fitting as reply_fitting, met as rewriter_met, call, rewritten_reply, rewrite_reply, rewrite_left, selected}
use Rattle.rules.specs.Matching.{IsChosen, RisingFrom}
use Rattle.rules.proofs.Bools.{clash}
use Rattle.rules.proofs.Stored.Refusals.{got_same, number_some}
use Rattle.rules.proofs.Stored.Sound.{read_sound}
use Rattle.rules.proofs.Choosing.Choices.{chosen_few, selection}
use Rattle.rules.proofs.Choosing.Demands.{Demand, demand}
use Rattle.rules.proofs.Rewriting.Rounds.{result_after}
use Rattle.rules.proofs.Rewriting.Bounds.{length_after}
use Rattle.rewriter.specs.Rounds.{left as rewriter_left, told as rewriter_told, Rewrites}
use Rattle.rewriter.specs.declared.rounds.Rounds.{Rounds}
use Rattle.std.specs.Prelude.{Result, Ok, Err}
use Rattle.names.specs.Refusals.{coded}
use Rattle.names.specs.declared.refusal.Refusal.{Refusal as code}
use Rattle.names.specs.declared.refusal.Refusal.TheVariants.{ShortRoom}
use Rattle.selection.specs.Select.{within, answer_of, rows_after, Selects}
use Rattle.names.proofs.Refusals.{numbered_coded}
use Rattle.selection.proofs.Exactness.{Exactly, selected_exactly}
use Rattle.rewritten_selection.specs.Choice.{held_room, Chosen, chosen_by, fitting, chosen, Left, left, leave, met, choice_left, refusal_of, count_of as counted_of, rounds_of, left_of, told, Chooses, DemandedOf, Demanded}
use Rattle.rewritten_selection.specs.declared.Choice.{Choice}

-- ---- what is held is never too short for a rewritten query

fits_held : (r : Rewritten) (n : ℕ) → length (encode (result_of r)) ≤ n → reply_fitting n (rewritten_reply r) ≡ got (rewritten_reply r)
fits_held (rewritten q k) n h = rw (le-leb (length (encode q)) n h)

reply_fits : (strict : Bool) (s : List ℕ) → Bytes s → (n : ℕ) → held_room ≤ n → and_then (rewrite_reply strict s) (reply_fitting n) ≡ rewrite_reply strict s
unfolding rewrite_reply
reply_fits strict s B n h = go (read_for_rewriting s) refl
  where
    go : (o : Read Query) → read_for_rewriting s ≡ o
        → and_then (on_read (λ q. rewritten_reply (rewrite strict q)) o) (reply_fitting n) ≡ on_read (λ q. rewritten_reply (rewrite strict q)) o
    go (refused r) e = refl
    go (got q) e =
        let S = read_sound rewriter_bytes rewriter_depth s q B e in
        let short : length (encode q) ≤ rewriter_bytes = rw S.1.form S.0 in
        let k = ap (λ (p : Query). length (encode p)) (result_after strict (weight q) q) in
        fits_held (rewrite strict q) n (omega (arith, length_after strict q (count_of (rewrite strict q)) short))

-- ---- the answer

-- the whole answer by the second call's, and the rounds
abbrev pub chosen_as : Result ℕ code → ℕ → Result Choice code
chosen_as (Err e) made = Err e
chosen_as (Ok n) made = Ok (record { count = n; rounds = made })

-- o is what the second call read, r its answer and rows' its rows
record Selected (o : Read (List ℕ)) (rows rows' : List ℕ) (r : Result ℕ code) : Type 0 where
  answer : r ≡ answer_of (within (length rows) o)
  rows_left : rows' ≡ rows_after (within (length rows) o) rows

abbrev Both : List ℕ → List ℕ → List ℕ → ℕ → Result ℕ code → List ℕ → Read Chosen → Type 0
Both rows held room k r rows' c = (chosen_as r k ≡ told c) × (left_of (chosen_as r k) rows' (zeros held) (zeros room) ≡ leave c rows held room)

chooses : (rows held room : List ℕ) {rows' room' : List ℕ} {r : Result ℕ code} {made k : ℕ} (o : Read (List ℕ)) → Selected o rows rows' r → made ≡ k → room' ≡ zeros room
    → (chosen_as r made ≡ told (and_then (on_read (λ ns. record { rows = ns; rounds = k }) o) (fitting (length rows))))
    × (left_of (chosen_as r made) rows' (zeros held) room' ≡ leave (and_then (on_read (λ ns. record { rows = ns; rounds = k }) o) (fitting (length rows))) rows held room)
chooses rows held room {k = k} o C f g = rw (C.answer, C.rows_left, f, g) (go o)
  where
    fit : (ns : List ℕ) (b : Bool)
        → Both rows held room k (answer_of (need b long_answer (got ns))) (rows_after (need b long_answer (got ns)) rows) (need b long_answer (got (record { rows = ns; rounds = k })))
    fit ns true = (refl, refl)
    fit ns false = (refl, refl)

    go : (o : Read (List ℕ))
        → Both rows held room k (answer_of (within (length rows) o)) (rows_after (within (length rows) o) rows) (and_then (on_read (λ ns. record { rows = ns; rounds = k }) o) (fitting (length rows)))
    go (refused r) = (refl, ap (λ (n : ℕ). left n 0 0 rows (zeros held) (zeros room)) (numbered_coded r))
    go (got ns) = fit ns (leb (length ns) (length rows))

module _ (strict : Bool) (s l rows held room : List ℕ) where
  abbrev Gives : Result Choice code → List ℕ → List ℕ → Type 0
  Gives r rows' room' = Chooses strict s l rows held room r rows' (zeros held) room'

  pub short_held : length held < held_room → Gives (Err ShortRoom) rows (zeros room)
  unfolding choice_left
  short_held h = record { answer = rw (lt-leb held_room (length held) h); is = rw (lt-leb held_room (length held) h) }

  module _ (B : Bytes s) (h : held_room ≤ length held) where
    -- what the rewriter reads and writes, 32 included
    replied : Read Reply
    replied = need (leb rewrite_room (length room)) short_room (rewrite_reply strict s)

    rewriter_replies : rewriter_met rewrite_room (rewrite_reply strict s) held room ≡ replied
    unfolding replied
    rewriter_replies = rw (reply_fits strict s B (length held) h)

    rewriter_leaves : rewrite_left strict s held room ≡ call_leaves replied held room
    unfolding rewrite_left call
    rewriter_leaves = ap (λ (o : Read Reply). call_leaves o held room) rewriter_replies

    -- what becomes of a reply
    of_reply : Read Reply → Read Chosen
    of_reply o = and_then (and_then o (chosen_by l)) (fitting (length rows))

    met_is : met strict s l rows held room ≡ of_reply replied
    unfolding replied of_reply
    met_is = rw (le-leb held_room (length held) h) (go (leb rewrite_room (length room)))
      where
        go : (b : Bool) → need b short_room (chosen strict s l (length rows)) ≡ and_then (and_then (need b short_room (rewrite_reply strict s)) (chosen_by l)) (fitting (length rows))
        go true = refl
        go false = refl

    gives : {r : Result Choice code} {rows' room' : List ℕ} (o : Read Chosen) → met strict s l rows held room ≡ o → r ≡ told o
        → left_of r rows' (zeros held) room' ≡ leave o rows held room → Gives r rows' room'
    unfolding choice_left
    gives o e f g = record { answer = f ∙ ap told (sym e); is = g ∙ ap (λ (x : Read Chosen). leave x rows held room) (sym e) }

    module _ {r : Result Rounds code} {held' room' : List ℕ} (R : Rewrites strict s held room r held' room') where
      leaves : {x : Result Rounds code} → r ≡ x → rewriter_left x held' room' ≡ call_leaves replied held room
      leaves e = ap (λ (x : Result Rounds code). rewriter_left x held' room') (sym e) ∙ R.is ∙ rewriter_leaves

      pub refused_query : (e : code) → r ≡ Err e → Gives (Err e) rows room'
      unfolding of_reply
      refused_query e er = go replied refl (sym er ∙ R.answer ∙ ap rewriter_told rewriter_replies) (leaves er)
        where
          go : (o : Read Reply) → replied ≡ o → Err e ≡ rewriter_told o → rewriter_left (Err e) held' room' ≡ call_leaves o held room → Gives (Err e) rows room'
          go (got a) p f g = absurd (cc)
          go (refused x) p f g =
              let k : e ≡ coded x = cc in
              let z : room' ≡ zeros room = ap (λ (y : CallLeft). y.room) g in
              gives (refused x) (met_is ∙ ap of_reply p) (rw k) (rw (k, z, numbered_coded x))

      module _ (a : Rounds) (ea : r ≡ Ok a) where
        -- the rewriter's reply, as it stands in what is held
        record Written : Type 0 where
          reply : Reply
          is : replied ≡ got reply
          long : a.len ≡ length reply.bytes
          counted : a.rounds ≡ reply.rounds
          here : take a.len held' ≡ reply.bytes
          fits : a.len ≤ length held'
          cleared : room' ≡ zeros room

        written : Written
        written = go replied refl (leaves ea)
          where
            go : (o : Read Reply) → replied ≡ o → rewriter_left (Ok a) held' room' ≡ call_leaves o held room → Written
            go (got b) p e =
                let n : a.len ≡ length b.bytes = ap (λ (x : CallLeft). x.answer.written) e in
                let o : held' ≡ b.bytes ++ drop (length b.bytes) held = ap (λ (x : CallLeft). x.output) e in
                record {
                  reply = b;
                  is = p;
                  long = n;
                  counted = ap (λ (x : CallLeft). x.answer.rounds) e;
                  here = ap (take a.len) o ∙ take_at b.bytes (drop (length b.bytes) held) a.len (sym n);
                  fits = omega (arith, ap length o, length-append b.bytes (drop (length b.bytes) held));
                  cleared = ap (λ (x : CallLeft). x.room) e;
                }
            go (refused x) p e = absurd (number_some x (sym (ap (λ (y : CallLeft). y.answer.refusal) e)))

        pub held_long : a.len ≤ length held'
        held_long = written.fits

        -- the choice of the second call, with the rounds of the first
        pub selects : {rows' : List ℕ} {c : Result ℕ code} → Selects (take (a.len - 0) (drop 0 held')) l rows rows' c → Gives (chosen_as c a.rounds) rows' room'
        unfolding of_reply
        selects {rows'} {c} S =
            let W = written in
            let n : a.len - 0 ≡ a.len = omega arith in
            let here : take (a.len - 0) (drop 0 held') ≡ W.reply.bytes = ap (λ (k : ℕ). take k held') n ∙ W.here in
            let D = chooses rows held room (selected W.reply.bytes l)
            (subst (λ (t : List ℕ). Selected (selected t l) rows rows' c) here (record { answer = S.answer; rows_left = S.rows })) W.counted W.cleared in
            gives (and_then (chosen_by l W.reply) (fitting (length rows))) (met_is ∙ ap of_reply W.is) D.0 D.1

-- the rows that were written
rows_are : (rows held room : List ℕ) {refusal count rounds k : ℕ} {rows' held' room' : List ℕ} (ns : List ℕ)
    → left refusal count rounds rows' held' room' ≡ leave (got (record { rows = ns; rounds = k })) rows held room → ns ≡ take count rows'
rows_are rows held room {count = count} ns e =
    sym (ap (take count) (ap (λ (x : Left). x.rows) e) ∙ take_at ns (drop (length ns) rows) count (sym (ap (λ (x : Left). x.count) e)))

-- ---- at every minimum: what is listed by the query as it was rewritten

pub record Rewrote (strict : Bool) (s l rows : List ℕ) (rounds : ℕ) : Type 0 where
  pub reply : Reply
  pub is_rewritten_lem : rewrite_reply strict s ≡ got reply
  pub counted : rounds ≡ reply.rounds
  pub exactly : Exactly reply.bytes l rows

module _ (strict : Bool) (s l rows held room : List ℕ) {count rounds : ℕ} {rows' held' room' : List ℕ} where
  not_zero : {A : Type 0} (r : Refusal) → left 0 count rounds rows' held' room' ≡ leave (refused r) rows held room → A
  not_zero r e = absurd (number_some r (sym (ap (λ (x : Left). x.refusal) e)))

  pub rewrote : left 0 count rounds rows' held' room' ≡ choice_left strict s l rows held room → Rewrote strict s l (take count rows') rounds
  unfolding choice_left
  rewrote E = tests (leb held_room (length held)) (leb rewrite_room (length room)) E
    where
      fits : (a : Reply) (ns : List ℕ) → rewrite_reply strict s ≡ got a → selected a.bytes l ≡ got ns → (b : Bool)
          → left 0 count rounds rows' held' room' ≡ leave (need b long_answer (got (record { rows = ns; rounds = a.rounds }))) rows held room
          → Rewrote strict s l (take count rows') rounds
      fits a ns p q false e = not_zero long_answer e
      fits a ns p q true e = record {
        reply = a;
        is_rewritten_lem = p;
        counted = ap (λ (x : Left). x.rounds) e;
        exactly = subst (Exactly a.bytes l) (rows_are rows held room ns e) (selected_exactly a.bytes l ns q);
      }

      lists : (a : Reply) → rewrite_reply strict s ≡ got a → (o : Read (List ℕ)) → selected a.bytes l ≡ o
          → left 0 count rounds rows' held' room' ≡ leave (and_then (on_read (λ ns. record { rows = ns; rounds = a.rounds }) o) (fitting (length rows))) rows held room
          → Rewrote strict s l (take count rows') rounds
      lists a p (refused r) q e = not_zero r e
      lists a p (got ns) q e = fits a ns p q (leb (length ns) (length rows)) e

      reads : (o : Read Reply) → rewrite_reply strict s ≡ o
          → left 0 count rounds rows' held' room' ≡ leave (and_then (and_then o (chosen_by l)) (fitting (length rows))) rows held room
          → Rewrote strict s l (take count rows') rounds
      reads (refused r) p e = not_zero r e
      reads (got a) p e = lists a p (selected a.bytes l) refl e

      tests : (a b : Bool) → left 0 count rounds rows' held' room' ≡ leave (need a short_room (need b short_room (chosen strict s l (length rows)))) rows held room
          → Rewrote strict s l (take count rows') rounds
      tests false b e = not_zero short_room e
      tests true false e = not_zero short_room e
      tests true true e = reads (rewrite_reply strict s) refl e

-- ---- demand 3 of the answer

module _ (strict : Bool) (s l rows held room : List ℕ) (B : Bytes s) {refusal count rounds : ℕ} {rows' held' room' : List ℕ}
    (E : left refusal count rounds rows' held' room' ≡ choice_left strict s l rows held room) where
  module _ (q : Query) (rs : List (List Entry)) (D : Demand strict s l q rs) (list : read_list l ≡ got rs) where
    choice : Chosen
    choice = record { rows = D.rows; rounds = D.reply.rounds }

    tested : Bool → Bool → Bool → Read Chosen
    tested a b c = need a short_room (need b short_room (need c long_answer (got choice)))

    by_tests : left refusal count rounds rows' held' room'
        ≡ leave (tested (leb held_room (length held)) (leb rewrite_room (length room)) (leb (length D.rows) (length rows))) rows held room
    unfolding choice_left tested choice
    by_tests = E ∙ rw (D.is_rewritten_lem, D.is_selected)

    -- no more records are chosen than there are
    few_rows : length D.rows ≤ length rs
    few_rows =
        let S = selection D.reply.bytes l D.rows D.is_selected in
        let same : S.records ≡ rs = got_same (sym S.list_read ∙ list) in
        omega (arith, ap length S.listed, chosen_few S.query 0 S.records, ap length same)

    not_taken : (n : ℕ) → left refusal count rounds rows' held' room' ≡ left n 0 0 rows (zeros held) (zeros room) → (n ≡ 0 → ⊥)
        → (held_room ≤ length held → rewrite_room ≤ length room → length rs ≤ length rows → ⊥) → DemandedOf q rs rows held room refusal count rounds rows'
    not_taken n e h f =
        let r : refusal ≡ n = ap (λ (x : Left). x.refusal) e in
        record {
          few = let k = ap (λ (x : Left). x.rounds) e in omega arith;
          these = λ z. absurd (h (sym r ∙ z));
          in_order = λ z. absurd (h (sym r ∙ z));
          taken = λ a b c. absurd (f a b c);
        }

    all_taken : left refusal count rounds rows' held' room' ≡ leave (got choice) rows held room → DemandedOf q rs rows held room refusal count rounds rows'
    unfolding choice
    all_taken e =
        let w : D.rows ≡ take count rows' = rows_are rows held room D.rows e in
        record {
          few = let k = ap (λ (x : Left). x.rounds) e in omega (arith, D.few);
          these = λ z k. subst (λ (ns : List ℕ). Memᴰ k ns ↔ IsChosen q rs k) w (D.these k);
          in_order = λ z. subst (RisingFrom 0) w D.in_order;
          taken = λ a b c. ap (λ (x : Left). x.refusal) e;
        }

    by_cases : (a b c : Bool) → (held_room ≤ length held → a ≡ true) → (rewrite_room ≤ length room → b ≡ true) → (length rs ≤ length rows → c ≡ true)
        → left refusal count rounds rows' held' room' ≡ leave (tested a b c) rows held room → DemandedOf q rs rows held room refusal count rounds rows'
    unfolding tested
    by_cases true true true f g h e = all_taken e
    by_cases true true false f g h e = not_taken 18 e (λ z. omega arith) (λ i j k. clash (h k) refl)
    by_cases true false c f g h e = not_taken 32 e (λ z. omega arith) (λ i j k. clash (g j) refl)
    by_cases false b c f g h e = not_taken 32 e (λ z. omega arith) (λ i j k. clash (f i) refl)

    demanded_of : DemandedOf q rs rows held room refusal count rounds rows'
    demanded_of =
        by_cases (leb held_room (length held)) (leb rewrite_room (length room)) (leb (length D.rows) (length rows))
        (le-leb held_room (length held)) (le-leb rewrite_room (length room)) (λ k. le-leb (length D.rows) (length rows) (omega (arith, few_rows))) by_tests

  -- whatever the answer is, if it is the definition's
  pub demanded : Demanded strict s l rows held room refusal count rounds rows'
  unfolding Demanded
  demanded q rs read small list = demanded_of q rs (demand s B q read strict small l rs list) list

pub demanded_of_answer : {strict : Bool} {s l rows held room : List ℕ} {r : Result Choice code} {rows' held' room' : List ℕ} → Bytes s → Chooses strict s l rows held room r rows' held' room'
    → Demanded strict s l rows held room (refusal_of r) (counted_of r) (rounds_of r) rows'
demanded_of_answer {strict} {s} {l} {rows} {held} {room} B C = demanded strict s l rows held room B C.is
