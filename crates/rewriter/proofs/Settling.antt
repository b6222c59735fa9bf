-- The rounds: each is counted, and the last one changes nothing. And the call's answer.
use mathlib.Core.Path.{◌≡◌, refl, sym, ap, ◌∙◌}
use mathlib.Core.Logic.{◌⊎◌, inl, inr}
use Prim.Native.Nat.{ℕ, suc, ◌+◌, ◌-◌, ◌≤◌, ◌<◌}
use mathlib.Core.List.{List, ◌++◌}
use mathlib.Core.Bool.{Bool}
use native.Mathlib.Omega.{arith}
use lib.ListN.{length, take, drop, length-drop}
use borrow.Author.Tests.{le-leb, lt-leb}
use Rattle.rules.specs.Numbers.{Refusal, long_text, not_ascii, bad_setup, faulty, long_answer, long_query, malformed_query, deep_query, long_list, malformed_list, many_queries, short_room, Fault, open_quote, nothing_escaped, range_bracket, wildcard, fuzzy_term, sloppy_phrase, unexpected_end, unexpected_token, open_bracket, bad_numeral, no_numeral, long_field, many_brackets, long_numeral, fault_number, number, Read, got, refused, rewrite_room, rewriter_bytes, rewriter_depth}
use Rattle.names.specs.Refusals.{coded_fault, coded, numbered, checked}
use Rattle.names.specs.declared.refusal.Refusal.{Refusal as code}
use Rattle.names.specs.declared.refusal.Refusal.TheVariants.{ShortRoom, LongAnswer}
use Rattle.rules.specs.Bytes.{Bytes}
use Rattle.rules.specs.Query.{Query}
use Rattle.rules.specs.Stored.{encode, Valid}
use Rattle.rules.specs.Checked.{Is, Stored}
use Rattle.rules.specs.Reading.{read_for_rewriting}
use Rattle.rules.specs.Rewriting.{weight, rewrite_once, Rewritten, rewritten, one_round_more, rewrite, bulk, result_of, count_of}
use Rattle.rules.specs.Answers.{zeros, call, rewritten_reply, rewrite_reply, rewrite_left}
use Rattle.rules.proofs.Stored.Sound.{read_sound}
use Rattle.rules.proofs.Stored.Parts.{cut_from}
use Rattle.rules.proofs.Stored.Sizes.{length_encode}
use Rattle.rules.proofs.Rewriting.Measures.{bulk_is, measured, weight_length}
use Rattle.rules.proofs.Rewriting.Weights.{valid_once, one_weight, once_lighter, last, more as more-made, made, rewrite_is}
use Rattle.numbers.specs.Laid.{laid, Put}
use Rattle.numbers.proofs.Laying.{laid_front}
use Rattle.places.specs.Within.{within, Stands}
use Rattle.measures.specs.Measure.{Weighs}
use Rattle.round.specs.Once.{Room}
use Rattle.std.specs.Prelude.{Result, Ok, Err}
use Rattle.rewriter.specs.Rounds.{Settled, Rewrites}
use Rattle.rewriter.specs.declared.rounds.Rounds.{Rounds}
use Rattle.places.proofs.Standing.{within_length, stands_put}
use Rattle.merging.proofs.Forms.{is_same_lem}
use Rattle.round.proofs.Finishing.{moved}
use Rattle.round.proofs.Nested.{once_bulk}
use Rattle.names.proofs.Refusals.{numbered_coded}

-- ---- counted rounds

abbrev more : ℕ → Rewritten → Rewritten
more k (rewritten q n) = rewritten q (k + n)

more_none : (r : Rewritten) → more 0 r ≡ r
more_none (rewritten q n) = let z : 0 + n ≡ n = omega arith in ap (rewritten q) z

more_one : (k : ℕ) (r : Rewritten) → more k (one_round_more r) ≡ more (k + 1) r
more_one k (rewritten q n) = let z : k + suc n ≡ k + 1 + n = omega arith in ap (rewritten q) z

-- ---- one round more

module _ (strict : Bool) (q : Query) (v : Valid q) where
  once_last : weight (rewrite_once strict q) ≡ weight q → rewrite_once strict q ≡ q
  once_last e = go (once_lighter strict q v)
    where
      go : (rewrite_once strict q ≡ q) ⊎ (weight (rewrite_once strict q) < weight q) → rewrite_once strict q ≡ q
      go (inl s) = s
      go (inr l) = absurd (omega arith)

  once_less : (weight (rewrite_once strict q) ≡ weight q → ⊥) → weight (rewrite_once strict q) < weight q
  once_less n = go (once_lighter strict q v)
    where
      go : (rewrite_once strict q ≡ q) ⊎ (weight (rewrite_once strict q) < weight q) → weight (rewrite_once strict q) < weight q
      go (inl s) = absurd (n (ap weight s))
      go (inr l) = l

  rewrite_last : weight (rewrite_once strict q) ≡ weight q → rewrite strict q ≡ rewritten (rewrite_once strict q) 1
  rewrite_last e = rewrite_is strict q v (rewritten (rewrite_once strict q) 1) (last (once_last e))

  rewrite_more : (weight (rewrite_once strict q) ≡ weight q → ⊥) → rewrite strict q ≡ one_round_more (rewrite strict (rewrite_once strict q))
  rewrite_more n =
      rewrite_is strict q v (one_round_more (rewrite strict (rewrite_once strict q)))
      (more-made (λ s. n (ap weight s)) (made strict (weight (rewrite_once strict q)) (rewrite_once strict q) (valid_once strict q v) (omega arith)))

-- after `count` rounds the query now stands from t on, and weighs `left`
pub record Settling (strict : Bool) (at : ℕ) (room₀ room : List ℕ) (t count left : ℕ) : Type 0 where
  pub all : Room at room₀
  pub now : Query
  pub is : Is (drop t room) now
  pub long : length room ≡ length room₀
  pub same : rewrite strict all.query ≡ more count (rewrite strict now)
  pub weighs : left ≡ weight now
  pub few : count + left ≤ length room
  pub fits : bulk now ≤ length room
  pub small : bulk now < 65536

-- a query that stands up to the end of the room
module _ (t : ℕ) (room : List ℕ) {q : Query} (i : Is (drop t room) q) where
  tail_long : (length (encode q) ≡ length room - t) × (t + 3 ≤ length room)
  tail_long = omega (arith, ap length i.form, length-drop t room, length_encode q)

module _ {at : ℕ} {room : List ℕ} (R : Room at room) where
  pub at_low : at + 3 ≤ length room
  at_low = (tail_long at room R.is).1

  bulk_fits : bulk R.query ≤ length room
  bulk_fits = omega (arith, tail_long at room R.is, bulk_is R.query, R.fits)

  -- the whole of what is weighed first
  first_is : Is (within at (length room) room) R.query
  first_is = record { valid = R.is.valid; form = R.is.form ∙ sym (cut_from at room) }

  pub first_stored : Stored (within at (length room) room)
  first_stored = record { query = R.query; is = first_is }

  pub settling_start : (strict : Bool) (w : ℕ) → Weighs (within at (length room) room) w → Settling strict at room room at 0 w
  settling_start strict w s =
      let e = s.weighs R.query first_is in
      let l = tail_long at room R.is in
      record {
        all = R;
        now = R.query;
        is = R.is;
        long = refl;
        same = sym (more_none (rewrite strict R.query));
        weighs = e;
        few = omega (arith, weight_length R.query);
        fits = bulk_fits;
        small = R.small;
      }

module _ {strict : Bool} {at : ℕ} {room₀ room : List ℕ} {t count left : ℕ} (g : Settling strict at room₀ room t count left) where
  pub round_room : Room t room
  round_room = record { query = g.now; is = g.is; fits = omega (arith, tail_long t room g.is, bulk_is g.now, g.fits); small = g.small }

  pub one_left : 1 ≤ left
  one_left = omega (arith, g.weighs, one_weight g.now)

  module _ (m : ℕ) (room₁ : List ℕ) (rounds : (q : Query) → Is (drop t room) q → Stands 0 room m (encode (rewrite_once strict q)) room₁) where
    S : Stands 0 room m (encode (rewrite_once strict g.now)) room₁
    S = rounds g.now g.is

    pub round_fits : (m ≤ length room₁) × (length room₁ ≡ length room)
    round_fits = omega (arith, S.size, S.long, once_bulk strict g.now, g.fits)

    front_is : Is (within 0 m room₁) (rewrite_once strict g.now)
    front_is =
        let z : m - 0 ≡ m = omega arith in
        record { valid = valid_once strict g.now g.is.valid; form = sym (ap (λ (k : ℕ). take k (drop 0 room₁)) z ∙ S.there) }

    pub round_stored : Stored (within 0 m room₁)
    round_stored = record { query = rewrite_once strict g.now; is = front_is }

    module _ (w : ℕ) (W : Weighs (within 0 m room₁) w) where
      weighs_now : w ≡ weight (rewrite_once strict g.now)
      weighs_now = W.weighs (rewrite_once strict g.now) front_is

      pub round_last : w ≡ left → (q : Query) → Is (drop at room₀) q → Settled (result_of (rewrite strict q)) (count_of (rewrite strict q)) m (count + 1) room₁
      round_last e q i =
          let st = rewrite_last strict g.now g.is.valid (sym weighs_now ∙ e ∙ g.weighs) in
          let r : rewrite strict q ≡ rewritten (rewrite_once strict g.now) (count + 1) = ap (rewrite strict) (is_same_lem i g.all.is) ∙ g.same ∙ ap (more count) st in
          record {
            low = round_fits.0;
            here = sym front_is.form ∙ ap (λ (x : Rewritten). encode (result_of x)) (sym r);
            rounds = sym (ap count_of r);
          }

      module _ (n : w ≡ left → ⊥) where
        differs : weight (rewrite_once strict g.now) ≡ weight g.now → ⊥
        differs e = n (weighs_now ∙ e ∙ sym g.weighs)

        pub lighter : w < left
        lighter = omega (arith, once_less strict g.now g.is.valid differs, weighs_now, g.weighs)

        pub round_next : {x : ℕ} {room₂ : List ℕ} → Put room₁ (length room₁ - m) (take m (drop 0 room₁)) x room₂ → Settling strict at room₀ room₂ (length room₁ - m) (count + 1) w
        round_next {x} {room₂} P =
            let f = round_fits in
            let o = once_bulk strict g.now in
            let l = lighter in
            let T = moved 0 m P S.there (omega arith) (omega arith) in
            let k = T.long in
            let z : length room₂ - (length room₁ - m) ≡ m = omega arith in
            record {
              all = g.all;
              now = rewrite_once strict g.now;
              is = record {
                valid = front_is.valid;
                form = sym (sym (cut_from (length room₁ - m) room₂) ∙ ap (λ (i : ℕ). take i (drop (length room₁ - m) room₂)) z ∙ T.there);
              };
              long = T.long ∙ S.long ∙ g.long;
              same = g.same ∙ ap (more count) (rewrite_more strict g.now g.is.valid differs) ∙ more_one count (rewrite strict (rewrite_once strict g.now));
              weighs = weighs_now;
              few = omega (arith, g.few);
              fits = omega (arith, g.fits);
              small = omega (arith, g.small);
            }

-- ---- the call

is_read : {A : Type 0} (o : Read A) → Ok tt ≡ checked o → (a : A) × (o ≡ got a)
is_read (got a) e = (a, refl)
is_read (refused r) e = absurd (cc)

ok_of : (a : Rounds) (n k : ℕ) → a.len ≡ n → a.rounds ≡ k → let T : Result Rounds code → Result Rounds code → Type 0 = λ x y. x ≡ y in T (Ok a) (Ok (record { len = n; rounds = k }))
ok_of a n k e f = λ i. Ok (record { len = e i; rounds = f i })

module _ (strict : Bool) (s out room : List ℕ) where
  abbrev Gives : Result Rounds code → List ℕ → Type 0
  Gives r out' = Rewrites strict s out room r out' (zeros room)

  pub short_room_lem : length room < rewrite_room → Gives (Err ShortRoom) out
  unfolding rewrite_left call
  short_room_lem h = record { answer = rw (lt-leb rewrite_room (length room) h); is = rw (lt-leb rewrite_room (length room) h) }

  module _ (h : rewrite_room ≤ length room) where
    pub refused_left : (e : code) → Err e ≡ checked (read_for_rewriting s) → Gives (Err e) out
    unfolding rewrite_left call rewrite_reply
    refused_left e E = go (read_for_rewriting s) refl E
      where
        go : (o : Read Query) → read_for_rewriting s ≡ o → Err e ≡ checked o → Gives (Err e) out
        go (got q) eo E = absurd (cc)
        go (refused x) eo E =
            let k : e ≡ coded x = cc in
            record { answer = rw (le-leb rewrite_room (length room) h, eo, k); is = rw (le-leb rewrite_room (length room) h, eo, k, numbered_coded x) }

    module _ (B : Bytes s) (e : Ok tt ≡ checked (read_for_rewriting s)) where
      read : (q : Query) × (read_for_rewriting s ≡ got q)
      read = is_read (read_for_rewriting s) e

      pub query : Query
      query = read.0

      pub is_query_lem : Is s query
      unfolding query
      is_query_lem = let R = (read_sound rewriter_bytes rewriter_depth s read.0 B read.1).1 in record { valid = R.valid; form = R.form }

      sizes : (length s ≤ rewriter_bytes) × (bulk query ≤ rewrite_room) × (bulk query < 65536)
      unfolding query
      sizes =
          let l = (read_sound rewriter_bytes rewriter_depth s read.0 B read.1).0 in
          omega (arith, measured query, bulk_is query, ap length is_query_lem.form)

      pub room_for : (length s ≤ length room) × (length room - length s + length s ≤ length room)
      room_for = let z = sizes in omega arith

      -- where the query was laid
      module _ {p : ℕ} {room₁ : List ℕ} (P : Put room (length room - length s) s p room₁) where
        pub is_there_lem : Is (drop (length room - length s) room₁) query
        is_there_lem =
            let f = room_for in
            let a = length room - length s in
            let S = stands_put P (length s) refl f.1 in
            let l = S.long in
            let z : length room₁ - (length room - length s) ≡ length s = omega arith in
            record { valid = is_query_lem.valid; form = is_query_lem.form ∙ sym (sym (cut_from a room₁) ∙ ap (λ (k : ℕ). take k (drop a room₁)) z ∙ S.there) }

        pub ready : Room (length room - length s) room₁
        ready =
            let f = sizes in
            record { query = query; is = is_there_lem; fits = omega (arith, bulk_is query, ap length is_query_lem.form, room_for); small = f.2 }

        module _ (a : Rounds) {room₂ : List ℕ}
            (settled : (q : Query) → Is (drop (length room - length s) room₁) q → Settled (result_of (rewrite strict q)) (count_of (rewrite strict q)) a.len a.rounds room₂) where
          result : Settled (result_of (rewrite strict query)) (count_of (rewrite strict query)) a.len a.rounds room₂
          result = settled query is_there_lem

          pub settled_low : (a.len ≤ length room₂) × (length (within 0 a.len room₂) ≡ a.len)
          settled_low =
              let z : a.len - 0 ≡ a.len = omega arith in
              (result.low, within_length room₂ 0 a.len (omega arith) result.low ∙ z)

          answer : rewrite_reply strict s ≡ got (rewritten_reply (rewrite strict query))
          unfolding rewrite_reply query
          answer = rw read.1

          long_is : length (encode (result_of (rewrite strict query))) ≡ a.len
          long_is = sym (ap length result.here) ∙ settled_low.1

          pub long_left : length out < a.len → Gives (Err LongAnswer) out
          unfolding rewrite_left call
          long_left l = go (rewrite strict query) long_is answer
            where
              go : (w : Rewritten) → length (encode (result_of w)) ≡ a.len → rewrite_reply strict s ≡ got (rewritten_reply w) → Gives (Err LongAnswer) out
              go (rewritten q j) e r =
                  let f = lt-leb (length (encode q)) (length out) (omega arith) in
                  record { answer = rw (le-leb rewrite_room (length room) h, r, f); is = rw (le-leb rewrite_room (length room) h, r, f) }

          pub got_left : a.len ≤ length out → (p : ℕ) (out' : List ℕ) → Put out 0 (within 0 a.len room₂) p out' → Gives (Ok a) out'
          unfolding rewrite_left call
          got_left l p out' P = go (rewrite strict query) result.here result.rounds long_is answer
            where
              go : (w : Rewritten) → within 0 a.len room₂ ≡ encode (result_of w) → a.rounds ≡ count_of w → length (encode (result_of w)) ≡ a.len
                  → rewrite_reply strict s ≡ got (rewritten_reply w) → Gives (Ok a) out'
              go (rewritten q j) e c n r =
                  let o : out' ≡ encode q ++ drop (length (encode q)) out = P.bytes ∙ ap (laid out 0) e ∙ laid_front out (encode q) in
                  let f = le-leb (length (encode q)) (length out) (omega arith) in
                  record {
                    answer = rw (le-leb rewrite_room (length room) h, r, f) (ok_of a (length (encode q)) j (sym n) c);
                    is = rw (le-leb rewrite_room (length room) h, r, f, o, c, n);
                  }
