-- What reading one token answers.
use Rattle.std.specs.Prelude.{◌≡◌, Bool, cond, ◌&&◌, Option, Some, None, Result, Ok, Err, ℕ, suc, zero, ◌+◌, ◌≤◌, ◌<◌, List, length, take, drop, leb, eqb}
use Rattle.rules.specs.Numbers.{faulty, Read, got, refused, chunk_most}
use Rattle.rules.specs.Numbers as rules
use Rattle.rules.specs.Lexing.{Lexed, lexed, term_kind, and_kind, or_kind, is_bracket, is_wildcard}
use Rattle.row.specs.Row.{word_note}
use Rattle.texts.specs.Texts.{Spelled}
use Rattle.lexer.specs.declared.tokens.Step.{Step}
use Rattle.names.specs.Refusals.{coded_fault}
use Rattle.names.specs.declared.refusal.Fault.{Fault}
use Rattle.names.specs.declared.refusal.Refusal.{Refusal}

-- the note of a token: where it says that the text is a word, it is one
pub record Noted (note at next len : ℕ) (after : List ℕ) : Type 0 where
  pub few : note < 8
  pub short : note ≡ word_note → len ≤ chunk_most
  pub spelled : note ≡ word_note → Spelled at next len after

-- the answer for what is read: a refusal and its place, or the token, whose text stands in the room from `at` on, and where it ended
abbrev pub Makes : Result Step Fault → Read Lexed → List ℕ → ℕ → List ℕ → Type 0
Makes (Err e) o text at after = (f : rules.Fault) × (o ≡ refused (faulty f e.place)) × (e.refusal ≡ coded_fault f) × (e.place < length text)
Makes (Ok t) o text at after =
    (o ≡ got (lexed t.kind (take t.len (drop at after)) (drop t.next text))) × (t.next ≤ length text) × (at + t.len ≤ t.next)
    × Noted t.note at t.next t.len after

-- the note of a term of a kind and a length that is letters only, or is not
unfoldable pub note_of : ℕ → Bool → ℕ → ℕ
note_of kind word len = cond (word && (eqb kind term_kind && leb len chunk_most)) word_note 0

-- `&&` and `||`
unfoldable pub double_kind : ℕ → ℕ → Option ℕ
double_kind c d = cond (eqb c 0x26 && eqb d 0x26) (Some and_kind) (cond (eqb c 0x7c && eqb d 0x7c) (Some or_kind) None)

-- a kind of the rules, where end_kind stands for none
abbrev pub kind_some : ℕ → Option ℕ
kind_some zero = None
kind_some (suc k) = Some (suc k)

-- the refusal of a byte that begins no token
unfoldable pub bad_start : ℕ → Option Refusal
bad_start c = cond (is_bracket c) (Some (coded_fault rules.range_bracket)) (cond (is_wildcard c) (Some (coded_fault rules.wildcard)) None)
