-- Letters and gaps. Assumes nothing.
use Rattle.std.proofs.Common.{◌≡◌, ℕ, true, arith}
use Rattle.std.proofs.lemmas.Bool.Decides.{nat_tests}
use Rattle.rules.specs.Analysis.{is_letter}
use Rattle.rules.proofs.Text.Tokens.{in_word}

-- no letter splits a word
pub letter_in_word : (c : ℕ) → is_letter c ≡ true → in_word c ≡ true
letter_in_word c h = grind (arith, nat_tests)
