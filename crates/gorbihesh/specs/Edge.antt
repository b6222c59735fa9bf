-- What an exported call leaves, by the five numbers of its answer.
use Rattle.std.specs.Prelude.{◌≡◌, ℕ, List}
use Rattle.rules.specs.Answers.{Left}

abbrev pub left : ℕ → ℕ → ℕ → ℕ → ℕ → List ℕ → List ℕ → Left
left refusal len count rounds place output room = record {
  answer = record { refusal = refusal; written = len; count = count; rounds = rounds; place = place };
  output = output;
  room = room;
}

-- an answer that tells these five numbers
abbrev pub Told : ℕ → ℕ → ℕ → ℕ → ℕ → ℕ → ℕ → ℕ → ℕ → ℕ → Type 0
Told refusal len count rounds place refusal' len' count' rounds' place' =
    (refusal' ≡ refusal) × (len' ≡ len) × (count' ≡ count) × (rounds' ≡ rounds) × (place' ≡ place)

-- the version of the calls, major, minor and patch as one number: 2.0.0
abbrev pub version : ℕ
version = 2000000
