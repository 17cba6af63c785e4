-- What a writer of answers has gathered.
use Rattle.std.specs.Prelude.{◌≡◌, ℕ, ◌+◌, ◌<◌, ◌≤◌, List, length, take, ◌++◌}
use Rattle.lvs_cases.specs.declared.output.AnswerWriter.{AnswerWriter}

-- the bytes that are not written yet
abbrev pub waiting : {W : Type 0} → AnswerWriter W → List ℕ
waiting w = take w.used w.gathered

-- what has room is gathered behind what waits, and nothing is written; else it alone waits, unless it is longer than all room
abbrev pub Gathers : {W : Type 0} → AnswerWriter W → List ℕ → AnswerWriter W → Type 0
Gathers old text new =
    (old.used + length text ≤ 65536 → (waiting new ≡ waiting old ++ text) × (new.to ≡ old.to))
    × (65536 < old.used + length text → length text ≤ 65536 → waiting new ≡ text)
