-- How many bytes the end may take.
use Rattle.std.specs.Prelude.{ℕ, ◌+◌}
use Rattle.text.specs.bounds.Room.{ANSWER, STATUS}

-- the unended line's answer, and the status
abbrev pub FINAL : ℕ
FINAL = ANSWER + STATUS
