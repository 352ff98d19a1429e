-- How many bytes the texts may take: two digits to a byte, and a newline.
use Rattle.std.specs.Prelude.{ℕ, ◌+◌, ◌*◌}
use Rattle.difference.specs.Contribution.{CHARTS}

-- an event as an answer has 2 bytes
abbrev pub ANSWER : ℕ
ANSWER = 5

-- the status line has 6
abbrev pub STAGE : ℕ
STAGE = 13

-- a chart's line has 9
abbrev pub RUN : ℕ
RUN = 19

abbrev pub RUNS : ℕ
RUNS = CHARTS * RUN

abbrev pub STATUS : ℕ
STATUS = STAGE + RUNS
