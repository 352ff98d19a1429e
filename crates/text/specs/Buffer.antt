-- A buffer that was written to.
use Rattle.std.specs.Prelude.{ℕ, ◌+◌, ◌≡◌, Bool, cond, List, ◌++◌, leb, length, take, drop}

-- the buffer with a text in place of what stood from `at` on; all else is as it was
abbrev pub with_text : List ℕ → ℕ → List ℕ → List ℕ
with_text buffer at text = take at buffer ++ text ++ drop (at + length text) buffer

-- what stood from `at` on is as it was
abbrev pub SameFrom : ℕ → List ℕ → List ℕ → Type 0
SameFrom at entry exit = drop at exit ≡ drop at entry

-- a buffer of `room` bytes has `size` of them from `at` on
abbrev pub room_from : ℕ → ℕ → ℕ → Bool
room_from size room at = leb (at + size) room

-- A text that may take `size` bytes, put from `at` on, and the place after it. Where there is no room the buffer is as it was and the place is `at`.
unfoldable pub put_text : ℕ → List ℕ → ℕ → List ℕ → List ℕ
put_text size buffer at text = cond (room_from size (length buffer) at) (with_text buffer at text) buffer

unfoldable pub put_place : ℕ → List ℕ → ℕ → List ℕ → ℕ
put_place size buffer at text = cond (room_from size (length buffer) at) (at + length text) at
