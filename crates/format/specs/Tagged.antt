-- Document 01, "The line", and document 02, request One: a tag byte, and the number that the bytes after it make. `number_at` says what number stands at a place.
use Rattle.std.specs.Prelude.{ℕ, ◌+◌, List}
use Rattle.digits.specs.Numbers.{one_at}
use Rattle.field.specs.declared.Tagged.{Tagged}

abbrev pub tagged_at : {Number : Type 0} → (List ℕ → ℕ → Number) → List ℕ → ℕ → Tagged Number
tagged_at number_at bytes i = record { tag = one_at bytes i; number = number_at bytes (i + 1) }
