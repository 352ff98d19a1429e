-- `read_digits` meets its contract: where all characters are digits, the words' bytes and the tail's are put.
use Rattle.std.proofs.Common.{◌≡◌, ◌*◌, ◌/◌, ℕ, true, false, length, refl, sym, ap, ◌∙◌, arith}
use Rattle.laws.proofs.Bools.{and_both}
use Rattle.digits.specs.Digits.{are_digits}
use Rattle.digits.specs.Word.{CHARACTERS, WRITTEN}
use Rattle.digits.proofs.LoadLaws.{loaded_digits}
use Rattle.digits.proofs.PutLaws.{tested, put_from}
use Rattle.digits.proofs.SliceLaws.{no_digits, all_digits}
use Rattle.digits.proofs.read.read_digits.Goals as goal

refused : (c : goal.Then-not-are_words-are_eight) → are_digits c.args.digits.now ≡ false
refused c =
    let l = c.args.digits.now in
    let chunks = c.as_chunks in
    sym
    (tested l chunks.result.1.now chunks.result.0.now (length l / CHARACTERS) c.tail_word-tail.result chunks.ensures.front chunks.ensures.back c.tail_word-tail.ensures
    c.are_words.result c.are_eight.result c.are_words.ensures c.are_eight.ensures)
    ∙ c.if-not-are_words-are_eight.true

pub returns-then-not-are_words-are_eight-clause-answer : goal.returns-then-not-are_words-are_eight-clause-answer
returns-then-not-are_words-are_eight-clause-answer c = (no_digits c.args.digits.now c.args.bytes.now c.if-digits-bytes.false (refused c)).0

pub returns-then-not-are_words-are_eight-clause-bytes : goal.returns-then-not-are_words-are_eight-clause-bytes
returns-then-not-are_words-are_eight-clause-bytes c = (no_digits c.args.digits.now c.args.bytes.now c.if-digits-bytes.false (refused c)).1

pub loaded_bytes-requires : goal.loaded_bytes-requires
loaded_bytes-requires c =
    sym (c.are_eight.ensures ∙ loaded_digits c.tail_word-tail.result) ∙ (and_both c.are_words.result c.are_eight.result c.if-not-are_words-are_eight.false).1

accepted : (c : goal.After-slice_known-3-1) → are_digits c.args.digits.now ≡ true
accepted c =
    let l = c.args.digits.now in
    let chunks = c.as_chunks in
    sym
    (tested l chunks.result.1.now chunks.result.0.now (length l / CHARACTERS) c.tail_word-tail.result chunks.ensures.front chunks.ensures.back c.tail_word-tail.ensures
    c.are_words.result c.are_eight.result c.are_words.ensures c.are_eight.ensures)
    ∙ c.if-not-are_words-are_eight.false

pub returns-clause-answer : goal.returns-clause-answer
returns-clause-answer c = (all_digits c.args.digits.now c.args.bytes.now c.if-digits-bytes.false (accepted c)).0

pub returns-clause-bytes : goal.returns-clause-bytes
returns-clause-bytes c =
    let l = c.args.digits.now in
    let bytes = c.args.bytes.now in
    let chunks = c.as_chunks in
    let n = WRITTEN * length chunks.result.0.now in
    let long : length c.put_words.new.bytes ≡ length bytes = omega arith in
    rw (c.copy_from_slice.ensures.after, long, c.put_words.ensures)
    (put_from l chunks.result.1.now chunks.result.0.now (length l / CHARACTERS) c.tail_word-tail.result chunks.ensures.front chunks.ensures.back c.tail_word-tail.ensures bytes
    c.loaded_bytes.result (length bytes) n c.if-digits-bytes.false refl (ap (λ (i : ℕ). i / CHARACTERS) c.if-digits-bytes.false) (ap (λ (i : ℕ). WRITTEN * i) chunks.ensures.front_len) c.loaded_bytes.ensures _ (omega arith)
    ∙ (all_digits l bytes c.if-digits-bytes.false (accepted c)).1)
