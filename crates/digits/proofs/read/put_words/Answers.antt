-- `put_words` meets its contract: turn by turn the bytes of one more word are put.
use Rattle.std.proofs.Common.{◌≡◌, ℕ, ◌*◌, List, ◌++◌, length, drop, refl, ap, ◌∙◌, take_all, arith}
use Rattle.digits.specs.Digits.{are_digits, bytes_of}
use Rattle.digits.specs.Word.{WRITTEN}
use Rattle.digits.specs.bounds.Words.{all_bytes}
use Rattle.digits.proofs.LoopLaws.{digits_at, put_to, put_more}
use Rattle.digits.proofs.read.put_words.Goals as goal

pub loop-k-init : goal.loop-k-init
loop-k-init c = refl

pub loaded_bytes-requires : goal.loaded_bytes-requires
loaded_bytes-requires c = ap are_digits c.word_of.ensures ∙ digits_at c.args.words.now c.loop-k.k c.loop-k-test.true c.requires.1

pub loop-k-preserved : goal.loop-k-preserved
loop-k-preserved c =
    rw (c.loop-k.invariant, c.copy_from_slice.ensures.after)
    (put_more c.args.words.now c.args.bytes.now c.loaded_bytes.result c.loop-k.k c.loop-k-test.true c.told-words (c.loaded_bytes.ensures ∙ ap bytes_of c.word_of.ensures))

pub returns : goal.returns
returns c =
    let words = c.args.words.now in
    let bytes = c.args.bytes.now in
    let all : c.loop-k.k ≡ length words = omega arith in
    c.loop-k.invariant
    ∙ ap (put_to words bytes) all
    ∙ ap (λ (ws : List (List ℕ)). all_bytes ws ++ drop (WRITTEN * length words) bytes) (take_all (length words) words (omega arith))
