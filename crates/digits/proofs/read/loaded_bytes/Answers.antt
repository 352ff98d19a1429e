-- `loaded_bytes` meets its contract: the values are turned, joined and taken apart into bytes.
use Rattle.std.proofs.Common.{◌≡◌, w32, length, ap, ◌∙◌, arith}
use lib.ListN.{length-reverse}
use Rattle.digits.specs.Digits.{bytes_of}
use Rattle.digits.specs.Numbers.{number_bytes}
use Rattle.digits.specs.Word.{CHARACTERS, WRITTEN, characters_in}
use Rattle.digits.specs.bounds.Loaded.{loaded_in}
use Rattle.digits.proofs.ByteLaws.{length_bytes_of, bytes_of_are}
use Rattle.digits.proofs.LibraryLaws.{to_bytes}
use Rattle.digits.proofs.LoadLaws.{turned, loaded_values}
use Rattle.digits.proofs.NumberLaws.{length_number_bytes, bytes_back_at}
use Rattle.digits.proofs.read.loaded_bytes.Goals as goal

pub returns : goal.returns
unfolding characters_in
returns c =
    let word = c.args.word in
    let d = c.requires in
    let long : length (loaded_in word) ≡ CHARACTERS = length-reverse (characters_in word) ∙ length_number_bytes CHARACTERS word in
    let values = c.values.result in
    let turned : characters_in c.swap_bytes.result ≡ loaded_in values = ap characters_in c.swap_bytes.ensures ∙ turned values (omega arith) in
    let value = loaded_values word c.swap_bytes.result d (turned ∙ ap loaded_in c.values.ensures) in
    c.to_be_bytes.ensures
    ∙ to_bytes w32 c.four_by.result (omega arith)
    ∙ ap (number_bytes WRITTEN) (c.four_by.ensures (loaded_in word) long d value)
    ∙ bytes_back_at WRITTEN (bytes_of (loaded_in word)) (length_bytes_of (loaded_in word) WRITTEN long) (bytes_of_are (loaded_in word) d)
