-- Words of eight characters, and what the step gives for them, computed.
use Rattle.std.specs.Prelude.{◌≡◌, Ok, Err, refl}
use Rattle.rows.specs.declared.refusal.Refusal.TheVariants.{Digit}
use Rattle.digits.specs.Digits.{is_digit, digit_value, are_digits, bytes_of}
use Rattle.digits.specs.Word.{characters_in, step_of}

-- 0123abcd, 9f00ffff
digits : (step_of 0x3031_3233_6162_6364 ≡ Ok 0x0123_abcd) × (step_of 0x3966_3030_6666_6666 ≡ Ok 0x9f00_ffff)
unfolding step_of characters_in are_digits is_digit bytes_of digit_value
digits = (refl, refl)

-- 0000000g, `0000000, A0000000, 000/0000, 0000:000
strangers : (step_of 0x3030_3030_3030_3067 ≡ Err Digit) × (step_of 0x6030_3030_3030_3030 ≡ Err Digit) × (step_of 0x4130_3030_3030_3030 ≡ Err Digit)
    × (step_of 0x3030_302f_3030_3030 ≡ Err Digit) × (step_of 0x3030_3030_3a30_3030 ≡ Err Digit)
unfolding step_of characters_in are_digits is_digit bytes_of digit_value
strangers = (refl, refl, refl, refl, refl)

-- a character that is one too low before one that is all ones, from which a sum of whole words would carry into it; and eight of all ones
carried : (step_of 0x3030_3030_2fff_3030 ≡ Err Digit) × (step_of 0xffff_ffff_ffff_ffff ≡ Err Digit)
unfolding step_of characters_in are_digits is_digit bytes_of digit_value
carried = (refl, refl)
