-- Document 01, "The line": the class of a product.
use Rattle.std.specs.Prelude.{ℕ, ◌%◌, Bool, true, false, cond, eqb}
use Rattle.field.specs.declared.class.Class.{Class}
use Rattle.field.specs.declared.class.Class.TheVariants.{CuredPork, GroundBeef, OtherMeat, Poultry}

-- bits 0 and 1 of the product: 0 cured pork and canned ham, 1 ground beef, 2 other meat, 3 poultry
unfoldable pub class_of : ℕ → Class
class_of product =
    let number = product % 4 in
    cond (eqb number 0) CuredPork (cond (eqb number 1) GroundBeef (cond (eqb number 2) OtherMeat Poultry))

-- class 1
abbrev pub is_ground_beef : Class → Bool
is_ground_beef CuredPork = false
is_ground_beef GroundBeef = true
is_ground_beef OtherMeat = false
is_ground_beef Poultry = false

-- class 2
abbrev pub is_other_meat : Class → Bool
is_other_meat CuredPork = false
is_other_meat GroundBeef = false
is_other_meat OtherMeat = true
is_other_meat Poultry = false
