-- Laws of the definitions in specs/, cited by the functions' proofs and by the crates above.
pub mod ByteLaws
pub mod DigitLaws
pub mod LibraryLaws
pub mod LoadLaws
pub mod LoopLaws
pub mod NumberLaws
pub mod PlaceLaws
pub mod PutLaws
pub mod SignedLaws
pub mod SliceLaws
pub mod StepLaws
pub mod TailLaws
pub mod WordDigits
pub mod WordLaws
pub mod WordLanes
