-- What taking a line gives: the event, and what the unit holds after it.
use Rattle.unit.specs.declared.Contents.{Contents}
use Rattle.unit.specs.declared.Taken as T

abbrev pub Taken : Type 0
Taken = T.Taken Contents
