-- The check as its callers ask it: the first failing pair, as an error, if the image is not well formed.
use Rattle.std.specs.Prelude.{cond, Result, Ok, Err}
use Rattle.geometry.specs.declared.Geometry.{Geometry}
use Rattle.image.specs.declared.Fault.{Fault}
use Rattle.image.specs.Words.{Image}
use Rattle.image.specs.WellFormed.{well_formed}
use Rattle.image.specs.Faults.{first_fault}

abbrev pub fault_if_any : Geometry → Image → Result (Unit {0}) Fault
fault_if_any geo image = cond (well_formed geo image) (Ok tt) (Err (first_fault geo image))
