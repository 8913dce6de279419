-- What `determined` takes of this crate, to show that there is an environment that has the code of the public functions: the table of the crate's
-- functions; what those that are told here call in the crates below, `Below`; and of each of them, that a look-up that has both has its code, with the code
-- of all that it calls. The toolchain makes the tables and the parts, in modules that only this crate can name. Written by tools/links.py.
-- Assumes nothing.
use mathlib.Core.Bool.{true}
use prog.Wired.{Code}
use prog.Linked.{World, Tree, Holds, in_world}
use prog.LinkedThreads.{HasT}
use Rattle.flash.proofs.TheLink as made
use Rattle.flash.proofs.TheLinks as parts

abbrev pub table : Tree
table = made.table

abbrev pub Below : World → Type 0
Below W =
    HasT (in_world W) true Rattle.bits.proofs.program.Symbol.code ×
    (HasT (in_world W) true Rattle.geometry.proofs.Geometry.block_length.Symbol.code ×
    (HasT (in_world W) true Rattle.geometry.proofs.Geometry.start.Symbol.code ×
    (HasT (in_world W) true Rattle.image.proofs.view.View.over.Symbol.code ×
    (Unit {0}))))

abbrev pub Linked : Code → Type 0
Linked c = (W : World) → Holds W "flash" table → Below W → HasT (in_world W) true c

pub steps-erase : Linked parts.flash-steps-erase.code
steps-erase W h b =
    parts.flash-steps-erase.has (in_world W) true (made.found-flash::steps::erase W h)

pub steps-program : Linked parts.flash-steps-program.code
steps-program W h b =
    parts.flash-steps-program.has (in_world W) true (made.found-flash::steps::program W h) b.0

steps-program_within : Linked parts.flash-steps-program_within.code
steps-program_within W h b =
    parts.flash-steps-program_within.has (in_world W) true (made.found-flash::steps::program_within W h) (steps-program W h b)

pub run-Run-program : Linked parts.flash-run-Run-program.code
run-Run-program W h b =
    parts.flash-run-Run-program.has (in_world W) true (made.found-flash::run::Run::program W h) (steps-program_within W h b)

steps-erase_block : Linked parts.flash-steps-erase_block.code
steps-erase_block W h b =
    parts.flash-steps-erase_block.has (in_world W) true (made.found-flash::steps::erase_block W h) (steps-erase W h b) b.1.0 b.1.1.0

pub run-Run-erase : Linked parts.flash-run-Run-erase.code
run-Run-erase W h b =
    parts.flash-run-Run-erase.has (in_world W) true (made.found-flash::run::Run::erase W h) (steps-erase_block W h b)

pub run-Run-view : Linked parts.flash-run-Run-view.code
run-Run-view W h b =
    parts.flash-run-Run-view.has (in_world W) true (made.found-flash::run::Run::view W h) b.1.1.1.0
