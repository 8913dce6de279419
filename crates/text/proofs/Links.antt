-- What `determined` takes of this crate, to show that there is an environment that has the code of the public functions: the table of the crate's
-- functions; what those that are told here call in the crates below, `Below`; and of each of them, that a look-up that has both has its code, with the code
-- of all that it calls. The toolchain makes the tables and the parts, in modules that only this crate can name. Written by tools/links.py.
-- Assumes nothing.
use mathlib.Core.Bool.{true}
use prog.Wired.{Code}
use prog.Linked.{World, Tree, Holds, in_world}
use prog.LinkedThreads.{HasT}
use Rattle.text.proofs.TheLink as made
use Rattle.text.proofs.TheLinks as parts

abbrev pub table : Tree
table = made.table

abbrev pub Below : World → Type 0
Below W =
    HasT (in_world W) true Rattle.records.proofs.record_of.Symbol.code ×
    (HasT (in_world W) true Rattle.records.proofs.carry_out.Symbol.code ×
    (HasT (in_world W) true Rattle.records.proofs.short.Symbol.code ×
    (HasT (in_world W) true Rattle.records.proofs.end.Symbol.code ×
    (Unit {0}))))

abbrev pub Linked : Code → Type 0
Linked c = (W : World) → Holds W "text" table → Below W → HasT (in_world W) true c

first_record : Linked parts.text-first_record.code
first_record W h b =
    parts.text-first_record.has (in_world W) true (made.found-text::first_record W h) b.0

put_digit : Linked parts.text-put_digit.code
put_digit W h b =
    parts.text-put_digit.has (in_world W) true (made.found-text::put_digit W h)

+put_decimal : Linked parts.text-put_decimal.cycle_code
+put_decimal W h b =
    parts.text-put_decimal.cycle_has (in_world W) true (made.found-text::put_decimal W h) (put_digit W h b)

put_decimal : Linked parts.text-put_decimal.code
put_decimal W h b =
    parts.text-put_decimal.has (in_world W) true (+put_decimal W h b)

put_row : Linked parts.text-put_row.code
put_row W h b =
    parts.text-put_row.has (in_world W) true (made.found-text::put_row W h) (put_decimal W h b)

line_text : Linked parts.text-line_text.code
line_text W h b =
    parts.text-line_text.has (in_world W) true (made.found-text::line_text W h) (put_row W h b)

pub reply : Linked parts.text-reply.code
reply W h b =
    parts.text-reply.has (in_world W) true (made.found-text::reply W h) b.1.0 b.1.1.0 (first_record W h b) (line_text W h b)

totals_text : Linked parts.text-totals_text.code
totals_text W h b =
    parts.text-totals_text.has (in_world W) true (made.found-text::totals_text W h) (put_row W h b)

pub last : Linked parts.text-last.code
last W h b =
    parts.text-last.has (in_world W) true (made.found-text::last W h) b.1.1.1.0 (totals_text W h b)
