-- `calls::write_along` meets its contract: it does the first steps of the write that this plan is of.
use mathlib.Core.List.{List}
use mathlib.Core.Path.{◌≡◌, refl, sym, ◌∙◌}
use Prim.Native.Nat.{ℕ}
use native.Mathlib.Omega.{arith}
use Rattle.std.proofs.Common.{rules}
use Rattle.geometry.specs.declared.Geometry.{Geometry}
use Rattle.image.specs.Words.{Image}
use Rattle.flash.specs.Writing.{writing}
use Rattle.answers.specs.Answers.{Accepted}
use Rattle.answers.proofs.Acceptance.{if-accepted}
use Rattle.calls.specs.Refusals.{write_answer}
use Rattle.calls.specs.Calls.{write_steps}
use Rattle.calls.proofs.AcceptedCalls.{write-accepted, write-sized}
use Rattle.calls.proofs.Changing.{carried-counts, erased-fits}
use Rattle.calls.proofs.Courses.{write-course-along}
use Rattle.calls.proofs.write_along.Goals as goal

pub invariant_of-run : goal.invariant_of-run
invariant_of-run c = record { shaped = (write-accepted _ _ _ _ (write-course-along _ _ _ _ c.requires).0).0 }

pub invariant_of-sector : goal.invariant_of-sector
invariant_of-sector c =
    record {
      whole = (write-sized _ _ _ _ (write-course-along _ _ _ _ c.requires).0).1;
      words32 = record { small = λ q. (c.type_inv.buffer q).fits };
    }

pub write_along-erased-requires : goal.write_along-erased-requires
write_along-erased-requires c =
    let (accepted, along) = write-course-along _ _ _ _ c.requires in
    record {
      image_value = (write-accepted _ _ _ _ accepted).1;
      plan_value = along;
      number_lt_logical = (write-sized _ _ _ _ accepted).0;
    }

pub overflow_sub-result-2 : goal.overflow_sub-result-2
overflow_sub-result-2 c = erased-fits _ _ c.write_along-erased.ensures.run_after.left_after c.write_along-erased.ensures.value

-- the steps of the write
steps-are : (geo : Geometry) (image : Image) (n : ℕ) (buffer : List ℕ) → write_answer geo image n buffer ≡ Accepted → write_steps geo image n buffer ≡ writing geo image n buffer
unfolding write_steps
steps-are geo image n buffer accepted = if-accepted _ _ accepted

pub returns-clause-value : goal.returns-clause-value
returns-clause-value c =
    let steps = steps-are c.args.geo c.args.image.now c.args.n c.args.buffer.now (write-course-along _ _ _ _ c.requires).0 in
    rw steps (carried-counts _ _ c.write_along-erased.ensures.run_after.left_after c.write_along-erased.ensures.value refl)

pub returns-clause-image_after : goal.returns-clause-image_after
returns-clause-image_after c =
    let steps = steps-are c.args.geo c.args.image.now c.args.n c.args.buffer.now (write-course-along _ _ _ _ c.requires).0 in
    rw steps (search rules)

pub returns-clause-table_after : goal.returns-clause-table_after
returns-clause-table_after c l =
    let accepted = (write-course-along _ _ _ _ c.requires).0 in
    let steps = steps-are c.args.geo c.args.image.now c.args.n c.args.buffer.now accepted in
    let some : c.write_along-erased.new.run.left ≡ 0 → ⊥ = λ z. omega (arith, c.write_along-erased.ensures.run_after.left_after, z, rw steps at l) in
    c.write_along-erased.ensures.table_after some ∙ sym (if-accepted _ _ accepted)
