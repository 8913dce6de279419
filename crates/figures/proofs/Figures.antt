-- P1 to P9, T1 to T4, S1 to S3 and E1 to E3 hold: the definitions are computed, but for one: an image of the largest geometry has half a million
-- words, which are not counted one by one.
use Rattle.std.specs.Prelude.{◌≡◌, Bool, true, false, List, [], ◌∷◌, ℕ, zero, suc, ◌&&◌, T, eqb, take, drop, get_or, replicate}
use Rattle.std.proofs.Math.Path.{refl, ap}
use Rattle.std.proofs.lemmas.Bool.{eq-eqb}
use Rattle.std.proofs.lemmas.List.{length-replicate}
use Rattle.bits.specs.Word.{ones}
use Rattle.geometry.specs.declared.Geometry.{Geometry}
use Rattle.ranges.specs.Range.{all_below, any_below, sum_below, list_below, best_below}
use Rattle.bits.specs.Word.{bit, cleared, shared}
use Rattle.geometry.specs.Geometry.{shape, image_length, rounded_up, g, within_limits}
use Rattle.answers.specs.Answers.{Accepted, number_of}
use Rattle.image.specs.Words.{erase_count, least_mapped, greatest_mapped, free_map, entry, contents}
use Rattle.image.specs.Slots.{is_complete, is_passing, slot_of, has_complete, superseded, own_slot, slot, find}
use Rattle.image.specs.Blocks.{blank, full, lowest_free, lowest_open, least_worn_blank, victim}
use Rattle.image.specs.WellFormed.{R1, R2, R3, R4, R5, R6, R7, R8, broken_rule, sound_block, sound, well_formed}
use Rattle.image.specs.Faults.{first_fault}
use Rattle.flash.specs.Steps.{erased_block, applied, run, words_in, erasures_in}
use Rattle.flash.specs.Placing.{least_live, greatest_live, closes_block, fills_slot, placing, releasing}
use Rattle.flash.specs.Writing.{filling, must_reclaim, copying, reclaiming, reclaiming_first, writing}
use Rattle.tables.specs.Tables.{right_table}
use Rattle.flash.specs.Tables.{table_copied, table_reclaimed, table_filled, table_reclaimed_first, table_written, table_released}
use Rattle.calls.specs.Refusals.{format_answer, check_answer, read_answer, write_answer, release_answer}
use Rattle.calls.specs.Calls.{counts_zeroed, fresh, formatted, read_buffer, write_steps, release_steps}
use Rattle.tabled.specs.Refusals.{write_answer_with, release_answer_with}
use Rattle.tabled.specs.Calls.{write_steps_with, write_table, release_table}
use Rattle.promises.specs.Runs.{called, ran}
use Rattle.records.specs.Records.{line_of, logical_after}
use Rattle.figures.specs.Figures.{Figure, ◌is◌, all_match, figures, P1-to-P9, T1-to-T4, S1-to-S3, E1-to-E3}

-- an image of the length that the geometry says is accepted by a format where the limits are kept
accepted : (geo : Geometry) → within_limits geo ≡ true → format_answer geo (replicate (image_length geo) ones) ≡ Accepted
unfolding format_answer
accepted geo within = rw (within, length-replicate (image_length geo) ones, eq-eqb (image_length geo) (image_length geo) refl)

within_largest : within_limits (shape 64 64 3968) ≡ true
unfolding within_limits rounded_up g
within_largest = refl

followed : (a b c : Bool) → T (a && b) → (T b → T c) → T (a && c)
followed true b c t h = h t
followed false b c t h = absurd t

-- figures match where those before one do, it, and those after it
all-but : (n : ℕ) (fs : List Figure) →
    T (all_match (take n fs)) → (get_or fs n (0 is 0)).gives ≡ (get_or fs n (0 is 0)).prints → T (all_match (drop (suc n) fs)) → T (all_match fs)
all-but n [] before e after = tt
all-but zero (f ∷ fs) before e after = rw (eq-eqb f.gives f.prints e) after
all-but (suc n) (f ∷ fs) before e after =
    followed (eqb f.gives f.prints) (all_match (take n fs)) (all_match fs) before (λ b. all-but n fs b e after)

-- the row of the largest geometry, which is the fifteenth
largest : (get_or figures 14 (0 is 0)).gives ≡ (get_or figures 14 (0 is 0)).prints
largest = ap number_of (accepted (shape 64 64 3968) within_largest)

pub p1-to-p9 : P1-to-P9
unfolding all_below any_below sum_below list_below best_below bit cleared shared rounded_up g within_limits erase_count least_mapped greatest_mapped free_map entry contents is_complete is_passing slot_of has_complete superseded own_slot slot find blank full lowest_free lowest_open least_worn_blank victim R1 R2 R3 R4 R5 R6 R7 R8 broken_rule sound_block sound well_formed erased_block applied run words_in erasures_in least_live greatest_live closes_block fills_slot placing releasing filling must_reclaim copying reclaiming reclaiming_first writing format_answer check_answer read_answer write_answer release_answer counts_zeroed fresh formatted read_buffer write_steps release_steps called ran
p1-to-p9 = all-but 14 figures tt largest tt

pub t1-to-t4 : T1-to-T4
unfolding all_below any_below sum_below list_below best_below bit cleared shared rounded_up g within_limits erase_count least_mapped greatest_mapped free_map entry contents is_complete is_passing slot_of has_complete superseded own_slot slot find blank full lowest_free lowest_open least_worn_blank victim R1 R2 R3 R4 R5 R6 R7 R8 broken_rule sound_block sound well_formed erased_block applied run words_in erasures_in least_live greatest_live closes_block fills_slot placing releasing filling must_reclaim copying reclaiming reclaiming_first writing format_answer check_answer read_answer write_answer release_answer counts_zeroed fresh formatted read_buffer write_steps release_steps right_table table_copied table_reclaimed table_filled table_reclaimed_first table_written table_released write_answer_with release_answer_with write_steps_with write_table release_table
t1-to-t4 = tt

pub s1-to-s3 : S1-to-S3
unfolding rounded_up g within_limits format_answer read_answer write_answer release_answer line_of logical_after
s1-to-s3 = tt

pub e1-to-e3 : E1-to-E3
unfolding all_below any_below sum_below list_below best_below bit cleared shared rounded_up g within_limits erase_count least_mapped greatest_mapped free_map entry contents is_complete is_passing slot_of has_complete superseded own_slot slot find blank full lowest_free lowest_open least_worn_blank victim R1 R2 R3 R4 R5 R6 R7 R8 broken_rule sound_block sound well_formed erased_block applied run words_in erasures_in least_live greatest_live closes_block fills_slot placing releasing filling must_reclaim copying reclaiming reclaiming_first writing format_answer check_answer read_answer write_answer release_answer counts_zeroed fresh formatted read_buffer write_steps release_steps first_fault
e1-to-e3 = tt
