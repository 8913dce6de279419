-- There is an environment in which names mean what the code of the public functions says: one that is tied of the tables of all crates, which the
-- toolchain makes. A look-up finds a function's crate by the text before the first colon of its name, and then the function in that crate's table.
-- Of each crate stand here that its table is found (`holds-`) and that what its functions call in the crates below is (`below-`); and, where it
-- has public functions, that the environment has the code of one of these, with the code of all that it calls (`in_`). Written by tools/links.py.
-- Assumes nothing.
use mathlib.Core.Bool.{true}
use mathlib.Core.List.{[], ◌∷◌}
use mathlib.Core.Path.{refl}
use lib.Chars.{codes}
use prog.Routine.{Env}
use prog.Wired.{Code, Wired}
use prog.Linked.{World, Holds, in_world}
use prog.LinkedThreads.{HasT, has-wired_t, tie_t, tie_t-follows, tie_t-threads}
use Rattle.ranges.proofs.Links as ranges
use Rattle.bits.proofs.Links as bits
use Rattle.geometry.proofs.Links as geometry
use Rattle.image.proofs.Links as image
use Rattle.answers.proofs.Links as answers
use Rattle.blocks.proofs.Links as blocks
use Rattle.tables.proofs.Links as tables
use Rattle.rules.proofs.Links as rules
use Rattle.naming.proofs.Links as naming
use Rattle.checking.proofs.Links as checking
use Rattle.mending.proofs.Links as mending
use Rattle.flash.proofs.Links as flash
use Rattle.retiring.proofs.Links as retiring
use Rattle.placing.proofs.Links as placing
use Rattle.writing.proofs.Links as writing
use Rattle.restoring.proofs.Links as restoring
use Rattle.repairing.proofs.Links as repairing
use Rattle.ahead.proofs.Links as ahead
use Rattle.repair_ahead.proofs.Links as repair_ahead
use Rattle.calls.proofs.Links as calls
use Rattle.shellwaltz.proofs.Links as shellwaltz
use Rattle.stepwise.proofs.Links as stepwise
use Rattle.tabled.proofs.Links as tabled
use Rattle.shellwaltz_c.proofs.Links as shellwaltz_c
use Rattle.records.proofs.Links as records
use Rattle.text.proofs.Links as text

pub all : World
all =
    (codes "ranges", ranges.table) ∷
    (codes "bits", bits.table) ∷
    (codes "geometry", geometry.table) ∷
    (codes "image", image.table) ∷
    (codes "answers", answers.table) ∷
    (codes "blocks", blocks.table) ∷
    (codes "tables", tables.table) ∷
    (codes "rules", rules.table) ∷
    (codes "naming", naming.table) ∷
    (codes "checking", checking.table) ∷
    (codes "mending", mending.table) ∷
    (codes "flash", flash.table) ∷
    (codes "retiring", retiring.table) ∷
    (codes "placing", placing.table) ∷
    (codes "writing", writing.table) ∷
    (codes "restoring", restoring.table) ∷
    (codes "repairing", repairing.table) ∷
    (codes "ahead", ahead.table) ∷
    (codes "repair_ahead", repair_ahead.table) ∷
    (codes "calls", calls.table) ∷
    (codes "shellwaltz", shellwaltz.table) ∷
    (codes "stepwise", stepwise.table) ∷
    (codes "tabled", tabled.table) ∷
    (codes "shellwaltz_c", shellwaltz_c.table) ∷
    (codes "records", records.table) ∷
    (codes "text", text.table) ∷
    []

-- an environment that has the code c
abbrev pub Runs : Code → Type 0
Runs c = (γ : Env) × Wired γ c

runs : (c : Code) → HasT (in_world all) true c → Runs c
runs c has =
    let look = in_world all in
    (tie_t look, has-wired_t look (tie_t look) (tie_t-follows look) (tie_t-threads look) c has)

-- of what is asked for as a row of pairs
infixr 25 ◌&◌
abbrev ◌&◌ : {A B : Type 0} → A → B → A × B
a & b = (a, b)

-- ---- ranges
holds-ranges : Holds all "ranges" ranges.table
unfolding all
holds-ranges = refl

below-ranges : ranges.Below all
below-ranges = tt

-- ---- bits
holds-bits : Holds all "bits" bits.table
unfolding all
holds-bits = refl

below-bits : bits.Below all
below-bits = tt

-- ---- geometry
holds-geometry : Holds all "geometry" geometry.table
unfolding all
holds-geometry = refl

below-geometry : geometry.Below all
below-geometry = tt

-- ---- image
holds-image : Holds all "image" image.table
unfolding all
holds-image = refl

below-image : image.Below all
below-image =
    bits.clear_bit all holds-bits below-bits &
    geometry.Geometry-length all holds-geometry below-geometry &
    geometry.Geometry-within_limits all holds-geometry below-geometry &
    geometry.Geometry-contents_start all holds-geometry below-geometry &
    geometry.Geometry-d all holds-geometry below-geometry &
    geometry.Geometry-entries_start all holds-geometry below-geometry &
    geometry.Geometry-start all holds-geometry below-geometry &
    geometry.Geometry-k all holds-geometry below-geometry &
    geometry.Geometry-map_start all holds-geometry below-geometry &
    bits.is_set all holds-bits below-bits &
    ranges.count all holds-ranges below-ranges &
    tt

-- ---- answers
holds-answers : Holds all "answers" answers.table
unfolding all
holds-answers = refl

below-answers : answers.Below all
below-answers = tt

pub in_answers : (c : Code) → answers.Linked c → Runs c
in_answers c has = runs c (has all holds-answers below-answers)

-- ---- blocks
holds-blocks : Holds all "blocks" blocks.table
unfolding all
holds-blocks = refl

below-blocks : blocks.Below all
below-blocks =
    image.kinds-BlockKinds-block all holds-image below-image &
    image.kinds-BlockKinds-live_at all holds-image below-image &
    image.kinds-BlockKinds-live_between all holds-image below-image &
    image.kinds-count_live all holds-image below-image &
    image.view-Block-erase_count all holds-image below-image &
    bits.count_set all holds-bits below-bits &
    geometry.Geometry-d all holds-geometry below-geometry &
    geometry.Geometry-k all holds-geometry below-geometry &
    image.view-Block-map_words all holds-image below-image &
    bits.lowest_set all holds-bits below-bits &
    image.view-View-block all holds-image below-image &
    ranges.all all holds-ranges below-ranges &
    ranges.count all holds-ranges below-ranges &
    ranges.find all holds-ranges below-ranges &
    ranges.least all holds-ranges below-ranges &
    tt

-- ---- tables
holds-tables : Holds all "tables" tables.table
unfolding all
holds-tables = refl

below-tables : tables.Below all
below-tables =
    image.Entry-is_live_for all holds-image below-image &
    image.view-Block-entries all holds-image below-image &
    image.view-View-block all holds-image below-image &
    geometry.Geometry-d all holds-geometry below-geometry &
    image.view-View-find all holds-image below-image &
    image.view-Block-own_slot all holds-image below-image &
    tt

-- ---- rules
holds-rules : Holds all "rules" rules.table
unfolding all
holds-rules = refl

below-rules : rules.Below all
below-rules =
    bits.is_set all holds-bits below-bits &
    bits.clear_bit all holds-bits below-bits &
    image.view-Block-contents all holds-image below-image &
    image.view-Block-own_slot all holds-image below-image &
    geometry.Geometry-start all holds-geometry below-geometry &
    geometry.Geometry-d all holds-geometry below-geometry &
    image.view-Block-entries all holds-image below-image &
    image.view-Block-map_words all holds-image below-image &
    ranges.all all holds-ranges below-ranges &
    geometry.Geometry-k all holds-geometry below-geometry &
    image.view-Block-erase_count all holds-image below-image &
    blocks.is_full all holds-blocks below-blocks &
    tt

-- ---- naming
holds-naming : Holds all "naming" naming.table
unfolding all
holds-naming = refl

below-naming : naming.Below all
below-naming =
    image.Entry-is_passing all holds-image below-image &
    image.Entry-number all holds-image below-image &
    image.view-Block-entries all holds-image below-image &
    rules.NumberSet-is_marked all holds-rules below-rules &
    image.view-Block-own_slot all holds-image below-image &
    image.kinds-BlockKinds-live_at all holds-image below-image &
    geometry.Geometry-d all holds-geometry below-geometry &
    ranges.all all holds-ranges below-ranges &
    rules.NumberSet-mark all holds-rules below-rules &
    image.Entry-is_complete all holds-image below-image &
    image.view-View-block all holds-image below-image &
    rules.rule1 all holds-rules below-rules &
    rules.rule2 all holds-rules below-rules &
    rules.rule3 all holds-rules below-rules &
    rules.rule4 all holds-rules below-rules &
    rules.rule7 all holds-rules below-rules &
    rules.NumberSet-new all holds-rules below-rules &
    tt

-- ---- checking
holds-checking : Holds all "checking" checking.table
unfolding all
holds-checking = refl

below-checking : checking.Below all
below-checking =
    rules.contents_clean all holds-rules below-rules &
    bits.is_set all holds-bits below-bits &
    image.slots-slot_of all holds-image below-image &
    image.view-Block-entries all holds-image below-image &
    image.view-Block-map_words all holds-image below-image &
    rules.NumberSet-mark all holds-rules below-rules &
    rules.rest_set all holds-rules below-rules &
    image.kinds-BlockKinds-block all holds-image below-image &
    image.kinds-BlockKinds-live_at all holds-image below-image &
    image.kinds-BlockKinds-live_between all holds-image below-image &
    rules.rule1 all holds-rules below-rules &
    rules.rule7 all holds-rules below-rules &
    image.view-View-block all holds-image below-image &
    rules.NumberSet-new all holds-rules below-rules &
    blocks.count_blank all holds-blocks below-blocks &
    naming.first_bad all holds-naming below-naming &
    tt

-- ---- mending
holds-mending : Holds all "mending" mending.table
unfolding all
holds-mending = refl

below-mending : mending.Below all
below-mending =
    blocks.is_full all holds-blocks below-blocks &
    image.view-View-block all holds-image below-image &
    image.kinds-count_live all holds-image below-image &
    image.view-Block-erase_count all holds-image below-image &
    naming.judged-JudgedKinds-block all holds-naming below-naming &
    naming.judged-JudgedKinds-live_at all holds-naming below-naming &
    naming.judged-JudgedKinds-live_between all holds-naming below-naming &
    ranges.least all holds-ranges below-ranges &
    rules.greatest_mapped all holds-rules below-rules &
    rules.least_mapped all holds-rules below-rules &
    blocks.count_unset all holds-blocks below-blocks &
    rules.rule1 all holds-rules below-rules &
    naming.judged-Judged-rule5 all holds-naming below-naming &
    rules.rule2 all holds-rules below-rules &
    rules.rule3 all holds-rules below-rules &
    rules.rule4 all holds-rules below-rules &
    naming.mark_all_completes all holds-naming below-naming &
    rules.NumberSet-new all holds-rules below-rules &
    tt

-- ---- flash
holds-flash : Holds all "flash" flash.table
unfolding all
holds-flash = refl

below-flash : flash.Below all
below-flash =
    bits.program all holds-bits below-bits &
    geometry.Geometry-block_length all holds-geometry below-geometry &
    geometry.Geometry-start all holds-geometry below-geometry &
    image.view-View-over all holds-image below-image &
    tt

-- ---- retiring
holds-retiring : Holds all "retiring" retiring.table
unfolding all
holds-retiring = refl

below-retiring : retiring.Below all
below-retiring =
    bits.clear_bit all holds-bits below-bits &
    flash.run-Run-program all holds-flash below-flash &
    flash.run-Run-view all holds-flash below-flash &
    geometry.Geometry-entries_start all holds-geometry below-geometry &
    image.view-View-block all holds-image below-image &
    naming.judged-Judged-is_superseded all holds-naming below-naming &
    geometry.Geometry-d all holds-geometry below-geometry &
    naming.mark_all_completes all holds-naming below-naming &
    rules.NumberSet-new all holds-rules below-rules &
    tt

-- ---- placing
holds-placing : Holds all "placing" placing.table
unfolding all
holds-placing = refl

below-placing : placing.Below all
below-placing =
    image.view-Block-entries all holds-image below-image &
    image.view-View-block all holds-image below-image &
    bits.greater all holds-bits below-bits &
    bits.lesser all holds-bits below-bits &
    geometry.Geometry-d all holds-geometry below-geometry &
    blocks.is_full all holds-blocks below-blocks &
    flash.run-Run-program all holds-flash below-flash &
    flash.run-Run-view all holds-flash below-flash &
    geometry.Geometry-start all holds-geometry below-geometry &
    image.kinds-BlockKinds-block all holds-image below-image &
    image.kinds-BlockKinds-live_at all holds-image below-image &
    image.kinds-BlockKinds-live_between all holds-image below-image &
    geometry.Geometry-entries_start all holds-geometry below-geometry &
    bits.clear_bit all holds-bits below-bits &
    flash.steps-program all holds-flash below-flash &
    geometry.Geometry-contents_start all holds-geometry below-geometry &
    geometry.Geometry-map_start all holds-geometry below-geometry &
    image.Entry-begun all holds-image below-image &
    image.Entry-complete all holds-image below-image &
    tables.look_up all holds-tables below-tables &
    tables.note all holds-tables below-tables &
    tables.word_at all holds-tables below-tables &
    tt

-- ---- writing
holds-writing : Holds all "writing" writing.table
unfolding all
holds-writing = refl

below-writing : writing.Below all
below-writing =
    blocks.count_blank all holds-blocks below-blocks &
    blocks.lowest_open all holds-blocks below-blocks &
    blocks.least_worn_blank all holds-blocks below-blocks &
    blocks.lowest_free all holds-blocks below-blocks &
    image.view-View-block all holds-image below-image &
    flash.run-Run-view all holds-flash below-flash &
    placing.place all holds-placing below-placing &
    blocks.victim all holds-blocks below-blocks &
    image.view-Block-erase_count all holds-image below-image &
    geometry.Geometry-d all holds-geometry below-geometry &
    image.view-Block-copy_contents all holds-image below-image &
    image.view-Block-own_slot all holds-image below-image &
    placing.place_over all holds-placing below-placing &
    tables.note all holds-tables below-tables &
    tables.word_at all holds-tables below-tables &
    flash.run-Run-erase all holds-flash below-flash &
    flash.run-Run-program all holds-flash below-flash &
    geometry.Geometry-start all holds-geometry below-geometry &
    tt

-- ---- restoring
holds-restoring : Holds all "restoring" restoring.table
unfolding all
holds-restoring = refl

below-restoring : restoring.Below all
below-restoring =
    image.view-Block-erase_count all holds-image below-image &
    image.view-View-block all holds-image below-image &
    blocks.count_unset all holds-blocks below-blocks &
    ranges.largest all holds-ranges below-ranges &
    flash.run-Run-program all holds-flash below-flash &
    blocks.is_full all holds-blocks below-blocks &
    flash.run-Run-view all holds-flash below-flash &
    geometry.Geometry-start all holds-geometry below-geometry &
    image.kinds-BlockKinds-block all holds-image below-image &
    image.kinds-BlockKinds-live_at all holds-image below-image &
    image.kinds-BlockKinds-live_between all holds-image below-image &
    placing.live_bounds all holds-placing below-placing &
    ranges.find all holds-ranges below-ranges &
    tt

-- ---- repairing
holds-repairing : Holds all "repairing" repairing.table
unfolding all
holds-repairing = refl

below-repairing : repairing.Below all
below-repairing =
    blocks.free_slots all holds-blocks below-blocks &
    blocks.lowest_open all holds-blocks below-blocks &
    image.view-View-block all holds-image below-image &
    restoring.restore_bounds all holds-restoring below-restoring &
    restoring.restore_count all holds-restoring below-restoring &
    retiring.retire_superseded all holds-retiring below-retiring &
    blocks.count_blank all holds-blocks below-blocks &
    image.kinds-count_live all holds-image below-image &
    image.view-Block-erase_count all holds-image below-image &
    mending.emptiest all holds-mending below-mending &
    naming.judged-JudgedKinds-block all holds-naming below-naming &
    naming.judged-JudgedKinds-live_at all holds-naming below-naming &
    naming.judged-JudgedKinds-live_between all holds-naming below-naming &
    naming.mark_all_completes all holds-naming below-naming &
    rules.NumberSet-new all holds-rules below-rules &
    flash.run-Run-view all holds-flash below-flash &
    writing.reclaiming-copy_live all holds-writing below-writing &
    writing.reclaiming-erase_victim all holds-writing below-writing &
    tt

-- ---- ahead
holds-ahead : Holds all "ahead" ahead.table
unfolding all
holds-ahead = refl

below-ahead : ahead.Below all
below-ahead =
    bits.clear_bit all holds-bits below-bits &
    geometry.Geometry-start all holds-geometry below-geometry &
    geometry.Geometry-entries_start all holds-geometry below-geometry &
    image.Entry-begun all holds-image below-image &
    image.Entry-complete all holds-image below-image &
    geometry.Geometry-contents_start all holds-geometry below-geometry &
    geometry.Geometry-map_start all holds-geometry below-geometry &
    image.kinds-BlockKinds-live_at all holds-image below-image &
    blocks.live_slots all holds-blocks below-blocks &
    image.view-Block-erase_count all holds-image below-image &
    blocks.free_slots all holds-blocks below-blocks &
    image.view-Block-map_words all holds-image below-image &
    image.view-View-find all holds-image below-image &
    placing.bounds_with all holds-placing below-placing &
    placing.entry_at all holds-placing below-placing &
    ranges.count all holds-ranges below-ranges &
    image.Entry-number all holds-image below-image &
    geometry.Geometry-d all holds-geometry below-geometry &
    ranges.nth all holds-ranges below-ranges &
    image.kinds-BlockKinds-block all holds-image below-image &
    image.kinds-BlockKinds-live_between all holds-image below-image &
    image.view-Block-contents all holds-image below-image &
    blocks.least_worn_blank all holds-blocks below-blocks &
    image.view-View-block all holds-image below-image &
    writing.filling-next_slot all holds-writing below-writing &
    tt

-- ---- repair_ahead
holds-repair_ahead : Holds all "repair_ahead" repair_ahead.table
unfolding all
holds-repair_ahead = refl

below-repair_ahead : repair_ahead.Below all
below-repair_ahead =
    blocks.free_slots all holds-blocks below-blocks &
    image.kinds-count_live all holds-image below-image &
    naming.judged-JudgedKinds-block all holds-naming below-naming &
    naming.judged-JudgedKinds-live_at all holds-naming below-naming &
    naming.judged-JudgedKinds-live_between all holds-naming below-naming &
    placing.live_bounds all holds-placing below-placing &
    placing.or_logical all holds-placing below-placing &
    placing.widened all holds-placing below-placing &
    naming.judged-Judged-slot all holds-naming below-naming &
    geometry.Geometry-d all holds-geometry below-geometry &
    ranges.nth all holds-ranges below-ranges &
    bits.clear_bit all holds-bits below-bits &
    image.Entry-number all holds-image below-image &
    image.view-Block-map_words all holds-image below-image &
    placing.entry_at all holds-placing below-placing &
    ahead.nth-nth_live all holds-ahead below-ahead &
    ahead.placements-placement_step all holds-ahead below-ahead &
    bits.lesser all holds-bits below-bits &
    image.view-Block-contents all holds-image below-image &
    blocks.lowest_open all holds-blocks below-blocks &
    geometry.Geometry-start all holds-geometry below-geometry &
    image.view-Block-erase_count all holds-image below-image &
    geometry.Geometry-entries_start all holds-geometry below-geometry &
    image.view-Block-entries all holds-image below-image &
    naming.judged-Judged-is_superseded all holds-naming below-naming &
    blocks.count_unset all holds-blocks below-blocks &
    restoring.largest_other all holds-restoring below-restoring &
    image.view-View-block all holds-image below-image &
    blocks.is_full all holds-blocks below-blocks &
    restoring.or_zero all holds-restoring below-restoring &
    rules.greatest_mapped all holds-rules below-rules &
    rules.least_mapped all holds-rules below-rules &
    naming.mark_all_completes all holds-naming below-naming &
    rules.NumberSet-new all holds-rules below-rules &
    tt

-- ---- calls
holds-calls : Holds all "calls" calls.table
unfolding all
holds-calls = refl

below-calls : calls.Below all
below-calls =
    answers.RefusalFromFault-from all holds-answers below-answers &
    checking.first_fault all holds-checking below-checking &
    image.view-View-new all holds-image below-image &
    mending.is_mendable all holds-mending below-mending &
    repairing.plan all holds-repairing below-repairing &
    repairing.repair_along all holds-repairing below-repairing &
    tables.look_up all holds-tables below-tables &
    image.view-Block-copy_contents all holds-image below-image &
    image.view-View-block all holds-image below-image &
    placing.release all holds-placing below-placing &
    tables.note all holds-tables below-tables &
    writing.filling-plan all holds-writing below-writing &
    writing.filling-write_along all holds-writing below-writing &
    tt

-- ---- shellwaltz
holds-shellwaltz : Holds all "shellwaltz" shellwaltz.table
unfolding all
holds-shellwaltz = refl

below-shellwaltz : shellwaltz.Below all
below-shellwaltz =
    blocks.tally all holds-blocks below-blocks &
    image.view-Block-erase_count all holds-image below-image &
    answers.RefusalFromFault-from all holds-answers below-answers &
    checking.first_fault all holds-checking below-checking &
    image.view-View-new all holds-image below-image &
    calls.read_by all holds-calls below-calls &
    calls.release_by all holds-calls below-calls &
    calls.repair_by all holds-calls below-calls &
    calls.write_by all holds-calls below-calls &
    geometry.Geometry-start all holds-geometry below-geometry &
    flash.steps-erase all holds-flash below-flash &
    image.slots-fits all holds-image below-image &
    tt

pub in_shellwaltz : (c : Code) → shellwaltz.Linked c → Runs c
in_shellwaltz c has = runs c (has all holds-shellwaltz below-shellwaltz)

-- ---- stepwise
holds-stepwise : Holds all "stepwise" stepwise.table
unfolding all
holds-stepwise = refl

below-stepwise : stepwise.Below all
below-stepwise =
    calls.release_within all holds-calls below-calls &
    ahead.plain-release_step all holds-ahead below-ahead &
    calls.release_course all holds-calls below-calls &
    calls.repair_within all holds-calls below-calls &
    calls.repair_course all holds-calls below-calls &
    repair_ahead.repairs-repair_step all holds-repair_ahead below-repair_ahead &
    calls.write_within all holds-calls below-calls &
    ahead.plain-fill_step all holds-ahead below-ahead &
    ahead.reclaims-reclaim_step all holds-ahead below-ahead &
    calls.write_course all holds-calls below-calls &
    tt

pub in_stepwise : (c : Code) → stepwise.Linked c → Runs c
in_stepwise c has = runs c (has all holds-stepwise below-stepwise)

-- ---- tabled
holds-tabled : Holds all "tabled" tabled.table
unfolding all
holds-tabled = refl

below-tabled : tabled.Below all
below-tabled =
    image.slots-fits all holds-image below-image &
    calls.read_by all holds-calls below-calls &
    calls.release_by all holds-calls below-calls &
    calls.write_by all holds-calls below-calls &
    shellwaltz.check all holds-shellwaltz below-shellwaltz &
    tables.build all holds-tables below-tables &
    tt

pub in_tabled : (c : Code) → tabled.Linked c → Runs c
in_tabled c has = runs c (has all holds-tabled below-tabled)

-- ---- shellwaltz_c
holds-shellwaltz_c : Holds all "shellwaltz_c" shellwaltz_c.table
unfolding all
holds-shellwaltz_c = refl

below-shellwaltz_c : shellwaltz_c.Below all
below-shellwaltz_c =
    answers.bad_block all holds-answers below-answers &
    answers.bad_rule all holds-answers below-answers &
    answers.number all holds-answers below-answers &
    shellwaltz.check all holds-shellwaltz below-shellwaltz &
    shellwaltz.read all holds-shellwaltz below-shellwaltz &
    shellwaltz.format all holds-shellwaltz below-shellwaltz &
    shellwaltz.release all holds-shellwaltz below-shellwaltz &
    shellwaltz.repair all holds-shellwaltz below-shellwaltz &
    shellwaltz.write all holds-shellwaltz below-shellwaltz &
    shellwaltz.report all holds-shellwaltz below-shellwaltz &
    stepwise.release_first all holds-stepwise below-stepwise &
    stepwise.release_step all holds-stepwise below-stepwise &
    stepwise.repair_first all holds-stepwise below-stepwise &
    stepwise.repair_step all holds-stepwise below-stepwise &
    stepwise.write_first all holds-stepwise below-stepwise &
    stepwise.write_step all holds-stepwise below-stepwise &
    tabled.build all holds-tabled below-tabled &
    tabled.read all holds-tabled below-tabled &
    tabled.release all holds-tabled below-tabled &
    tabled.write all holds-tabled below-tabled &
    tt

pub in_shellwaltz_c : (c : Code) → shellwaltz_c.Linked c → Runs c
in_shellwaltz_c c has = runs c (has all holds-shellwaltz_c below-shellwaltz_c)

-- ---- records
holds-records : Holds all "records" records.table
unfolding all
holds-records = refl

below-records : records.Below all
below-records =
    answers.number all holds-answers below-answers &
    shellwaltz.format all holds-shellwaltz below-shellwaltz &
    shellwaltz.read all holds-shellwaltz below-shellwaltz &
    shellwaltz.release all holds-shellwaltz below-shellwaltz &
    shellwaltz.report all holds-shellwaltz below-shellwaltz &
    shellwaltz.write all holds-shellwaltz below-shellwaltz &
    tt

pub in_records : (c : Code) → records.Linked c → Runs c
in_records c has = runs c (has all holds-records below-records)

-- ---- text
holds-text : Holds all "text" text.table
unfolding all
holds-text = refl

below-text : text.Below all
below-text =
    records.record_of all holds-records below-records &
    records.carry_out all holds-records below-records &
    records.short all holds-records below-records &
    records.end all holds-records below-records &
    tt

pub in_text : (c : Code) → text.Linked c → Runs c
in_text c has = runs c (has all holds-text below-text)
