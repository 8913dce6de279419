-- A whole reclaim: the live slots of v copied to block t, which has a free slot for each, then v erased. Assumes nothing.
use mathlib.Core.Path.{◌≡◌, refl, sym, ap, ap₂, ◌∙◌}
use mathlib.Core.Logic.{◌≢◌}
use mathlib.Core.Bool.{Bool, true, not, ◌&&◌}
use mathlib.Core.List.{List, ◌++◌}
use Prim.Native.Nat.{ℕ, ◌+◌, ◌*◌, ◌^◌, ◌<◌, ◌≤◌}
use native.Mathlib.Omega.{arith}
use Rattle.ranges.specs.Range.{one_if, count_below}
use Rattle.ranges.proofs.Tests.{any-ext}
use Rattle.ranges.proofs.Sums.{count-ext}
use Rattle.geometry.specs.declared.Geometry.{Geometry}
use Rattle.geometry.specs.Geometry.{d}
use Rattle.image.specs.declared.Slot.{Slot}
use Rattle.image.specs.declared.Slot.TheVariants.{Free, Live}
use Rattle.image.specs.Words.{Image, erase_count, entry}
use Rattle.image.specs.Slots.{slot, is_free, is_live, map_of}
use Rattle.image.specs.Blocks.{full, free_slots, live_slots}
use Rattle.image.specs.WellFormed.{ceiling}
use Rattle.tables.specs.Tables.{right_table}
use Rattle.tables.proofs.Laws.{right-same}
use Rattle.flash.specs.declared.Step.{Step}
use Rattle.flash.specs.Steps.{run, words_in, erasures_in, erases_block, leaves_asked}
use Rattle.flash.specs.Writing.{copying, erasing}
use Rattle.flash.specs.Tables.{table_copied}
use Rattle.flash.proofs.Stores.{run-append, asked-append, words_append, erasures-append}
use Rattle.flash.proofs.Filling.{Ready}
use Rattle.flash.proofs.Moving.{Received, Moved, filled_by, moved}
use Rattle.flash.proofs.Clearing.{erases-append, erases-none, erases-victim}
use Rattle.flash.proofs.Unused.{SparesUnused, spares-append, erasing-spares}
use Rattle.flash.proofs.Erased.{erasing-asked, wiped-count, wiped-count-other, wiped-entry, wiped-slot, wiped-free, wiped-found, wiped-map, wiped-ready}

-- what the reclaim of v into t leaves, by these steps; a right table stays right when each copied number is noted
pub record Reclaimed (geo : Geometry) (image : Image) (v t : ℕ) (steps : List Step) : Type 0 where
  pub asked : leaves_asked geo image steps ≡ true
  pub ready : Ready geo (run geo image steps)
  pub words : words_in steps ≡ 133 * live_slots geo image v + 1 + 2 * one_if (filled_by geo image (run geo image steps) t)
  pub erasures : erasures_in steps ≡ 1
  pub which : (b : ℕ) → erases_block steps b ≡ true → b ≡ v
  pub spares : SparesUnused geo steps
  pub count : erase_count geo (run geo image steps) v ≡ erase_count geo image v + 1
  pub counts : (c : ℕ) → c < geo.blocks → c ≢ v → erase_count geo (run geo image steps) c ≡ erase_count geo image c
  pub emptied : (j : ℕ) → j < d geo → slot geo (run geo image steps) v j ≡ Free
  pub others : (c j : ℕ) → c < geo.blocks → c ≢ v → c ≢ t → j < d geo → slot geo (run geo image steps) c j ≡ slot geo image c j
  pub entries : (c j : ℕ) → c < geo.blocks → c ≢ v → c ≢ t → j < d geo → entry geo (run geo image steps) c j ≡ entry geo image c j
  pub received : Received geo image (run geo image steps) v t (d geo)
  pub map : (n : ℕ) → map_of geo (run geo image steps) n ≡ map_of geo image n
  pub right : table_copied geo image v t (right_table geo image) (d geo) ≡ right_table geo (run geo image steps)

module _
    (geo : Geometry) (image : Image) (v t : ℕ)
    (start : Ready geo image)
    (victim_in : v < geo.blocks) (target_in : t < geo.blocks) (apart : v ≢ t)
    (room : live_slots geo image v ≤ free_slots geo image t)
    (wearable : erase_count geo image v < ceiling)
  where
    abbrev copied : List Step
    copied = copying geo image v t (d geo)

    abbrev copy : Image
    copy = run geo image copied

    abbrev all : List Step
    all = copied ++ erasing geo image v

    m : Moved geo image v t (d geo) copied (table_copied geo image v t (right_table geo image) (d geo))
    m = moved geo image v t start victim_in target_in apart room (d geo) (omega arith)

    abbrev count : ℕ
    count = erase_count geo image v + 1

    fits : count < 2 ^ 32
    fits = omega (arith, wearable)

    abbrev wiped : Image
    wiped = run geo copy (erasing geo image v)

    after : run geo image all ≡ wiped
    after = run-append geo image copied (erasing geo image v)

    none-live : (j n : ℕ) → j < d geo → slot geo copy v j ≡ Live n → ⊥
    none-live j n l e = m.passed j n l l e

    -- the erasing leaves block t alone
    other : t ≢ v
    other e = apart (sym e)

    kept : (j : ℕ) → j < d geo → slot geo wiped t j ≡ slot geo copy t j
    kept j l = wiped-slot geo copy m.ready v count victim_in fits t j target_in other l

    same_full : full geo wiped t ≡ full geo copy t
    unfolding full
    same_full = ap not (any-ext (d geo) (λ j l. ap is_free (kept j l)))

    as_many : (f : Slot → Bool) → count_below (d geo) (λ j. f (slot geo wiped t j)) ≡ count_below (d geo) (λ j. f (slot geo copy t j))
    as_many f = count-ext (d geo) (λ j l. ap f (kept j l))

    still-received : Received geo image wiped v t (d geo)
    still-received =
        record {
          kept-slots = λ j l e. kept j l ∙ m.received.kept-slots j l e;
          left-free = λ j l e h. kept j l ∙ m.received.left-free j l e h;
          copies = λ j n p l h e inside free rank.
              let made = m.received.copies j n p l h e inside free rank in
              (kept p inside ∙ made.0, wiped-entry geo copy m.ready v count victim_in fits t p other inside ∙ made.1);
          free_of_target = omega (arith, as_many is_free, m.received.free_of_target);
          live-of-target = omega (arith, as_many is_live, m.received.live-of-target);
        }

    two_steps : (words_in (erasing geo image v) ≡ 1) × (erasures_in (erasing geo image v) ≡ 1)
    unfolding words_in erasures_in
    two_steps = (refl, refl)

    one_block : (b : ℕ) → erases_block all b ≡ true → b ≡ v
    one_block b e =
        let none = erases-none copied m.erasures b in
        erases-victim geo v (erase_count geo image v) b (rw (erases-append copied (erasing geo image v) b, none) at e)

    pub reclaimed : Reclaimed geo image v t all
    reclaimed =
        record {
          asked =
              asked-append geo image copied (erasing geo image v)
              ∙ ap₂ ◌&&◌ m.asked (erasing-asked geo copy m.ready v count victim_in fits);
          ready = rw after (wiped-ready geo copy m.ready v count victim_in fits none-live (omega (arith, wearable)));
          words = rw (after, same_full) (omega (arith, words_append copied (erasing geo image v), two_steps.0, m.words));
          erasures = omega (arith, erasures-append copied (erasing geo image v), two_steps.1, m.erasures);
          which = one_block;
          spares = spares-append geo copied (erasing geo image v) m.spares (erasing-spares geo start.shaped.limits image v);
          count = rw after (wiped-count geo copy m.ready v count victim_in fits);
          counts = λ c l n. rw after (wiped-count-other geo copy m.ready v count victim_in fits c n ∙ m.counts c l);
          emptied = λ j l. rw after (wiped-free geo copy m.ready v count victim_in fits j l);
          others = λ c j l n n' h. rw after (wiped-slot geo copy m.ready v count victim_in fits c j l n h ∙ m.others c j l n n' h);
          entries = λ c j l n n' h.
              rw after (wiped-entry geo copy m.ready v count victim_in fits c j n h ∙ m.entries c j l n' h (λ e. absurd (n e)));
          received = rw after still-received;
          map = λ n. rw after (wiped-map geo copy m.ready v count victim_in fits none-live n ∙ m.map n);
          right =
              m.right
              ∙ right-same geo copy (run geo image all) (λ n. rw after (wiped-found geo copy m.ready v count victim_in fits none-live n));
        }
