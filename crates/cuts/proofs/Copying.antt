-- A reclaim of v into t, wherever its copying is cut short: an image that a repair can mend, with the same map, and how its blocks are filled. Assumes
-- nothing.
use mathlib.Core.Path.{◌≡◌, refl, sym, ap, ◌∙◌}
use mathlib.Core.Logic.{◌≢◌, ◌⊎◌, inl, inr, ⊎_elim}
use mathlib.Core.Bool.{false}
use mathlib.Core.List.{List, [], ◌++◌}
use Prim.Native.Nat.{ℕ, zero, suc, ◌+◌, ◌<◌, ◌≤◌}
use native.Mathlib.Omega.{arith}
use Rattle.ranges.specs.Range.{one_if, sum_below}
use Rattle.ranges.proofs.Tests.{not-all}
use Rattle.geometry.specs.declared.Geometry.{Geometry}
use Rattle.geometry.specs.Geometry.{d}
use Rattle.image.specs.declared.Slot.{Slot}
use Rattle.image.specs.declared.Slot.TheVariants.{Free, Live, Dead, Faulty, Superseded}
use Rattle.image.specs.Words.{Image, contents}
use Rattle.image.specs.Found.{At}
use Rattle.image.specs.Slots.{slot, is_free, is_live, find}
use Rattle.image.specs.Blocks.{blank, free_slots, live_slots, lowest_free}
use Rattle.image.proofs.Alike.{live-slots-alike}
use Rattle.image.proofs.Mending.{sound-mendable}
use Rattle.tables.specs.Tables.{right_table}
use Rattle.flash.specs.declared.Step.{Step}
use Rattle.flash.specs.Steps.{run}
use Rattle.flash.specs.Placing.{placing}
use Rattle.flash.specs.Writing.{copying, copied_slot}
use Rattle.flash.specs.Tables.{table_copied}
use Rattle.flash.specs.Ahead.{live_before}
use Rattle.flash.proofs.Along.{Along, along-none, along-end, along-append, along-map}
use Rattle.flash.proofs.Filling.{Ready, Target}
use Rattle.flash.proofs.Changed.{free-not-live}
use Rattle.flash.proofs.Taken.{Taken}
use Rattle.flash.proofs.Moving.{Moved, moved, each-in-turn, target}
use Rattle.cuts.proofs.InCopy.{InCopy}
use Rattle.cuts.proofs.Stages.{During, Begun, Done, during-kinds, copy-map, during-full, begun-lives, begun-taken, one-taken, one_more, one_fewer, lives-elsewhere}
use Rattle.cuts.proofs.Passing.{during}

-- a block with a slot that is not free is not blank
pub taken-not-blank : (geo : Geometry) (image : Image) (b : ℕ) {i : ℕ} → i < d geo → is_free (slot geo image b i) ≡ false → blank geo image b ≡ false
unfolding blank
taken-not-blank geo image b l e = not-all (d geo) (λ i. is_free (slot geo image b i)) l e

module _
    (geo : Geometry) (image : Image) (v t : ℕ)
    (start : Ready geo image)
    (victim_in : v < geo.blocks) (target_in : t < geo.blocks) (apart : v ≢ t)
    (room : live_slots geo image v ≤ free_slots geo image t)
  where
    abbrev at_turn : ℕ → Image
    at_turn m = run geo image (copying geo image v t m)

    so_far : (m : ℕ) → m ≤ d geo → Moved geo image v t m (copying geo image v t m) (table_copied geo image v t (right_table geo image) m)
    so_far = moved geo image v t start victim_in target_in apart room

    other-lives : (m : ℕ) (l : m ≤ d geo) (c : ℕ) → c < geo.blocks → c ≢ v → c ≢ t → live_slots geo (at_turn m) c ≡ live_slots geo image c
    other-lives m l c q x y = live-slots-alike geo image (at_turn m) c (λ j h. ap is_live ((so_far m l).others c j q x y h))

    -- at the start
    at-start : InCopy geo image v t image
    at-start =
        record {
          mends =
              record { shaped = start.shaped; words = start.words; mendable = sound-mendable geo image start.sound; map = λ n. refl };
          counts = λ c l. refl;
          fulls = λ c l x. refl;
          lives = λ c l x y. refl;
          moved = refl;
          fewer = omega arith;
          wasted = omega arith;
          left = omega arith;
          begun = inl refl;
        }

    -- ---- on the way through a copy

    module _ (m n : ℕ) (l : m < d geo) (turn : InCopy geo image v t (at_turn m)) (live : slot geo (at_turn m) v m ≡ Live n) where
      abbrev now : Image
      now = at_turn m

      abbrev ws : List ℕ
      ws = contents geo now v m

      abbrev i : ℕ
      i = lowest_free geo now t

      h : Moved geo image v t m (copying geo image v t m) (table_copied geo image v t (right_table geo image) m)
      h = so_far m (omega arith)

      spot : Target geo now n ws t i
      spot = target geo image v t start victim_in target_in apart room m (copying geo image v t m) n l h live

      found : find geo now n ≡ At v m
      found = (each-in-turn geo image v t start victim_in target_in apart room).found_there m n l live

      one-copied : live_before geo image v m + 1 ≤ live_slots geo image v
      unfolding sum_below
      one-copied =
          let is_one = ap (λ (s : Slot). one_if (is_live s)) (sym (h.later m (omega arith) l) ∙ live) in
          omega (arith, is_one, (so_far (suc m) l).live-of-victim)

      -- the counts of v and t by how far the copy has come
      record Counted (x : Image) : Type 0 where
        lives : (c : ℕ) → c < geo.blocks → c ≢ v → c ≢ t → live_slots geo x c ≡ live_slots geo now c
        moved : live_slots geo x v + live_slots geo x t ≡ live_slots geo now v + live_slots geo now t
        fewer : live_slots geo x v ≤ live_slots geo now v
        wasted : free_slots geo now t + live_slots geo now t ≤ free_slots geo x t + live_slots geo x t + 1
        left : free_slots geo now t ≤ free_slots geo x t + 1
        begun : (x ≡ now) ⊎ (blank geo x t ≡ false)

      counted : (x : Image) → During geo now x n ws t i → Counted x
      counted x p = go p.stage
        where
          taken : Taken geo now (slot geo x) t i → (free_slots geo x t + 1 ≡ free_slots geo now t) × (blank geo x t ≡ false)
          taken kinds = (
            one-taken geo now x t i kinds target_in spot.slot_is spot.free,
            taken-not-blank geo x t spot.slot_is kinds.in_use,
          )

          go : (x ≡ now) ⊎ (Begun geo now (slot geo x) t i ⊎ Done geo now x n ws t i) → Counted x
          go (inl e) =
              rw e
              (record {
                lives = λ c q y z. refl;
                moved = refl;
                fewer = omega arith;
                wasted = omega arith;
                left = omega arith;
                begun = inl refl;
              })
          go (inr (inl b)) =
              let same = begun-lives geo now x t i spot.free b in
              let took = taken (begun-taken geo now (slot geo x) t i b h.ready.sound) in
              record {
                lives = λ c q y z. same c q;
                moved = omega (arith, same v victim_in, same t target_in);
                fewer = omega (arith, same v victim_in);
                wasted = omega (arith, same t target_in, took.0);
                left = omega (arith, took.0);
                begun = inr took.1;
              }
          go (inr (inr e)) =
              let took = ⊎_elim (λ q. absurd (same-free q)) taken (during-kinds geo now x n ws t i h.ready spot p) in
              let more = one_more geo now x n t i v m spot.free e.kinds found apart target_in spot.slot_is in
              let less = one_fewer geo now x n t i v m spot.free e.kinds found apart in
              record {
                lives = λ c q y z. lives-elsewhere geo now x n t i v m spot.free e.kinds found apart c q z y;
                moved = omega (arith, more, less);
                fewer = omega (arith, less);
                wasted = omega (arith, more, took.0);
                left = omega (arith, took.0);
                begun = inr took.1;
              }
            where
              same-free : x ≡ now → ⊥
              same-free q =
                  free-not-live (ap (λ (y : Image). slot geo y t i) q ∙ spot.free) e.kinds.here

      in-copy : (x : Image) → During geo now x n ws t i → InCopy geo image v t x
      in-copy x p =
          let c = counted x p in
          let got = h.received in
          record {
            mends =
                record {
                  shaped = p.shaped;
                  words = p.words;
                  mendable = p.mendable;
                  map = λ y. copy-map geo now x n ws t i h.ready spot p found refl y ∙ h.map y;
                };
            counts = λ b q. p.counts b q ∙ h.counts b q;
            fulls = λ b q y. during-full geo now x n ws t i h.ready spot p b q y ∙ turn.fulls b q y;
            lives = λ b q y z. c.lives b q y z ∙ other-lives m (omega arith) b q y z;
            moved = omega (arith, c.moved, h.live-of-victim, got.live-of-target);
            fewer = omega (arith, c.fewer, h.live-of-victim);
            wasted = omega (arith, c.wasted, got.free_of_target, got.live-of-target);
            left = omega (arith, c.left, got.free_of_target, one-copied);
            begun = ⊎_elim (λ e. ⊎_elim (λ q. inl (e ∙ q)) (λ q. inr (ap (λ (y : Image). blank geo y t) e ∙ q)) turn.begun) inr c.begun;
          }

      copy-along : Along geo (InCopy geo image v t) now (placing geo now n ws t i)
      copy-along =
          along-map geo (λ x. During geo now x n ws t i) (InCopy geo image v t) now (placing geo now n ws t i) in-copy
          (during geo now n ws t i h.ready spot)

    -- ---- all of them

    abbrev Copies : List Step → Type 0
    Copies steps = Along geo (InCopy geo image v t) image steps

    -- one slot more
    slot-along : (m : ℕ) → m < d geo → Copies (copying geo image v t m) → Copies (copying geo image v t (suc m))
    unfolding copying
    slot-along m l before = go (slot geo (at_turn m) v m) refl
      where
        turn : InCopy geo image v t (at_turn m)
        turn = along-end geo (InCopy geo image v t) image (copying geo image v t m) before

        next : (more : List Step) → Along geo (InCopy geo image v t) (at_turn m) more → Copies (copying geo image v t m ++ more)
        next more = along-append geo (InCopy geo image v t) image (copying geo image v t m) more before

        passed : Copies (copying geo image v t m ++ [])
        passed = next [] (along-none geo (InCopy geo image v t) (at_turn m) turn)

        go : (s : Slot) → slot geo (at_turn m) v m ≡ s → Copies (copying geo image v t m ++ copied_slot geo (at_turn m) v t m s)
        go Free e = passed
        go (Live n) e = next (copied_slot geo (at_turn m) v t m (Live n)) (copy-along m n l turn e)
        go Dead e = passed
        go Faulty e = passed
        go Superseded e = passed

    pub copying-along : (m : ℕ) → m ≤ d geo → Copies (copying geo image v t m)
    unfolding copying
    copying-along zero l = along-none geo (InCopy geo image v t) image at-start
    copying-along (suc m) l = slot-along m l (copying-along m (omega arith))
