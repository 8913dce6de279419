-- K4: the placing that ends a write with a reclaim is known before the first step too: its block and slot, where its number is found then, and the
-- bounds where the block is full by it. Assumes nothing.
use mathlib.Core.Path.{◌≡◌, refl, sym, ap, ap₂, ◌∙◌}
use mathlib.Core.Logic.{◌≢◌, ◌⊎◌, inl, inr, ⊎_elim, dite}
use mathlib.Core.Bool.{Bool, true, false, not, cond, ◌&&◌, ◌||◌, true≢false}
use mathlib.Core.List.{List}
use mathlib.Core.Option.{some, none}
use Prim.Native.Nat.{ℕ, ◌+◌, ◌*◌, ◌<◌, ◌≤◌}
use native.Mathlib.Decide.{ℕ_discrete}
use native.Mathlib.Omega.{arith}
use lib.Dec.{ltb, eqb}
use borrow.Author.Tests.{eq-eqb, ne_eqb, eqb-true, ltb-true, ltb-false}
use Rattle.ranges.specs.Range.{or_at, best_below}
use Rattle.ranges.proofs.Tests.{unless, either-passes, neither-passes, both-pass, all-ext, any_of, any_at, any-ext, none_of}
use Rattle.ranges.proofs.Sums.{count-one, count-fails}
use Rattle.ranges.proofs.Searches.{best-passes, best-some, best-least, best-ext, first-is}
use Rattle.geometry.specs.declared.Geometry.{Geometry}
use Rattle.geometry.specs.Geometry.{d}
use Rattle.image.specs.declared.Slot.TheVariants.{Free, Live}
use Rattle.image.specs.Found.{Found}
use Rattle.image.specs.Found.{At, Nothing}
use Rattle.image.specs.Words.{Image, erase_count}
use Rattle.image.specs.Slots.{slot, is_free, is_live, is_live_for, live_in, find}
use Rattle.image.specs.Blocks.{blank, full, is_open, free_slots, live_slots, lowest_free, lowest_open, less_worn, least_worn_blank}
use Rattle.image.proofs.Facts.{live-for, live-is-for}
use Rattle.image.proofs.Finding.{found-live, live-found, map_at, map-nothing}
use Rattle.flash.specs.declared.Step.{Step}
use Rattle.flash.specs.Steps.{run, step_at}
use Rattle.flash.specs.Placing.{entry_at}
use Rattle.flash.specs.Writing.{any_open, next_slot, filling, must_reclaim, reclaiming, reclaiming_first}
use Rattle.flash.specs.Ahead.{placement_steps, live_before, moved_to, moved_entry, victim_first, block_after, last_placement}
use Rattle.flash.proofs.Filling.{Ready, Target}
use Rattle.flash.proofs.Changed.{not_live, free-not-live, other_place}
use Rattle.flash.proofs.Ahead.{placing-ahead}
use Rattle.flash.proofs.Moving.{InOrder, copy-inside}
use Rattle.flash.proofs.Reclaimed.{Reclaimed}
use Rattle.flash.proofs.Chosen.{blank-slot}
use Rattle.flash.proofs.Written.{Sector, Reclaimable, none_open, one-blank, blank-in, is-blank, apart, spare, reclaim-leaves, reclaim-order, victim-blank, target-blank, target-open}
use Rattle.flash.proofs.Copies.{TakenUpTo, free-of-taken, map-of-taken, placing-step}

module _
    (geo : Geometry) (image : Image) (start : Ready geo image)
    (must : must_reclaim geo image ≡ true)
    (v : ℕ) (victim-is : Reclaimable geo image v)
  where
    abbrev t : ℕ
    t = least_worn_blank geo image

    abbrev base : Image
    base = run geo image (reclaiming geo image v (least_worn_blank geo image))

    -- how many copies there are
    abbrev copies : ℕ
    copies = live_slots geo image v

    r : Reclaimed geo image v t (reclaiming geo image v (least_worn_blank geo image))
    r = reclaim-leaves geo image start must v victim-is

    order : InOrder geo image base v t (d geo)
    order = reclaim-order geo image start must v victim-is

    target_in : t < geo.blocks
    target_in = blank-in geo image start must v victim-is

    different : v ≢ t
    different = apart geo image start must v victim-is

    was_free : (j : ℕ) → j < d geo → slot geo image t j ≡ Free
    was_free = blank-slot geo image t (is-blank geo image start must v victim-is)

    -- ---- the block and the slot

    -- of the other blocks none was blank or open, and they are as they were
    other-shut : (c : ℕ) → c < geo.blocks → c ≢ v → c ≢ t → (blank geo base c ≡ false) × (is_open geo base c ≡ false)
    unfolding blank full
    other-shut c l n n' =
        let same-blank : blank geo base c ≡ blank geo image c = all-ext (d geo) (λ j h. ap is_free (r.others c j l n n' h)) in
        let same_full : full geo base c ≡ full geo image c = ap not (any-ext (d geo) (λ j h. ap is_free (r.others c j l n n' h))) in (
          unless (blank geo base c)
              (λ e.
              n'
              (count-one geo.blocks (blank geo image) (one-blank geo image start must v victim-is) l target_in (sym same-blank ∙ e)
              (is-blank geo image start must v victim-is))),
          ap₂ (λ (x y : Bool). not x && not y) same-blank same_full ∙ none_open geo image start must v victim-is c l,
        )

    blank-shut : (c : ℕ) → blank geo base c ≡ true → is_open geo base c ≡ false
    blank-shut c e = rw e

    only-target-open : (c : ℕ) → c < geo.blocks → c ≢ t → is_open geo base c ≡ false
    only-target-open c l n = go (ℕ_discrete c v)
      where
        go : Dec (c ≡ v) → is_open geo base c ≡ false
        go (yes e) = blank-shut c (ap (blank geo base) e ∙ victim-blank geo image start must v victim-is)
        go (no e) = (other-shut c l e n).1

    -- something was copied: the other block is open, and the only one
    open_after : 1 ≤ copies → next_slot geo base ≡ At t copies
    unfolding lowest_open lowest_free
    open_after l =
        let opened = target-open geo image start must v victim-is l in
        rw (
          any_of geo.blocks (is_open geo base) target_in opened,
          first-is geo.blocks (is_open geo base) t (omega (arith, target_in))
              (λ c h. only-target-open c (omega (arith, target_in)) (λ e. omega arith))
              (λ k. opened),
          first-is (d geo) (λ j. is_free (slot geo base t j)) copies (omega (arith, spare geo image start must v victim-is)) order.used
              (λ k. ap is_free (order.left-free copies (omega arith) k)),
        )

    -- nothing was copied: both are blank, and no other
    module _ (none-live : copies ≡ 0) where
      empty-too : blank geo base t ≡ true
      empty-too = target-blank geo image start must v victim-is none-live

      none-open-after : any_open geo base ≡ false
      none-open-after = none_of geo.blocks (λ c l. go c l (ℕ_discrete c t))
        where
          go : (c : ℕ) → c < geo.blocks → Dec (c ≡ t) → is_open geo base c ≡ false
          go c l (yes e) = blank-shut c (ap (blank geo base) e ∙ empty-too)
          go c l (no e) = only-target-open c l e

      abbrev first : ℕ
      first = least_worn_blank geo base

      first-in : first < geo.blocks
      unfolding least_worn_blank
      first-in = best-some (less_worn geo base) geo.blocks (blank geo base) target_in empty-too

      first-blank : blank geo base first ≡ true
      unfolding least_worn_blank
      first-blank = best-passes (less_worn geo base) geo.blocks (blank geo base) first-in

      either : (first ≡ v) ⊎ (first ≡ t)
      either = go (ℕ_discrete first v) (ℕ_discrete first t)
        where
          go : Dec (first ≡ v) → Dec (first ≡ t) → (first ≡ v) ⊎ (first ≡ t)
          go (yes e) f = inl e
          go (no e) (yes f) = inr f
          go (no e) (no f) = absurd (true≢false (sym first-blank ∙ (other-shut first first-in e f).0))

      less-worn :
          (c : ℕ) →
          c < geo.blocks →
          blank geo base c ≡ true →
          (erase_count geo base first ≤ erase_count geo base c) × (erase_count geo base first ≡ erase_count geo base c → first ≤ c)
      unfolding least_worn_blank
      less-worn c l e = best-least (erase_count geo base) geo.blocks (blank geo base) l e

      -- by the counts as they are after the reclaim
      abbrev victim-count : ℕ
      victim-count = erase_count geo image v + 1

      abbrev target-count : ℕ
      target-count = erase_count geo image t

      is-target : first ≡ t → (target-count ≤ victim-count) × (target-count ≡ victim-count → t ≤ v)
      is-target e =
          let count-then = ap (erase_count geo base) e ∙ r.counts t target_in (λ q. different (sym q)) in
          let less = less-worn v victim-is.block (victim-blank geo image start must v victim-is) in
          (omega (arith, count-then, r.count, less.0), λ q. omega (arith, less.1 (count-then ∙ q ∙ sym r.count)))

      is-victim : first ≡ v → (victim-count ≤ target-count) × (victim-count ≡ target-count → v ≤ t)
      is-victim e =
          let count-then = ap (erase_count geo base) e ∙ r.count in
          let other = r.counts t target_in (λ q. different (sym q)) in
          let less = less-worn t target_in empty-too in
          (omega (arith, count-then, other, less.0), λ q. omega (arith, less.1 (count-then ∙ q ∙ sym other)))

      first-is-it : first ≡ cond (victim_first geo image v t) v t
      first-is-it = go (victim_first geo image v t) refl either
        where
          go : (x : Bool) → victim_first geo image v t ≡ x → (first ≡ v) ⊎ (first ≡ t) → first ≡ cond x v t
          go true e (inl q) = q
          go true e (inr q) =
              absurd
              (⊎_elim
              (λ less. omega (arith, ltb-true victim-count target-count less, (is-target q).0))
              (λ same.
              let both = both-pass (eqb victim-count target-count) (ltb v t) same in
              omega (arith, (is-target q).1 (sym (eqb-true victim-count target-count both.0)), ltb-true v t both.1))
              (either-passes (ltb victim-count target-count) (eqb victim-count target-count && ltb v t) e))
          go false e (inl q) =
              let neither = neither-passes (ltb victim-count target-count) (eqb victim-count target-count && ltb v t) e in
              let same : victim-count ≡ target-count = omega (arith, ltb-false victim-count target-count neither.0, (is-victim q).0) in
              let least : t ≤ v = ltb-false v t (rw (eq-eqb victim-count target-count same) at neither.1) in
              absurd (different (omega (arith, (is-victim q).1 same, least)))
          go false e (inr q) = q

      blank-after : next_slot geo base ≡ At (cond (victim_first geo image v t) v t) copies
      blank-after = rw (none-open-after, first-is-it, none-live)

    slot-after : next_slot geo base ≡ At (block_after geo image v t) copies
    slot-after = go (ℕ_discrete copies 0)
      where
        go : Dec (copies ≡ 0) → next_slot geo base ≡ At (block_after geo image v t) copies
        go (yes e) = blank-after e ∙ rw (eq-eqb copies 0 e)
        go (no e) = open_after (omega arith) ∙ rw (ne_eqb copies 0 e)

    abbrev last : ℕ
    last = block_after geo image v t

    -- what holds of the other block, and of the victim where nothing was copied, holds of this one
    at_last : (P : ℕ → Type 0) → (copies ≡ 0 → P v) → P t → P last
    at_last P victim target = go (eqb copies 0 && victim_first geo image v t) refl
      where
        go : (x : Bool) → (eqb copies 0 && victim_first geo image v t) ≡ x → P (cond x v t)
        go true e = victim (eqb-true copies 0 (both-pass (eqb copies 0) (victim_first geo image v t) e).0)
        go false e = target

    up_to : TakenUpTo geo base last copies
    up_to =
        let inside = spare geo image start must v victim-is in
        at_last (λ b. TakenUpTo geo base b copies)
        (λ none-live.
        record { block = victim-is.block; inside = inside; before = λ j l. absurd (omega arith); behind = λ j l h. r.emptied j h })
        (record { block = target_in; inside = inside; before = order.used; behind = order.left-free })

    -- ---- where each number is found

    -- a number and its entry: in the other block those of the victim, elsewhere as before
    record Goes (x : ℕ) (f : Found) : Type 0 where
      found : find geo base x ≡ moved_to geo image v t f
      entry : entry_at geo base (moved_to geo image v t f) ≡ moved_entry geo image v x f

    goes : (x : ℕ) → Goes x (find geo image x)
    goes x = go (find geo image x) refl
      where
        moves : (i : ℕ) → i < d geo → slot geo image v i ≡ Live x → Goes x (At v i)
        moves i l e =
            let copied = order.copies i x l e in
            record {
              found =
                  live-found geo base r.ready.sound.once x t (live_before geo image v i)
                  (record { block = target_in; slot_is = copy-inside geo image v l; live = copied.0 })
                  ∙ sym (rw (eq-eqb v v refl));
              entry = rw (eq-eqb v v refl) copied.1;
            }

        stays : (c i : ℕ) → c < geo.blocks → i < d geo → slot geo image c i ≡ Live x → c ≢ v → Goes x (At c i)
        stays c i l h e n =
            let n' : c ≢ t = λ q. free-not-live (ap (λ (y : ℕ). slot geo image y i) q ∙ was_free i h) e in
            record {
              found =
                  live-found geo base r.ready.sound.once x c i (record { block = l; slot_is = h; live = r.others c i l n n' h ∙ e })
                  ∙ sym (rw (ne_eqb c v n));
              entry = rw (ne_eqb c v n) (r.entries c i l n n' h);
            }

        nowhere : (f : Found) → find geo base x ≡ f → find geo image x ≡ Nothing → find geo base x ≡ Nothing
        nowhere (At b i) e e' =
            let clash : some _ ≡ none = sym (map_at geo base x b i e) ∙ r.map x ∙ map-nothing geo image x e' in
            let z : ◌≡◌ {A = ℕ} 0 1 = cc in
            absurd (omega arith)
        nowhere Nothing e e' = e

        go : (f : Found) → find geo image x ≡ f → Goes x f
        go (At c i) e =
            let at = found-live geo image x c i e in
            dite (ℕ_discrete c v)
            (λ p. rw p (moves i at.slot_is (ap (λ (y : ℕ). slot geo image y i) (sym p) ∙ at.live)))
            (λ n. stays c i at.block at.slot_is at.live n)
        go Nothing e = record { found = nowhere (find geo base x) refl e; entry = refl }

    -- ---- what is live in the block

    -- a number that is live in the other block was live in the victim: it was found there
    came_from : (x j : ℕ) → j < d geo → slot geo base t j ≡ Live x → live_in geo image v x ≡ true
    came_from x j l e = go (find geo image x) refl
      where
        goes-there : {f : Found} → find geo image x ≡ f → moved_to geo image v t f ≡ At t j
        goes-there q =
            ap (moved_to geo image v t) (sym q)
            ∙ sym (goes x).found
            ∙ live-found geo base r.ready.sound.once x t j (record { block = target_in; slot_is = l; live = e })

        go : (f : Found) → find geo image x ≡ f → live_in geo image v x ≡ true
        go Nothing q =
            let gone : Nothing ≡ At t j = goes-there q in
            let z : ◌≡◌ {A = ℕ} 0 1 = cc in
            absurd (omega arith)
        go (At c i) q =
            let at = found-live geo image x c i q in
            dite (ℕ_discrete c v)
            (λ p.
            any_of (d geo) (λ i. is_live_for x (slot geo image v i)) at.slot_is
            (live-is-for (ap (λ (y : ℕ). slot geo image y i) (sym p) ∙ at.live)))
            (λ n.
            absurd
            (other_place
            (λ p s. free-not-live (ap (λ (y : ℕ). slot geo image y i) p ∙ was_free i at.slot_is) at.live)
            (rw (ne_eqb c v n) at (goes-there q))))

    live-after : (x : ℕ) → live_in geo base last x ≡ live_in geo image v x
    live-after x =
        at_last (λ b. live_in geo base b x ≡ live_in geo image v x)
        (λ none-live.
        none_of (d geo) (λ j l. ap (is_live_for x) (r.emptied j l))
        ∙ sym
        (none_of (d geo)
        (λ j l.
        unless _
        (λ e. not_live (count-fails (d geo) (λ i. is_live (slot geo image v i)) none-live j l) (live-for x (slot geo image v j) e)))))
        (go (live_in geo image v x) refl)
      where
        go : (b : Bool) → live_in geo image v x ≡ b → live_in geo base t x ≡ b
        go true e =
            let was = any_at (d geo) (λ i. is_live_for x (slot geo image v i)) e in
            any_of (d geo) (λ j. is_live_for x (slot geo base t j)) (copy-inside geo image v was.1)
            (live-is-for (order.copies was.0 x was.1 (live-for x (slot geo image v was.0) was.2)).0)
        go false e =
            unless (live_in geo base t x)
            (λ q.
            let is = any_at (d geo) (λ j. is_live_for x (slot geo base t j)) q in
            true≢false (sym (came_from x is.0 is.1 (live-for x (slot geo base t is.0) is.2)) ∙ e))

    bound-after :
        (n : ℕ) (beats : ℕ → ℕ → Bool) →
        best_below beats geo.logical (or_at (live_in geo base last) n) ≡ best_below beats geo.logical (or_at (live_in geo image v) n)
    bound-after n beats = best-ext geo.logical (λ x l. ap (◌|| eqb n x) (live-after x)) (λ x y l h. refl)

    -- it is full by this placing where one slot is left behind the copies
    closes-after : eqb (free_slots geo base last) 1 ≡ eqb (copies + 1) (d geo)
    closes-after = go (ℕ_discrete (copies + 1) (d geo))
      where
        left : free_slots geo base last + copies ≡ d geo
        left = free-of-taken geo base last copies r.ready up_to

        go : Dec (copies + 1 ≡ d geo) → eqb (free_slots geo base last) 1 ≡ eqb (copies + 1) (d geo)
        go (yes e) = eq-eqb (free_slots geo base last) 1 (omega (arith, left)) ∙ sym (eq-eqb (copies + 1) (d geo) e)
        go (no e) = ne_eqb (free_slots geo base last) 1 (λ q. e (omega (arith, left))) ∙ sym (ne_eqb (copies + 1) (d geo) e)

    -- ---- so these are its steps

    module _ (n : ℕ) (ws : List ℕ) (sector : Sector geo n ws) where
      target : Target geo base n ws last copies
      target =
          record {
            number = sector.number;
            long = sector.long;
            words = sector.words;
            block = up_to.block;
            slot_is = up_to.inside;
            free = up_to.behind copies (omega arith) up_to.inside;
          }

      pub last-ahead : filling geo base n ws ≡ placement_steps geo (last_placement geo image v t n) ws
      unfolding filling
      last-ahead =
          rw (
            slot-after,
            placing-ahead geo base n ws last copies r.ready target,
            (goes n).found,
            (goes n).entry,
            map-of-taken geo base last copies r.ready up_to,
            closes-after,
            bound-after n (λ x y. false),
            bound-after n (λ x y. true),
          )

      pub last_step :
          (s : ℕ) →
          step_at (reclaiming_first geo image v n ws) (133 * live_slots geo image v + 2 + s)
          ≡ step_at (placement_steps geo (last_placement geo image v t n) ws) s
      last_step s = placing-step geo image start must v victim-is n ws s ∙ ap (λ (steps : List Step). step_at steps s) last-ahead
