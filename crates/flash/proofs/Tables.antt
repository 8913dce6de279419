-- What a write and a release keep of any table, right or wrong: its length, and every word that they do not set; and that the words which a
-- write sets are right. Assumes nothing.
use mathlib.Core.Path.{◌≡◌, refl, sym, ap, ◌∙◌}
use mathlib.Core.Logic.{◌≢◌, ◌⊎◌, inl, inr}
use mathlib.Core.Bool.{Bool, true, false, true≢false}
use mathlib.Core.List.{List}
use Prim.Native.Nat.{ℕ, zero, suc, ◌<◌, ◌≤◌}
use native.Mathlib.Decide.{ℕ_discrete}
use native.Mathlib.Omega.{arith}
use lib.ListN.{length, get_or, set, length-set}
use lib.Seq.{get_or-set_same, get_or-set_other}
use Rattle.ranges.proofs.Tests.{none-at, any_at}
use Rattle.geometry.specs.declared.Geometry.{Geometry}
use Rattle.geometry.specs.Geometry.{d}
use Rattle.image.specs.declared.Slot.{Slot}
use Rattle.image.specs.declared.Slot.TheVariants.{Free, Live, Dead, Faulty, Superseded}
use Rattle.image.specs.Found.{Found}
use Rattle.image.specs.Found.{At}
use Rattle.image.specs.Words.{Image, erase_count}
use Rattle.image.specs.Slots.{slot, is_live_for, live_in, find}
use Rattle.image.specs.Blocks.{lowest_free, least_worn_blank, victim}
use Rattle.image.specs.WellFormed.{ceiling, R6}
use Rattle.image.proofs.Facts.{live-for, live-is-for}
use Rattle.tables.specs.Tables.{Table, place_word, right_table, slot_noted}
use Rattle.tables.proofs.Laws.{right-long, right-at}
use Rattle.flash.specs.Steps.{run}
use Rattle.flash.specs.Writing.{next_slot, must_reclaim, at_turn, reclaiming, writing}
use Rattle.flash.specs.Tables.{table_copied, table_reclaimed, table_filled, table_reclaimed_first, table_written, table_released}
use Rattle.flash.proofs.Filling.{Ready}
use Rattle.flash.proofs.Written.{Sector, victim-reclaimable, victim-at-turn, writing-right}

module _ (geo : Geometry) (image : Image) where
  -- slot i of block v when the copying into block t comes to it
  abbrev slot_at_turn : ℕ → ℕ → ℕ → Slot
  slot_at_turn v t i = slot geo (at_turn geo image v t i) v i

  -- the slot of block t that a live one is copied to at that turn
  abbrev taken_at : ℕ → ℕ → ℕ → Found
  taken_at v t i = At t (lowest_free geo (at_turn geo image v t i) t)

  -- what holds of a table holds after a slot is noted, if it does so with the word of a live slot set
  noted-keeps :
      (P : Table → Type 0) (x : Table) (s : Slot) (now : Found) → P x → ((k : ℕ) → s ≡ Live k → P (set x k (place_word geo now))) → P (slot_noted geo x s now)
  noted-keeps P x Free now h step = h
  noted-keeps P x (Live k) now h step = step k refl
  noted-keeps P x Dead now h step = h
  noted-keeps P x Faulty now h step = h
  noted-keeps P x Superseded now h step = h

  -- what holds of a table at each turn of the copying, if it passes from each turn to the next
  copied-keeps :
      (P : ℕ → Table → Type 0) (v t : ℕ) (table : Table) →
      P 0 table →
      ((x : Table) (i : ℕ) → i < d geo → P i x → P (suc i) (slot_noted geo x (slot_at_turn v t i) (taken_at v t i))) →
      (m : ℕ) →
      m ≤ d geo →
      P m (table_copied geo image v t table m)
  unfolding table_copied
  copied-keeps P v t table h step zero l = h
  copied-keeps P v t table h step (suc m) l =
      step (table_copied geo image v t table m) m l (copied-keeps P v t table h step m (omega arith))

  -- a write of n sets the word of k: k is n, or there is a reclaim that copies a slot which is live for k
  abbrev SetsWord : ℕ → ℕ → Type 0
  SetsWord n k =
      (k ≡ n) ⊎ ((must_reclaim geo image ≡ true) × (i : ℕ) × (i < d geo) × (slot_at_turn (victim geo image) (least_worn_blank geo image) i ≡ Live k))

  -- what holds of a table holds after a write of n, if it stays so when the word of such a number is set
  written_keeps :
      (P : Table → Type 0) (n : ℕ) (table : Table) → P table → ((x : Table) (k w : ℕ) → SetsWord n k → P x → P (set x k w)) → P (table_written geo image n table)
  unfolding table_written table_reclaimed_first table_reclaimed table_filled
  written_keeps P n table h step = go (must_reclaim geo image) refl
    where
      go : (x : Bool) → must_reclaim geo image ≡ x → P (table_written geo image n table)
      go true must =
          rw must
          (step _ n _ (inl refl)
          (copied-keeps (λ i. P) (victim geo image) (least_worn_blank geo image) table h
          (λ x i l so_far. noted-keeps P x _ _ so_far (λ k e. step x k _ (inr (must, i, l, e)) so_far)) (d geo) (omega arith)))
      go false no-need = rw no-need (step table n _ (inl refl) h)

-- a write adds no word to a table, and takes none away
pub written-long : (geo : Geometry) (image : Image) (n : ℕ) (table : Table) → length (table_written geo image n table) ≡ length table
written-long geo image n table =
    written_keeps geo image (λ x. length x ≡ length table) n table refl (λ x k w sets e. length-set x k w ∙ e)

-- a release likewise
pub released-long : (geo : Geometry) (n : ℕ) (table : Table) → length (table_released geo n table) ≡ length table
unfolding table_released
released-long geo n table = length-set table n _

-- a write leaves the word of every number but the written one and, where it reclaims a block, those that are live there: the slots of
-- that block are copied as they stood at the start
pub writing-others :
    (geo : Geometry) (image : Image) (n m : ℕ) (table : Table) →
    m ≢ n →
    (must_reclaim geo image ≡ true → live_in geo image (victim geo image) m ≡ false) →
    Ready geo image →
    (must_reclaim geo image ≡ true → erase_count geo image (victim geo image) ≡ ceiling → ⊥) →
    get_or (table_written geo image n table) m 0 ≡ get_or table m 0
writing-others geo image n m table other not_live start below =
    written_keeps geo image (λ x. get_or x m 0 ≡ get_or table m 0) n table refl
    (λ x k w sets e. get_or-set_other x k m w 0 (not_set k sets) ∙ e)
  where
    not_set : (k : ℕ) → SetsWord geo image n k → m ≡ k → ⊥
    not_set k (inl written) same = other (same ∙ written)
    not_set k (inr (must, i, l, copied)) same =
        let victim-is = victim-reclaimable geo image start must (below must) in
        let was = sym (victim-at-turn geo image start must (victim geo image) victim-is i l) ∙ copied ∙ ap Live (sym same) in
        true≢false (sym (live-is-for was) ∙ none-at (d geo) (λ j. is_live_for m (slot geo image (victim geo image) j)) (not_live must) i l)

-- ---- the words that a write sets

module _ (geo : Geometry) (image : Image) where
  -- the copying keeps the length, and where slot i alone is live for m when its turn comes, then after that turn the word of m says where
  -- it was copied to
  copied-sets :
      (v t i m : ℕ) (table : Table) →
      m < length table →
      slot_at_turn geo image v t i ≡ Live m →
      ((j : ℕ) → j < d geo → slot_at_turn geo image v t j ≡ Live m → i ≡ j) →
      (k : ℕ) →
      k ≤ d geo →
      (length (table_copied geo image v t table k) ≡ length table)
      × (i < k → get_or (table_copied geo image v t table k) m 0 ≡ place_word geo (taken_at geo image v t i))
  copied-sets v t i m table inside live alone =
      copied-keeps geo image (λ k x. (length x ≡ length table) × (i < k → get_or x m 0 ≡ place_word geo (taken_at geo image v t i))) v t table
      (refl, λ l. absurd (omega arith))
      (λ x k l so_far. (
        noted-keeps geo image (λ y. length y ≡ length table) x (slot_at_turn geo image v t k) (taken_at geo image v t k) so_far.0
            (λ n e. length-set x n _ ∙ so_far.0),
        λ h. go x k l so_far h (ℕ_discrete i k),
      ))
    where
      go :
          (x : Table) (k : ℕ) →
          k < d geo →
          (length x ≡ length table) × (i < k → get_or x m 0 ≡ place_word geo (taken_at geo image v t i)) →
          i < suc k →
          Dec (i ≡ k) →
          get_or (slot_noted geo x (slot_at_turn geo image v t k) (taken_at geo image v t k)) m 0 ≡ place_word geo (taken_at geo image v t i)
      go x k l so_far h (yes e) = rw (← e, live) (get_or-set_same x m _ 0 (omega (arith, so_far.0)))
      go x k l so_far h (no other) =
          let said = so_far.1 (omega arith) in
          noted-keeps geo image (λ y. get_or y m 0 ≡ place_word geo (taken_at geo image v t i)) x _ _ said
          (λ n e. get_or-set_other x n m _ 0 (λ same. other (alone k l (e ∙ ap Live (sym same)))) ∙ said)

  -- whatever a table of a word for each number holds, a write of n leaves one and the same word for m
  abbrev OneWord : ℕ → ℕ → Type 0
  OneWord n m = (w : ℕ) × ((table : Table) → length table ≡ geo.logical → get_or (table_written geo image n table) m 0 ≡ w)

  -- so for n itself
  own-word : (n : ℕ) → n < geo.logical → OneWord n n
  unfolding table_written table_reclaimed_first table_filled
  own-word n l = go (must_reclaim geo image) refl
    where
      go : (x : Bool) → must_reclaim geo image ≡ x → OneWord n n
      go true must =
          let v = victim geo image in
          let w = place_word geo (next_slot geo (run geo image (reclaiming geo image v (least_worn_blank geo image)))) in (
            w,
            λ table long.
                let moved = table_reclaimed geo image v table in
                rw must
                (get_or-set_same moved n w 0 (omega (arith, length-set moved n w, rw must at (written-long geo image n table)))),
          )
      go false no-need =
          let w = place_word geo (next_slot geo image) in
          (w, λ table long. rw no-need (get_or-set_same table n w 0 (omega arith)))

  -- and for each other number that is live in the block that it reclaims: no two slots are live for one number
  moved_word :
      (n m : ℕ) →
      m ≢ n →
      m < geo.logical →
      Ready geo image →
      (must_reclaim geo image ≡ true → erase_count geo image (victim geo image) ≡ ceiling → ⊥) →
      must_reclaim geo image ≡ true →
      live_in geo image (victim geo image) m ≡ true →
      OneWord n m
  unfolding table_written table_reclaimed_first table_reclaimed table_filled
  moved_word n m other l start below must live =
      let v = victim geo image in
      let t = least_worn_blank geo image in
      let victim-is = victim-reclaimable geo image start must (below must) in
      let as-was = victim-at-turn geo image start must v victim-is in
      let at = any_at (d geo) (λ j. is_live_for m (slot geo image v j)) live in
      let i = at.0 in
      let here = live-for m (slot geo image v i) at.2 in (
        place_word geo (taken_at geo image v t i),
        λ table long.
            rw (must, get_or-set_other)
            ((copied-sets v t i m table (omega arith) (as-was i at.1 ∙ here)
            (λ j h e. (start.sound.once m v v i j victim-is.block victim-is.block at.1 h here (sym (as-was j h) ∙ e)).1) (d geo) (omega arith)
            ).1 at.1),
      )

-- the words that a write sets are right after it, whatever the table held: a right table has the same ones then
pub writing-sets :
    (geo : Geometry) (image : Image) (n m : ℕ) (ws : List ℕ) (table : Table) →
    Ready geo image →
    R6 geo image ≡ true →
    Sector geo n ws →
    (must_reclaim geo image ≡ true → erase_count geo image (victim geo image) ≡ ceiling → ⊥) →
    length table ≡ geo.logical →
    m < geo.logical →
    ((m ≡ n) ⊎ ((must_reclaim geo image ≡ true) × (live_in geo image (victim geo image) m ≡ true))) →
    get_or (table_written geo image n table) m 0 ≡ place_word geo (find geo (run geo image (writing geo image n ws)) m)
writing-sets geo image n m ws table start formed sector below long l sets =
    let one = settled sets (ℕ_discrete m n) in
    one.1 table long
    ∙ sym (one.1 (right_table geo image) (right-long geo image))
    ∙ ap (λ (x : Table). get_or x m 0) (writing-right geo image n ws start formed sector below)
    ∙ right-at geo (run geo image (writing geo image n ws)) l
  where
    settled : (m ≡ n) ⊎ ((must_reclaim geo image ≡ true) × (live_in geo image (victim geo image) m ≡ true)) → Dec (m ≡ n) → OneWord geo image n m
    settled which (yes e) = rw e (own-word geo image n sector.number)
    settled (inl e) (no other) = absurd (other e)
    settled (inr (must, live)) (no other) = moved_word geo image n m other l start below must live
