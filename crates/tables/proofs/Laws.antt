-- The laws of a table's words and of right tables, and that a table that is built is right. Assumes nothing.
use mathlib.Core.Path.{◌≡◌, refl, sym, ap, ◌∙◌}
use mathlib.Core.Logic.{◌≢◌, ◌⊎◌, inl, inr, ⊎_elim}
use Prim.Native.Nat.{ℕ, zero, suc, ◌+◌, ◌*◌, ◌%◌, ◌<◌, ◌≤◌}
use native.Mathlib.Decide.{ℕ_discrete}
use native.Mathlib.Nat.{mul-le-mul, mod-lt}
use native.Mathlib.Numerals.{add-one}
use native.Mathlib.Omega.{arith}
use lib.ListN.{length, get_or, length-set, length-replicate, get_or-replicate}
use lib.Seq.{get_or-set_same, get_or-set_other, ext_get_or}
use Rattle.ranges.proofs.Lists.{list_length, list_at}
use Rattle.geometry.specs.declared.Geometry.{Geometry}
use Rattle.geometry.specs.Geometry.{Limits, d}
use Rattle.geometry.proofs.Laws.{d_small, d-positive}
use Rattle.image.specs.declared.Slot.{Slot}
use Rattle.image.specs.declared.Slot.TheVariants.{Free, Live, Dead, Faulty, Superseded}
use Rattle.image.specs.Found.{Found}
use Rattle.image.specs.Found.{At, Nothing}
use Rattle.image.specs.Words.{Image}
use Rattle.image.specs.Slots.{slot, find}
use Rattle.image.proofs.Own.{live-number}
use Rattle.image.proofs.SlotKinds.{NotLive}
use Rattle.image.proofs.Facts.{Sound}
use Rattle.image.proofs.Finding.{found-live, found_nothing}
use Rattle.tables.specs.Tables.{Table, nowhere, place_word, right_table, noted, slot_noted, block_noted, blocks_noted}

module _ (geo : Geometry) (within : Limits geo) where
  -- a slot's number through all blocks is small: it fits in a word, and is not that of a number that is live nowhere
  pub word_small : {b i : ℕ} → b < geo.blocks → i < d geo → b * d geo + i < 4096
  word_small {b} {i} l h =
      let most : b * d geo ≤ 63 * 63 = mul-le-mul {n₂ = 63} (omega (arith, within.blocks_high)) (d_small geo within) in
      omega (arith, d_small geo within)

  -- a word tells a slot of a block
  pub told-slot : (w : ℕ) → w % d geo < d geo
  told-slot w = mod-lt w (d-positive geo within)

module _ (geo : Geometry) where
  -- ---- right tables

  pub right-long : (image : Image) → length (right_table geo image) ≡ geo.logical
  unfolding right_table
  right-long image = list_length geo.logical _

  pub right-at : (image : Image) {n : ℕ} → n < geo.logical → get_or (right_table geo image) n 0 ≡ place_word geo (find geo image n)
  unfolding right_table
  right-at image l = list_at geo.logical _ 0 l

  -- a table with a word for each number, all of them right, is the right one
  pub right-by-words :
      (image : Image) (table : Table) →
      length table ≡ geo.logical →
      ((n : ℕ) → n < geo.logical → get_or table n 0 ≡ place_word geo (find geo image n)) →
      table ≡ right_table geo image
  right-by-words image table long words =
      ext_get_or 0 table (right_table geo image) (long ∙ sym (right-long image))
      (λ n l. let h : n < geo.logical = omega (arith, long) in words n h ∙ sym (right-at image h))

  -- where every number is found as before, the right table is as before
  pub right-same : (image after : Image) → ((n : ℕ) → find geo after n ≡ find geo image n) → right_table geo image ≡ right_table geo after
  right-same image after same =
      right-by-words after (right_table geo image) (right-long image) (λ n l. right-at image l ∙ ap (place_word geo) (sym (same n)))

  -- where one number is found elsewhere, and every other as before, the right table has its word changed
  pub right-noted :
      (image after : Image) (n : ℕ) (now : Found) →
      find geo after n ≡ now →
      ((m : ℕ) → m ≢ n → find geo after m ≡ find geo image m) →
      noted geo (right_table geo image) n now ≡ right_table geo after
  right-noted image after n now here others =
      right-by-words after (noted geo (right_table geo image) n now)
      (length-set (right_table geo image) n (place_word geo now) ∙ right-long image)
      (λ m l. go m l (ℕ_discrete m n))
    where
      go : (m : ℕ) → m < geo.logical → Dec (m ≡ n) → get_or (noted geo (right_table geo image) n now) m 0 ≡ place_word geo (find geo after m)
      go m l (yes e) =
          rw e
          (get_or-set_same (right_table geo image) n (place_word geo now) 0 (omega (arith, right-long image))
          ∙ ap (place_word geo) (sym here))
      go m l (no x) =
          get_or-set_other (right_table geo image) n m (place_word geo now) 0 x ∙ right-at image l ∙ ap (place_word geo) (sym (others m x))

  -- ---- the table that is built

  -- one slot more, by what it is
  pub block-next :
      (image : Image) (b : ℕ) (table : Table) (m : ℕ) {s : Slot} →
      slot geo image b m ≡ s →
      block_noted geo image b table (m + 1) ≡ slot_noted geo (block_noted geo image b table m) s (At b m)
  unfolding block_noted
  block-next image b table m e = rw (add-one, e)

  -- a slot that is not live adds nothing
  pub slot_same : (table : Table) (s : Slot) (now : Found) → NotLive s → slot_noted geo table s now ≡ table
  slot_same table Free now other = refl
  slot_same table (Live n) now other = absurd (other n refl)
  slot_same table Dead now other = refl
  slot_same table Faulty now other = refl
  slot_same table Superseded now other = refl

  pub block_same :
      (image : Image) (b : ℕ) (table : Table) (m : ℕ) {s : Slot} →
      slot geo image b m ≡ s →
      NotLive s →
      block_noted geo image b table (m + 1) ≡ block_noted geo image b table m
  block_same image b table m {s} e other = block-next image b table m e ∙ slot_same _ s _ other

  pub blocks-next :
      (image : Image) (b : ℕ) → blocks_noted geo image (b + 1) ≡ block_noted geo image b (blocks_noted geo image b) (d geo)
  unfolding blocks_noted
  blocks-next image b = rw add-one

-- slot j of block c comes before slot m of block b
abbrev Before : ℕ → ℕ → ℕ → ℕ → Type 0
Before c j b m = (c < b) ⊎ ((c ≡ b) × (j < m))

module _ (geo : Geometry) (image : Image) (s : Sound geo image) where
  -- the table when all slots before slot m of block b are noted
  record Covers (b m : ℕ) (table : Table) : Type 0 where
    long : length table ≡ geo.logical
    noted-at : (n c j : ℕ) → c < geo.blocks → j < d geo → Before c j b m → slot geo image c j ≡ Live n → get_or table n 0 ≡ place_word geo (At c j)
    not_noted :
        (n : ℕ) → n < geo.logical → ((c j : ℕ) → c < geo.blocks → j < d geo → Before c j b m → slot geo image c j ≡ Live n → ⊥) → get_or table n 0 ≡ nowhere

  -- a slot before the next one is this one, or before it
  before-next : {c j b m : ℕ} → Before c j b (suc m) → ((c ≡ b) × (j ≡ m)) ⊎ Before c j b m
  before-next {c} {j} {b} {m} (inl l) = inr (inl l)
  before-next {c} {j} {b} {m} (inr (e, l)) = go (ℕ_discrete j m)
    where
      go : Dec (j ≡ m) → ((c ≡ b) × (j ≡ m)) ⊎ Before c j b m
      go (yes q) = inl (e, q)
      go (no q) = inr (inr (e, omega arith))

  before-later : {c j b m : ℕ} → Before c j b m → Before c j b (suc m)
  before-later (inl l) = inl l
  before-later (inr (e, l)) = inr (e, omega arith)

  -- a slot that is not live is passed by
  passed-by : {b m : ℕ} {table : Table} → ((n : ℕ) → slot geo image b m ≡ Live n → ⊥) → Covers b m table → Covers b (suc m) table
  passed-by none h =
      record {
        long = h.long;
        noted-at = λ n c j l k p e.
            ⊎_elim (λ same. absurd (none n (sym (rw (same.0, same.1)) ∙ e))) (λ q. h.noted-at n c j l k q e) (before-next p);
        not_noted = λ n l nowhere-before. h.not_noted n l (λ c j k r p e. nowhere-before c j k r (before-later p) e);
      }

  -- a live slot is noted
  one-noted :
      {b m n : ℕ} {table : Table} →
      b < geo.blocks →
      m < d geo →
      slot geo image b m ≡ Live n →
      Covers b m table →
      Covers b (suc m) (noted geo table n (At b m))
  one-noted {b} {m} {n} {table} block inside live h =
      record {
        long = length-set table n (place_word geo (At b m)) ∙ h.long;
        noted-at = λ x c j l k p e. at x c j l k p e (ℕ_discrete x n);
        not_noted = λ x l none. away x l none (ℕ_discrete x n);
      }
    where
      at :
          (x c j : ℕ) →
          c < geo.blocks →
          j < d geo →
          Before c j b (suc m) →
          slot geo image c j ≡ Live x →
          Dec (x ≡ n) →
          get_or (noted geo table n (At b m)) x 0 ≡ place_word geo (At c j)
      at x c j l k p e (yes q) =
          let same = s.once n c b j m l block k inside (e ∙ ap Live q) live in
          rw (q, same.0, same.1) (get_or-set_same table n (place_word geo (At b m)) 0 (omega (arith, h.long, live-number geo image b m live)))
      at x c j l k p e (no q) =
          get_or-set_other table n x (place_word geo (At b m)) 0 q
          ∙ ⊎_elim
          (λ same. absurd (q (let one : slot geo image b m ≡ Live x = sym (rw (same.0, same.1)) ∙ e in cc)))
          (λ r. h.noted-at x c j l k r e)
          (before-next p)

      away :
          (x : ℕ) →
          x < geo.logical →
          ((c j : ℕ) → c < geo.blocks → j < d geo → Before c j b (suc m) → slot geo image c j ≡ Live x → ⊥) →
          Dec (x ≡ n) →
          get_or (noted geo table n (At b m)) x 0 ≡ nowhere
      away x l none (yes q) = absurd (none b m block inside (inr (refl, omega arith)) (live ∙ ap Live (sym q)))
      away x l none (no q) =
          get_or-set_other table n x (place_word geo (At b m)) 0 q
          ∙ h.not_noted x l (λ c j k r p e. none c j k r (before-later p) e)

  -- one slot more, whatever it is
  slot-covers :
      {b m : ℕ} {table : Table} →
      b < geo.blocks →
      m < d geo →
      Covers b m table →
      (x : Slot) →
      slot geo image b m ≡ x →
      Covers b (suc m) (slot_noted geo table x (At b m))
  slot-covers {b} {m} {table} l k so_far = go
    where
      other : {x : Slot} → slot geo image b m ≡ x → ((n : ℕ) → x ≡ Live n → ⊥) → Covers b (suc m) table
      other e none = passed-by (λ n q. none n (sym e ∙ q)) so_far

      go : (x : Slot) → slot geo image b m ≡ x → Covers b (suc m) (slot_noted geo table x (At b m))
      go Free e = other e (λ n q. let z : ◌≡◌ {A = ℕ} 0 1 = cc in omega arith)
      go (Live n) e = one-noted l k e so_far
      go Dead e = other e (λ n q. let z : ◌≡◌ {A = ℕ} 0 1 = cc in omega arith)
      go Faulty e = other e (λ n q. let z : ◌≡◌ {A = ℕ} 0 1 = cc in omega arith)
      go Superseded e = other e (λ n q. let z : ◌≡◌ {A = ℕ} 0 1 = cc in omega arith)

  -- the slots of a block
  block-covers :
      (b : ℕ) (table : Table) → b < geo.blocks → Covers b 0 table → (m : ℕ) → m ≤ d geo → Covers b m (block_noted geo image b table m)
  unfolding block_noted
  block-covers b table l h zero k = h
  block-covers b table l h (suc m) k = slot-covers l k (block-covers b table l h m (omega arith)) (slot geo image b m) refl

  -- all slots of the blocks
  blocks-cover : (b : ℕ) → b ≤ geo.blocks → Covers b 0 (blocks_noted geo image b)
  unfolding blocks_noted
  blocks-cover zero l =
      record {
        long = length-replicate geo.logical nowhere;
        noted-at = λ n c j k r p e. absurd (⊎_elim (λ (q : c < 0). omega arith) (λ q. omega (arith, q.1)) p);
        not_noted = λ n k none. get_or-replicate geo.logical n nowhere 0 k;
      }
  blocks-cover (suc b) l =
      let all = block-covers b (blocks_noted geo image b) l (blocks-cover b (omega arith)) (d geo) (omega arith) in
      record {
        long = all.long;
        noted-at = λ n c j k r p e. all.noted-at n c j k r (earlier r p) e;
        not_noted = λ n k none. all.not_noted n k (λ c j q r p e. none c j q r (later p) e);
      }
    where
      earlier : {c j : ℕ} → j < d geo → Before c j (suc b) 0 → Before c j b (d geo)
      earlier {c} {j} r (inl k) = go (ℕ_discrete c b)
        where
          go : Dec (c ≡ b) → Before c j b (d geo)
          go (yes q) = inr (q, r)
          go (no q) = inl (omega arith)
      earlier r (inr (e, k)) = absurd (omega arith)

      later : {c j : ℕ} → Before c j b (d geo) → Before c j (suc b) 0
      later (inl k) = inl (omega arith)
      later (inr (e, k)) = inl (omega arith)

  -- so what is built is right
  pub built-right : blocks_noted geo image geo.blocks ≡ right_table geo image
  built-right =
      right-by-words geo image (blocks_noted geo image geo.blocks) all.long (λ n l. go n l (find geo image n) refl)
    where
      all : Covers geo.blocks 0 (blocks_noted geo image geo.blocks)
      all = blocks-cover geo.blocks (omega arith)

      go : (n : ℕ) → n < geo.logical → (f : Found) → find geo image n ≡ f → get_or (blocks_noted geo image geo.blocks) n 0 ≡ place_word geo (find geo image n)
      go n l (At b i) e =
          let at = found-live geo image n b i e in
          rw e (all.noted-at n b i at.block at.slot_is (inl at.block) at.live)
      go n l Nothing e = rw e (all.not_noted n l (λ c j k r p q. found_nothing geo image n e c j k r q))
