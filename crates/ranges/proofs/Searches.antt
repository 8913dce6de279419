-- The laws of `best_below`, and of the two searches that it serves: the first index, and the last. Assumes nothing.
use Prim.Native.Nat.{ℕ, zero, suc, ◌+◌, ◌≤◌, ◌<◌, suc-le-suc}
use mathlib.Core.Path.{◌≡◌, refl, sym, ap, ◌∙◌}
use mathlib.Core.Logic.{⊎_elim}
use mathlib.Core.Bool.{Bool, true, false, ◌&&◌, cond, and-true, and-false, true≢false, false≢true}
use native.Mathlib.Nat.{le_step, lt-suc_self, le_refl}
use native.Mathlib.Decide.{dec_lt}
use native.Mathlib.Numerals.{add-one}
use native.Mathlib.Omega.{arith}
use lib.Dec.{ltb}
use borrow.Author.Tests.{lt-ltb, le-ltb, ltb-true, ltb-false, eq-eqb, ne_eqb}
use Rattle.std.specs.Prelude.{Option, Some, None, is_some}
use Rattle.ranges.specs.Range.{any_below, count_below, best_below, first_below, last_below, nth_passing, index_below}
use Rattle.ranges.proofs.Tests.{below_suc, any_at}

-- two numbers of which neither is below the other
unless-apart : {x r : ℕ} → (x < r → ⊥) → (r < x → ⊥) → x ≡ r
unless-apart {x} {r} below above = omega arith

module _ (beats : ℕ → ℕ → Bool) where
  -- ---- one index more: the four ways to go on, where r is the best so far

  -- none so far, and the next passes
  pub best-found : (m : ℕ) (f : ℕ → Bool) {r : ℕ} → r ≡ best_below beats m f → m ≤ r → f m ≡ true → m ≡ best_below beats (m + 1) f
  unfolding best_below
  best-found m f {r} e l t = rw (add-one, ← e, le-ltb r m l, t)

  -- none so far, nor the next
  pub best-missing : (m : ℕ) (f : ℕ → Bool) {r : ℕ} → r ≡ best_below beats m f → m ≤ r → f m ≡ false → m + 1 ≡ best_below beats (m + 1) f
  unfolding best_below
  best-missing m f {r} e l t = rw (add-one, ← e, le-ltb r m l, t)

  -- the next passes and beats the best so far
  pub best-beaten :
      (m : ℕ) (f : ℕ → Bool) {r : ℕ} → r ≡ best_below beats m f → r < m → f m ≡ true → beats m r ≡ true → m ≡ best_below beats (m + 1) f
  unfolding best_below
  best-beaten m f {r} e l t b = rw (add-one, ← e, lt-ltb r m l, t, b)

  -- the next fails, or does not beat it
  pub best-stays :
      (m : ℕ) (f : ℕ → Bool) {r : ℕ} → r ≡ best_below beats m f → r < m → (f m && beats m r) ≡ false → r ≡ best_below beats (m + 1) f
  unfolding best_below
  best-stays m f {r} e l b = rw (add-one, ← e, lt-ltb r m l, b)

  -- what holds of the best so far, and of the next index where it passes, holds of the best
  -- (P is asked of an index that was found; none is found at m)
  best-ind :
      (f : ℕ → Bool) (P : ℕ → ℕ → Type 0) →
      P 0 0 →
      ((m : ℕ) → P m m → f m ≡ true → P (suc m) m) →
      ((m : ℕ) → P m m → f m ≡ false → P (suc m) (suc m)) →
      ((m r : ℕ) → P m r → r < m → f m ≡ true → beats m r ≡ true → P (suc m) m) →
      ((m r : ℕ) → P m r → r < m → (f m && beats m r) ≡ false → P (suc m) r) →
      (m : ℕ) →
      P m (best_below beats m f) × (best_below beats m f ≤ m)
  unfolding best_below
  best-ind f P start found missing beaten stays zero = (start, omega arith)
  best-ind f P start found missing beaten stays (suc m) =
      let before = best-ind f P start found missing beaten stays m in
      go (best_below beats m f) before (ltb (best_below beats m f) m) refl (f m) refl
    where
      go :
          (r : ℕ) →
          P m r × (r ≤ m) →
          (b : Bool) →
          ltb r m ≡ b →
          (t : Bool) →
          f m ≡ t →
          P (suc m) (cond b (cond (t && beats m r) m r) (cond t m (suc m))) × (cond b (cond (t && beats m r) m r) (cond t m (suc m)) ≤ suc m)
      go r p true l false e = (stays m r p.0 (ltb-true r m l) (rw e), omega arith)
      go r p true l true e = inner (beats m r) refl
        where
          inner : (w : Bool) → beats m r ≡ w → P (suc m) (cond w m r) × (cond w m r ≤ suc m)
          inner true q = (beaten m r p.0 (ltb-true r m l) e q, omega arith)
          inner false q = (stays m r p.0 (ltb-true r m l) (rw (e, q)), omega arith)
      go r p false l true e =
          let same : r ≡ m = omega (arith, ltb-false r m l) in
          (found m (rw same at p.0) e, omega arith)
      go r p false l false e =
          let same : r ≡ m = omega (arith, ltb-false r m l) in
          (missing m (rw same at p.0) e, omega arith)

  -- ---- what the best index is

  pub best-le : (m : ℕ) (f : ℕ → Bool) → best_below beats m f ≤ m
  best-le m f =
      (best-ind f (λ m r. Unit {0}) tt (λ m p t. tt) (λ m p t. tt) (λ m r p l t b. tt) (λ m r p l b. tt) m).1

  -- it passes
  pub best-passes : (m : ℕ) (f : ℕ → Bool) → best_below beats m f < m → f (best_below beats m f) ≡ true
  best-passes m f =
      (best-ind f (λ m r. r < m → f r ≡ true)
      (λ l. absurd (omega arith))
      (λ m p t l. t)
      (λ m p t l. absurd (omega arith))
      (λ m r p l t b k. t)
      (λ m r p l b k. p l)
      m).0

  -- it is there where any index passes
  pub best-some : (m : ℕ) (f : ℕ → Bool) {i : ℕ} → i < m → f i ≡ true → best_below beats m f < m
  best-some m f {i} l t =
      (best-ind f (λ m r. (i : ℕ) → i < m → f i ≡ true → r < m)
      (λ i l t. absurd (omega arith))
      (λ m p e i l t. omega arith)
      (λ m p e i l t.
      ⊎_elim
      (λ q. absurd (true≢false (sym t ∙ ap f q ∙ e)))
      (λ k. absurd (omega (arith, p i k t)))
      (below_suc l))
      (λ m r p k e b i l t. omega arith)
      (λ m r p k b i l t. omega arith)
      m).0 i l t

  -- so where the test of the range passes
  pub best-any : (m : ℕ) (f : ℕ → Bool) → any_below m f ≡ true → best_below beats m f < m
  best-any m f t = let found = any_at m f t in best-some m f found.1 found.2

  pub best_none : (m : ℕ) (f : ℕ → Bool) → ((i : ℕ) → i < m → f i ≡ false) → best_below beats m f ≡ m
  best_none m f none =
      ⊎_elim
      (λ e. e)
      (λ l. absurd (true≢false (sym (best-passes m f l) ∙ none (best_below beats m f) l)))
      (below_suc (suc-le-suc (best-le m f)))

  -- Where beating is to have more of something, or as much, none has more than the best.
  pub best-most :
      (key : ℕ → ℕ) →
      ((i j : ℕ) → beats i j ≡ true → key j ≤ key i) →
      ((i j : ℕ) → beats i j ≡ false → key i ≤ key j) →
      (m : ℕ) (f : ℕ → Bool) {i : ℕ} →
      i < m →
      f i ≡ true →
      key i ≤ key (best_below beats m f)
  best-most key more less m f {i} l t =
      ((best-ind f (λ m r. (i : ℕ) → i < m → f i ≡ true → (r < m) × (key i ≤ key r))
      (λ i l t. absurd (omega arith))
      (λ m p e i l t. ⊎_elim (λ q. (omega arith, rw q (le_refl (key m)))) (λ k. absurd (omega (arith, (p i k t).0))) (below_suc l))
      (λ m p e i l t.
      ⊎_elim
      (λ q. absurd (true≢false (sym t ∙ ap f q ∙ e)))
      (λ k. absurd (omega (arith, (p i k t).0)))
      (below_suc l))
      (λ m r p k e b i l t.
      ⊎_elim (λ q. (omega arith, rw q (le_refl (key m)))) (λ h. (omega arith, omega (arith, (p i h t).1, more m r b))) (below_suc l))
      (λ m r p k b i l t.
      ⊎_elim (λ q. (omega arith, rw q (less m r (rw (sym (ap f q) ∙ t) at b)))) (λ h. (omega arith, (p i h t).1)) (below_suc l))
      m).0 i l t).1

-- Where beating is to have less of something, none has less than the best, and none before it as little.
pub best-least :
    (key : ℕ → ℕ) (m : ℕ) (f : ℕ → Bool) {i : ℕ} →
    i < m →
    f i ≡ true →
    let r = best_below (λ i r. ltb (key i) (key r)) m f in
    (key r ≤ key i) × (key r ≡ key i → r ≤ i)
best-least key m f {i} l t =
    ((best-ind (λ i r. ltb (key i) (key r)) f (λ m r. (i : ℕ) → i < m → f i ≡ true → (r < m) × ((key r ≤ key i) × (key r ≡ key i → r ≤ i)))
    (λ i l t. absurd (omega arith))
    (λ m p e i l t.
    ⊎_elim (λ q. (omega arith, (rw q (le_refl (key m)), λ s. omega arith))) (λ k. absurd (omega (arith, (p i k t).0))) (below_suc l))
    (λ m p e i l t.
    ⊎_elim
    (λ q. absurd (true≢false (sym t ∙ ap f q ∙ e)))
    (λ k. absurd (omega (arith, (p i k t).0)))
    (below_suc l))
    (λ m r p k e b i l t.
    ⊎_elim
    (λ q. (omega arith, (rw q (le_refl (key m)), λ s. omega arith)))
    (λ h.
    let less = ltb-true (key m) (key r) b in
    (omega arith, (omega (arith, (p i h t).1.0, less), λ s. absurd (omega (arith, (p i h t).1.0, less)))))
    (below_suc l))
    (λ m r p k b i l t.
    ⊎_elim
    (λ q. (omega arith, (rw q (ltb-false (key m) (key r) (rw (sym (ap f q) ∙ t) at b)), λ s. omega arith)))
    (λ h. (omega arith, (p i h t).1))
    (below_suc l))
    m).0 i l t).1

-- the same indices pass, and those that do beat each other alike
pub best-alike :
    (m : ℕ) {f g : ℕ → Bool} {beats wins : ℕ → ℕ → Bool} →
    ((i : ℕ) → i < m → f i ≡ g i) →
    ((i r : ℕ) → i < m → r < m → f i ≡ true → f r ≡ true → beats i r ≡ wins i r) →
    best_below beats m f ≡ best_below wins m g
unfolding best_below
best-alike zero h b = refl
best-alike (suc m) {f} {g} {beats} {wins} h b =
    rw (best-alike m (λ i l. h i (le_step l)) (λ i r l k. b i r (le_step l) (le_step k)), h m (lt-suc_self m))
    (go (best_below wins m g) (best-passes wins m g) (ltb (best_below wins m g) m) refl (g m) refl)
  where
    go :
        (r : ℕ) →
        (r < m → g r ≡ true) →
        (x : Bool) →
        ltb r m ≡ x →
        (t : Bool) →
        g m ≡ t →
        cond x (cond (t && beats m r) m r) (cond t m (suc m)) ≡ cond x (cond (t && wins m r) m r) (cond t m (suc m))
    go r p true l true e =
        let k = ltb-true r m l in
        rw (b m r (lt-suc_self m) (le_step k) (h m (lt-suc_self m) ∙ e) (h r (le_step k) ∙ p k))
    go r p true l false e = refl
    go r p false l t e = refl

pub best-ext :
    (m : ℕ) {f g : ℕ → Bool} {beats wins : ℕ → ℕ → Bool} →
    ((i : ℕ) → i < m → f i ≡ g i) →
    ((i r : ℕ) → i < m → r < m → beats i r ≡ wins i r) →
    best_below beats m f ≡ best_below wins m g
best-ext m h b = best-alike m h (λ i r l k t u. b i r l k)

-- r beats those before it that pass, and is beaten by none behind it that does
abbrev pub Foremost : (ℕ → ℕ → Bool) → ℕ → (ℕ → Bool) → ℕ → Type 0
Foremost beats m f r =
    ((c : ℕ) → c < r → f c ≡ true → beats r c ≡ true) × ((c : ℕ) → r < c → c < m → f c ≡ true → beats c r ≡ false)

-- such an index is the best where it passes itself
pub best-is :
    (beats : ℕ → ℕ → Bool) (m : ℕ) (f : ℕ → Bool) (v : ℕ) → v < m → f v ≡ true → Foremost beats m f v → best_below beats m f ≡ v
best-is beats m f v l t foremost =
    ((best-ind beats f (λ n r. n ≤ m → (r < n → f r ≡ true) × (v < n → r ≡ v))
    (λ k. ((λ h. absurd (omega arith)), λ h. absurd (omega arith)))
    (λ n p e k. ((λ h. e), λ h. ⊎_elim sym (λ q. (p (omega arith)).1 q) (below_suc h)))
    (λ n p e k. (
      (λ h. absurd (omega arith)),
      λ h. ⊎_elim (λ q. absurd (true≢false (sym t ∙ ap f q ∙ e))) (λ q. absurd (omega (arith, (p (omega arith)).1 q))) (below_suc h),
    ))
    (λ n r p q e b k. ((λ h. e), λ h. ⊎_elim sym (λ x. absurd (true≢false (sym b ∙ loses n r ((p (omega arith)).1 x) x (omega arith) e))) (below_suc h)))
    (λ n r p q b k. (
      (λ h. (p (omega arith)).0 q),
      λ h. ⊎_elim (λ e. absurd (true≢false (sym (wins n r e q ((p (omega arith)).0 q)) ∙ b))) (λ x. (p (omega arith)).1 x) (below_suc h),
    ))
    m).0 (omega arith)).1 l
  where
    loses : (n r : ℕ) → r ≡ v → v < n → n < m → f n ≡ true → beats n r ≡ false
    loses n r e h k q = rw e (foremost.1 n h k q)

    wins : (n r : ℕ) → v ≡ n → r < n → f r ≡ true → (f n && beats n r) ≡ true
    wins n r e h q = rw (← e, t) (foremost.0 r (omega arith) q)

-- and the other way, where beating passes on: through one between, and over one that does not beat
module _
    (beats : ℕ → ℕ → Bool)
    (through : (i j k : ℕ) → beats i j ≡ true → beats j k ≡ true → beats i k ≡ true)
    (over : (i j k : ℕ) → beats i k ≡ true → beats j k ≡ false → beats i j ≡ true) where
  pub best-foremost : (m : ℕ) (f : ℕ → Bool) → best_below beats m f < m → Foremost beats m f (best_below beats m f)
  best-foremost m f =
      (best-ind beats f (λ m r. (r ≡ m → (c : ℕ) → c < m → f c ≡ false) × (r < m → Foremost beats m f r))
      ((λ e c l. absurd (omega arith)), λ l. absurd (omega arith))
      (λ m p t. ((λ e. absurd (omega arith)), λ l. ((λ c k u. absurd (true≢false (sym u ∙ p.0 refl c k))), λ c k h u. absurd (omega arith))))
      (λ m p t. ((λ e c l. ⊎_elim (λ q. rw q t) (λ k. p.0 refl c k) (below_suc l)), λ l. absurd (omega arith)))
      (λ m r p l t b. ((λ e. absurd (omega arith)), λ k. (takes m r (p.1 l) l b, λ c h q u. absurd (omega arith))))
      (λ m r p l b. (
        (λ e. absurd (omega arith)),
        λ k. (
          (p.1 l).0,
          λ c h q u. ⊎_elim (λ e. rw e (rw (sym (ap f e) ∙ u) at b)) (λ n. (p.1 l).1 c h n u) (below_suc q),
        ),
      ))
      m).0.1
    where
      takes : (m r : ℕ) → Foremost beats m f r → r < m → beats m r ≡ true → (c : ℕ) → c < m → f c ≡ true → beats m c ≡ true
      takes m r p l b c k u = go (dec_lt c r) (dec_lt r c)
        where
          go : Dec (c < r) → Dec (r < c) → beats m c ≡ true
          go (yes h) x = through m r c b (p.0 c h u)
          go (no h) (yes x) = over m c r b (p.1 c x k u)
          go (no h) (no x) = let same : c ≡ r = omega arith in rw same b

-- ---- the first

-- none before it passes
pub first-before : (m : ℕ) (f : ℕ → Bool) {i : ℕ} → i < first_below m f → f i ≡ false
first-before m f {i} l =
    (best-ind (λ i r. false) f (λ m r. (i : ℕ) → i < r → f i ≡ false)
    (λ i l. absurd (omega arith))
    (λ m p t. p)
    (λ m p e i l. ⊎_elim (λ q. rw q e) (λ k. p i k) (below_suc l))
    (λ m r p l t b. absurd (false≢true b))
    (λ m r p l b. p)
    m).0 i l

-- so it is any index that passes where none before it does, or the end
pub first-is :
    (m : ℕ) (f : ℕ → Bool) (r : ℕ) → r ≤ m → ((i : ℕ) → i < r → f i ≡ false) → (r < m → f r ≡ true) → first_below m f ≡ r
first-is m f r h none here =
    unless-apart
    (λ l. true≢false (sym (best-passes (λ i r. false) m f (omega arith)) ∙ none (first_below m f) l))
    (λ l. true≢false (sym (here (omega (arith, best-le (λ i r. false) m f))) ∙ first-before m f l))

-- ---- the last

-- none after it passes
pub last-after : (m : ℕ) (f : ℕ → Bool) {i : ℕ} → last_below m f < i → i < m → f i ≡ false
last-after m f {i} l k =
    (best-ind (λ i r. true) f (λ m r. (i : ℕ) → r < i → i < m → f i ≡ false)
    (λ i l k. absurd (omega arith))
    (λ m p t i l k. absurd (omega arith))
    (λ m p t i l k. absurd (omega arith))
    (λ m r p l t b i h k. absurd (omega arith))
    (λ m r p l b i h k. ⊎_elim (λ q. rw q (sym (and-true (f m)) ∙ b)) (λ n. p i h n) (below_suc k))
    m).0 i l k

pub last-is :
    (m : ℕ) (f : ℕ → Bool) (r : ℕ) → r < m → f r ≡ true → ((i : ℕ) → r < i → i < m → f i ≡ false) → last_below m f ≡ r
last-is m f r l t none =
    unless-apart
    (λ k. true≢false (sym t ∙ last-after m f k l))
    (λ k.
    let found = best-some (λ i r. true) m f l t in
    true≢false (sym (best-passes (λ i r. true) m f found) ∙ none (last_below m f) k found))

-- ---- what a search found, as an option

pub index-found : {m r i : ℕ} → r ≡ i → i < m → Some i ≡ index_below m r
index-found {m} {r} {i} e l = rw (e, lt-ltb i m l)

-- and back: what an answer says of the search
pub index-some : {m r i : ℕ} → index_below m r ≡ Some i → (r ≡ i) × (i < m)
index-some {m} {r} {i} e = go (dec_lt r m)
  where
    value : Option ℕ → ℕ
    value (Some n) = n
    value None = r

    go : Dec (r < m) → (r ≡ i) × (i < m)
    go (yes l) = let same : r ≡ i = ap value (rw (lt-ltb r m l) at e) in (same, omega arith)
    go (no l) = absurd (false≢true (ap is_some (rw (le-ltb r m (omega arith)) at e)))

pub index-none : {m r : ℕ} → index_below m r ≡ None → m ≤ r
index-none {m} {r} e = go (dec_lt r m)
  where
    go : Dec (r < m) → m ≤ r
    go (yes l) = absurd (true≢false (ap is_some (rw (lt-ltb r m l) at e)))
    go (no l) = omega arith

-- ---- a search for the first, where none before an index passed

-- and there it passes
pub first-here : (m : ℕ) (f : ℕ → Bool) {i : ℕ} → i ≡ first_below i f → i < m → f i ≡ true → Some i ≡ index_below m (first_below m f)
first-here m f {i} none l t = index-found (first-is m f i (omega arith) (λ j h. first-before i f (omega (arith, none))) (λ h. t)) l

-- the test that asks also how many passed before
pub nth-here : (n : ℕ) (f : ℕ → Bool) {i : ℕ} → f i ≡ true → count_below i f ≡ n → nth_passing n f i ≡ true
nth-here n f {i} t e = rw t (eq-eqb (count_below i f) n e)

pub nth-later : (n : ℕ) (f : ℕ → Bool) (i : ℕ) → count_below i f < n → nth_passing n f i ≡ false
nth-later n f i l = rw (ne_eqb (count_below i f) n (omega arith)) (and-false (f i))

pub nth-fails : (n : ℕ) (f : ℕ → Bool) (i : ℕ) → f i ≡ false → nth_passing n f i ≡ false
nth-fails n f i t = rw t
