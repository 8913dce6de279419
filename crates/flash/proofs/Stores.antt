-- What a list of steps does to the words of an image, and how many steps it has. Assumes nothing.
use mathlib.Core.Path.{◌≡◌, refl, sym, ap, ap₂, ◌∙◌}
use mathlib.Core.Logic.{◌≢◌, ⊎_elim}
use mathlib.Core.Bool.{Bool, true, false, cond, ◌&&◌, and_assoc}
use mathlib.Core.List.{List, [], ◌∷◌, ◌++◌}
use Prim.Native.Nat.{ℕ, zero, suc, ◌+◌, ◌*◌, ◌^◌, ◌<◌}
use native.Mathlib.Nat.{lt-suc_self, le_step}
use native.Mathlib.Decide.{dec_lt, ℕ_discrete}
use native.Mathlib.Omega.{arith}
use lib.Dec.{eqb}
use lib.ListN.{length, set, length-set}
use lib.Seq.{get_or-set_same, get_or-set_other, set_out}
use borrow.Author.Tests.{eq-eqb, ne_eqb, eqb-true, eqb-false}
use Rattle.ranges.specs.Range.{list_below}
use Rattle.ranges.proofs.Tests.{below_suc}
use Rattle.bits.specs.Word.{programmed}
use Rattle.bits.proofs.Programming.{programmed-lt}
use Rattle.geometry.specs.declared.Geometry.{Geometry}
use Rattle.image.specs.Words.{Image, Words32, word}
use Rattle.flash.specs.declared.Step.{Step}
use Rattle.flash.specs.declared.Step.TheVariants.{Program, Erase}
use Rattle.flash.specs.Steps.{programmed_at, applied, run, words_in, erasures_in, leaves_asked}

-- ---- steps one after the other

module _ (geo : Geometry) where
  pub run-append : (image : Image) (xs ys : List Step) → run geo image (xs ++ ys) ≡ run geo (run geo image xs) ys
  unfolding run
  run-append image [] ys = refl
  run-append image (x ∷ xs) ys = run-append (applied geo image x) xs ys

  pub run_none : (image : Image) → run geo image [] ≡ image
  unfolding run
  run_none image = refl

  pub asked-append : (image : Image) (xs ys : List Step) → leaves_asked geo image (xs ++ ys) ≡ (leaves_asked geo image xs && leaves_asked geo (run geo image xs) ys)
  unfolding run leaves_asked
  asked-append image [] ys = refl
  asked-append image (Program p w ∷ xs) ys =
      let next = applied geo image (Program p w) in
      ap (eqb (word next p) w &&◌) (asked-append next xs ys)
      ∙ sym (and_assoc (eqb (word next p) w) (leaves_asked geo next xs) (leaves_asked geo (run geo next xs) ys))
  asked-append image (Erase b ∷ xs) ys = asked-append (applied geo image (Erase b)) xs ys

-- ---- counts of steps

-- A count of a list's steps: so many for a word programmed, so many for a block erased.
pub record Counts (count : List Step → ℕ) (per-word per-erasure : ℕ) : Type 0 where
  pub none : count [] ≡ 0
  pub program : (p w : ℕ) (ss : List Step) → count (Program p w ∷ ss) ≡ per-word + count ss
  pub erase : (b : ℕ) (ss : List Step) → count (Erase b ∷ ss) ≡ per-erasure + count ss

pub counts-words : Counts words_in 1 0
unfolding words_in
counts-words = record { none = refl; program = λ p w ss. omega arith; erase = λ b ss. omega arith }

pub counts-erasures : Counts erasures_in 0 1
unfolding erasures_in
counts-erasures = record { none = refl; program = λ p w ss. omega arith; erase = λ b ss. omega arith }

pub count-append : {count : List Step → ℕ} {u v : ℕ} → Counts count u v → (xs ys : List Step) → count (xs ++ ys) ≡ count xs + count ys
count-append c [] ys = omega (arith, c.none)
count-append c (Program p w ∷ xs) ys = omega (arith, c.program p w (xs ++ ys), c.program p w xs, count-append c xs ys)
count-append c (Erase b ∷ xs) ys = omega (arith, c.erase b (xs ++ ys), c.erase b xs, count-append c xs ys)

pub count-one : {count : List Step → ℕ} {u v : ℕ} → Counts count u v → (p w : ℕ) → count (Program p w ∷ []) ≡ u
count-one c p w = omega (arith, c.program p w [], c.none)

pub words_append : (xs ys : List Step) → words_in (xs ++ ys) ≡ words_in xs + words_in ys
words_append = count-append counts-words

pub erasures-append : (xs ys : List Step) → erasures_in (xs ++ ys) ≡ erasures_in xs + erasures_in ys
erasures-append = count-append counts-erasures

-- ---- one word programmed

-- what was asked last for a place, or what stood there
unfoldable pub last_asked : List Step → ℕ → ℕ → ℕ
last_asked [] q old = old
last_asked (Program p w ∷ ss) q old = last_asked ss q (cond (eqb q p) w old)
last_asked (Erase b ∷ ss) q old = last_asked ss q old

-- Steps that leave the asked words: each word is then what was asked last for its place.
pub record Exact (geo : Geometry) (image : Image) (steps : List Step) : Type 0 where
  pub asked : leaves_asked geo image steps ≡ true
  pub long : length (run geo image steps) ≡ length image
  pub words : (q : ℕ) → word (run geo image steps) q ≡ last_asked steps q (word image q)

pub last-append : (xs ys : List Step) (q old : ℕ) → last_asked (xs ++ ys) q old ≡ last_asked ys q (last_asked xs q old)
unfolding last_asked
last-append [] ys q old = refl
last-append (Program p w ∷ xs) ys q old = last-append xs ys q (cond (eqb q p) w old)
last-append (Erase b ∷ xs) ys q old = last-append xs ys q old

pub last-nothing : (q old : ℕ) → last_asked [] q old ≡ old
unfolding last_asked
last-nothing q old = refl

pub last-here : (p w old : ℕ) → last_asked (Program p w ∷ []) p old ≡ w
unfolding last_asked
last-here p w old = rw (eq-eqb p p refl)

pub last-other : {p : ℕ} (w : ℕ) {q : ℕ} (old : ℕ) → q ≢ p → last_asked (Program p w ∷ []) q old ≡ old
unfolding last_asked
last-other {p} w {q} old n = rw (ne_eqb q p n)

module _ (geo : Geometry) (image : Image) where
  pub exact_none : Exact geo image []
  unfolding run leaves_asked last_asked
  exact_none = record { asked = refl; long = refl; words = λ q. refl }

  pub exact_one : (p w : ℕ) → p < length image → programmed (word image p) w ≡ w → Exact geo image (Program p w ∷ [])
  unfolding run applied leaves_asked last_asked
  exact_one p w l e =
      let here = get_or-set_same image p (programmed (word image p) w) 0 l ∙ e in
      record {
        asked = rw (eq-eqb _ _ here);
        long = length-set image p (programmed (word image p) w);
        words = λ q. go q (eqb q p) refl here;
      }
    where
      go :
          (q : ℕ) (b : Bool) →
          eqb q p ≡ b →
          word (set image p (programmed (word image p) w)) p ≡ w →
          word (set image p (programmed (word image p) w)) q ≡ cond b w (word image q)
      go q true t here = ap (word (set image p (programmed (word image p) w))) (eqb-true q p t) ∙ here
      go q false t here = get_or-set_other image p q (programmed (word image p) w) 0 (eqb-false q p t)

  pub exact-then : (xs ys : List Step) → Exact geo image xs → Exact geo (run geo image xs) ys → Exact geo image (xs ++ ys)
  exact-then xs ys e f =
      record {
        asked = asked-append geo image xs ys ∙ ap₂ ◌&&◌ e.asked f.asked;
        long = ap length (run-append geo image xs ys) ∙ f.long ∙ e.long;
        words = λ q.
            ap (λ (i : Image). word i q) (run-append geo image xs ys)
            ∙ f.words q
            ∙ ap (last_asked ys q) (e.words q)
            ∙ sym (last-append xs ys q (word image q));
      }

-- ---- a word programmed for each index below m, at places of their own

module _ (at asked : ℕ → ℕ) where
  abbrev programs : ℕ → List Step
  programs m = list_below m (λ j. Program (at j) (asked j))

  pub last-list-other : (m : ℕ) {q : ℕ} (old : ℕ) → ((j : ℕ) → j < m → q ≢ at j) → last_asked (programs m) q old ≡ old
  unfolding list_below last_asked
  last-list-other zero old n = refl
  last-list-other (suc m) {q} old n =
      last-append (programs m) (Program (at m) (asked m) ∷ []) q old
      ∙ last-other (asked m) (last_asked (programs m) q old) (n m (lt-suc_self m))
      ∙ last-list-other m old (λ j l. n j (le_step l))

  pub last-list-here :
      (m : ℕ) {j : ℕ} (old : ℕ) → ((i j : ℕ) → i < m → j < m → at i ≡ at j → i ≡ j) → j < m → last_asked (programs m) (at j) old ≡ asked j
  unfolding list_below
  last-list-here zero old inj l = absurd (omega arith)
  last-list-here (suc m) {j} old inj l =
      last-append (programs m) (Program (at m) (asked m) ∷ []) (at j) old
      ∙ ⊎_elim
      (λ e. ap (λ (i : ℕ). last_asked (Program (at m) (asked m) ∷ []) (at i) (last_asked (programs m) (at j) old)) e
      ∙ last-here (at m) (asked m) _
      ∙ ap asked (sym e))
      (λ k. last-other (asked m) _ (λ e. let same = inj j m l (lt-suc_self m) e in omega arith)
      ∙ last-list-here m old (λ i j p q. inj i j (le_step p) (le_step q)) k)
      (below_suc l)

  pub exact-list :
      (geo : Geometry) (image : Image) (m : ℕ) →
      ((i j : ℕ) → i < m → j < m → at i ≡ at j → i ≡ j) →
      ((j : ℕ) → j < m → (at j < length image) × (programmed (word image (at j)) (asked j) ≡ asked j)) →
      Exact geo image (programs m)
  unfolding list_below
  exact-list geo image zero inj fit = exact_none geo image
  exact-list geo image (suc m) inj fit =
      let before = exact-list geo image m (λ i j p q. inj i j (le_step p) (le_step q)) (λ j l. fit j (le_step l)) in
      let untouched =
      before.words (at m)
      ∙ last-list-other m (word image (at m)) (λ j l e. let same = inj m j (lt-suc_self m) (le_step l) e in omega arith) in
      exact-then geo image (programs m) (Program (at m) (asked m) ∷ []) before
      (exact_one geo (run geo image (programs m)) (at m) (asked m)
      (omega (arith, before.long, (fit m (lt-suc_self m)).0))
      (ap (λ (w : ℕ). programmed w (asked m)) untouched ∙ (fit m (lt-suc_self m)).1))

  pub count-list : {count : List Step → ℕ} {u v : ℕ} → Counts count u v → (m : ℕ) → count (programs m) ≡ m * u
  unfolding list_below
  count-list c zero = omega (arith, c.none)
  count-list c (suc m) =
      omega (arith, count-append c (programs m) (Program (at m) (asked m) ∷ []), count-one c (at m) (asked m), count-list c m)

-- ---- words stay words of 32 bits

pub store_words : (image : Image) (p w : ℕ) → Words32 image → Words32 (programmed_at image p w)
store_words image p w h = record { small = λ q. go q (ℕ_discrete q p) (dec_lt p (length image)) }
  where
    go : (q : ℕ) → Dec (q ≡ p) → Dec (p < length image) → word (programmed_at image p w) q < 2 ^ 32
    go q (no n) f = rw (get_or-set_other image p q (programmed (word image p) w) 0 n) (h.small q)
    go q (yes e) (yes l) = rw (e, get_or-set_same image p (programmed (word image p) w) 0 l) (programmed-lt (word image p) w)
    go q (yes e) (no l) = rw (set_out image p (programmed (word image p) w) (omega arith)) (h.small q)

pub run-words : (geo : Geometry) (image : Image) (steps : List Step) → erasures_in steps ≡ 0 → Words32 image → Words32 (run geo image steps)
unfolding run applied erasures_in
run-words geo image [] none h = h
run-words geo image (Program p w ∷ ss) none h = run-words geo (programmed_at image p w) ss none (store_words image p w h)
run-words geo image (Erase b ∷ ss) none h = absurd (omega arith)
