-- A slot that the code found not to be live, or not to be of some kind without a number: what the tests of slots say of it. Assumes nothing.
use mathlib.Core.Path.{◌≡◌, refl, sym, ap, ◌∙◌}
use mathlib.Core.Bool.{Bool, false, true≢false}
use Prim.Native.Nat.{ℕ}
use Rattle.std.specs.Prelude.{Some, None, is_some, unwrap_or}
use Rattle.image.specs.declared.Slot.{Slot}
use Rattle.image.specs.declared.Slot.TheVariants.{Free, Live, Dead, Faulty, Superseded}
use Rattle.image.specs.Found.{Found, At, Nothing}
use Rattle.image.specs.Live.{live_number}
use Rattle.image.specs.Slots.{is_free, is_live, is_faulty, is_live_with}

-- no number makes it a live slot
abbrev pub NotLive : Slot → Type 0
NotLive s = (n : ℕ) → s ≡ Live n → ⊥

pub not_live : (s : Slot) → NotLive s → is_live s ≡ false
not_live Free other = refl
not_live (Live n) other = absurd (other n refl)
not_live Dead other = refl
not_live Faulty other = refl
not_live Superseded other = refl

pub not_live_with : (s : Slot) → NotLive s → (f : ℕ → Bool) → is_live_with f s ≡ false
not_live_with Free other f = refl
not_live_with (Live n) other f = absurd (other n refl)
not_live_with Dead other f = refl
not_live_with Faulty other f = refl
not_live_with Superseded other f = refl

pub not_free : (s : Slot) → (s ≡ Free → ⊥) → is_free s ≡ false
not_free Free other = absurd (other refl)
not_free (Live n) other = refl
not_free Dead other = refl
not_free Faulty other = refl
not_free Superseded other = refl

pub not_faulty : (s : Slot) → (s ≡ Faulty → ⊥) → is_faulty s ≡ false
not_faulty Free other = refl
not_faulty (Live n) other = refl
not_faulty Dead other = refl
not_faulty Faulty other = absurd (other refl)
not_faulty Superseded other = refl

-- a slot that has a live number is live for that one; one that has none, for none
pub live-is : (s : Slot) {n : ℕ} → Some n ≡ live_number s → s ≡ Live n
live-is Free e = absurd (true≢false (ap is_some e))
live-is (Live m) {n} e = ap Live (ap (λ o. unwrap_or o m) (sym e))
live-is Dead e = absurd (true≢false (ap is_some e))
live-is Faulty e = absurd (true≢false (ap is_some e))
live-is Superseded e = absurd (true≢false (ap is_some e))

pub none-live : (s : Slot) → ((n : ℕ) → Some n ≡ live_number s → ⊥) → NotLive s
none-live s none n e = none n (sym (ap live_number e))

-- a place that was found is one block and one slot
place_of : Found → ℕ × ℕ
place_of (At b i) = (b, i)
place_of Nothing = (0, 0)

pub same_place : {b i c j : ℕ} → At b i ≡ At c j → (b ≡ c) × (i ≡ j)
unfolding place_of
same_place e = (ap (λ f. (place_of f).0) e, ap (λ f. (place_of f).1) e)
