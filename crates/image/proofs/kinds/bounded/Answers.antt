-- `image::kinds::bounded` meets its contract: only a live entry has a number to lie between the words.
use Rattle.std.proofs.Common.{◌≡◌, refl, sym, Bool, true, false, not, cond, ◌&&◌, ◌||◌, ℕ, ◌%◌, ◌^◌, ◌<◌, eqb, leb, arith}
use mathlib.Core.Bool.{not-not}
use native.Mathlib.Decide.{dec_lt}
use borrow.Author.Tests.{lt-ltb, le-ltb, le-leb, lt-leb}
use Rattle.bits.specs.Word.{ones}
use Rattle.image.specs.declared.Slot.{Slot}
use Rattle.image.specs.declared.Slot.TheVariants.{Free, Live, Dead, Faulty}
use Rattle.image.specs.Slots.{slot_of, is_complete, is_passing, is_live_with}
use Rattle.image.specs.WellFormed.{outside}
use Rattle.image.proofs.Entries.{slot-tests}
use Rattle.image.proofs.kinds.bounded.Goals as goal

module _ (l e low high : ℕ) (set : Bool) where
  abbrev between : ℕ → Bool
  between n = leb low n && leb n high

  abbrev inside : Slot → Bool
  inside s = not (is_live_with (outside low high) s)

  -- the code's test, of an entry that is complete, or in passing, and of a number
  abbrev found : Bool → Bool → ℕ → Bool
  found c p n = (not (c || p) || leb l n) || between n

  -- what is neither complete nor in passing has none
  no_number : (f s : Bool) → true ≡ inside (cond f (cond s Free Dead) Dead)
  no_number true true = refl
  no_number true false = refl
  no_number false s = refl

  below : (c p : Bool) → ((not (c || p) || false) || between (e % 2 ^ 29)) ≡ inside (cond (c || p) (Live (e % 2 ^ 29)) (cond (eqb e ones) (cond set Free Dead) Dead))
  below true p = sym (not-not (between (e % 2 ^ 29)))
  below false true = sym (not-not (between (e % 2 ^ 29)))
  below false false = no_number (eqb e ones) set

  above : (c p : Bool) → ((not (c || p) || true) || between (e % 2 ^ 29)) ≡ inside (cond (c || p) (cond c Faulty Dead) (cond (eqb e ones) (cond set Free Dead) Dead))
  above true p = refl
  above false true = refl
  above false false = no_number (eqb e ones) set

  by_number : Dec (e % 2 ^ 29 < l) → found (is_complete e) (is_passing e) (e % 2 ^ 29) ≡ inside (slot_of l set e)
  by_number (yes small) = rw (lt-leb l (e % 2 ^ 29) small, slot-tests l set e, lt-ltb (e % 2 ^ 29) l small) (below (is_complete e) (is_passing e))
  by_number (no large) =
      rw (le-leb l (e % 2 ^ 29) (omega arith), slot-tests l set e, le-ltb (e % 2 ^ 29) l (omega arith)) (above (is_complete e) (is_passing e))

pub returns : goal.returns
returns c set =
    let a = c.args in
    rw (c.has_number.ensures, c.number-n.ensures) (by_number a.logical a.entry a.least a.greatest set (dec_lt (a.entry % 2 ^ 29) a.logical))
