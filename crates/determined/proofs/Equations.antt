-- That an outcome of a call is v, as a contract says it: an equation for the result, then one for each parameter that leaves something, in
-- their order, joined as the toolchain joins clauses. Assumes nothing.
use mathlib.Core.Path.{◌≡◌, refl}
use mathlib.Core.List.{List, [], ◌∷◌}
use Prim.Native.Nat.{ℕ}
use seplogic.Ra.Ura.{Ura}
use base.Logic.{SProp, ent, sep, emp, id⊢, via, fst∗, snd∗, emp∗, mono_l}
use contract.Lifetimes.{Lfts}
use contract.Monad.{fact, fact_i, fact_mono, fact_use}
use denote.Exit.{Exit, unchanged, leaves, Last}
use denote.RattleType.{Denots}
use denote.Signature.{Slot, types_at}
use denote.Triple.End.{Kepts, Fins}
use Rattle.determined.specs.Determined.{Function, Call, Outcome}

-- ---- P, and then for each parameter that leaves something the equation that what it leaves, x, is z
module _ {M : Type 1} (𝓤 : Ura M) where
  infix 20 ◌⊢◌
  abbrev ◌⊢◌ : SProp 𝓤 → SProp 𝓤 → Type 1
  P ⊢ Q = ent 𝓤 P Q

  -- for one parameter, where `rest` has those after it
  abbrev Next : {D : Type 0} (e : Exit D) (d : D) (x z : Last e d) → (SProp 𝓤 → SProp 𝓤) → SProp 𝓤 → SProp 𝓤
  Next unchanged d x z rest P = rest P
  Next (leaves L l S s last) d x z rest P = sep 𝓤 P (rest (fact 𝓤 (x ≡ z)))

  -- they say P, and that all are as z says
  next-says :
      {D : Type 0} (e : Exit D) (d : D) (x z : Last e d) (R : Type 0) (rest : SProp 𝓤 → SProp 𝓤) →
      ((Q : SProp 𝓤) → (rest Q ⊢ Q) × (rest Q ⊢ fact 𝓤 R)) →
      (P : SProp 𝓤) →
      (Next e d x z rest P ⊢ P) × (Next e d x z rest P ⊢ fact 𝓤 ((x ≡ z) × R))
  next-says unchanged d x z R rest says P =
      ((says P).0, via 𝓤 (fact 𝓤 R) (says P).1 (fact_mono 𝓤 R ((x ≡ z) × R) (λ r. (refl, r))))
  next-says (leaves L l S s last) d x z R rest says P =
      let Q = fact 𝓤 (x ≡ z) in
      let after = snd∗ 𝓤 P (rest Q) in (
        fst∗ 𝓤 P (rest Q),
        fact_use 𝓤 (x ≡ z) (via 𝓤 (rest Q) after (says Q).0)
            (λ e. via 𝓤 (rest Q) after (via 𝓤 (fact 𝓤 R) (says Q).1 (fact_mono 𝓤 R ((x ≡ z) × R) (λ r. (e, r))))),
      )

  -- and of z itself they are true, where P is
  next-holds :
      {D : Type 0} (e : Exit D) (d : D) (z : Last e d) (rest : SProp 𝓤 → SProp 𝓤) →
      ((Q : SProp 𝓤) → emp 𝓤 ⊢ Q → emp 𝓤 ⊢ rest Q) →
      (P : SProp 𝓤) →
      emp 𝓤 ⊢ P →
      emp 𝓤 ⊢ Next e d z z rest P
  next-holds unchanged d z rest holds P p = holds P p
  next-holds (leaves L l S s last) d z rest holds P p =
      let Q = rest (fact 𝓤 (z ≡ z)) in
      via 𝓤 (sep 𝓤 (emp 𝓤) Q) (via 𝓤 Q (holds _ (fact_i 𝓤 (z ≡ z) (emp 𝓤) refl)) (emp∗ 𝓤 Q)) (mono_l 𝓤 Q p)

  module _ {n : ℕ} (κs : Lfts n) where
    -- for all parameters
    abbrev All : (ss : List (Slot n)) (ks : Kepts ss) (a : Denots (types_at ss κs)) (x z : Fins κs ss ks a) → SProp 𝓤 → SProp 𝓤
    All [] ks a x z P = P
    All (s ∷ ss) ks a x z P = Next ((s.row κs).exit ks.0) a.0 x.0 z.0 (All ss ks.1 a.1 x.1 z.1) P

    all_say :
        (ss : List (Slot n)) (ks : Kepts ss) (a : Denots (types_at ss κs)) (x z : Fins κs ss ks a) (P : SProp 𝓤) →
        (All ss ks a x z P ⊢ P) × (All ss ks a x z P ⊢ fact 𝓤 (x ≡ z))
    all_say [] ks a x z P = (id⊢ 𝓤 P, fact_i 𝓤 (x ≡ z) P refl)
    all_say (s ∷ ss) ks a x z P =
        let R = x.1 ≡ z.1 in
        let said = next-says ((s.row κs).exit ks.0) a.0 x.0 z.0 R _ (all_say ss ks.1 a.1 x.1 z.1) P in
        let S = (x.0 ≡ z.0) × R in
        (said.0, via 𝓤 (fact 𝓤 S) said.1 (fact_mono 𝓤 S (x ≡ z) (λ e i. (e.0 i, e.1 i))))

    all_hold :
        (ss : List (Slot n)) (ks : Kepts ss) (a : Denots (types_at ss κs)) (z : Fins κs ss ks a) (P : SProp 𝓤) →
        emp 𝓤 ⊢ P →
        emp 𝓤 ⊢ All ss ks a z z P
    all_hold [] ks a z P p = p
    all_hold (s ∷ ss) ks a z P p = next-holds ((s.row κs).exit ks.0) a.0 z.0 _ (all_hold ss ks.1 a.1 z.1) P p

  -- ---- the equations of an outcome o: its result is that of v, and so is what it leaves
  module _ (f : Function) (c : Call f) where
    abbrev pub Equations : (o v : Outcome f c) → SProp 𝓤
    Equations o v = All c.0 f.ended.signature.params f.ended.kept c.1 o.1 v.1 (fact 𝓤 (o.0 ≡ v.0))

    pub say : (o v : Outcome f c) → Equations o v ⊢ fact 𝓤 (o ≡ v)
    say o v =
        let R = o.0 ≡ v.0 in
        let X = o.1 ≡ v.1 in
        let said = all_say c.0 f.ended.signature.params f.ended.kept c.1 o.1 v.1 (fact 𝓤 R) in
        fact_use 𝓤 R said.0 (λ e. via 𝓤 (fact 𝓤 X) said.1 (fact_mono 𝓤 X (o ≡ v) (λ d i. (e i, d i))))

    pub hold : (v : Outcome f c) → emp 𝓤 ⊢ Equations v v
    hold v = all_hold c.0 f.ended.signature.params f.ended.kept c.1 v.1 _ (fact_i 𝓤 (v.0 ≡ v.0) (emp 𝓤) refl)
