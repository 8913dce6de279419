-- Clauses that are equations determine what a call does: one for the result, then one for each thing that is lent as `&mut`, in the order
-- of the parameters, with right sides that name the arguments alone. Assumes nothing.
use mathlib.Core.Path.{◌≡◌, sym, subst, ◌∙◌}
use mathlib.Core.List.{List, [], ◌∷◌}
use mathlib.Core.Logic.{∥∥₁_elim}
use Prim.Native.Nat.{ℕ}
use seplogic.Ra.Ura.{Ura}
use base.Logic.{SProp, ent, emp, id⊢}
use base.Stored.{Coded, Coded-set, coded_unit, coded_ℕ, coded_list, coded×}
use prog.Model.{Model}
use prog.Routine.{Env}
use prog.Wired.{Wired}
use types.Logic.{Logic}
use contract.Monad.{fact}
use contract.Running.{Running}
use borrow.Fn.World.{World, w₀}
use denote.Signature.{type_at}
use denote.Triple.Clauses.{Lasts, closing}
use denote.Triple.Spec.{Meets}
use Rattle.determined.specs.Determined.{Function, Call, Outcome, within, of_call, ensured, Allowed, Determined}
use Rattle.determined.proofs.Equations.{Equations, say, hold}

-- ---- what a parameter leaves: values that have a code, so that of two of them an equation has one proof at most
pub record Place : Type 1 where
  pub Value : Type 0
  pub coded : Coded Value

-- nothing, where it is no `&mut`; a number, where it is a `&mut u32` or a `&mut usize`; a list of numbers, where it is a `&mut [u32]`
abbrev pub kept : Place
kept = record { Value = Unit {0}; coded = coded_unit }

abbrev pub count : Place
count = record { Value = ℕ; coded = coded_ℕ }

abbrev pub words : Place
words = record { Value = List ℕ; coded = coded_list coded_ℕ }

-- what all parameters leave, in each call c
abbrev Values : List Place → Type 0
Values [] = Unit {0}
Values (p ∷ ps) = p.Value × Values ps

abbrev pub left : {C : Type 0} (ps : List Place) (c : C) → Coded (Values ps)
left [] c = coded_unit
left (p ∷ ps) c = coded× p.coded (left ps c)

-- ---- what can be true
abbrev Sat : (w : World) → SProp w.𝓤 → Type 1
Sat w P = seplogic.Bi.Sat.Sat w.𝓤.op P

-- a fact that can be true is true
is_true : (w : World) {A : Type 0} → IsProp A → Sat w (fact w.𝓤 A) → A
unfolding seplogic.Bi.Sat.Sat
is_true w one s = ∥∥₁_elim s one (λ h. ∥∥₁_elim h.1 one (λ t. t.0))

-- what follows from nothing can be true
can-be : (w : World) {P : SProp w.𝓤} → ent w.𝓤 (emp w.𝓤) P → Sat w P
unfolding seplogic.Bi.Sat.Sat
can-be w p = seplogic.Bi.Sat.mono w.𝓤.op p (∣ (w.𝓤.one, tt) ∣₁)

-- ---- the law. It takes what the parameters leave, the outcome of each call, that the clauses ask nothing, that they are the equations of that
-- outcome, the function's theorem, and an environment that has its code.
module _ (f : Function) where
  pub determined :
      (lasts : (c : Call f) → Coded (Lasts f.ended c.0 c.1))
      (outcome : (c : Call f) → Outcome f c)
      (any_input : (w : World) (c : Call f) → (g : (of_call f w c).ghost) × ent w.𝓤 (emp w.𝓤) ((of_call f w c).requires g))
      (one_outcome : (w : World) (c : Call f) (g : (of_call f w c).ghost) (o : Outcome f c) →
      ensured f w c g o ≡ Equations w.𝓤 f c o (outcome c))
      (met : (M : Type 1) (𝓤 : Ura M) (𝓛 : Logic 𝓤) (𝓜 : Model 𝓤 𝓛.H) (𝓡 : Running 𝓤 𝓛.H 𝓜) →
      Wired 𝓡.env f.code →
      Meets 𝓛 f.ended.signature (𝓡.run (𝓡.env f.name))
      (closing 𝓛 f.ended (f.clauses M 𝓤 𝓛 𝓜.mem 𝓡.returns))) →
      (runs : (γ : Env) × Wired γ f.code) →
      Determined f
  determined lasts outcome any_input one_outcome met runs =
      record {
        met = λ w. met w.M w.𝓤 w.𝓛 w.𝓜 w.𝓡;
        runs = runs;
        any_input = any_input;
        an_outcome =
            λ c.
            let g = (any_input w₀ c).0 in
            let true-of-it = can-be w₀ (hold w₀.𝓤 f c (outcome c)) in
            (outcome c, (w₀, g, subst (Sat w₀) (sym (one_outcome w₀ c g (outcome c))) true-of-it));
        one_outcome = λ c o p h k. is-outcome c o h ∙ sym (is-outcome c p k);
      }
    where
      is-outcome : (c : Call f) (o : Outcome f c) → Allowed f c o → o ≡ outcome c
      is-outcome c o (w, g, s) =
          is_true w (Coded-set (coded× (type_at f.ended.signature.result c.0).coded (lasts c)) o (outcome c))
          (seplogic.Bi.Sat.mono w.𝓤.op (say w.𝓤 f c o (outcome c)) (subst (Sat w) (one_outcome w c g o) s))

-- So in that environment a call by the name meets the contract in every model, and nothing is asked of the model's own names.
pub met_there :
    (f : Function) (d : Determined f) (w : World) →
    Meets w.𝓛 f.ended.signature (w.𝓡.run (d.runs.0 f.name)) (closing w.𝓛 f.ended (within f w))
met_there f d w =
    let there = contract.Running.within w.𝓤 w.𝓛.H w.𝓜 w.𝓡 d.runs.0 in
    d.met (record { M = w.M; 𝓤 = w.𝓤; 𝓛 = w.𝓛; 𝓜 = w.𝓜; 𝓡 = there }) d.runs.1

-- for clauses with no `requires`
abbrev pub nothing : {C : Type 0} (w : World) (c : C) → (g : Unit {0}) × ent w.𝓤 (emp w.𝓤) (emp w.𝓤)
nothing w c = (tt, id⊢ w.𝓤 (emp w.𝓤))
