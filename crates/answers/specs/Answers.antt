-- What an answer says (FORMAT.md, Refusals): its number in the table of refusals, and the pair that it names (K1).
use Rattle.std.specs.Prelude.{ℕ, Result, Ok, Err}
use Rattle.answers.specs.declared.Refusal.{Refusal}
use Rattle.answers.specs.declared.Refusal.TheVariants.{BadGeometry, BadBuffer, BadNumber, Malformed, Unmapped, WornOut, NoRoom}

-- an answer: acceptance, or why the call is refused
abbrev pub Answer : Type 0
Answer = Result (Unit {0}) Refusal

abbrev pub Accepted : Answer
Accepted = Ok tt

-- each answer's number; 0 is acceptance
abbrev pub number_of : Answer → ℕ
number_of (Ok u) = 0
number_of (Err BadGeometry) = 1
number_of (Err BadBuffer) = 2
number_of (Err BadNumber) = 3
number_of (Err (Malformed block rule)) = 4
number_of (Err Unmapped) = 5
number_of (Err WornOut) = 6
number_of (Err NoRoom) = 10

-- the bad block and the bad rule: those of refusal 4, and 0 and 0 of every other answer
abbrev of_pair : (ℕ → ℕ → ℕ) → Answer → ℕ
of_pair part (Ok u) = 0
of_pair part (Err BadGeometry) = 0
of_pair part (Err BadBuffer) = 0
of_pair part (Err BadNumber) = 0
of_pair part (Err (Malformed block rule)) = part block rule
of_pair part (Err Unmapped) = 0
of_pair part (Err WornOut) = 0
of_pair part (Err NoRoom) = 0

abbrev pub block_of : Answer → ℕ
block_of = of_pair (λ block rule. block)

abbrev pub rule_of : Answer → ℕ
rule_of = of_pair (λ block rule. rule)

-- what a call gives where it is accepted, and what it gives where it is refused
abbrev pub if_accepted {ℓ} : {A : Type ℓ} → Answer → A → A → A
if_accepted (Ok u) yes-this refused = yes-this
if_accepted (Err why) yes-this refused = refused

-- what a call gives where it is accepted, or why it is refused
abbrev pub answered : {A : Type 0} → Answer → A → Result A Refusal
answered (Ok u) given = Ok given
answered (Err why) given = Err why

-- and back: the answer of a call that gave this
abbrev pub answer_of : {A : Type 0} → Result A Refusal → Answer
answer_of (Ok given) = Accepted
answer_of (Err why) = Err why
