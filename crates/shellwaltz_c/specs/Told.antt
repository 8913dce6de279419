-- What a C program is told of a step (K4): three numbers for each case.
use Rattle.std.specs.Prelude.{ℕ, Result, Ok, Err}
use Rattle.answers.specs.declared.Refusal.{Refusal}
use Rattle.flash.specs.declared.Step.TheVariants.{Program, Erase}
use Rattle.flash.specs.declared.NextStep.{NextStep}
use Rattle.flash.specs.declared.NextStep.TheVariants.{Next, Done}

-- its kind: 0 where there is none, since the call is done; 1 for a word to program; 2 for a block to erase
abbrev pub kind_of : NextStep → ℕ
kind_of Done = 0
kind_of (Next (Program p w)) = 1
kind_of (Next (Erase b)) = 2

-- its place: that of the word in the image, or the block by its number; 0 where there is none
abbrev pub place_of : NextStep → ℕ
place_of Done = 0
place_of (Next (Program p w)) = p
place_of (Next (Erase b)) = b

-- its word: the one to program; 0 where a block is to be erased, and where there is none
abbrev pub word_of : NextStep → ℕ
word_of Done = 0
word_of (Next (Program p w)) = w
word_of (Next (Erase b)) = 0

-- the step that a call for one gave: a refused one has none
abbrev pub next_of : Result NextStep Refusal → NextStep
next_of (Ok next) = next
next_of (Err why) = Done
