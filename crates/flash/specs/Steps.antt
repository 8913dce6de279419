-- What each of the two kinds of step does to an image, how many of each a list of steps has, its step i and its first steps (FORMAT.md, Steps).
use Rattle.std.specs.Prelude.{Bool, true, false, ◌&&◌, ◌||◌, List, [], ◌∷◌, ◌++◌, ℕ, zero, suc, ◌-◌, eqb, length, set, take, drop, replicate}
use Rattle.bits.specs.Word.{ones, programmed}
use Rattle.geometry.specs.declared.Geometry.{Geometry}
use Rattle.geometry.specs.Geometry.{block_length}
use Rattle.geometry.specs.Places.{place}
use Rattle.image.specs.Words.{Image, word}
use Rattle.flash.specs.declared.Step.{Step}
use Rattle.flash.specs.declared.Step.TheVariants.{Program, Erase}
use Rattle.flash.specs.declared.NextStep.{NextStep}
use Rattle.flash.specs.declared.NextStep.TheVariants.{Next, Done}

-- the image with every word of block b all ones
unfoldable pub erased_block : Geometry → Image → ℕ → Image
erased_block geo image b =
    take (place geo b 0) image ++ (replicate (block_length geo) ones ++ drop (place geo b (block_length geo)) image)

-- the image with the word at a place programmed: what is left there are the bits that it shares with the asked word
abbrev pub programmed_at : Image → ℕ → ℕ → Image
programmed_at image p w = set image p (programmed (word image p) w)

-- the image after one step
unfoldable pub applied : Geometry → Image → Step → Image
applied geo image (Program p w) = programmed_at image p w
applied geo image (Erase b) = erased_block geo image b

-- the image after the steps, in their order
unfoldable pub run : Geometry → Image → List Step → Image
run geo image [] = image
run geo image (s ∷ ss) = run geo (applied geo image s) ss

-- what a call reports of its steps: how many programmed a word, and how many erased a block
unfoldable pub words_in : List Step → ℕ
words_in [] = 0
words_in (Program p w ∷ ss) = suc (words_in ss)
words_in (Erase b ∷ ss) = words_in ss

unfoldable pub erasures_in : List Step → ℕ
erasures_in [] = 0
erasures_in (Program p w ∷ ss) = erasures_in ss
erasures_in (Erase b ∷ ss) = suc (erasures_in ss)

-- some step programs the word at place p
unfoldable pub programs_word : List Step → ℕ → Bool
programs_word [] p = false
programs_word (Program q w ∷ ss) p = eqb q p || programs_word ss p
programs_word (Erase b ∷ ss) p = programs_word ss p

-- some step erases block b
unfoldable pub erases_block : List Step → ℕ → Bool
erases_block [] b = false
erases_block (Program p w ∷ ss) b = erases_block ss b
erases_block (Erase c ∷ ss) b = eqb c b || erases_block ss b

-- each step that programs a word leaves the asked word at its place: it asks for no bit that is clear already
unfoldable pub leaves_asked : Geometry → Image → List Step → Bool
leaves_asked geo image [] = true
leaves_asked geo image (Program p w ∷ ss) =
    eqb (word (applied geo image (Program p w)) p) w && leaves_asked geo (applied geo image (Program p w)) ss
leaves_asked geo image (Erase b ∷ ss) = leaves_asked geo (applied geo image (Erase b)) ss

-- K4: step i of a list, from 0, or that there is none
unfoldable pub step_at : List Step → ℕ → NextStep
step_at [] i = Done
step_at (s ∷ ss) zero = Next s
step_at (s ∷ ss) (suc i) = step_at ss i

-- K4: the first j steps of a list; all of them where there are fewer
abbrev pub first_of : ℕ → List Step → List Step
first_of j steps = take j steps

-- how far the first `most` steps of a list come: how many are left of those that may be done, and how many blocks were erased
pub record Progress : Type 0 where
  pub left : ℕ
  pub erasures : ℕ

abbrev pub progress : ℕ → List Step → Progress
progress most steps = record { left = most - length steps; erasures = erasures_in (first_of most steps) }
