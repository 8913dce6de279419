-- `placing::store_contents` meets its contract: the image is the one that the steps of the words passed leave, and as many are passed as are left.
use mathlib.Core.List.{List}
use mathlib.Core.Path.{◌≡◌, refl, sym, ap, ◌∙◌}
use Prim.Native.Nat.{ℕ, ◌+◌, ◌<◌, min}
use native.Mathlib.Omega.{arith}
use native.Mathlib.Numerals.{add-one}
use lib.ListN.{get_or, length-take}
use lib.Seq.{get_or-take}
use Rattle.ranges.specs.Range.{list_below}
use Rattle.ranges.proofs.Lists.{list_length}
use Rattle.geometry.specs.declared.Geometry.{Geometry}
use Rattle.geometry.specs.Geometry.{sector_words}
use Rattle.geometry.specs.Places.{place, content_word}
use Rattle.image.specs.Words.{Image}
use Rattle.flash.specs.declared.Step.{Step}
use Rattle.flash.specs.declared.Step.TheVariants.{Program}
use Rattle.flash.specs.Steps.{programmed_at, run}
use Rattle.flash.proofs.Stores.{run-append}
use Rattle.flash.proofs.Parts.{first-list}
use Rattle.flash.proofs.CodeLaws.{run-program}
use Rattle.placing.proofs.store_contents.Invariants.{stores}
use Rattle.placing.proofs.store_contents.Goals.{After-loop-j}
use Rattle.placing.proofs.store_contents.Goals as goal

-- one word more
one_more :
    (geo : Geometry) (image now after : Image) (b i : ℕ) (words : List ℕ) (at j : ℕ) →
    at ≡ place geo b (content_word geo i 0) →
    now ≡ run geo image (stores geo b i words j) →
    after ≡ programmed_at now (at + j) (get_or words j 0) →
    after ≡ run geo image (stores geo b i words (j + 1))
unfolding list_below
one_more geo image now after b i words at j e passed stored =
    rw (add-one, run-append, ← passed) (run-program geo now stored (omega arith) refl)

pub loop-j-init : goal.loop-j-init
unfolding run list_below
loop-j-init c = refl

pub loop-j-preserved : goal.loop-j-preserved
loop-j-preserved c =
    let words = c.args.sector.now.words.now in
    let passed : c.loop-j.j < c.lesser-stored.result = omega (arith, length-take c.lesser-stored.result words) in
    one_more _ _ _ _ _ _ words _ c.loop-j.j c.contents_start-at.ensures c.loop-j.invariant (rw get_or-take at c.program.ensures)

-- all words that are asked for were passed
passed_all : (c : After-loop-j) → c.loop-j.j ≡ min c.args.run.now.left sector_words
passed_all c = omega (arith, c.lesser-stored.ensures, length-take c.lesser-stored.result c.args.sector.now.words.now, c.args.sector.now.whole)

pub overflow_sub-run : goal.overflow_sub-run
overflow_sub-run c = omega (arith, c.lesser-stored.ensures)

pub returns : goal.returns
returns c =
    let r = c.args.run.now in
    let step : ℕ → Step = λ j. Program (place r.geo c.args.b (content_word r.geo c.args.i j)) (get_or c.args.sector.now.words.now j 0) in
    record {
      image_after =
          rw (passed_all (goal.at.returns c).After-loop-j) at c.loop-j.invariant ∙ ap (run r.geo r.words.now) (sym (first-list r.left sector_words step));
      left_after = omega (arith, c.lesser-stored.ensures, list_length sector_words step);
      same_geo = refl;
      same_words = refl;
    }
