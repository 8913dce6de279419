-- `image::view::Block::copy_contents` meets its contract: each word of the buffer that was passed is the word of the contents at its place.
use mathlib.Core.Path.{◌≡◌}
use Prim.Native.Nat.{ℕ, ◌+◌, ◌-◌, ◌<◌, ◌≤◌}
use lib.ListN.{length, get_or}
use Rattle.geometry.specs.Geometry.{sector_words}
use Rattle.image.specs.Words.{word}
use Rattle.image.proofs.view.Block.copy_contents.Given as goal

abbrev pub invariant-loop-j : goal.invariant-loop-j
invariant-loop-j l = (l.j ≤ sector_words) × (length l.buffer ≡ length l.initial.buffer) × ((m : ℕ) → m < l.j → get_or l.buffer m 0 ≡ word l.self.image.words.now (l.at + m))

abbrev pub decreases-loop-j : goal.decreases-loop-j
decreases-loop-j l = sector_words - l.j
