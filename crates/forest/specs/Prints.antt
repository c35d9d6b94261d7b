-- The print of a forest, and what printing asks and leaves.
use Rattle.std.specs.Prelude.{◌≡◌, Bool, true, false, List, [], ◌∷◌, ◌++◌, ℕ, ◌+◌, ◌*◌, ◌≤◌, ◌<◌, length, drop}
use Rattle.std.proofs.lemmas.List.Edits.{sets}
use Rattle.lines.specs.Limits.{max_tail}
use Rattle.theory.specs.Forest.{Forest, nothing, tree, join}
use Rattle.forest.specs.Words.{stride, Inside, max_words}
use Rattle.forest.specs.Trees.{Tree, erase, size, Rep}
use Rattle.forest.specs.Plants.{planted}

-- Trees side by side: each root's state and 1, then the print of its children; after the last tree a 0.
unfoldable pub printed : Forest → List ℕ
printed nothing = 0 ∷ []
printed (tree s kids beside) = (s + 1) ∷ (printed kids ++ printed beside)

-- the words hold f at x
pub record Lists (w : List ℕ) (x : ℕ) (f : Tree) : Type 0 where
  pub rep : Rep w x f
  pub some : Inside w 0
  pub fits : size f ≤ length w
  pub words : length w ≤ max_words

-- the words hold some trees at x, and their print has places from n on
pub record SomePrint (w : List ℕ) (x : ℕ) (out : List ℕ) (n : ℕ) : Type 0 where
  pub f : Tree
  pub holds : Lists w x f
  pub places : n + length (printed (erase f)) ≤ length out

-- whatever trees the words held, their print stands from n on, and the answer is the place after it
abbrev pub Prints : List ℕ → ℕ → List ℕ → ℕ → List ℕ → ℕ → Type 0
Prints w x out n out' r =
    (f : Tree) → Lists w x f → (out' ≡ sets out n (printed (erase f))) × (r ≡ n + length (printed (erase f)))

-- the room has a node for each entry of the paths, and the print of as many nodes has places
pub record RoomFor (w first second out : List ℕ) : Type 0 where
  pub nodes : stride * (length first + length second + 1) ≤ length w
  pub words : length w ≤ max_words
  pub places : 2 * (length first + length second) < length out

-- the print of the two forests' join stands at the front, and the rest is as it was
abbrev pub shown : List ℕ → List ℕ → List ℕ → List ℕ
shown first second out = let print = printed (join (planted first) (planted second)) in print ++ drop (length print) out

-- neither list has more entries than a tail has tokens, and the print of as many nodes has places
pub record Fits (first second out : List ℕ) : Type 0 where
  pub in_first : length first ≤ max_tail
  pub in_second : length second ≤ max_tail
  pub places : 2 * (length first + length second) < length out

-- What comes back: the print, or a refusal, which changes nothing.
pub data JoinsInto (first second out : List ℕ) : Bool → List ℕ → Type 0 where
  joined : Fits first second out → JoinsInto first second out true (shown first second out)
  refused : (Fits first second out → ⊥) → JoinsInto first second out false out
