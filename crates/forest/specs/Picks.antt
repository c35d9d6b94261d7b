-- What is asked of a list of trees and told of it: the lowest root that reduces.
use Rattle.std.specs.Prelude.{◌≡◌, List, ℕ, ◌+◌, ◌≤◌, ◌<◌, suc, length, get_or, Option, Some, None}
use Rattle.std.proofs.Math.Option.{none, some}
use Rattle.theory.specs.Table.{Table, reduce_on}
use Rattle.theory.specs.Forest.{Forest, nothing, tree, choose, Rising}
use Rattle.forest.specs.Words.{stride, at, Inside, max_words}
use Rattle.forest.specs.Trees.{Tree, erase, weigh, occ, size, Rep}
use Rattle.forest.specs.Rows.{Acts}
use Rattle.forest.specs.declared.trees.Pick.{Pick}

-- word j of node d leads to f
pub record Linked (w : List ℕ) (d j m : ℕ) (f : Tree) : Type 0 where
  pub rep : Rep w (at w d j) f
  pub once : (q : ℕ) → occ q f ≤ 1
  pub apart : occ d f ≡ 0
  pub inside : Inside w d
  pub link : (1 ≤ j) × (j ≤ 2)
  pub rising : Rising m (erase f)
  pub fits : size f ≤ length w
  pub words : length w ≤ max_words

-- to some trees, and the row is that of some table's token
pub record SomeLinked (w acts : List ℕ) (d j : ℕ) : Type 0 where
  pub m : ℕ
  pub t : Table
  pub y : ℕ
  pub f : Tree
  pub does : Acts acts m t y
  pub holds : Linked w d j m f

-- the lowest root of F that reduces has the state s and the children k, and the others are H
pub record First (t : Table) (y : ℕ) (F : Forest) (s : ℕ) (k H : Forest) : Type 0 where
  pub rule : ℕ
  pub on : reduce_on t s y ≡ some rule
  pub is : choose t y F ≡ some (record { rule = rule; state = s; kids = k; others = H })

-- what was chosen of F: nothing, and F is left, or one tree
abbrev pub Choice : Table → ℕ → Forest → Forest → Forest → Type 0
Choice t y F nothing H = (choose t y F ≡ none) × (H ≡ F)
Choice t y F (tree s k b) H = (b ≡ nothing) × First t y F s k H

-- the chosen tree stands alone at r, word j of node d leads to the others, and no other node has changed
pub record Picked (w v : List ℕ) (d j r : ℕ) (t : Table) (y : ℕ) (f : Tree) : Type 0 where
  pub picked : Tree
  pub rest : Tree
  pub rep : Rep v r picked
  pub rep_rest : Rep v (at v d j) rest
  pub means : Choice t y (erase f) (erase picked) (erase rest)
  pub weight : (m : ℕ → ℕ) → weigh m picked + weigh m rest ≡ weigh m f
  pub kept : (q i : ℕ) → i < stride → occ q f ≡ 0 → (q ≡ d → i ≡ j → ⊥) → at v q i ≡ at w q i
  pub len : length v ≡ length w

-- whatever trees the words held, whatever table the row is of
abbrev pub Picks : List ℕ → List ℕ → ℕ → ℕ → List ℕ → ℕ → Type 0
Picks w acts d j v r = (m : ℕ) (t : Table) (y : ℕ) (f : Tree) → Acts acts m t y → Linked w d j m f → Picked w v d j r t y f

-- Node 0's list of roots: none of them reduces, or the root that was picked reduces by the rule that its state's entry means.
abbrev pub PicksOne : List ℕ → List ℕ → List ℕ → Option Pick → Type 0
PicksOne w acts v None = Picks w acts 0 1 v 0
PicksOne w acts v (Some p) = Picks w acts 0 1 v p.root × (0 < p.root) × (get_or acts (at v p.root 0) 0 ≡ suc p.rule)
