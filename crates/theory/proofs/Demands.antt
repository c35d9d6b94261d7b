-- The demands, in one place. Of every table that passes and every tail of its tokens: it has one judgement; the judgement says whether the tail
-- is a piece, and if not how much of it is; its steps are bounded, and so are the nodes between them.
use Rattle.std.specs.Prelude.{ℕ, ◌+◌, ◌*◌, ◌≤◌, ◌≡◌, Bool, false, List, length}
use Rattle.std.proofs.Common.{⊎_elim, arith}
use Rattle.theory.proofs.Basics.{test}
use Rattle.theory.specs.Grammar.{Tokens, StopsAt}
use Rattle.theory.proofs.Grammar.Fronts.{piece_shorter, stops_no_piece}
use Rattle.theory.specs.Table.{Table, Passes, count}
use Rattle.theory.proofs.Table.Facts.{facts}
use Rattle.theory.specs.Forest.{Judged, Rising, size}
use Rattle.theory.specs.Forest.Between.{JudgedAll}
use Rattle.theory.proofs.Forest.Agree.{judged_agree}
use Rattle.theory.proofs.Sound.{judged_all, judged_stop, judged_piece, all_piece}
use Rattle.theory.proofs.Simulate.{stop_no_piece}
use Rattle.theory.proofs.Bound.{judged_total, judged_steps, judged_held}
use Rattle.theory.specs.Bound.Heights.{Height, Flat}
use Rattle.theory.proofs.Bound.Heights.{flat_height, height}
use Rattle.theory.specs.Demands.{Told}
pub mod Once

module _ (t : Table) (passes : Passes t) where
  -- heights of the symbols, which the bound needs
  heights : Height t.grammar t.grammar.nonterms
  heights = height t.grammar (facts passes).formed (facts passes).no_ring

  -- every tail of tokens is judged
  pub judgement : (x : List ℕ) → Tokens t.grammar x → (v : Bool) × (i : ℕ) × (k : ℕ) × Judged t x v i k
  judgement = judged_total t (facts passes) t.grammar.nonterms heights

  -- in one way
  pub agree : {x : List ℕ} {v v' : Bool} {i i' k k' : ℕ} → Judged t x v i k → Judged t x v' i' k' → (v ≡ v') × (i ≡ i') × (k ≡ k')
  agree = judged_agree

  module _ {x : List ℕ} {v : Bool} {i k : ℕ} (y : Judged t x v i k) (tokens : Tokens t.grammar x) where
    -- where the verdict is no: the value is the place of that token
    stop : v ≡ false → StopsAt t.grammar x i
    stop e = record {
      inside = judged_stop y e;
      before = λ j l. piece_shorter j i x l (judged_piece (facts passes) y tokens);
      no_piece = stop_no_piece (facts passes) y e;
    }

    pub demand_2 : Told t.grammar x v i
    demand_2 = record {
      piece = all_piece (facts passes) y tokens;
      only_pieces = λ π. ⊎_elim (λ e. e) (λ e. absurd (stops_no_piece (stop e) π)) (test v);
      whole = judged_all y;
      stops = stop;
    }

    -- of n tokens, with m states and N nonterminals, in at most n · m · (2 + N · (m + 1)) steps
    pub demand_3 : k ≤ length x * (count t * (2 + t.grammar.nonterms * (count t + 1)))
    demand_3 = judged_steps t (facts passes) t.grammar.nonterms heights y tokens

    -- between two steps the forest's states rise, and it has at most m · (n + 1) nodes
    pub demand_3_nodes : JudgedAll (λ f. Rising (count t) f × (size f ≤ count t * (length x + 1))) y
    demand_3_nodes = judged_held t (facts passes) t.grammar.nonterms heights y tokens (omega arith)

    -- in at most 2 · m · n steps, where no rule has a one-symbol right side
    pub flat : Flat t.grammar → k ≤ 2 * (count t * length x)
    flat f = omega (arith, judged_steps t (facts passes) 0 (flat_height t.grammar f) y tokens)
