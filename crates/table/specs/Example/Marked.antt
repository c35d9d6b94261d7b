-- The marked tails P1 to P8 of document 01, with no condition left: which of them are pieces, and up to where the one is that is none.
use Rattle.std.specs.Prelude.{refl, [], ◌∷◌}
use Rattle.std.proofs.Common.{arith}
use Rattle.theory.specs.Grammar.{empty, token, Piece}
use Rattle.theory.specs.Example.Box.{box}
use Rattle.theory.proofs.Example.Box.{marked}
use Rattle.theory.proofs.Demands.{demand_2}
use Rattle.table.specs.Example.{box-passes}

-- seven of the eight are pieces
pub pieces :
    Piece box.grammar [] ×
    Piece box.grammar (0 ∷ []) ×
    Piece box.grammar (2 ∷ 1 ∷ []) ×
    Piece box.grammar (1 ∷ 1 ∷ []) ×
    Piece box.grammar (1 ∷ 2 ∷ 1 ∷ []) ×
    Piece box.grammar (0 ∷ 2 ∷ 1 ∷ []) ×
    Piece box.grammar (0 ∷ 2 ∷ 1 ∷ 0 ∷ [])
unfolding box
pieces = (
  (demand_2 box box-passes marked.0 empty).piece refl,
  (demand_2 box box-passes marked.1 (token (omega arith) empty)).piece refl,
  (demand_2 box box-passes marked.2 (token (omega arith) (token (omega arith) empty))).piece refl,
  (demand_2 box box-passes marked.4 (token (omega arith) (token (omega arith) empty))).piece refl,
  (demand_2 box box-passes marked.5 (token (omega arith) (token (omega arith) (token (omega arith) empty)))).piece refl,
  (demand_2 box box-passes marked.6 (token (omega arith) (token (omega arith) (token (omega arith) empty)))).piece refl,
  (demand_2 box box-passes marked.7 (token (omega arith) (token (omega arith) (token (omega arith) (token (omega arith) empty))))).piece refl,
)

-- P4 is none
pub no_piece : Piece box.grammar (0 ∷ 1 ∷ []) → ⊥
unfolding box
no_piece = ((demand_2 box box-passes marked.3 (token (omega arith) (token (omega arith) empty))).stops refl).no_piece
