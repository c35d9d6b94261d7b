-- Fronts of pieces are pieces. So a string that is no piece has one token whose arrival makes it none: `StopsAt` holds of one place only, and
-- of none where the string is a piece.
use Rattle.std.specs.Prelude.{ℕ, suc, ◌≤◌, ◌<◌, ◌≡◌, List, ◌++◌, take, drop}
use Rattle.std.proofs.Common.{arith, sym, subst, append_assoc, take-append-drop, take-take}
use Rattle.std.proofs.Math.Decide.{dec_lt}
use Rattle.theory.specs.Grammar.{Grammar, Sentence, Piece, StopsAt}

-- the first part of a piece is a piece
piece_part : {g : Grammar} (x y : List ℕ) → Piece g (x ++ y) → Piece g x
piece_part {g} x y (v, w, s) = (v, y ++ w, subst (λ (l : List ℕ). Sentence g (v ++ l)) (append_assoc x y w) s)

-- a front of a piece is a piece
pub piece_front : {g : Grammar} (j : ℕ) (x : List ℕ) → Piece g x → Piece g (take j x)
piece_front {g} j x π = piece_part (take j x) (drop j x) (subst (λ (l : List ℕ). Piece g l) (sym (take-append-drop j x)) π)

-- and so is a shorter front of a front that is one
pub piece_shorter : {g : Grammar} (j i : ℕ) (x : List ℕ) → j ≤ i → Piece g (take i x) → Piece g (take j x)
piece_shorter {g} j i x l π = subst (λ (y : List ℕ). Piece g y) (take-take j i x l) (piece_front j (take i x) π)

-- a string that stops is no piece
pub stops_no_piece : {g : Grammar} {x : List ℕ} {i : ℕ} → StopsAt g x i → Piece g x → ⊥
stops_no_piece {x = x} {i = i} s π = s.no_piece (piece_front (suc i) x π)

-- it stops at one place only
pub stops_once : {g : Grammar} {x : List ℕ} {i j : ℕ} → StopsAt g x i → StopsAt g x j → i ≡ j
stops_once {i = i} {j = j} s r = go (dec_lt i j) (dec_lt j i)
  where
    go : Dec (i < j) → Dec (j < i) → i ≡ j
    go (yes l) d = absurd (s.no_piece (r.before (suc i) l))
    go (no l) (yes h) = absurd (r.no_piece (s.before (suc j) h))
    go (no l) (no h) = omega arith
