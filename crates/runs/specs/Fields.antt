-- The number that the digits of a text say, as a program.
use Rattle.std.specs.Prelude.{ℕ, ◌+◌, ◌*◌, ◌-◌, ◌≤◌, ◌<◌, ◌≡◌, refl, Bool, true, false, ◌&&◌, List, [], ◌∷◌, leb, length, drop}
use Rattle.std.proofs.Math.Numerals.{add-one}
use native.Mathlib.Omega.{arith}
use Rattle.std.proofs.Common.{ap, ◌∙◌, drop_of_length-le, drop-cons}
use Rattle.std.proofs.Math.Path.{sym}
use Rattle.std.proofs.Math.ListN.{get_or}
use borrow.Author.Tests.{le-leb}
use Rattle.runs.specs.declared.Found.{Found}

-- whether a byte is one digit more of a number that is not large
unfoldable pub goes_on : ℕ → ℕ → Bool
goes_on value c = leb 48 c && leb c 57 && leb value 100000

-- the number of the digits that bytes begin with, behind those of a number so far, and the place after the byte that ends them
unfoldable pub number_from : ℕ → ℕ → List ℕ → Found
unfolding goes_on
number_from value at [] = record { value = value; next = at }
number_from value at (c ∷ cs) = elim (goes_on value c) [
  | true ↦ number_from (10 * value + (c - 48)) (at + 1) cs
  | false ↦ record { value = value; next = at + 1 }
]

-- of `12 7` from place 0 on: 12, and the place after the space
pub example : number_from 0 0 (49 ∷ 50 ∷ 32 ∷ 55 ∷ []) ≡ record { value = 12; next = 3 }
unfolding number_from
example = refl

module _ (s : List ℕ) (value i : ℕ) where
  -- after the last byte
  pub at_end : length s ≤ i → record { value = value; next = i } ≡ number_from value i (drop i s)
  unfolding number_from
  at_end l = sym (ap (number_from value i) (drop_of_length-le s {i = i} l))

  module _ (l : i < length s) where
    -- at a byte that ends the number
    pub at_other : goes_on value (get_or s i 0) ≡ false → record { value = value; next = i + 1 } ≡ number_from value i (drop i s)
    unfolding number_from
    at_other h = sym (ap (number_from value i) (drop-cons s i 0 l) ∙ rw (h, number_from) refl)

    -- at a digit, which says d
    pub at_digit : (d : ℕ) → d + 48 ≡ get_or s i 0 → get_or s i 0 ≤ 57 → value ≤ 100000 →
        number_from (10 * value + d) (i + 1) (drop (i + 1) s) ≡ number_from value i (drop i s)
    unfolding number_from
    at_digit d e h k =
        let f : get_or s i 0 - 48 ≡ d = omega arith in
        let g = le-leb 48 (get_or s i 0) (omega arith) in
        sym (ap (number_from value i) (drop-cons s i 0 l) ∙ rw (g, le-leb (get_or s i 0) 57 h, le-leb value 100000 k, number_from, f, add-one i) refl)
