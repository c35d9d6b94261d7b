-- Laws of the count and the largest of numbers, one number more.
use Rattle.std.specs.Prelude.{ℕ, ◌+◌, ◌≤◌, ◌<◌, max, ◌≡◌, refl, List, [], ◌∷◌, ◌++◌, length}
use Rattle.std.proofs.Common.{arith, length-append}
use Rattle.std.proofs.Math.Decide.{dec_lt}
use mathlib.Core.List.Memᴰ
use mathlib.Core.List.Memᴰ.{head as Mem·head}
use Rattle.lines.specs.Basics.{all_nil, all_cons, all_append}
use Rattle.sheet.specs.Text.{max_word, Words}

-- how many they are, and a number that is of 16 bits exactly if they all are
pub record Tallied (n top : ℕ) (xs : List ℕ) : Type 0 where
  pub counted : n ≡ length xs
  pub small : top ≤ max_word → Words xs
  pub wide : max_word < top → Words xs → ⊥

-- of none
pub tally_none : Tallied 0 0 []
tally_none = record { counted = refl; small = λ h. all_nil (λ x. x ≤ max_word); wide = λ h w. omega arith }

-- one number more
pub tally_more : (n top v more : ℕ) (xs : List ℕ) → more ≡ max top v → Tallied n top xs → Tallied (n + 1) more (xs ++ (v ∷ []))
tally_more n top v more xs e t = record {
  counted = let a = t.counted in simp length-append (omega arith);
  small = λ h.
      all_append (λ x. x ≤ max_word) xs (v ∷ []) (t.small (omega arith))
      (all_cons (λ x. x ≤ max_word) (omega arith) (all_nil (λ x. x ≤ max_word)));
  wide = λ h w. by (dec_lt max_word top) h w;
}
  where
    by : Dec (max_word < top) → max_word < more → Words (xs ++ (v ∷ [])) → ⊥
    by (yes p) h w = t.wide p (λ x m. w x (Memᴰ.append_left (v ∷ []) m))
    by (no q) h w = let k = w v (Memᴰ.append_right xs (Mem·head refl)) in omega arith
