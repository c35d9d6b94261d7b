-- Laws of the array that numbers are kept in: one number more, a line's count before its numbers.
use Rattle.std.specs.Prelude.{ℕ, suc, ◌+◌, ◌%◌, ◌≤◌, ◌<◌, max, ◌≡◌, refl, List, [], ◌∷◌, ◌++◌}
use Rattle.std.specs.Prelude.{length, drop, get_or, set}
use Rattle.std.proofs.Common.{arith, add-one, sym, ap, ◌∙◌, append_assoc, length-append, drop-cons}
use Rattle.std.proofs.lemmas.List.{set_at}
use Rattle.sheet.specs.Sheet.{in_front}
use Rattle.sheet.specs.Text.{max_word}
use Rattle.sheet.specs.Text.Tallies.{Tallied, tally_none, tally_more}

-- ---- the numbers so far

-- n numbers, the largest of which is top, stand at the front of the array if they are of 16 bits; the rest is as it was
pub record Keeps (before out : List ℕ) (n top : ℕ) (acc : List ℕ) : Type 0 where
  pub tally : Tallied n top acc
  pub held : top ≤ max_word → out ≡ in_front acc before

-- none
pub keeps_none : (before : List ℕ) → Keeps before before 0 0 []
keeps_none before = record { tally = tally_none; held = λ h. refl }

-- numbers with one more, written where those end
pub front_more : (before acc : List ℕ) (v : ℕ) → length acc < length before →
    set (in_front acc before) (length acc) v ≡ in_front (acc ++ (v ∷ [])) before
front_more before acc v h =
    let n : ℕ = length acc in
    let k : n + 1 ≡ length (acc ++ (v ∷ [])) = simp length-append refl in
    ap (λ (x : List ℕ). set (acc ++ x) n v) (drop-cons before n 0 h) ∙
    set_at acc (get_or before n 0) (drop (suc n) before) v n refl ∙
    sym (append_assoc acc (v ∷ []) (drop (suc n) before)) ∙
    ap (λ (m : ℕ). (acc ++ (v ∷ [])) ++ drop m before) (sym (add-one n) ∙ k)

-- one number more, of which the low 16 bits are written
pub keeps_more : (before out : List ℕ) (n top v more : ℕ) (acc : List ℕ) → n < length before → more ≡ max top v →
    Keeps before out n top acc → Keeps before (set out n (v % 65536)) (n + 1) more (acc ++ (v ∷ []))
keeps_more before out n top v more acc h e k = record {
  tally = tally_more n top v more acc e k.tally;
  held = λ l.
      let c = k.tally.counted in
      let b : v % 65536 ≡ v = omega arith in
      (λ i. set (k.held (omega arith) i) (c i) (b i)) ∙ front_more before acc v (omega arith);
}

-- ---- a line written at a place

-- the count before all numbers: what comes after them stays
pub put_count : (front : List ℕ) (x n : ℕ) (line more : List ℕ) →
    set ((front ++ (x ∷ [])) ++ (line ++ more)) (length front) n ≡ front ++ (n ∷ (line ++ more))
put_count front x n line more =
    ap (λ (y : List ℕ). set y (length front) n) (append_assoc front (x ∷ []) (line ++ more)) ∙
    set_at front x (line ++ more) n (length front) refl
