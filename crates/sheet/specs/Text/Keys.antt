-- Laws of a key in front of bytes: byte by byte, and as a whole.
use Rattle.std.specs.Prelude.{ℕ, ◌+◌, ◌<◌, ◌≡◌, List, [], ◌∷◌, ◌++◌, length, drop, get_or}
use Rattle.std.proofs.Common.{◌≢◌, arith, sym, ap, ◌∙◌, drop_of_length-le, length-append, eq-eqb, ne_eqb}
use Rattle.std.proofs.Math.Decide.{ℕ_discrete}
use Rattle.std.proofs.Math.Path.{refl}
use Rattle.std.proofs.Math.Option.{Option, none, some}
use Rattle.lines.specs.Basics.{impossible}
use Rattle.sheet.specs.Sheet.{after}
use Rattle.sheet.specs.Sheet.Forms.{front_after}
use Rattle.sheet.specs.Text.Digits.{rest_at}

-- ---- byte by byte

after_same : (k : ℕ) (ks : List ℕ) (b : ℕ) (bs : List ℕ) → b ≡ k → after (k ∷ ks) (b ∷ bs) ≡ after ks bs
unfolding after
after_same k ks b bs e = rw (eq-eqb k b (sym e), after) refl

after-byte : (k : ℕ) (ks : List ℕ) (b : ℕ) (bs : List ℕ) → (b ≡ k → ⊥) → after (k ∷ ks) (b ∷ bs) ≡ none
unfolding after
after-byte k ks b bs n = rw (ne_eqb k b (λ e. n (sym e)), after) refl

-- what is shorter than a key does not begin with it
pub after-short : (k bs : List ℕ) → length bs < length k → after k bs ≡ none
unfolding after
after-short [] bs h = impossible (omega arith)
after-short (k ∷ ks) [] h = refl
after-short (k ∷ ks) (b ∷ bs) h = at (ℕ_discrete b k) (after-short ks bs (omega arith))
  where
    at : Dec (b ≡ k) → after ks bs ≡ none → after (k ∷ ks) (b ∷ bs) ≡ none
    at (yes e) ih = after_same k ks b bs e ∙ ih
    at (no n) ih = after-byte k ks b bs n

-- what begins with a key is not shorter
pub after-long : (k bs v : List ℕ) → after k bs ≡ some v → length k + length v ≡ length bs
after-long k bs v e = sym (ap (λ (x : List ℕ). length x) (front_after k bs v e) ∙ length-append k v)

module _ (key s : List ℕ) (at j : ℕ) (h : j < length key) (l : at + j < length s) where
  -- the next bytes agree
  pub after_more : get_or s (at + j) 0 ≡ get_or key j 0 →
      after (drop j key) (drop (at + j) s) ≡ after (drop (j + 1) key) (drop (at + (j + 1)) s)
  after_more e =
      let n : at + j + 1 ≡ at + (j + 1) = omega arith in
      (λ i. after (rest_at key j h i) (rest_at s (at + j) l i)) ∙
      after_same (get_or key j 0) (drop (j + 1) key) (get_or s (at + j) 0) (drop (at + j + 1) s) e ∙
      ap (λ (x : ℕ). after (drop (j + 1) key) (drop x s)) n

  -- the next bytes differ
  pub after-differs : (get_or s (at + j) 0 ≡ get_or key j 0 → ⊥) → after (drop j key) (drop (at + j) s) ≡ none
  after-differs n =
      (λ i. after (rest_at key j h i) (rest_at s (at + j) l i)) ∙
      after-byte (get_or key j 0) (drop (j + 1) key) (get_or s (at + j) 0) (drop (at + j + 1) s) n

-- all bytes of the key agree
pub after-all : (key s : List ℕ) (at j : ℕ) → length key ≡ j →
    after (drop j key) (drop (at + j) s) ≡ some (drop (at + length key) s)
unfolding after
after-all key s at j e =
    rw (drop_of_length-le key {i = j} (omega arith)) (ap (λ (x : ℕ). some (drop (at + x) s)) (sym e))

-- ---- as a whole

-- no bytes put behind the key are these
pub after-other : (k bs : List ℕ) → ((rest : List ℕ) → bs ≢ k ++ rest) → after k bs ≡ none
after-other k bs n = at (after k bs) refl
  where
    at : (o : Option (List ℕ)) → after k bs ≡ o → after k bs ≡ none
    at none p = p
    at (some v) p = absurd (n v (front_after k bs v p))
