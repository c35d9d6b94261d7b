-- The marks that a state sets at rules and dots: none, one, more, and what they tell.
use Prim.Native.Nat.{ℕ, suc, ◌+◌, ◌<◌}
use native.Mathlib.Omega.{arith}
use native.Mathlib.Decide.{ℕ_discrete}
use mathlib.Core.Path.{◌≡◌, refl, sym, ap, ◌∙◌, subst}
use mathlib.Core.Logic.{◌⊎◌, inl, inr, ⊎_elim}
use mathlib.Core.List.{List}
use mathlib.Core.List.{Memᴰ as Mem}
use lib.ListN.{length, get_or, set, replicate, length-set, length-replicate}
use lib.Seq.{get_or-set_same, get_or-set_other}
use Rattle.theory.proofs.Basics.{place}
use Rattle.theory.specs.Table.{Table}
use Rattle.table.specs.Condition5.{MarkedAt, MarksTo, MarksTell, MetIn, Met}
use Rattle.table.specs.Members.{mem_at}
use Rattle.table.specs.Spots.{cores}
use Rattle.table.proofs.Spotted.{zeros}

-- nothing is marked where nothing has the property
pub marks-none : {s : ℕ} (P : ℕ → Type 0) {marks : List ℕ} → length marks ≡ cores → ((c : ℕ) → P c → ⊥) → MarkedAt s P marks marks
marks-none P n none = record { long = n; marks = λ c l p. absurd (none c p); each = λ c. inl refl }

-- one number is marked
pub marks-one : {s c : ℕ} {marks : List ℕ} → length marks ≡ cores → c < cores → MarkedAt s (λ x. x ≡ c) marks (set marks c (suc s))
marks-one {s} {c} {marks} n l = record {
  long = length-set marks c (suc s) ∙ n;
  marks = λ x g e. here x e;
  each = λ x. go x (ℕ_discrete x c);
}
  where
    here : (x : ℕ) → x ≡ c → get_or (set marks c (suc s)) x 0 ≡ suc s
    here x e = ap (λ (y : ℕ). get_or (set marks c (suc s)) y 0) e ∙ get_or-set_same marks c (suc s) 0 (omega arith)

    go : (x : ℕ) → Dec (x ≡ c) → (get_or (set marks c (suc s)) x 0 ≡ get_or marks x 0) ⊎ ((get_or (set marks c (suc s)) x 0 ≡ suc s) × (x ≡ c))
    go x (yes e) = inr (here x e, e)
    go x (no e) = inl (get_or-set_other marks c x (suc s) 0 e)

-- some are marked, and then others
marks_join : {s : ℕ} {P Q R : ℕ → Type 0} {a b d : List ℕ} → MarkedAt s P a b → MarkedAt s Q b d → ((c : ℕ) → P c ⊎ Q c → R c) →
    ((c : ℕ) → R c → P c ⊎ Q c) → MarkedAt s R a d
marks_join {s} {P} {Q} {R} {a} {b} {d} g h f k = record {
  long = h.long;
  marks = λ c l r. ⊎_elim (λ p. kept c (g.marks c l p) (h.each c)) (λ q. h.marks c l q) (k c r);
  each = λ c. both c (g.each c) (h.each c);
}
  where
    kept : (c : ℕ) → get_or b c 0 ≡ suc s → (get_or d c 0 ≡ get_or b c 0) ⊎ ((get_or d c 0 ≡ suc s) × Q c) → get_or d c 0 ≡ suc s
    kept c e (inl u) = u ∙ e
    kept c e (inr (u, q)) = u

    both : (c : ℕ) → (get_or b c 0 ≡ get_or a c 0) ⊎ ((get_or b c 0 ≡ suc s) × P c) → (get_or d c 0 ≡ get_or b c 0) ⊎ ((get_or d c 0 ≡ suc s) × Q c) →
        (get_or d c 0 ≡ get_or a c 0) ⊎ ((get_or d c 0 ≡ suc s) × R c)
    both c (inl u) (inl v) = inl (v ∙ u)
    both c (inr (u, p)) (inl v) = inr (v ∙ u, f c (inl p))
    both c e (inr (v, q)) = inr (v, f c (inr q))

-- the same of a property that says the same
pub marks_as : {s : ℕ} {P R : ℕ → Type 0} {a b : List ℕ} → MarkedAt s P a b → ((c : ℕ) → P c → R c) → ((c : ℕ) → R c → P c) → MarkedAt s R a b
marks_as {s} {P} {R} {a} {b} h f k = record {
  long = h.long;
  marks = λ c l r. h.marks c l (k c r);
  each = λ c. ⊎_elim (λ u. inl u) (λ (u, p). inr (u, f c p)) (h.each c);
}

-- ---- lists

-- one of the first k members has it
abbrev pub Some : {A : Type 0} → (A → ℕ → Type 0) → List A → A → ℕ → ℕ → Type 0
Some P l d k c = (j : ℕ) × (j < k) × P (get_or l j d) c

module _ {A : Type 0} (P : A → ℕ → Type 0) (l : List A) (d : A) {s : ℕ} where
  -- the first k members are marked, and then the next
  pub marks_more : (k : ℕ) {x : A} → x ≡ get_or l k d → {a b e : List ℕ} → MarkedAt s (Some P l d k) a b → MarkedAt s (P x) b e →
      MarkedAt s (Some P l d (k + 1)) a e
  marks_more k {x} q {a} {b} {e} g h = marks_join g (subst (λ y. MarkedAt s (P y) b e) q h)
      (λ c o. ⊎_elim (λ (j, i, p). (j, omega arith, p)) (λ p. (k, omega arith, p)) o)
      (λ c (j, i, p). which c j i p (ℕ_discrete j k))
    where
      which : (c j : ℕ) → j < k + 1 → P (get_or l j d) c → Dec (j ≡ k) → Some P l d k c ⊎ P (get_or l k d) c
      which c j i p (yes e) = inr (subst (λ (x : ℕ). P (get_or l x d) c) e p)
      which c j i p (no n) = inl (j, omega arith, p)

  -- all members are
  pub marks_all : (k : ℕ) {a b : List ℕ} → k ≡ length l → MarkedAt s (Some P l d k) a b → MarkedAt s (λ c. (x : A) × Mem x l × P x c) a b
  marks_all k e h = marks_as h
      (λ c (j, i, p). (get_or l j d, mem_at l j d (omega arith), p))
      (λ c (x, m, p). let (j, i, q) = place d m in (j, omega arith, subst (λ y. P y c) (sym q) p))

-- ---- states

-- the items of a state by an equal number
pub marks_in : (t : Table) (s : ℕ) {u v : ℕ} → u ≡ v → {a b : List ℕ} → MarkedAt s (MetIn t s u) a b → MarkedAt s (MetIn t s v) a b
marks_in t s e {a} {b} h = subst (λ (u : ℕ). MarkedAt s (MetIn t s u) a b) e h

-- there are no marks yet
pub marks_start : MarksTo 0 (replicate cores 0)
marks_start = record { long = length-replicate {A = ℕ} cores 0; low = λ c. let z = zeros cores c in omega arith }

-- a state's marks under the number that a loop counts to
pub marks-step : {s : ℕ} {marks : List ℕ} → MarksTo (suc s) marks → MarksTo (s + 1) marks
marks-step h = record { long = h.long; low = λ c. let l = h.low c in omega arith }

-- all marks so far are those of states below s: what was marked since tells
pub marks_tell : {t : Table} {s : ℕ} {before after : List ℕ} → MarksTo s before → MarkedAt s (Met t s) before after → MarksTell t s after
marks_tell {t} {s} {before} {after} g h = record { told = λ c e. which c e (h.each c); shown = h.marks }
  where
    which : (c : ℕ) → get_or after c 0 ≡ suc s → (get_or after c 0 ≡ get_or before c 0) ⊎ ((get_or after c 0 ≡ suc s) × Met t s c) → Met t s c
    which c e (inl u) = let l = g.low c in absurd (omega arith)
    which c e (inr (u, m)) = m

-- and they are marks of states up to s
pub marks_next : {s : ℕ} {P : ℕ → Type 0} {before after : List ℕ} → MarksTo s before → MarkedAt s P before after → MarksTo (suc s) after
marks_next g h = record {
  long = h.long;
  low = λ c. let l = g.low c in ⊎_elim (λ u. omega arith) (λ (u, p). omega arith) (h.each c);
}
