-- The chosen root is the one that document 01 says: "while some root reduces on t, take the one of lowest state". In a forest that rises, the
-- first root that reduces is the lowest; where none is chosen, no root reduces.
use Rattle.std.specs.Prelude.{ℕ, ◌≤◌, ◌≡◌}
use Rattle.std.proofs.Common.{arith, sym, ◌∙◌, inl, inr}
use Rattle.std.proofs.Math.Path.{refl, ap}
use Rattle.std.proofs.Math.Option.{Option, none, some, none-ne-some, some-injective}
use Rattle.theory.specs.Table.{Table, reduce_on}
use Rattle.theory.specs.Forest.{Forest, nothing, tree, Chosen, chosen, choose, From, root, Rising, rises}
use Rattle.theory.specs.Forest.Lowest.{Root}

-- a lower bound of the first root is one of all, where they rise
root_above : {m n s : ℕ} (f : Forest) → From n f → Rising m f → Root s f → n ≤ s
root_above nothing from rising r = elim r [ ]
root_above (tree u kids beside) (root l) (rises h above k b) (inl e) = omega arith
root_above (tree u kids beside) (root l) (rises h above k b) (inr q) = let z = root_above beside above b q in omega arith

module _ (t : Table) (a : ℕ) where
  -- where none is chosen no root reduces
  pub none-reduces : (f : Forest) (s : ℕ) → choose t a f ≡ none → Root s f → reduce_on t s a ≡ none
  unfolding choose chosen
  none-reduces nothing s e q = elim q [ ]
  none-reduces (tree u kids beside) s e q = go (reduce_on t u a) refl (choose t a beside) refl q (λ h r. none-reduces beside s h r)
    where
      go : (o : Option ℕ) → reduce_on t u a ≡ o → (d : Option Chosen) → choose t a beside ≡ d → Root s (tree u kids beside) →
          (choose t a beside ≡ none → Root s beside → reduce_on t s a ≡ none) → reduce_on t s a ≡ none
      go (some r) p d z q ih = absurd (none-ne-some _ (sym (rw p at e)))
      go none p (some c) z q ih = absurd (none-ne-some _ (sym (rw (p, z) at e)))
      go none p none z (inl i) ih = ap (λ (n : ℕ). reduce_on t n a) i ∙ p
      go none p none z (inr q) ih = ih z q

  -- the chosen root's state is the lowest of the roots that reduce
  pub chosen_lowest : {m : ℕ} (f : Forest) {c : Chosen} {s r : ℕ} → Rising m f → choose t a f ≡ some c → Root s f → reduce_on t s a ≡ some r →
      c.state ≤ s
  unfolding choose chosen
  chosen_lowest nothing rising e q d = elim q [ ]
  chosen_lowest (tree u kids beside) {c} {s} {r} (rises h above k b) e q d =
      go (reduce_on t u a) refl (choose t a beside) refl q (λ c' z x. chosen_lowest beside b z x d)
    where
      state : (k : Chosen) → some k ≡ some c → k.state ≡ c.state
      state k z = ap (λ (x : Chosen). x.state) (some-injective k c z)

      go : (o : Option ℕ) → reduce_on t u a ≡ o → (p : Option Chosen) → choose t a beside ≡ p → Root s (tree u kids beside) →
          ((c' : Chosen) → choose t a beside ≡ some c' → Root s beside → c'.state ≤ s) → c.state ≤ s
      go (some r') x p z q ih =
          let y = state (record { rule = r'; state = u; kids = kids; others = beside }) (rw x at e) in
          let l = root_above (tree u kids beside) (root {n = u} (omega arith)) (rises h above k b) q in
          omega arith
      go none x none z q ih = absurd (none-ne-some c (rw (x, z) at e))
      go none x (some c') z (inl i) ih = absurd (none-ne-some r (sym x ∙ ap (λ (n : ℕ). reduce_on t n a) (sym i) ∙ d))
      go none x (some c') z (inr q) ih =
          let y = state (record { rule = c'.rule; state = c'.state; kids = c'.kids; others = tree u kids c'.others }) (rw (x, z) at e) in
          let l = ih c' z q in
          omega arith
