-- One step of a phase: the row of the rule's left side, the marks, and the theory's step.
use mathlib.Core.Path.{◌≡◌, ◌∙◌, sym, ap, subst, subst⁻¹}
use mathlib.Core.Bool.{Bool, true, false, not, cond}
use mathlib.Core.Logic.{⊎_elim}
use mathlib.Core.List.{List, ◌∷◌}
use mathlib.Core.List.{Memᴰ as Mem}
use Prim.Native.Nat.{ℕ, suc, ◌+◌, ◌*◌, ◌≤◌, ◌<◌}
use native.Mathlib.Omega.{arith}
use native.Mathlib.Decide.{ℕ_discrete}
use borrow.Author.Tests.{eq-eqb, ne_eqb}
use lib.ListN.{length, get_or, set, length-set}
use lib.Seq.{get_or-set_other}
use Rattle.std.proofs.lemmas.Grind.{get_or-set_at}
use Rattle.theory.proofs.Basics.{get_d_cases}
use Rattle.theory.specs.Grammar.{Rule, Nonterm}
use Rattle.theory.specs.Table.{Table, count, rule_at, accept_rule, has}
use Rattle.theory.proofs.Table.Facts.{facts}
use Rattle.theory.specs.Forest as Of
use Rattle.theory.specs.Forest.{Forest, nothing, tree, Phase, Chosen, short, reduced}
use Rattle.forest.specs.Rows.{row_of, Row}
use Rattle.forest.specs.Held as Held
use Rattle.forest.specs.Held.{Becomes, after, SomeReduce, ReducesOne}
use Rattle.forest.specs.Phases.{max_symbols, Marks, CanStep, SomeStep, Steps}
use Rattle.forest.proofs.Leaves.{after-reduced}
use Rattle.forest.proofs.Lookups.{row_length, go_row, row_end}

-- ---- marks

-- one more mark
marks-set : (marks : List Bool) (M : List ℕ) (A : ℕ) → A < max_symbols → Marks marks M → Marks (set marks A true) (A ∷ M)
unfolding has
marks-set marks M A h K = record { each = λ a l. go a l (ℕ_discrete a A); all = length-set marks A true ∙ K.all }
  where
    go : (a : ℕ) → a < max_symbols → Dec (a ≡ A) → has (A ∷ M) a ≡ get_or (set marks A true) a false
    go a l (yes e) =
        let here : has (A ∷ M) a ≡ true = simp (eq-eqb A a (sym e)) in
        here ∙ sym (get_or-set_at marks A a true false e (omega (arith, K.all)))
    go a l (no n) =
        let there : has (A ∷ M) a ≡ has M a = simp (ne_eqb A a (λ z. n (sym z))) in
        there ∙ K.each a l ∙ sym (get_or-set_other marks A a true false n)

-- ---- a step

module _ (go lens lefts : List ℕ) (marks : List Bool) (m r C : ℕ) (t : Table) (p : Phase) (c : Chosen) (K : CanStep go lens lefts marks m r C t p c)
    (left len : ℕ) (eleft : left ≡ get_or lefts r 0) (elen : len ≡ get_or lens r 0) where
  -- the chosen rule
  abbrev rule : Rule
  rule = rule_at t.grammar c.rule

  -- the left side and the length of the right side are the chosen rule's
  left_is : left ≡ rule.left
  left_is = eleft ∙ K.known.rules.left r K.listed ∙ ap (λ (i : ℕ). (rule_at t.grammar i).left) K.rule

  -- and so is the length of the right side
  len_is : len ≡ length rule.right
  len_is = elen ∙ K.known.rules.right r K.listed ∙ ap (λ (i : ℕ). length (rule_at t.grammar i).right) K.rule

  -- the left side is a nonterminal
  left_in : Nonterm t.grammar rule.left
  left_in = ⊎_elim (λ (n : Mem rule t.grammar.rules). K.known.table.passes.fits.formed.lefts rule n)
      (λ e. absurd (omega (arith, e.0, K.listed, K.rule)))
      (get_d_cases t.grammar.rules c.rule (accept_rule t.grammar))

  -- its number is that of a symbol
  left-low : left ≤ t.grammar.terms + t.grammar.nonterms
  left-low = omega (arith, left_in.1, left_is)

  -- which has a mark
  left-marked : left < max_symbols
  left-marked = omega (arith, left-low, K.known.table.ranges.term_count.1, K.known.table.ranges.nonterm_count.1)

  -- the rows of all symbols lie within the go targets
  rows_all : suc (t.grammar.terms + t.grammar.nonterms) * m ≤ length go
  rows_all = subst⁻¹ (λ (k : ℕ). suc (t.grammar.terms + t.grammar.nonterms) * k ≤ length go) K.known.table.states K.known.goes.all

  -- the left side's too
  left_end : left * m + m ≤ length go
  left_end = row_end m left (suc (t.grammar.terms + t.grammar.nonterms)) (length go) (omega (arith, left-low)) rows_all

  -- the part is the left side's row
  row : Row (row_of go m left) (count t) t left
  row = go_row t (facts K.known.table.passes) go K.known.goes m left K.known.table.states left-low

  -- with an entry for each state
  row_len : length (row_of go m left) ≡ count t
  row_len = row_length t (facts K.known.table.passes) go m left (suc (t.grammar.terms + t.grammar.nonterms)) (omega (arith, left-low)) rows_all ∙ K.known.table.states

  -- the root
  abbrev root : Forest
  root = tree c.state c.kids nothing

  -- what the reduction asks
  can_reduce : Held.CanReduce (row_of go m left) C (count t) t left root c.others
  unfolding Of.size
  can_reduce = record {
    goes = row;
    rising = K.rising;
    rising_roots = K.rising_others;
    some = omega (arith, row_len, K.known.table.ranges.state_count.0);
    room = omega (arith, K.room, row_len);
  }

  -- what the reduction leaves is the theory's step
  forest-is : after (row_of go m left) t left len (not (get_or marks left false)) root c.others ≡ (reduced t p c).forest
  forest-is =
      let free : not (get_or marks left false) ≡ not (has p.marked rule.left) =
      ap not (sym (K.marked.each left left-marked) ∙ ap (λ (i : ℕ). has p.marked i) left_is) in
      (λ i. after (row_of go m left) t (left_is i) (len_is i) (free i) root c.others)
      ∙ after-reduced (row_of go m left) (count t) t p c K.known.table.passes.fits
      (subst (λ (y : ℕ). Row (row_of go m left) (count t) t y) left_is row) row_len

  -- and so are the marks
  marks-are : (is : Bool) (now : List Bool) → is ≡ short len root → now ≡ cond is (set marks left true) marks → Marks now (reduced t p c).marked
  unfolding reduced
  marks-are is now e q = subst (λ (b : Bool). Marks now (cond b (rule.left ∷ p.marked) p.marked)) (e ∙ ap (λ (d : ℕ). short d root) len_is)
      (subst⁻¹ (λ (l : List Bool). Marks l (cond is (rule.left ∷ p.marked) p.marked)) q (by is))
    where
      by : (b : Bool) → Marks (cond b (set marks left true) marks) (cond b (rule.left ∷ p.marked) p.marked)
      by true = subst (λ (y : ℕ). Marks (set marks left true) (y ∷ p.marked)) left_is (marks-set marks p.marked left left-marked K.marked)
      by false = K.marked

-- ---- what `step` asks of `reduce`, and what it leaves

module _ {w go lens lefts : List ℕ} {marks : List Bool} {m x r left len : ℕ} (S : SomeStep w go lens lefts marks m x r)
    (eleft : left ≡ get_or lefts r 0) (elen : len ≡ get_or lens r 0) where
  -- the left side has a mark
  pub step_mark : left < max_symbols
  step_mark = left-marked go lens lefts marks m r S.C S.t S.p S.c S.can left len eleft elen

  -- its row lies within the go targets
  pub step_end : left * m + m ≤ length go
  step_end = left_end go lens lefts marks m r S.C S.t S.p S.c S.can left len eleft elen

  module _ {row : List ℕ} (is-row : row ≡ row_of go m left) where
    -- so `reduce` can be called
    pub step_reduce : SomeReduce w row x
    step_reduce = subst⁻¹ (λ (l : List ℕ). SomeReduce w l x) is-row (record {
      C = S.C;
      m = count S.t;
      t = S.t;
      y = left;
      G = tree S.c.state S.c.kids nothing;
      F = S.c.others;
      split = S.split;
      can = can_reduce go lens lefts marks m r S.C S.t S.p S.c S.can left len eleft elen;
    })

    -- what it leaves is the step
    pub step_steps : (v : List ℕ) (now : List Bool) (is : Bool) → ReducesOne w row len x (not (get_or marks left false)) v is →
        now ≡ cond is (set marks left true) marks → Steps w go lens lefts marks m x r v now
    step_steps v now is R q C t p c split K =
        let R' = subst (λ (l : List ℕ). ReducesOne w l len x (not (get_or marks left false)) v is) is-row R in
        let (e, B) = R' C (count t) t left (tree c.state c.kids nothing) c.others split
        (can_reduce go lens lefts marks m r C t p c K left len eleft elen) in
        record {
          becomes = subst (λ (F : Forest). Becomes w v C F) (forest-is go lens lefts marks m r C t p c K left len eleft elen) B;
          marked = marks-are go lens lefts marks m r C t p c K left len eleft elen is now e q;
        }
