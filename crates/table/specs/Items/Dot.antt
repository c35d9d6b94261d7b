-- The symbols after an item's dot, found by their places on the right side of its rule, with the end mark past its end.
use Rattle.std.specs.Prelude.{ℕ, zero, suc, ◌+◌, ◌≤◌, ◌<◌, ◌≡◌, refl, List, [], ◌∷◌, length, get_or, drop}
use Rattle.std.proofs.Common.{arith, sym, ap, subst, ◌∙◌, ⊎_elim, drop_of_length-le, drop-cons, get_or-drop}
use Rattle.std.proofs.Math.Decide.{dec_lt}
use mathlib.Core.List.Memᴰ
use mathlib.Core.List.{Memᴰ as Mem}
use Rattle.std.proofs.Math.ListN.{get_or-eq_default}
use Rattle.theory.proofs.Basics.{get_d_cases, drop-next, drop-get_d, drop-mem, drop-bound, drop-done}
use Rattle.theory.specs.Grammar.{Grammar, WellFormed, start}
use Rattle.theory.specs.Table.{Item, rule_at, accept_rule, rest, After, Complete}
use Rattle.table.specs.Members.{mem_at}

-- inside a list it does not matter what stands past its end
pub get_d_any : {A : Type 0} (l : List A) (j : ℕ) (d e : A) → j < length l → get_or l j d ≡ get_or l j e
get_d_any [] j d e h = absurd (omega arith)
get_d_any (x ∷ l) zero d e h = refl
get_d_any (x ∷ l) (suc j) d e h = get_d_any l j d e (omega arith)

-- a rule that is not listed is the accept rule
pub accept_is : (g : Grammar) (r : ℕ) → length g.rules ≤ r → rule_at g r ≡ accept_rule g
accept_is g r h = get_or-eq_default g.rules (accept_rule g) h

-- the symbol after an item's dot, or the end mark where there is none
abbrev pub after_dot : Grammar → Item → ℕ
after_dot g i = get_or (rule_at g i.rule).right i.dot g.terms

-- the end mark stands on no right side
pub no_mark : {g : Grammar} → WellFormed g → (r x : ℕ) → Mem x (rule_at g r).right → x ≡ g.terms → ⊥
no_mark {g} W r x m e =
    ⊎_elim (λ k. W.no_end (rule_at g r) x k m e)
    (λ (l, q). let n : Mem x (start g ∷ []) = subst (λ u. Mem x u.right) q m in let h = Memᴰ.eq_of_singleton n in omega arith)
    (get_d_cases g.rules r (accept_rule g))

-- the symbols of a right side are the grammar's
pub symbol_in : {g : Grammar} → WellFormed g → (r x : ℕ) → Mem x (rule_at g r).right → x ≤ g.terms + g.nonterms
symbol_in {g} W r x m =
    ⊎_elim (λ k. W.in_range (rule_at g r) x k m)
    (λ (l, q).
    let n : Mem x (start g ∷ []) = subst (λ u. Mem x u.right) q m in
    let h = Memᴰ.eq_of_singleton n in
    let s = W.has_start in
    omega arith)
    (get_d_cases g.rules r (accept_rule g))

module _ {g : Grammar} (W : WellFormed g) (i : Item) where
  -- so is the symbol after a dot
  pub after_dot-in : after_dot g i ≤ g.terms + g.nonterms
  after_dot-in =
      ⊎_elim (λ m. symbol_in W i.rule _ m) (λ (l, e). omega arith) (get_d_cases (rule_at g i.rule).right i.dot g.terms)

  -- the end mark for the symbol after the dot: the item is complete
  pub complete_of : after_dot g i ≡ g.terms → Complete g i
  complete_of e = go (dec_lt i.dot (length (rule_at g i.rule).right))
    where
      go : Dec (i.dot < length (rule_at g i.rule).right) → Complete g i
      go (yes l) = absurd (no_mark W i.rule _ (mem_at (rule_at g i.rule).right i.dot g.terms l) e)
      go (no n) = drop_of_length-le (rule_at g i.rule).right {i = i.dot} (omega arith)

  -- the symbol after a dot is not the end mark
  pub after_unmarked : (x : ℕ) → After g i x → x ≡ g.terms → ⊥
  after_unmarked x (more, e) = no_mark W i.rule x (drop-mem i.dot (rule_at g i.rule).right x more e)

-- a complete item has the end mark for the symbol after its dot
pub of_complete : (g : Grammar) (i : Item) → Complete g i → after_dot g i ≡ g.terms
of_complete g i e = get_or-eq_default (rule_at g i.rule).right g.terms (drop-done i.dot (rule_at g i.rule).right e)

-- a symbol that is not the end mark stands after the dot
pub after_of : (g : Grammar) (i : Item) (x : ℕ) → after_dot g i ≡ x → (x ≡ g.terms → ⊥) →
    rest g i ≡ x ∷ drop (suc i.dot) (rule_at g i.rule).right
after_of g i x e n = go (dec_lt i.dot (length (rule_at g i.rule).right))
  where
    go : Dec (i.dot < length (rule_at g i.rule).right) → rest g i ≡ x ∷ drop (suc i.dot) (rule_at g i.rule).right
    go (yes l) = drop-cons (rule_at g i.rule).right i.dot g.terms l ∙
        ap (λ (y : ℕ). y ∷ drop (suc i.dot) (rule_at g i.rule).right) e
    go (no k) = absurd (n (sym e ∙ get_or-eq_default (rule_at g i.rule).right g.terms (omega arith)))

-- a symbol that stands after the dot is the one that is found
pub of_after : (g : Grammar) (i : Item) (x : ℕ) (more : List ℕ) → rest g i ≡ x ∷ more → after_dot g i ≡ x
of_after g i x more e =
    get_d_any (rule_at g i.rule).right i.dot g.terms 0 (drop-bound i.dot (rule_at g i.rule).right e) ∙
    drop-get_d i.dot (rule_at g i.rule).right x more e

-- the symbol next after the one after the dot, or the end mark where there is none
pub next_of : (g : Grammar) (i : Item) (x : ℕ) (more : List ℕ) → rest g i ≡ x ∷ more →
    get_or (rule_at g i.rule).right (i.dot + 1) g.terms ≡ get_or more 0 g.terms
next_of g i x more e =
    ap (λ (n : ℕ). get_or (rule_at g i.rule).right n g.terms) (omega arith) ∙
    (sym (get_or-drop (suc i.dot) (rule_at g i.rule).right 0 g.terms) ∙
    ap (λ (l : List ℕ). get_or l 0 g.terms) (drop-next i.dot (rule_at g i.rule).right e))
