-- What an item asks and gives, added to the rows.
use Prim.Native.Nat.{ℕ, suc, ◌+◌, ◌<◌, ◌≤◌}
use native.Mathlib.Omega.{arith}
use mathlib.Core.Path.{◌≡◌, sym, ◌∙◌, subst}
use mathlib.Core.List.{List, ◌∷◌, head-eq_of_cons-eq}
use mathlib.Core.List.{Memᴰ as Mem}
use lib.Bits.{bit_or}
use lib.ListN.{length, get_or, set}
use Rattle.theory.specs.Grammar.{Grammar}
use Rattle.theory.specs.Table.{Item, After}
use Rattle.table.specs.Sets.{SetOf}
use Rattle.table.specs.Items.Dot.{after_dot, of_after}
use Rattle.table.specs.Condition4.{Asks, Noted, NotedAsked, NotedGiven}
use Rattle.table.proofs.SetOf.{set-as}

-- what is asked is asked of the nonterminal after the dot
asks_after : {g : Grammar} {b a : ℕ} {i : Item} → Asks g b i a → After g i b
asks_after (Asks.next x xs e k) = (x ∷ xs, e)
asks_after (Asks.last e m) = (_, e)

module _ (g : Grammar) (i : Item) (rows : List ℕ) where
  -- the item has a nonterminal after its dot
  pub asked_joined : (x b more : ℕ) → After g i x → g.terms + 1 + b ≡ x → b < length rows → SetOf (Asks g x i) (suc g.terms) more →
      NotedAsked g i rows (set rows b (bit_or (get_or rows b 0) more))
  asked_joined x b more (u, e) q l h = Noted.joined b more l (subst (λ y. SetOf (Asks g y i) (suc g.terms) more) (sym q) h)
      (λ r a k. let (v, f) = asks_after k in let z = head-eq_of_cons-eq (sym f ∙ e) in omega arith)

  -- it has none
  pub asked_skipped : after_dot g i ≤ g.terms → NotedAsked g i rows rows
  asked_skipped l = Noted.skipped (λ r a h k. let (v, f) = asks_after k in let z = of_after g i _ v f in omega arith)

  -- the item has dot 0
  pub given_joined : (r more : ℕ) → r ≡ i.rule → i.dot ≡ 0 → r < length rows → SetOf (λ a. Mem a i.ahead) (suc g.terms) more →
      NotedGiven g i rows (set rows r (bit_or (get_or rows r 0) more))
  given_joined r more e d l h = Noted.joined r more l
      (set-as h (λ a m. record { its_rule = sym e; its_dot = d; its_set = m }) (λ a v. v.its_set)) (λ q a v. sym v.its_rule ∙ sym e)

  -- it has another dot
  pub given_dotted : (i.dot ≡ 0 → ⊥) → NotedGiven g i rows rows
  given_dotted n = Noted.skipped (λ r a l v. n v.its_dot)

  -- it is the accept rule's
  pub given_accept : length g.rules ≤ i.rule → NotedGiven g i rows rows
  given_accept l = Noted.skipped (λ r a h v. let e = v.its_rule in omega arith)
