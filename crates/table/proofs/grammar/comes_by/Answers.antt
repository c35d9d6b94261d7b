-- `grammar::comes_by` meets its contract: by the count of the right side and its one symbol.
use Prim.Native.Nat.{ℕ}
use native.Mathlib.Omega.{arith}
use mathlib.Core.Bool.{false≢true}
use mathlib.Core.Logic.{inl, inr, ⊎_elim}
use mathlib.Core.List.{List, [], ◌∷◌}
use mathlib.Core.Path.{◌≡◌, ◌∙◌, sym, subst, ap}
use lib.ListN.{length, get_or}
use Rattle.theory.specs.Table.{rule_at}
use Rattle.table.specs.Places.Step.{held_left, held_symbol, held_nonterms, held_formed, held_mem}
use Rattle.table.specs.Places.{grammar_in}
use Rattle.table.specs.Notions.{Grows, member}
use Rattle.table.specs.Members.{mem_at}
use Rattle.table.specs.declared.Notion.{Notion}
use Rattle.table.proofs.Notions.{one_list, with-is, stays, comes_grows}
use Rattle.table.proofs.grammar.comes_by.Goals as goal
use Rattle.table.proofs.grammar.comes_by.Goals.{then-b-c+else-not-member, else-b-c}

pub returns-then-right_count-ne1 : goal.returns-then-right_count-ne1
returns-then-right_count-ne1 c = let g = grammar_in c.args.t.now.numbers.now in
    let e = c.right_count.ensures in
    stays g c.requires.1 (λ b q h. absurd (c.if-right_count-ne1.true (e ∙ ap (λ (l : List ℕ). length l) q)))

pub member-requires : goal.member-requires
member-requires c = let e = c.right_count.ensures in
    let g = grammar_in c.args.t.now.numbers.now in
    let x = c.right_symbol-b.ensures in
    let m = mem_at (rule_at g c.args.r).right 0 0 (omega arith) in
    let h = held_symbol c.args.t.now.rules_held c.args.r c.requires.0 _ m in
    let n = held_nonterms c.args.t.now.rules_held in
    omega arith

pub returns-then-not-member : goal.returns-then-not-member
returns-then-not-member c = let g = grammar_in c.args.t.now.numbers.now in
    let y = c.right_symbol-b.ensures in
    let f = sym c.member.ensures ∙ c.if-not-member.true in
    let t = c.args.t.now.rules_held.terms_are in
    stays g c.requires.1 (λ b q o.
    let e : c.right_symbol-b.result ≡ b = y ∙ ap (λ (l : List ℕ). get_or l 0 0) q in
    absurd (⊎_elim (λ h. c.if-b-c.true (e ∙ h)) (λ h. false≢true (sym f ∙ (λ i. member (t i) c.args.set (e i)) ∙ h)) o))

pub with-requires : goal.with-requires
with-requires c = let e = c.left_of-a.ensures in
    let h = held_left c.args.t.now.rules_held c.args.r c.requires.0 in
    let n = held_nonterms c.args.t.now.rules_held in
    (omega arith, omega arith)

pub returns : goal.returns
returns c = let g = grammar_in c.args.t.now.numbers.now in
    let ru = rule_at g c.args.r in
    let H = c.args.t.now.rules_held in
    let t = H.terms_are in
    let y = c.right_symbol-b.ensures in
    let n = c.right_count.ensures in
    let e : ru.right ≡ c.right_symbol-b.result ∷ [] = one_list ru.right (sym n ∙ c.if-right_count-ne1.false) ∙ ap (λ (x : ℕ). x ∷ []) (sym y) in
    subst (Grows g (Notion.ComesTo c.args.c) ru c.args.set) (with-is c.args.set c.with.ensures t c.left_of-a.ensures)
    (comes_grows g (held_formed H) (held_mem H c.args.r c.requires.0) c.requires.1 c.right_symbol-b.result e
    (elim c.if-b-c.branch [
      | then-b-c+else-not-member w ↦
          inr (ap (λ (n : ℕ). member n c.args.set c.right_symbol-b.result) (sym t) ∙
          sym w.member.ensures ∙ w.if-not-member.false)
      | else-b-c w ↦ inl w.if-b-c.false
    ]))
