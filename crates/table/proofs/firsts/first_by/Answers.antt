-- `firsts::first_by` meets its contract: by whether the row grows.
use Prim.Native.Nat.{ℕ, ◌-◌}
use native.Mathlib.Omega.{arith}
use mathlib.Core.List.{◌∷◌}
use mathlib.Core.Path.{◌≡◌, ◌∙◌, sym, ap}
use lib.Seq.{drop-cons}
use lib.ListN.{get_or, drop}
use lib.Bits.{bit_or}
use Rattle.theory.specs.Table.{rule_at}
use Rattle.table.specs.Places.Step.{held_left, held_right, held_symbol, held_terms, held_nonterms, held_formed, held_mem}
use Rattle.table.specs.Places.{grammar_in}
use Rattle.table.specs.Members.{mem_at}
use Rattle.table.specs.Firsts.{first_set}
use Rattle.table.proofs.FirstSets.{first_stays, first_rises}
use Rattle.table.proofs.firsts.first_by.Goals as goal

pub overflow_sub-k : goal.overflow_sub-k
overflow_sub-k c = let h = held_left c.args.t.now.rules_held c.args.r c.requires.0 in let e = c.left_of.ensures in omega arith

pub overflow_sub-k-2 : goal.overflow_sub-k-2
overflow_sub-k-2 c = let h = held_left c.args.t.now.rules_held c.args.r c.requires.0 in let e = c.left_of.ensures in omega arith

pub right_symbol-x-requires : goal.right_symbol-x-requires
right_symbol-x-requires c = (c.requires.0, held_right c.args.t.now.rules_held c.args.r c.requires.0)

pub offset_bounds-rows-k : goal.offset_bounds-rows-k
offset_bounds-rows-k c = let h = held_left c.args.t.now.rules_held c.args.r c.requires.0 in
    let e = c.left_of.ensures in
    let n = held_nonterms c.args.t.now.rules_held in
    omega arith

pub bounds-rows-k : goal.bounds-rows-k
bounds-rows-k c = let h = held_left c.args.t.now.rules_held c.args.r c.requires.0 in
    let e = c.left_of.ensures in
    let n = held_nonterms c.args.t.now.rules_held in
    omega arith

pub begins-requires : goal.begins-requires
begins-requires c = let H = c.args.t.now.rules_held in
    let g = grammar_in c.args.t.now.numbers.now in
    let x = c.right_symbol-x.ensures in
    let h = held_symbol H c.args.r c.requires.0 _ (mem_at (rule_at g c.args.r).right 0 0 (held_right H c.args.r c.requires.0)) in
    let n = held_nonterms H in
    (held_terms H, omega arith)

pub returns-then-new-old : goal.returns-then-new-old
returns-then-new-old c = let H = c.args.t.now.rules_held in
    let g = grammar_in c.args.t.now.numbers.now in
    let r = c.args.r in
    let rows = c.args.rows.now in
    let y = c.right_symbol-x.result in
    let t = H.terms_are in
    let a = c.left_of.ensures in
    let n = held_nonterms H in
    let m = H.nonterms_are in
    let k = c.left_of.result - c.args.t.now.sizes.terms - 1 in
    let e : (rule_at g r).right ≡ y ∷ drop 1 (rule_at g r).right =
    drop-cons (rule_at g r).right 0 0 (held_right H r c.requires.0) ∙ ap (λ (x : ℕ). x ∷ drop 1 (rule_at g r).right) (sym c.right_symbol-x.ensures) in
    first_stays g (held_formed H) rows c.requires.2 r y _ e (held_mem H r c.requires.0) (omega arith) k _ (λ i. a i - t i - 1)
    (ap (λ (s : ℕ). bit_or (get_or rows k 0) s) (c.begins.ensures ∙ ap (λ (u : ℕ). first_set u rows y) t)) c.if-new-old.true

pub offset_bounds-rows-k-2 : goal.offset_bounds-rows-k-2
offset_bounds-rows-k-2 c = let h = held_left c.args.t.now.rules_held c.args.r c.requires.0 in
    let e = c.left_of.ensures in
    let n = held_nonterms c.args.t.now.rules_held in
    omega arith

pub bounds-rows-k-2 : goal.bounds-rows-k-2
bounds-rows-k-2 c = let h = held_left c.args.t.now.rules_held c.args.r c.requires.0 in
    let e = c.left_of.ensures in
    let n = held_nonterms c.args.t.now.rules_held in
    omega arith

pub returns : goal.returns
returns c = let H = c.args.t.now.rules_held in
    let g = grammar_in c.args.t.now.numbers.now in
    let r = c.args.r in
    let rows = c.args.rows.now in
    let y = c.right_symbol-x.result in
    let t = H.terms_are in
    let a = c.left_of.ensures in
    let n = held_nonterms H in
    let m = H.nonterms_are in
    let k = c.left_of.result - c.args.t.now.sizes.terms - 1 in
    let e : (rule_at g r).right ≡ y ∷ drop 1 (rule_at g r).right =
    drop-cons (rule_at g r).right 0 0 (held_right H r c.requires.0) ∙ ap (λ (x : ℕ). x ∷ drop 1 (rule_at g r).right) (sym c.right_symbol-x.ensures) in
    first_rises g (held_formed H) rows c.requires.2 r y _ e (held_mem H r c.requires.0) (omega arith) k _ (λ i. a i - t i - 1)
    (ap (λ (s : ℕ). bit_or (get_or rows k 0) s) (c.begins.ensures ∙ ap (λ (u : ℕ). first_set u rows y) t)) c.requires.1 c.if-new-old.false
