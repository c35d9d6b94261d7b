-- `items::symbol_at` meets its contract: a listed rule's symbols stand in its line; the accept rule has one, the start.
use native.Mathlib.Omega.{arith}
use mathlib.Core.List.{[], ◌∷◌}
use mathlib.Core.Path.{◌∙◌, sym}
use lib.ListN.{get_or-eq_default}
use Rattle.theory.specs.Table.{rule_at}
use Rattle.theory.specs.Grammar.{start}
use Rattle.table.specs.Items.Dot.{get_d_any, accept_is}
use Rattle.table.specs.Places.{grammar_in}
use Rattle.table.proofs.places.Table.symbol_at.Goals as goal

pub right_symbol-requires : goal.right_symbol-requires
right_symbol-requires c = let e = c.right_count.ensures in
    let l = c.if-j-right_count.true in
    (c.if-r-self.true, omega arith)

pub returns-then-j-right_count : goal.returns-then-j-right_count
returns-then-j-right_count c = let g = grammar_in c.args.self.now.numbers.now in
    let e = c.right_count.ensures in
    let l = c.if-j-right_count.true in
    c.right_symbol.ensures ∙ get_d_any (rule_at g c.args.r).right c.args.j 0 g.terms (omega arith)

pub returns-then-r-self : goal.returns-then-r-self
returns-then-r-self c = let g = grammar_in c.args.self.now.numbers.now in
    let e = c.right_count.ensures in
    let l = c.if-j-right_count.false in
    c.args.self.now.rules_held.terms_are ∙ sym (get_or-eq_default (rule_at g c.args.r).right g.terms (omega arith))

pub returns-then-j-eq0 : goal.returns-then-j-eq0
returns-then-j-eq0 c = let g = grammar_in c.args.self.now.numbers.now in
    let H = c.args.self.now.rules_held in
    let n = H.rules_are in
    let l = c.if-r-self.false in
    let t = H.terms_are in
    let j = c.if-j-eq0.true in
    let q = accept_is g c.args.r (omega arith) in
    rw (j, q) (omega arith)

pub returns : goal.returns
returns c = let g = grammar_in c.args.self.now.numbers.now in
    let H = c.args.self.now.rules_held in
    let n = H.rules_are in
    let l = c.if-r-self.false in
    let j = c.if-j-eq0.false in
    let q = accept_is g c.args.r (omega arith) in
    H.terms_are ∙ rw q (sym (get_or-eq_default (start g ∷ []) g.terms {n = c.args.j} (omega arith)))
