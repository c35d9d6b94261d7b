-- `grammar::grow_by` meets its contract: by the notion.
use mathlib.Core.Path.{sym, subst}
use Rattle.theory.specs.Table.{rule_at}
use Rattle.table.specs.Places.{grammar_in}
use Rattle.table.specs.Notions.{Part, Grows}
use Rattle.table.proofs.grammar.grow_by.Goals as goal

pub productive_by-requires : goal.productive_by-requires
productive_by-requires c = (c.requires.0, subst (λ n. Part (grammar_in c.args.t.now.numbers.now) n c.args.set) c.in-Productive.is c.requires.1)

pub reachable_by-requires : goal.reachable_by-requires
reachable_by-requires c = (c.requires.0, subst (λ n. Part (grammar_in c.args.t.now.numbers.now) n c.args.set) c.in-Reachable.is c.requires.1)

pub comes_by-requires : goal.comes_by-requires
comes_by-requires c = (c.requires.0, subst (λ n. Part (grammar_in c.args.t.now.numbers.now) n c.args.set) c.in-ComesTo.is c.requires.1)

pub returns-in-Productive : goal.returns-in-Productive
returns-in-Productive c = let g = grammar_in c.args.t.now.numbers.now in
    subst (λ n. Grows g n (rule_at g c.args.r) c.args.set c.productive_by.result) (sym c.in-Productive.is) c.productive_by.ensures

pub returns-in-Reachable : goal.returns-in-Reachable
returns-in-Reachable c = let g = grammar_in c.args.t.now.numbers.now in
    subst (λ n. Grows g n (rule_at g c.args.r) c.args.set c.reachable_by.result) (sym c.in-Reachable.is) c.reachable_by.ensures

pub returns-in-ComesTo : goal.returns-in-ComesTo
returns-in-ComesTo c = let g = grammar_in c.args.t.now.numbers.now in
    subst (λ n. Grows g n (rule_at g c.args.r) c.args.set c.comes_by.result) (sym c.in-ComesTo.is) c.comes_by.ensures
