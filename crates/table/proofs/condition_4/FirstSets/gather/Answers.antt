use Prim.Native.Nat.{ℕ, suc}
use native.Mathlib.Omega.{arith}
use mathlib.Core.Path.{◌≡◌, sym, subst}
use lib.ListN.{length}
use Rattle.theory.specs.Grammar.{Grammar}
use Rattle.theory.specs.Table.{Item, state_at}
use Rattle.lines.specs.Limits.{max_nonterms, max_rules}
use Rattle.table.specs.Condition4.{Asks, Gives, Asked, Given}
use Rattle.table.specs.Notions.{nonterm}
use Rattle.table.specs.NotedTable.{table_of, grammar_of}
use Rattle.table.specs.Items.Held.{walk_here, walk_first, walk_on}
use Rattle.table.proofs.NotedTable.{item_noted}
use Rattle.table.proofs.Rows.{rows_none, rows-noted}
use Rattle.table.proofs.condition_4.FirstSets.gather.Goals as goal

-- what an item asks of the b-th nonterminal's rules
abbrev asks : Grammar → ℕ → Item → ℕ → Type 0
asks g b = Asks g (nonterm g b)

pub loop-init : goal.loop-init
loop-init c =
    let t = c.args.self.now.noted.now in
    let g = grammar_of t in
    let is = (state_at (table_of t) c.args.s).items in
    let R = t.table.now.rules_held.in_range in
    record {
      walk = walk_first c.item_count-n.ensures c.first_item-at.ensures;
      asked = subst (Asked g is 0) (sym c.requires.none_asked)
          (rows_none is (suc g.terms) g.nonterms (asks g) max_nonterms R.nonterm_count.1);
      given = subst (Given g is 0) (sym c.requires.none_given)
          (rows_none is (suc g.terms) (length g.rules) Gives max_rules R.rule_count.1);
    }

pub note_asked-requires : goal.note_asked-requires
note_asked-requires c =
    item_noted c.args.self.now.noted.now c.args.s c.requires.here c.loop.invariant.walk c.loop-test.true

pub note_given-requires : goal.note_given-requires
note_given-requires c =
    item_noted c.args.self.now.noted.now c.args.s c.requires.here c.loop.invariant.walk c.loop-test.true

pub next_item-at-requires : goal.next_item-at-requires
next_item-at-requires c =
    (item_noted c.args.self.now.noted.now c.args.s c.requires.here c.loop.invariant.walk c.loop-test.true).held

pub loop-preserved : goal.loop-preserved
loop-preserved c =
    let t = c.args.self.now.noted.now in
    let g = grammar_of t in
    let is = (state_at (table_of t) c.args.s).items in
    let k = c.loop.counter in
    let L = c.loop.invariant in
    let h = walk_here t.table.now.states_held c.args.s c.requires.here L.walk c.loop-test.true in
    record {
      walk = walk_on L.walk c.loop-test.true h c.next_item-at.ensures;
      asked = rows-noted is (suc g.terms) g.nonterms (asks g) k h.same c.note_asked.ensures L.asked;
      given = rows-noted is (suc g.terms) (length g.rules) Gives k h.same c.note_given.ensures L.given;
    }

pub returns : goal.returns
returns c =
    let t = c.args.self.now.noted.now in
    let is = (state_at (table_of t) c.args.s).items in
    let L = c.loop.invariant in
    let n = L.walk.counted in
    let p = L.walk.passed in
    let l = c.loop-test.false in
    let q : c.loop.counter ≡ length is = omega arith in
    record {
      asked = subst (λ k. Asked (grammar_of t) is k c.loop.asked) q L.asked;
      given = subst (λ k. Given (grammar_of t) is k c.loop.given) q L.given;
    }
