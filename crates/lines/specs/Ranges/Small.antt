-- Every number of a table within the ranges is at most 200: 16 bits and five digits are more than enough.
use Rattle.std.specs.Prelude.{ℕ, ◌≤◌, refl, List, [], ◌∷◌, ◌++◌, map, length}
use Rattle.std.proofs.Common.{arith, sym, subst, ⊎_elim}
use mathlib.Core.List.Memᴰ.{head as Mem·head}
use mathlib.Core.List.Memᴰ.{tail as Mem·tail}
use Rattle.theory.proofs.Basics.{get_d_cases}
use Rattle.theory.specs.Grammar.{Rule}
use Rattle.theory.specs.Table.{Item, Go, State, Table, rule_at, accept_rule, count}
use Rattle.lines.specs.Basics.{All, all_nil, all_cons, all_append, all_map}
use Rattle.lines.specs.Limits.{max_right, max_items}
use Rattle.lines.specs.Ranges.{RuleIn, ItemIn, GoIn, StateIn, InRange, rule_line, item_line, go_line, state_lines, lines_of}

-- numbers up to the largest limit
abbrev pub Small : List ℕ → Type 0
Small ns = All (λ n. n ≤ max_items) ns

-- one small number more
one : (n : ℕ) (ns : List ℕ) → n ≤ max_items → Small ns → Small (n ∷ ns)
one n ns h k = all_cons (λ x. x ≤ max_items) h k

-- no number
none : Small []
none = all_nil (λ x. x ≤ max_items)

-- no right side is longer than the longest
right-short : (t : Table) → InRange t → (r : ℕ) → length (rule_at t.grammar r).right ≤ max_right
right-short t h r =
    ⊎_elim (λ m. (h.rules_in (rule_at t.grammar r) m).right_count.1)
    (λ e. subst (λ (x : Rule). length x.right ≤ max_right) (sym e.1) (omega arith)) (get_d_cases t.grammar.rules r (accept_rule t.grammar))

-- a rule line's numbers
rule_small : (t : Table) → InRange t → (r : Rule) → RuleIn t.grammar r → Small (rule_line r)
rule_small t h r i =
    let a = h.term_count in let b = h.nonterm_count in
    one r.left r.right (let c = i.left_in in omega arith) (λ x m. let c = i.right_in x m in omega arith)

-- an item line's numbers
item_small : (t : Table) → InRange t → (i : Item) → ItemIn t.grammar i → Small (item_line i)
item_small t h i j =
    let a = h.term_count in let b = h.rule_count in let c = right-short t h i.rule in
    one i.rule (i.dot ∷ i.ahead) (let d = j.rule_in in omega arith)
    (one i.dot i.ahead (let d = j.dot_in in omega arith) (λ x m. let d = j.ahead_in x m in omega arith))

-- a go line's numbers
go_small : (t : Table) → InRange t → (l : Go) → GoIn t.grammar (count t) l → Small (go_line l)
go_small t h l i =
    let a = h.term_count in let b = h.nonterm_count in let c = h.state_count in
    one l.on (l.to ∷ []) (let d = i.on_in in omega arith) (one l.to [] (let d = i.to_in in omega arith) none)

-- the numbers of states' lines
states_small : (t : Table) → InRange t → (ss : List State) → All (StateIn t.grammar (count t)) ss → All Small (state_lines ss)
states_small t h [] a = all_nil Small
states_small t h (s ∷ ss) a =
    let i = a s (Mem·head refl) in
    let c = i.item_count in let d = i.go_count in
    all_cons Small (one (length s.items) (length s.gos ∷ []) (omega arith) (one (length s.gos) [] (omega arith) none))
    (all_append Small (map item_line s.items) (map go_line s.gos ++ state_lines ss)
    (all_map Small item_line s.items (λ x m. item_small t h x (i.items_in x m)))
    (all_append Small (map go_line s.gos) (state_lines ss)
    (all_map Small go_line s.gos (λ x m. go_small t h x (i.gos_in x m))) (states_small t h ss (λ x m. a x (Mem·tail m)))))

-- every number of every line
pub lines_small : (t : Table) → InRange t → All Small (lines_of t)
lines_small t h =
    let a = h.term_count in let b = h.nonterm_count in let c = h.rule_count in let d = h.state_count in
    all_cons Small (one t.grammar.terms [] (omega arith) none)
    (all_cons Small (one t.grammar.nonterms [] (omega arith) none)
    (all_cons Small (one (length t.grammar.rules) [] (omega arith) none)
    (all_append Small (map rule_line t.grammar.rules) ((count t ∷ []) ∷ state_lines t.states)
    (all_map Small rule_line t.grammar.rules (λ r m. rule_small t h r (h.rules_in r m)))
    (all_cons Small (one (count t) [] (omega arith) none) (states_small t h t.states h.states_in)))))
