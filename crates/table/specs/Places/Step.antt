-- Going from one item line to the next, and from a rule to its place.
use Rattle.std.specs.Prelude.{ℕ, zero, suc, ◌+◌, ◌≤◌, ◌<◌, ◌≡◌, refl, List, [], ◌∷◌, length, get_or}
use Rattle.std.proofs.Common.{arith, add-one, ap, ◌∙◌}
use mathlib.Core.List.{Memᴰ as Mem}
use Rattle.theory.specs.Grammar.{Grammar, WellFormed}
use Rattle.theory.specs.Table.{Item, rule_at, accept_rule}
use Rattle.lines.specs.Limits.{max_terms, max_rules, max_nonterms}
use Rattle.lines.specs.Ranges.Fitting.{formed}
use Rattle.table.specs.Members.{mem_at}
use Rattle.table.specs.declared.Sizes.{Sizes}
use Rattle.table.specs.Places.{no_item, after_item, item_place, ItemsAt, RuleAt, Held, table_in, grammar_in}

-- the first item stands where the items begin
pub item_first : (p : ℕ) (is : List Item) → item_place p is 0 ≡ p
unfolding item_place
item_first p [] = refl
item_first p (i ∷ is) = refl

-- the next item stands after this one
pub item_after : (p : ℕ) (is : List Item) (k : ℕ) → k < length is → item_place p is (suc k) ≡ after_item (item_place p is k) (get_or is k no_item)
unfolding item_place
item_after p [] k h = absurd (omega arith)
item_after p (i ∷ is) zero h = item_first (after_item p i) is
item_after p (i ∷ is) (suc k) h = item_after (after_item p i) is k (omega arith)

-- as a loop goes: this line's count is the way to the next
pub item_next : (ns : List ℕ) (p : ℕ) (is : List Item) (k : ℕ) → ItemsAt ns p is → k < length is →
    item_place p is (k + 1) ≡ item_place p is k + 1 + get_or ns (item_place p is k) 0
item_next ns p is k h l =
    let e = (h k l).counted in
    ap (item_place p is) (add-one k) ∙ (item_after p is k l ∙ omega arith)

-- ---- rules

-- a rule of the held table stands at its place
pub held_rule : {ns places : List ℕ} {z : Sizes} → Held ns places z → (r : ℕ) → r < z.rules → (p : ℕ) → p ≡ get_or places r 0 →
    RuleAt ns p (rule_at (grammar_in ns) r)
held_rule {ns} {places} H r l p e =
    let n = H.rules_are in
    rw e (H.rules_at r (omega arith))

-- there are at most as many rules as places
pub held_rules : {ns places : List ℕ} {z : Sizes} → Held ns places z → z.rules ≤ max_rules
held_rules H = let n = H.rules_are in let m = H.in_range.rule_count.1 in omega arith

-- the grammar of a held table is well formed
pub held_formed : {ns places : List ℕ} {z : Sizes} → Held ns places z → WellFormed (grammar_in ns)
held_formed {ns} H = formed (table_in ns) H.in_range

-- a rule of the grammar by its number
pub rule_mem : (g : Grammar) (r : ℕ) → r < length g.rules → Mem (rule_at g r) g.rules
rule_mem g r l = mem_at g.rules r (accept_rule g) l

-- a rule of a held table is one of its grammar's
pub held_mem : {ns places : List ℕ} {z : Sizes} → Held ns places z → (r : ℕ) → r < z.rules → Mem (rule_at (grammar_in ns) r) (grammar_in ns).rules
held_mem {ns} H r l = let n = H.rules_are in rule_mem (grammar_in ns) r (omega arith)

-- its left side is a nonterminal
pub held_left : {ns places : List ℕ} {z : Sizes} → Held ns places z → (r : ℕ) → r < z.rules →
    (z.terms < (rule_at (grammar_in ns) r).left) × ((rule_at (grammar_in ns) r).left ≤ z.terms + z.nonterms)
held_left {ns} H r l =
    let n = H.rules_are in
    let t = H.terms_are in
    let m = H.nonterms_are in
    let h = (H.in_range.rules_in (rule_at (grammar_in ns) r) (rule_mem (grammar_in ns) r (omega arith))).left_in in
    (omega arith, omega arith)

-- its right side has symbols other than the end mark
pub held_symbol : {ns places : List ℕ} {z : Sizes} → Held ns places z → (r : ℕ) → r < z.rules → (x : ℕ) → Mem x (rule_at (grammar_in ns) r).right →
    (x ≤ z.terms + z.nonterms) × (x ≡ z.terms → ⊥)
held_symbol {ns} H r l x k =
    let n = H.rules_are in
    let t = H.terms_are in
    let m = H.nonterms_are in
    let (a, b) = (H.in_range.rules_in (rule_at (grammar_in ns) r) (rule_mem (grammar_in ns) r (omega arith))).right_in x k in
    (omega arith, λ e. b (omega arith))

-- its right side has a first symbol
pub held_right : {ns places : List ℕ} {z : Sizes} → Held ns places z → (r : ℕ) → r < z.rules → 0 < length (rule_at (grammar_in ns) r).right
held_right {ns} H r l =
    let n = H.rules_are in
    (H.in_range.rules_in (rule_at (grammar_in ns) r) (rule_mem (grammar_in ns) r (omega arith))).right_count.0

-- there are at most as many kinds as a set holds, with the end mark
pub held_terms : {ns places : List ℕ} {z : Sizes} → Held ns places z → z.terms ≤ max_terms
held_terms H = let n = H.terms_are in let m = H.in_range.term_count.1 in omega arith

-- there are at most as many nonterminals as a set holds
pub held_nonterms : {ns places : List ℕ} {z : Sizes} → Held ns places z → z.nonterms ≤ max_nonterms
held_nonterms H = let n = H.nonterms_are in let m = H.in_range.nonterm_count.1 in omega arith
