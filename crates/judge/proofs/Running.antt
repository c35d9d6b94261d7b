-- The run over a tail as a loop: what is left to take from any token on gives what is asked of the whole tail.
use mathlib.Core.Path.{◌≡◌, ◌∙◌, refl, sym, ap, subst}
use mathlib.Core.Bool.{Bool, true, false}
use mathlib.Core.List.{List, [], ◌∷◌}
use Prim.Native.Nat.{ℕ, zero, suc, ◌+◌, ◌*◌, ◌-◌, ◌≤◌, ◌<◌}
use native.Mathlib.Omega.{arith}
use native.Mathlib.Nat.{mul-le-mul_left}
use native.Mathlib.Numerals.{add-one}
use lib.ListN.{length, get_or, drop}
use lib.Seq.{drop-cons, drop-length}
use Rattle.theory.specs.Grammar.{Grammar, Tokens, empty, token}
use Rattle.theory.specs.Table.{Table, count}
use Rattle.theory.specs.Forest.{Forest, nothing, tree, shift, long, Takes, all, Judged, none_shifts, runs}
use Rattle.theory.specs.Forest.Joins.{is_none}
use Rattle.lines.specs.Basics.{never, impossible}
use Rattle.forest.specs.Starts.{CanStart, SomeStart, Started}
use Rattle.forest.specs.Tokens.{CanTake, SomeTake, Taken}
use Rattle.forest.specs.Tokens as Of
use Rattle.forest.specs.Starts as At
use Rattle.forest.specs.Phases.{most_steps}
use Rattle.forest.specs.Enough.{nodes, nodes-words, words_most, Ahead, taken_next, started_next, ahead_enough, ahead_on, ahead_start}
use Rattle.forest.proofs.Tokens.{taken_stop, taken_on}
use Rattle.judge.specs.Runs.{Says, piece, stop, CanRun, SomeRun, Along, CanGoOn, SomeGoOn}

-- every token of a string of tokens is a kind
token_at : {g : Grammar} {x : List ℕ} → Tokens g x → (i : ℕ) → i < length x → get_or x i 0 < g.terms
token_at empty i h = impossible (omega arith)
token_at (token l ts) zero h = l
token_at (token l ts) (suc i) h = token_at ts i (omega arith)

-- ---- the tokens after the first

-- after i tokens, whatever table has the look-ups
pub record Going (w₀ acts go lens lefts : List ℕ) (m : ℕ) (tail w : List ℕ) (i steps : ℕ) : Type 0 where
  pub along : (t : Table) → CanGoOn w₀ acts go lens lefts m tail t → Along (nodes m (length tail)) t w tail i steps

module _ {w₀ acts go lens lefts : List ℕ} {m : ℕ} {tail w : List ℕ} {i steps : ℕ} (G : Going w₀ acts go lens lefts m tail w i steps) where
  module _ (inside : i < length tail) {a : ℕ} (is : a ≡ get_or tail i 0) where
    -- the tail from its token i on
    from_here : a ∷ drop (suc i) tail ≡ drop i tail
    from_here = ap (λ (x : ℕ). x ∷ drop (suc i) tail) is ∙ sym (drop-cons tail i 0 inside)

    -- the next token may be taken
    can_take : (t : Table) (K : CanGoOn w₀ acts go lens lefts m tail t) →
        CanTake acts go lens lefts m a (nodes m (length tail)) t (G.along t K).F
    can_take t K =
        let A = G.along t K in
        let e : length tail - i ≡ suc (length tail - suc i) = omega arith in
        record {
          table = K.run.table;
          rows = K.run.rows;
          token = subst (λ (x : ℕ). x < t.grammar.terms) (sym is) (token_at K.run.tokens i inside);
          before = A.before;
          room = ahead_enough t K.run.table.passes (nodes m (length tail)) A.F (length tail - suc i)
              (subst (λ (k : ℕ). Ahead (nodes m (length tail)) t A.F k) e A.ahead);
        }

    -- so it can be called for
    pub go_take : SomeGoOn w₀ acts go lens lefts m tail → SomeTake w acts go lens lefts m a
    go_take S = record {
      C = nodes m (length tail);
      t = S.t;
      F = (G.along S.t S.can).F;
      held = (G.along S.t S.can).held;
      can = can_take S.t S.can;
    }

    module _ {v : List ℕ} {none : Bool} {n : ℕ} (taken : Of.Takes w acts go lens lefts m a v none n) where
      -- what the token left
      left : (t : Table) (K : CanGoOn w₀ acts go lens lefts m tail t) →
          Taken w v (nodes m (length tail)) t a (G.along t K).F none n
      left t K = taken (nodes m (length tail)) t (G.along t K).F (G.along t K).held (can_take t K)

      -- the steps stay few
      pub go_few : SomeGoOn w₀ acts go lens lefts m tail → steps + n ≤ suc i * most_steps
      go_few S = omega (arith, (G.along S.t S.can).few, (left S.t S.can).few)

      -- no tree is left: the tail stops at the token
      pub go_stop : none ≡ true → (t : Table) → CanGoOn w₀ acts go lens lefts m tail t →
          Says t tail (record { answer = 1; value = i; steps = steps + n })
      go_stop e t K =
          let A = G.along t K in
          let x = taken_stop (left t K) e (drop (suc i) tail) in
          let y = A.rest false 0 n (subst (λ (l : List ℕ). Takes t A.F l false 0 n) from_here x) in
          let z : i + 0 ≡ i = omega arith in
          stop i (steps + n) (subst (λ (k : ℕ). Judged t tail false k (steps + n)) z y)

      -- a tree is left: for each table the next token may come
      go_along : none ≡ false → (t : Table) → CanGoOn w₀ acts go lens lefts m tail t → Along (nodes m (length tail)) t v tail (i + 1) (steps + n)
      go_along e t K =
          let A = G.along t K in
          let T = left t K in
          let passes = K.run.table.passes in
          let next = taken_next t passes T.reduces A.before in
          let p : length tail - i ≡ suc (length tail - (i + 1)) = omega arith in
          record {
            F = shift t a T.end.forest;
            held = T.becomes.held;
            before = next.before;
            ahead = ahead_on t passes (nodes m (length tail)) A.F _ (length tail - (i + 1)) next
                (subst (λ (k : ℕ). Ahead (nodes m (length tail)) t A.F k) p A.ahead);
            rest = λ b k j x. onward b k j A.F A.rest
                (taken_on T e (subst (λ (l : ℕ). Takes t (shift t a T.end.forest) (drop l tail) b k j) (add-one i) x));
            few = omega (arith, A.few, T.few);
          }
        where
          onward : (b : Bool) (k j : ℕ) (F : Forest) → ((v : Bool) (k j : ℕ) → Takes t F (drop i tail) v k j → Judged t tail v (i + k) (steps + j)) →
              Takes t F (a ∷ drop (suc i) tail) b (suc k) (n + j) → Judged t tail b (i + 1 + k) (steps + n + j)
          onward b k j F rest x =
              let y = rest b (suc k) (n + j) (subst (λ (l : List ℕ). Takes t F l b (suc k) (n + j)) from_here x) in
              let p : i + suc k ≡ i + 1 + k = omega arith in
              let q : steps + (n + j) ≡ steps + n + j = omega arith in
              subst (λ (s : ℕ). Judged t tail b (i + 1 + k) s) q (subst (λ (l : ℕ). Judged t tail b l (steps + (n + j))) p y)

      -- so the run goes on
      pub go_again : none ≡ false → Going w₀ acts go lens lefts m tail v (i + 1) (steps + n)
      go_again e = record { along = go_along e }

  -- all tokens are taken: the tail is a piece
  pub go_piece : i ≡ length tail → (t : Table) → CanGoOn w₀ acts go lens lefts m tail t →
      Says t tail (record { answer = 0; value = length tail; steps = steps })
  go_piece e t K =
      let A = G.along t K in
      let d : [] ≡ drop i tail = sym (ap (λ (k : ℕ). drop k tail) e ∙ drop-length tail) in
      let y = A.rest true 0 0 (subst (λ (l : List ℕ). Takes t A.F l true 0 0) d all) in
      let p : i + 0 ≡ length tail = omega arith in
      let q : steps + 0 ≡ steps = omega arith in
      piece steps (subst (λ (s : ℕ). Judged t tail true (length tail) s) q (subst (λ (l : ℕ). Judged t tail true l (steps + 0)) p y))

-- ---- the first token

-- the empty tail is a piece
pub run_empty : {t : Table} (tail : List ℕ) → length tail < 1 → Says t tail (record { answer = 0; value = 0; steps = 0 })
run_empty [] l = piece 0 Judged.empty
run_empty (a ∷ w) l = impossible (omega arith)

-- the first token's trees are none: the tail stops there
starts_none : {t : Table} {a : ℕ} {w : List ℕ} (F : Forest) → long t a ≡ F → is_none F ≡ true → Judged t (a ∷ w) false 0 0
starts_none nothing e h = none_shifts e
starts_none (tree s k b) e h = never cc

-- the first token has trees: what they give for the later tokens is given for all
starts_some : {t : Table} {a : ℕ} {w : List ℕ} (F : Forest) → long t a ≡ F → is_none F ≡ false → (v : Bool) (k j : ℕ) → Takes t F w v k j →
    Judged t (a ∷ w) v (1 + k) (0 + j)
starts_some nothing e h v k j x = never cc
starts_some {t} {a} {w} (tree s b c) e h v k j x =
    let p : suc k ≡ 1 + k = omega arith in
    let q : j ≡ 0 + j = omega arith in
    subst (λ (l : ℕ). Judged t (a ∷ w) v (1 + k) l) q (subst (λ (l : ℕ). Judged t (a ∷ w) v l j) p (runs e x))

-- the tail is its first token and the later ones
whole : {tail : List ℕ} {a : ℕ} → 1 ≤ length tail → a ≡ get_or tail 0 0 → a ∷ drop 1 tail ≡ tail
whole {tail} some is = ap (λ (x : ℕ). x ∷ drop 1 tail) is ∙ sym (drop-cons tail 0 0 some)

module _ {w acts go lens lefts : List ℕ} {m : ℕ} {tail : List ℕ} (some : 1 ≤ length tail) {a : ℕ} (is : a ≡ get_or tail 0 0) where
  -- the first token may start the forest
  can_start : (t : Table) → CanRun w acts go lens lefts m tail t → CanStart w go (nodes m (length tail)) m t a
  can_start t K =
      let R = K.table.ranges.state_count in
      let s = K.table.states in
      let n = nodes-words m (length tail) (omega arith) in
      let l = K.room in
      record {
        table = K.table;
        goes = K.rows.goes;
        token = subst (λ (x : ℕ). x < t.grammar.terms) (sym is) (token_at K.tokens 0 some);
        nodes = omega arith;
        words = omega (arith, words_most m (length tail) (omega arith) K.few);
        room = omega (arith, mul-le-mul_left {m = 3} {n = length tail + 2} m (omega arith));
      }

  -- so it can be called for
  pub run_start : SomeRun w acts go lens lefts m tail → SomeStart w go m a
  run_start S = record { C = nodes m (length tail); t = S.t; can = can_start S.t S.can }

  module _ {v : List ℕ} {none : Bool} {steps : ℕ} (starts : At.Starts w go m a v none steps) where
    -- what the first token left
    begun : (t : Table) → CanRun w acts go lens lefts m tail t → Started w v (nodes m (length tail)) t a none steps
    begun t K = starts (nodes m (length tail)) t (can_start t K)

    -- no tree: the tail stops at its first token
    pub run_stop : none ≡ true → (t : Table) → CanRun w acts go lens lefts m tail t → Says t tail (record { answer = 1; value = 0; steps = 0 })
    run_stop e t K = stop 0 0 (subst (λ (x : List ℕ). Judged t x false 0 0) (whole some is) (starts_none (long t a) refl (sym (begun t K).told ∙ e)))

    -- a tree: the run goes on with the later tokens
    pub run_on : none ≡ false → length v ≡ length w → (t : Table) → CanRun w acts go lens lefts m tail t → CanGoOn v acts go lens lefts m tail t
    run_on e same t K =
        let S = begun t K in
        let passes = K.table.passes in
        let kind = subst (λ (x : ℕ). x < t.grammar.terms) (sym is) (token_at K.tokens 0 some) in
        let r = ahead_start t passes a (length tail - 1) kind in
        let q : suc (length tail - 1) ≡ length tail = omega arith in
        record {
          run = record { table = K.table; rows = K.rows; tokens = K.tokens; few = K.few; room = same ∙ K.room };
          some = some;
          first = record {
            F = long t a;
            held = S.becomes.held;
            before = (started_next t passes a kind).0;
            ahead = subst (λ (x : ℕ). Ahead (nodes x (length tail)) t (long t a) (length tail - 1)) (sym K.table.states)
                (subst (λ (x : ℕ). Ahead (nodes (count t) x) t (long t a) (length tail - 1)) q r);
            rest = λ b k j x. subst (λ (y : List ℕ). Judged t y b (1 + k) (0 + j)) (whole some is)
                (starts_some (long t a) refl (sym S.told ∙ e) b k j x);
            few = omega arith;
          };
        }

    -- for some table
    pub run_go : none ≡ false → length v ≡ length w → SomeRun w acts go lens lefts m tail → SomeGoOn v acts go lens lefts m tail
    run_go e same S = record { t = S.t; can = run_on e same S.t S.can }
