-- The room is enough. With m states and n tokens a room of m · (n + 2) nodes, node 0 among them, has nodes enough at every token, also while
-- its steps run: `Enough` is all that the steps ask of the room.
use Rattle.std.specs.Prelude.{ℕ, suc, ◌+◌, ◌*◌, ◌-◌, ◌≤◌, ◌<◌, ◌≡◌, Bool, List, length}
use Rattle.std.proofs.Common.{subst, arith, mul-le-mul, mul-le-mul_left}
use Rattle.lines.specs.Limits.{stride, max_states, max_tail}
use Rattle.theory.specs.Grammar.{Tokens, token}
use Rattle.theory.specs.Table.{Table, Passes, count}
use Rattle.theory.proofs.Table.Facts.{facts}
use Rattle.theory.specs.Forest.{Forest, tree, Phase, long, shift, Reduces, done, step, Takes, all, on, stop, Judged, none_shifts, runs}
use Rattle.theory.specs.Forest.Sizes.{inner}
use Rattle.theory.proofs.Forest.Growth.{long-inner}
use Rattle.theory.specs.Bound.{fresh_phase}
use Rattle.theory.proofs.Bound.{long-inv, shift-inv, shift-inner}
use Rattle.theory.specs.Bound.Heights.{Height}
use Rattle.theory.proofs.Bound.Heights.{height}
use Rattle.theory.proofs.Bound.Potential.{Inv}
use Rattle.theory.proofs.Bound.Steps.{step_falls}
use Rattle.forest.specs.Words.{max_words}
use Rattle.forest.specs.Phases.{Enough}

-- the nodes of a room besides node 0, for m states and n tokens
abbrev pub nodes : ℕ → ℕ → ℕ
nodes m n = m * (n + 2) - 1

-- they and node 0 take the words that document 01 asks for
pub nodes-words : (m n : ℕ) → 1 ≤ m → stride * suc (nodes m n) ≡ stride * (m * (n + 2))
nodes-words m n h = omega (arith, mul-le-mul_left {m = 1} {n = n + 2} m (omega arith))

-- which are no more than the largest room's
pub words_most : (m n : ℕ) → m ≤ max_states → n ≤ max_tail → stride * (m * (n + 2)) ≤ max_words
words_most m n h l =
    let p : m * (n + 2) ≤ max_states * (max_tail + 2) = mul-le-mul {n₂ = max_states} {m₂ = max_tail + 2} h (omega arith) in
    omega arith

-- nodes enough for a forest to which k tokens are still to come
abbrev pub Ahead : ℕ → Table → Forest → ℕ → Type 0
Ahead C t F k = inner F + count t * (k + 1) + 1 ≤ C

-- at each token there are nodes enough for the token
abbrev pub TakesEnough : (C : ℕ) {t : Table} {f : Forest} {w : List ℕ} {v : Bool} {i j : ℕ} → Takes t f w v i j → Type 0
TakesEnough C all = Unit {0}
TakesEnough C {t} (on {f = f} r e x) = Enough C t f × TakesEnough C x
TakesEnough C {t} (stop {f = f} r e) = Enough C t f

-- and at the first one for its one-node trees
abbrev pub JudgedEnough : (C : ℕ) {t : Table} {x : List ℕ} {v : Bool} {i k : ℕ} → Judged t x v i k → Type 0
JudgedEnough C Judged.empty = Unit {0}
JudgedEnough C {t} (none_shifts e) = count t ≤ C
JudgedEnough C {t} (runs e x) = (count t ≤ C) × TakesEnough C x

module _ (t : Table) (passes : Passes t) where
  -- heights of the symbols
  heights : Height t.grammar t.grammar.nonterms
  heights = height t.grammar (facts passes).formed (facts passes).no_ring

  -- what a phase leaves: a forest of which the next phase may begin after a shift, with no more inner nodes
  pub record Kept (p q : Phase) : Type 0 where
    pub inv : Inv t q
    pub within : inner q.forest ≤ inner p.forest

  -- a phase keeps both
  pub reduces_keeps : {a n : ℕ} {p q : Phase} → Reduces t a p n q → Inv t p → Kept p q
  reduces_keeps (done e) i = record { inv = i; within = omega arith }
  reduces_keeps {a} (step {p = p} c e r) i =
      let d = step_falls t (facts passes) t.grammar.nonterms heights a p c i e in
      let k = reduces_keeps r d.inv in
      record { inv = k.inv; within = omega (arith, d.within, k.within) }

  -- what a token leaves: the next token may come, and there are at most m inner nodes more
  pub record Next (F G : Forest) : Type 0 where
    pub before : Inv t (fresh_phase G)
    pub within : inner G ≤ inner F + count t

  -- the shift after a phase leaves that
  pub taken_next : {a n : ℕ} {F : Forest} {q : Phase} → Reduces t a (fresh_phase F) n q → Inv t (fresh_phase F) → Next F (shift t a q.forest)
  taken_next {a} {q = q} r i =
      let k = reduces_keeps r i in
      record {
        before = shift-inv t (facts passes) a q.forest k.inv.rising;
        within = omega (arith, k.within, shift-inner t (facts passes) a q.forest k.inv.rising);
      }

  -- what the first token leaves
  pub started_next : (a : ℕ) → a < t.grammar.terms → Inv t (fresh_phase (long t a)) × (inner (long t a) ≤ 0)
  started_next a l = (long-inv t (facts passes) a l, long-inner (facts passes) a)

  -- with nodes enough for the tokens to come there are enough for the next one
  pub ahead_enough : (C : ℕ) (F : Forest) (k : ℕ) → Ahead C t F (suc k) → Enough C t F
  ahead_enough C F k h = omega arith

  -- and after it for the later ones
  pub ahead_on : (C : ℕ) (F G : Forest) (k : ℕ) → Next F G → Ahead C t F (suc k) → Ahead C t G k
  ahead_on C F G k n h = omega (arith, n.within)

  -- the room of document 01 has enough for the tokens after the first
  pub ahead_start : (a k : ℕ) → a < t.grammar.terms → Ahead (nodes (count t) (suc k)) t (long t a) k
  ahead_start a k l = omega (arith, (started_next a l).1, passes.fits.some_state)

  -- so there are enough at every token
  takes_enough : {f : Forest} {w : List ℕ} {v : Bool} {i j : ℕ} (C : ℕ) (x : Takes t f w v i j) → Inv t (fresh_phase f) →
      Ahead C t f (length w) → TakesEnough C x
  takes_enough C all i h = tt
  takes_enough C (on {f = f} {s = s} {w = w} {k = k} {b = b} r e x) i h =
      let n = subst (λ G. Next f G) e (taken_next r i) in
      (ahead_enough C f (length w) h, takes_enough C x n.before (ahead_on C f (tree s k b) (length w) n h))
  takes_enough C (stop {f = f} {w = w} r e) i h = ahead_enough C f (length w) h

  -- THE THEOREM: the room of document 01 has nodes enough for every judgement
  pub room_enough : {x : List ℕ} {v : Bool} {i k : ℕ} (y : Judged t x v i k) → Tokens t.grammar x → JudgedEnough (nodes (count t) (length x)) y
  room_enough Judged.empty o = tt
  room_enough (none_shifts e) (token l o) = omega (arith, passes.fits.some_state)
  room_enough (runs {a = a} {w = w} e x) (token l o) =
      let b = subst (λ G. Inv t (fresh_phase G)) e (started_next a l).0 in
      let h = subst (λ G. Ahead (nodes (count t) (suc (length w))) t G (length w)) e (ahead_start a (length w) l) in
      (omega (arith, passes.fits.some_state), takes_enough (nodes (count t) (suc (length w))) x b h)
