-- Soundness: what a passing table takes is a piece. Every path of the forest is a chain of go lines whose symbols yield, after some string
-- of their own, the tokens taken so far (`Sound`); steps and shifts keep this. Such a chain is the top of a whole stack, and what a whole
-- stack spells goes on to a sentence, by Valid.
use Rattle.std.specs.Prelude.{ℕ, zero, suc, ◌≤◌, ◌<◌, ◌≡◌, refl, Bool, true, false, length, take, drop, T}
use Rattle.std.proofs.Common.{suc-le-suc, zero-le, arith, not-suc-le-zero, le_of_suc-le-suc, sym, ap, ◌∙◌, subst, inl, inr, ⊎_elim, true≢false}
use Rattle.std.proofs.Math.Nat.{suc_inj}
use Rattle.std.proofs.lemmas.Bool.{false≢true}
use Rattle.std.proofs.Math.Option.{some}
use mathlib.Core.List.{List, [], ◌∷◌, ◌++◌, append_assoc, append-nil, nil≢cons}
use mathlib.Core.List.Memᴰ
use mathlib.Core.List.{Memᴰ as Mem}
use Rattle.std.proofs.Math.Seq.{drop-nil, take-length}
use Rattle.theory.proofs.Basics.{get_d_cases, take_next, drop-bound, drop-done}
use Rattle.theory.specs.Grammar.{start, Derives, Tokens, token, Piece, Yields, end, kind}
use Rattle.theory.proofs.Grammar.Derive.{yields_join, yields_rule, yields_derives, yields_tokens, derives_trans}
use Rattle.theory.specs.Grammar.Fruitful.{Fruitful}
use Rattle.theory.proofs.Grammar.Fruitful.{fruitful_join}
use Rattle.theory.specs.Table.{Table, Item, goto, rule_at, rest, Complete, InState}
use Rattle.theory.proofs.Table.Actions.{reduce_on-item}
use Rattle.theory.specs.Table.Facts.{Facts}
use Rattle.theory.specs.Machine.{Stack, push}
use Rattle.theory.specs.Machine.Valid.{spelled, right_of}
use Rattle.theory.proofs.Machine.Valid.{right-parts, valid_derives, goto-item, reached, spelled-fruitful, stack_valid}
use Rattle.theory.specs.Forest.{Forest, nothing, tree, Path, Phase, Chosen, choose, reduced, Reduces, done, step, shift, short, long, Takes, all, on, stop, Judged, none_shifts, runs}
use Rattle.theory.specs.Forest.Joins.{is_none}
use Rattle.theory.specs.Forest.Taken.{Choice}
use Rattle.theory.proofs.Forest.Taken.{choose-taken}
use Rattle.theory.specs.Forest.Paths.{Grown, root_of, left_of, length_of}
use Rattle.theory.proofs.Forest.Paths.{no_path, path_cons, some_path, root_first, grow-path, short-path, long_path, taken_back, reduced-path}
use Rattle.theory.specs.Sound.{Sound, low, high, Good}

-- the tokens of a sound path are some
sound_some : {t : Table} {p w : List ℕ} → Sound t p w → (a : ℕ) × (v : List ℕ) × (w ≡ a ∷ v)
sound_some (low {a} {w} s x y e h) = (a, w, refl)
sound_some (high x {v = v} e h so) = let (a, w', q) = sound_some so in (a, w' ++ v, ap (λ (l : List ℕ). l ++ v) q)

-- its top state is the target of a go line
sound_goto : {t : Table} {u : ℕ} {p w : List ℕ} → Sound t (u ∷ p) w → (s : ℕ) × (x : ℕ) × (goto t s x ≡ some u)
sound_goto (low s x y e h) = (s, x, e)
sound_goto (high {s} x e h so) = (s, x, e)

module _ {t : Table} (P : Facts t) where
  -- ---- reductions

  -- An item whose dot is not in front comes from the state below: what stands before its dot is what stood there, and the symbol between.
  back_item : (s x u : ℕ) → goto t s x ≡ some u → (i : Item) → InState t u i → (d : ℕ) → i.dot ≡ suc d →
      (j : Item) × InState t s j × (j.dot ≡ d) × (take (suc d) (right_of t i) ≡ take d (right_of t j) ++ (x ∷ []))
  back_item s x u e i m d z =
      let (j, n, (r, b), c, k, f) = P.go_back s u x i e m (rw z (suc-le-suc zero-le)) in
      let k' : j.dot ≡ d = suc_inj (sym k ∙ z) in
      let b' : drop d (right_of t j) ≡ x ∷ r = rw k' at b in
      (j, n, k', ap (λ (l : ℕ). take (suc d) (rule_at t.grammar l).right) c ∙ take_next d (right_of t j) b')

  -- What is left of a sound path from which the symbols before an item's dot are taken, and what those yield.
  record Popped (i : Item) (d v : ℕ) (below w : List ℕ) : Type 0 where
    front : List ℕ
    back : List ℕ
    parts : w ≡ front ++ back
    under : Sound t (v ∷ below) front
    spells : Yields t.grammar (take d (right_of t i)) back

  pop : (d : ℕ) {s : ℕ} {p w : List ℕ} → Sound t (s ∷ p) w → (i : Item) → InState t s i → i.dot ≡ d → (v : ℕ) (below : List ℕ) →
      drop d (s ∷ p) ≡ v ∷ below → Popped i d v below w
  pop zero {w = w} so i m z v below e = record { front = w; back = []; parts = sym (append-nil w); under = rw e at so; spells = end }
  pop (suc d) (low s x y e h) i m z v below q = absurd (nil≢cons (sym (drop-nil d) ∙ q))
  pop (suc d) (high {s} {u} x {v = more} e h so) i m z v below q =
      let (j, n, k, b) = back_item s x u e i m d z in
      let a = pop d so j n k v below q in
      record {
        front = a.front;
        back = a.back ++ more;
        parts = ap (λ (l : List ℕ). l ++ more) a.parts ∙ append_assoc a.front a.back more;
        under = a.under;
        spells = rw b (yields_join a.spells h);
      }

  -- A sound path that is no longer than what stands before the dot: that yields some string and then all the tokens.
  pop_all : (d : ℕ) {s : ℕ} {p w : List ℕ} → Sound t (s ∷ p) w → (i : Item) → InState t s i → i.dot ≡ d → length (s ∷ p) ≤ d →
      (y : List ℕ) × Yields t.grammar (take d (right_of t i)) (y ++ w)
  pop_all zero so i m z n = absurd (not-suc-le-zero n)
  pop_all (suc d) (low {u} {a} {w} s x y e h) i m z n =
      let (j, k, l, b) = back_item s x u e i m d z in
      let (y₀, f) = (right-parts P j.rule d refl).0 in
      (y₀ ++ y, rw (b, append_assoc y₀ y (a ∷ w)) (yields_join f h))
  pop_all (suc d) (high {s} {u} x {v = more} {w = w} e h so) i m z n =
      let (j, k, l, b) = back_item s x u e i m d z in
      let (y, f) = pop_all d so j k l (le_of_suc-le-suc n) in
      (y, rw (b, ← append_assoc y w more) (yields_join f h))

  -- the dot of a complete item stands at its rule's end
  complete_dot : (s x u : ℕ) → goto t s x ≡ some u → (i : Item) → InState t u i → Complete t.grammar i → i.dot ≡ length (right_of t i)
  complete_dot s x u e i m c = go i.dot refl
    where
      least : length (right_of t i) ≤ i.dot
      least = drop-done i.dot (right_of t i) c

      go : (d : ℕ) → i.dot ≡ d → i.dot ≡ length (right_of t i)
      go zero z = omega (arith, least)
      go (suc d) z =
          let (j, n, (r, b), k, l, f) = P.go_back s u x i e m (rw z (suc-le-suc zero-le)) in
          let most : suc j.dot ≤ length (right_of t j) = drop-bound j.dot (right_of t j) b in
          let same : length (right_of t i) ≡ length (right_of t j) = ap (λ (q : ℕ). length (rule_at t.grammar q).right) k in
          omega (arith, least)

  -- a rule by which a state reduces on a token is one of the grammar's
  reduce_rule : (s a : ℕ) (i : Item) → a < t.grammar.terms → InState t s i → Mem a i.ahead →
      Mem (rule_at t.grammar i.rule) t.grammar.rules
  reduce_rule s a i l m h = ⊎_elim (λ k. k)
      (λ k. let range = P.item_rule s i m in
      let z : a ≡ t.grammar.terms = Memᴰ.eq_of_singleton (rw (P.accept_ahead s i m (omega (arith, k.0))) at h) in absurd (omega arith))
      (get_d_cases t.grammar.rules i.rule _)

  -- ---- the run

  -- what a complete item of a sound path's top state says of its rule
  complete_rule : (s a : ℕ) {p w : List ℕ} → a < t.grammar.terms → Sound t (s ∷ p) w → (i : Item) → InState t s i → Complete t.grammar i →
      Mem a i.ahead →
      Mem (rule_at t.grammar i.rule) t.grammar.rules × (i.dot ≡ length (right_of t i))
  complete_rule s a l so i m c n = let (s₀, x, e) = sound_goto so in (reduce_rule s a i l m n, complete_dot s₀ x s e i m c)

  -- a normal reduction by an item of rule r
  item_grown : (s a r : ℕ) {p w : List ℕ} → a < t.grammar.terms → Sound t (s ∷ p) w → (i : Item) → InState t s i → Complete t.grammar i →
      Mem a i.ahead → i.rule ≡ r →
      (v u : ℕ) (below : List ℕ) → drop (length (rule_at t.grammar r).right) (s ∷ p) ≡ v ∷ below →
      goto t v (rule_at t.grammar r).left ≡ some u → Sound t (u ∷ (v ∷ below)) w
  item_grown s a r l so i m c n q v u below d g =
      let (known, z) = complete_rule s a l so i m c n in
      let k = pop (length (right_of t i)) so i m z v below (rw (← q) at d) in
      let y : Yields t.grammar (right_of t i) k.back = rw take-length at k.spells in
      rw k.parts (high _ (rw (← q) at g) (yields_rule _ known y) k.under)

  -- a path of one node whose symbol yields some string and all the tokens
  low_all : (s x u : ℕ) (y w : List ℕ) → goto t s x ≡ some u → Yields t.grammar (x ∷ []) (y ++ w) → (a : ℕ) × (v : List ℕ) × (w ≡ a ∷ v) →
      Sound t (u ∷ []) w
  low_all s x u y w g h (a, v, e) = rw e (low s x y g (rw e at h))

  -- a long reduction by an item of rule r
  item_long : (s a r : ℕ) {p w : List ℕ} → a < t.grammar.terms → Sound t (s ∷ p) w → (i : Item) → InState t s i → Complete t.grammar i →
      Mem a i.ahead → i.rule ≡ r →
      length (s ∷ p) ≤ length (rule_at t.grammar r).right → (v u : ℕ) → goto t v (rule_at t.grammar r).left ≡ some u → Sound t (u ∷ []) w
  item_long s a r {p} {w} l so i m c n q d v u g =
      let (known, z) = complete_rule s a l so i m c n in
      let (y, k) = pop_all (length (right_of t i)) so i m z (rw (← q) at d) in
      let h : Yields t.grammar (right_of t i) (y ++ w) = rw take-length at k in
      low_all v _ u y w (rw (← q) at g) (yields_rule _ known h) (sound_some so)

  -- one step of a reduce phase
  reduced-good : (ph : Phase) (a : ℕ) (c : Chosen) (w : List ℕ) → a < t.grammar.terms → choose t a ph.forest ≡ some c → Good t w ph.forest →
      Good t w (reduced t ph c).forest
  reduced-good ph a c w l e h q k = ⊎_elim (λ b. h q (taken_back picked.taken (inr b))) (λ b. ⊎_elim grown (λ f. longer f.0 f.1) b)
      (reduced-path t ph c q k)
    where
      picked : Choice t a ph.forest c
      picked = choose-taken t a ph.forest c e

      item : (i : Item) × InState t c.state i × Complete t.grammar i × Mem a i.ahead × (i.rule ≡ c.rule)
      item = reduce_on-item t c.state a c.rule picked.reduces

      -- a path of the chosen tree is the root and others, and sound
      root : (p : List ℕ) → Path (root_of c) p → (p' : List ℕ) × (p ≡ c.state ∷ p') × Sound t (c.state ∷ p') w
      root p b = let (p', f) = root_first b in (p', f, rw f at (h p (taken_back picked.taken (inl b))))

      grown : Grown t (left_of t c) (length_of t c) (root_of c) q → Sound t q w
      grown r =
          let (p', f, so) = root r.path r.is in
          let (i, m, d, n, s) = item in
          let fits : drop (length_of t c) (c.state ∷ p') ≡ r.state ∷ r.below = ap (drop (length_of t c)) (sym f) ∙ r.left in
          rw r.grown (item_grown c.state a c.rule l so i m d n s r.state r.new r.below fits r.goes)

      longer : short (length_of t c) (root_of c) ≡ true → Path (long t (left_of t c)) q → Sound t q w
      longer z b =
          let (p, b', fits) = short-path (length_of t c) (root_of c) z in
          let (p', f, so) = root p b' in
          let (i, m, d, n, s) = item in
          let (v, u, g, e') = long_path P (left_of t c) q b in
          rw e' (item_long c.state a c.rule l so i m d n s (subst (λ (o : List ℕ). length o ≤ length_of t c) f fits) v u g)

  -- a reduce phase
  reduces_good : {a : ℕ} {ph ph' : Phase} {n : ℕ} (w : List ℕ) → a < t.grammar.terms → Reduces t a ph n ph' →
      Good t w ph.forest → Good t w ph'.forest
  reduces_good w l (done e) h = h
  reduces_good {a = a} w l (step {p = ph} c e r) h = reduces_good w l r (reduced-good ph a c w l e h)

  -- a shift
  shift-good : (a : ℕ) (f : Forest) (w : List ℕ) → a < t.grammar.terms → Good t w f → Good t (w ++ (a ∷ [])) (shift t a f)
  shift-good a f w l h q k =
      ⊎_elim (λ n. absurd (no_path n))
      (λ r. rw r.grown (high a r.goes (kind l end) (rw r.left at (h r.path r.is))))
      (grow-path t a zero f nothing q k)

  -- the first token
  long-good : (a : ℕ) → a < t.grammar.terms → Good t (a ∷ []) (long t a)
  long-good a l q k = let (s, u, g, e) = long_path P a q k in rw e (low s a [] g (kind l end))

  -- ---- pieces

  -- A sound path is the top of a whole stack, whose string yields some string and the tokens.
  whole : {s : ℕ} {p w : List ℕ} → Sound t (s ∷ p) w → (below : List ℕ) × (st : Stack t (s ∷ below)) × (y : List ℕ) ×
      Yields t.grammar (spelled st) (y ++ w)
  unfolding spelled
  whole (low {u} {a} {w} s x y e h) =
      let (below, st) = reached P s (P.go_from s x u e) in
      let (y₀, f) = spelled-fruitful P st in
      (s ∷ below, push x e st, y₀ ++ y, rw append_assoc (yields_join f h))
  whole (high {s} x {v = v} {w = w} e h so) =
      let (below, st, y, f) = whole so in
      (s ∷ below, push x e st, y, rw (← append_assoc y w v) (yields_join f h))

  -- what stands between two strings in what the start symbol derives is a piece
  between : (γ η y w : List ℕ) → Derives t.grammar (start t.grammar ∷ []) (γ ++ η) → Yields t.grammar γ (y ++ w) → Fruitful t.grammar η →
      Piece t.grammar w
  between γ η y w d h (z, k) =
      let all : Yields t.grammar (γ ++ η) (y ++ (w ++ z)) = rw (← append_assoc y w z) (yields_join h k) in
      (y, z, (derives_trans d (yields_derives all), yields_tokens all))

  -- the tokens of a sound path are a piece
  sound_piece : {s : ℕ} {p w : List ℕ} → Sound t (s ∷ p) w → Piece t.grammar w
  sound_piece {s} {w = w} so =
      let (s₀, x, e) = sound_goto so in
      let (i, m, n) = goto-item P s₀ x s e in
      let (below, st, y, f) = whole so in
      let val = stack_valid P st i m in
      between (spelled st) (rest t.grammar i ++ val.after) y w (valid_derives val) f
      (fruitful_join (right-parts P i.rule i.dot refl).1 val.fruit)

  -- so are those of a forest that is not empty
  good_piece : (f : Forest) {w : List ℕ} → (T (is_none f) → ⊥) → Good t w f → Piece t.grammar w
  good_piece nothing i h = absurd (i tt)
  good_piece (tree s k b) {w} i h =
      let (p, q) = some_path s k b in
      let (a, r, e) = path_cons q in
      sound_piece (subst (λ (l : List ℕ). Sound t l w) e (h p q))

  -- no token is a piece
  empty_piece : Piece t.grammar []
  empty_piece = let (w, d, k) = P.reduced.productive (start t.grammar) (let h = P.formed.has_start in (omega arith, omega arith)) in
      ([], w, (d, k))

  -- ---- the whole run

  -- what a forest takes, after what was taken before, is a piece
  takes_piece : {f : Forest} {w : List ℕ} {v : Bool} {i j : ℕ} → Takes t f w v i j → (x : List ℕ) → (T (is_none f) → ⊥) → Good t x f →
      Tokens t.grammar w → Piece t.grammar (x ++ take i w)
  takes_piece (all {f}) x is h k = rw append-nil (good_piece f is h)
  takes_piece (on {f} {a} {w = w} {q = q} {i = i} r e rest) x is h (token l k) =
      let after : Good t (x ++ (a ∷ [])) (tree _ _ _) = rw e at (shift-good a q.forest x l (reduces_good x l r h)) in
      rw (← append_assoc x (a ∷ []) (take i w)) (takes_piece rest (x ++ (a ∷ [])) (λ z. z) after k)
  takes_piece (stop {f} r e) x is h k = rw append-nil (good_piece f is h)

  -- Each prefix that is taken is a piece.
  pub judged_piece : {x : List ℕ} {v : Bool} {n k : ℕ} → Judged t x v n k → Tokens t.grammar x → Piece t.grammar (take n x)
  judged_piece Judged.empty h = empty_piece
  judged_piece (none_shifts e) h = empty_piece
  judged_piece (runs {a} e r) (token l h) = takes_piece r (a ∷ []) (λ z. z) (rw e at (long-good a l)) h

-- where the verdict is yes, all is taken; where it is no, some token is not
takes_all : {t : Table} {f : Forest} {w : List ℕ} {v : Bool} {i j : ℕ} → Takes t f w v i j → v ≡ true → i ≡ length w
takes_all all e = refl
takes_all (on r s rest) e = ap suc (takes_all rest e)
takes_all (stop r s) e = absurd (false≢true e)

pub judged_all : {t : Table} {x : List ℕ} {v : Bool} {n k : ℕ} → Judged t x v n k → v ≡ true → n ≡ length x
judged_all Judged.empty e = refl
judged_all (none_shifts s) e = absurd (false≢true e)
judged_all (runs s r) e = ap suc (takes_all r e)

takes_stop : {t : Table} {f : Forest} {w : List ℕ} {v : Bool} {i j : ℕ} → Takes t f w v i j → v ≡ false → i < length w
takes_stop all e = absurd (true≢false e)
takes_stop (on r s rest) e = suc-le-suc (takes_stop rest e)
takes_stop (stop r s) e = suc-le-suc zero-le

pub judged_stop : {t : Table} {x : List ℕ} {v : Bool} {n k : ℕ} → Judged t x v n k → v ≡ false → n < length x
judged_stop Judged.empty e = absurd (true≢false e)
judged_stop (none_shifts s) e = suc-le-suc zero-le
judged_stop (runs s r) e = suc-le-suc (takes_stop r e)

-- so what is judged a piece is one
pub all_piece : {t : Table} → Facts t → {x : List ℕ} {v : Bool} {n k : ℕ} → Judged t x v n k → Tokens t.grammar x → v ≡ true → Piece t.grammar x
all_piece {t} P {x} {n = n} j h e =
    let whole : take n x ≡ x = ap (λ (n : ℕ). take n x) (judged_all j e) ∙ take-length x in
    subst (λ (l : List ℕ). Piece t.grammar l) whole (judged_piece P j h)
