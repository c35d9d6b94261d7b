-- The first token of a tail that is not below T, as a search finds it, and what a tail without one is.
use Rattle.std.specs.Prelude.{ℕ, suc, ◌≤◌, ◌<◌, List, [], ◌∷◌, ◌++◌, length, get_or, take, drop, Option, Some, None}
use Rattle.std.proofs.Common.{arith, sym, ap, ◌∙◌, take-append-drop, drop-cons, get_or-take, length-take-le}
use Rattle.theory.specs.Grammar.{Grammar, Tokens, empty, token}
use Rattle.judge.specs.Judge.{Strange}

-- every token before place i is below T, and the one at i is not
pub record FirstAt (terms : ℕ) (tail : List ℕ) (i : ℕ) : Type 0 where
  pub below : (k : ℕ) → k < i → get_or tail k 0 < terms
  pub within : i < length tail
  pub not_below : terms ≤ get_or tail i 0

-- the first token that is not below T: at that place, or there is none
abbrev pub FirstNot : ℕ → List ℕ → Option ℕ → Type 0
FirstNot terms tail None = (k : ℕ) → k < length tail → get_or tail k 0 < terms
FirstNot terms tail (Some i) = FirstAt terms tail i

-- a string of numbers below T is one of tokens
tokens_of : (g : Grammar) (x : List ℕ) → ((k : ℕ) → k < length x → get_or x k 0 < g.terms) → Tokens g x
tokens_of g [] h = empty
tokens_of g (a ∷ w) h = token (h 0 (omega arith)) (tokens_of g w (λ k l. h (suc k) (omega arith)))

-- none was found: the tail is made of tokens
pub none_found : (g : Grammar) (tail : List ℕ) → FirstNot g.terms tail None → Tokens g tail
none_found g tail h = tokens_of g tail h

-- one was found: it is the first that is not below T
pub one_found : (g : Grammar) (tail : List ℕ) (i : ℕ) → FirstNot g.terms tail (Some i) → Strange g tail i
one_found g tail i F =
    record {
      before = take i tail;
      token = get_or tail i 0;
      after = drop (suc i) tail;
      its_tail = sym (take-append-drop i tail) ∙ ap (λ (x : List ℕ). take i tail ++ x) (drop-cons tail i 0 F.within);
      tokens = tokens_of g (take i tail) (λ k m. let o : k < i = omega (arith, length-take-le i tail (omega (arith, F.within))) in rw (get_or-take i tail k 0 o) (F.below k o));
      not_below = F.not_below;
      place = length-take-le i tail (omega (arith, F.within));
    }
