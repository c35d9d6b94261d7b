-- The first token of what a string yields: where no right side is empty, it can begin the string's first symbol.
-- `next_token` says this with a token behind the string, which is the first one where the string is empty.
use Rattle.std.specs.Prelude.{ℕ, ◌≡◌, refl}
use Rattle.std.proofs.Common.{sym, ap, ◌∙◌, subst}
use mathlib.Core.List.{List, [], ◌∷◌, ◌++◌, append_assoc, append-nil, nil≢cons, head-eq_of_cons-eq}
use Rattle.theory.specs.Grammar.{Grammar, Derives, Tokens, Yields, end, kind, by, Begins, WellFormed}
use Rattle.theory.proofs.Grammar.Derive.{yields_derives, yields_tokens}
use Rattle.theory.specs.Grammar.First.{Next}

-- what a string with a symbol in it yields is not empty, where no right side is
pub yields_token : {g : Grammar} → WellFormed g → {a w : List ℕ} → Yields g a w → (a ≡ [] → ⊥) → (b : ℕ) × (v : List ℕ) × (w ≡ b ∷ v)
yields_token W end h = absurd (h refl)
yields_token W (kind {t} {a} {w} l y) h = (t, w, refl)
yields_token W (by {a} {u} {w} r m y z) h =
    let (b, v, e) = yields_token W y (W.filled r m) in
    (b, v ++ w, ap (λ (l : List ℕ). l ++ w) e)

-- a symbol that yields tokens begins with the first of them
pub begins_first : {g : Grammar} {x b : ℕ} {u v : List ℕ} → Yields g (x ∷ []) u → u ≡ b ∷ v → Begins g x b
begins_first {g} {x} {v} y e = (v, subst (λ l. Derives g (x ∷ []) l) e (yields_derives y), subst (λ l. Tokens g l) e (yields_tokens y))

pub next_token : {g : Grammar} → WellFormed g → {α w : List ℕ} → Yields g α w → (a : ℕ) (z : List ℕ) → Next g α w a z
next_token W end a z = record { token = a; after = z; splits = refl; begins = λ x xs e. absurd (nil≢cons e); same = λ e. refl }
next_token {g} W (kind {t} {a = β} {w} h y) a z =
    let first : Begins g t t = begins_first (kind h end) refl in
    record {
      token = t;
      after = w ++ (a ∷ z);
      splits = refl;
      begins = λ x xs e. subst (λ s. Begins g s t) (head-eq_of_cons-eq e) first;
      same = λ e. absurd (nil≢cons (sym e));
    }
next_token {g} W (by {a = β} {u} {w} r m y y') a z =
    let (b, v, e) = yields_token W y (W.filled r m) in
    let first : Begins g r.left b = begins_first (by r m y end) (append-nil u ∙ e) in
    let splits : (u ++ w) ++ (a ∷ z) ≡ b ∷ (v ++ (w ++ (a ∷ z))) = append_assoc u w (a ∷ z) ∙ ap (λ (l : List ℕ). l ++ (w ++ (a ∷ z))) e in
    record {
      token = b;
      after = v ++ (w ++ (a ∷ z));
      splits = splits;
      begins = λ x xs e. subst (λ s. Begins g s b) (head-eq_of_cons-eq e) first;
      same = λ e. absurd (nil≢cons (sym e));
    }
