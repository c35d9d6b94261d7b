-- Demand 2 leaves one verdict and one value for each tail, whoever gives them.
use Rattle.std.specs.Prelude.{ℕ, ◌≡◌, refl, Bool, true, false, List}
use Rattle.std.proofs.Common.{sym, ◌∙◌}
use Rattle.theory.specs.Grammar.{Grammar}
use Rattle.theory.proofs.Grammar.Fronts.{stops_once, stops_no_piece}
use Rattle.theory.specs.Demands.{Told}

pub told_once : {g : Grammar} {x : List ℕ} {v v' : Bool} {i i' : ℕ} → Told g x v i → Told g x v' i' → (v ≡ v') × (i ≡ i')
told_once {g} {x} {v} {v'} {i} {i'} p q = go v v' refl refl
  where
    go : (b b' : Bool) → v ≡ b → v' ≡ b' → (v ≡ v') × (i ≡ i')
    go true true e e' = (e ∙ sym e', p.whole e ∙ sym (q.whole e'))
    go true false e e' = absurd (stops_no_piece (q.stops e') (p.piece e))
    go false true e e' = absurd (stops_no_piece (p.stops e) (q.piece e'))
    go false false e e' = (e ∙ sym e', stops_once (p.stops e) (q.stops e'))
