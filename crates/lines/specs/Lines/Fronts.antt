-- Fronts: lines that were accepted, one after the other, before the table is whole.
use Rattle.std.specs.Prelude.{ℕ, ◌≡◌, true, List, [], ◌∷◌, ◌++◌}
use Rattle.lines.specs.Lines.{Draft, fits, next, Runs, takes, Front, here, then}

-- one line more
pub front_more : {d e : Draft} {ls : List (List ℕ)} (l : List ℕ) → Front d ls e → fits e l ≡ true → Front d (ls ++ (l ∷ [])) (next e l)
front_more l here p = then p here
front_more l (then q f) p = then q (front_more l f p)

-- one front after the other
pub front_join : {d e f : Draft} {ks ls : List (List ℕ)} → Front d ks e → Front e ls f → Front d (ks ++ ls) f
front_join here g = g
front_join (then q f) g = then q (front_join f g)

-- a front, and lines to the end
pub front_runs : {d e f : Draft} {ks ls : List (List ℕ)} → Front d ks e → Runs e ls f → Runs d (ks ++ ls) f
front_runs here r = r
front_runs (then q f) r = takes q (front_runs f r)
