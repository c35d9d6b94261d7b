-- What holds of every forest between two steps of a judgement.
use Rattle.std.specs.Prelude.{ℕ, Bool, List}
use Rattle.theory.specs.Table.{Table}
use Rattle.theory.specs.Forest.{Forest, Phase, Reduces, done, step, Takes, all, on, stop, Judged, empty, none_shifts, runs}

-- before and after each step of a reduce phase
abbrev pub ReducesAll : (P : Forest → Type 0) {t : Table} {a n : ℕ} {p q : Phase} → Reduces t a p n q → Type 0
ReducesAll P (done {p = p} e) = P p.forest
ReducesAll P (step {p = p} c e r) = P p.forest × ReducesAll P r

-- and after each shift
abbrev pub TakesAll : (P : Forest → Type 0) {t : Table} {f : Forest} {w : List ℕ} {v : Bool} {i j : ℕ} → Takes t f w v i j → Type 0
TakesAll P (all {f = f}) = P f
TakesAll P (on r e x) = ReducesAll P r × TakesAll P x
TakesAll P (stop r e) = ReducesAll P r

-- in the whole of a judgement
abbrev pub JudgedAll : (P : Forest → Type 0) {t : Table} {x : List ℕ} {v : Bool} {i k : ℕ} → Judged t x v i k → Type 0
JudgedAll P empty = Unit {0}
JudgedAll P (none_shifts e) = Unit {0}
JudgedAll P (runs e x) = TakesAll P x
