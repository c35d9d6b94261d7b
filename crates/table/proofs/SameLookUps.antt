-- What the contract of building the look-ups, as it stands in the code, determines: any two outcomes that it allows are equal.
use Prim.Native.Nat.{ℕ, zero, suc, ◌*◌, ◌<◌, ◌/◌, ◌%◌}
use native.Mathlib.Omega.{arith}
use native.Mathlib.Decide.{dec_lt}
use native.Mathlib.Nat.{div-add-mod', div-lt_iff_lt-mul, mod-lt}
use mathlib.Core.Path.{◌≡◌, refl, sym, subst, ◌∙◌}
use mathlib.Core.Bool.{Bool, true, false}
use mathlib.Core.List.{List}
use lib.ListN.{get_or}
use lib.Seq.{ext_get_or}
use contract.Lifetimes.{Lfts}
use Rattle.theory.specs.Table.{Table}
use Rattle.table.specs.LookUps.{LookUps, Looked, Row, Grid}
use Rattle.table.proofs.entries.look_ups.Reads as L

-- rows with the same values are the same
row_one : {n size : ℕ} {v : ℕ → ℕ} {l l' : List ℕ} → Row n size v l → Row n size v l' → l ≡ l'
row_one {n} {l = l} {l' = l'} r q = ext_get_or 0 l l' (r.long ∙ sym q.long) (λ i k. go i (dec_lt i n))
  where
    go : (i : ℕ) → Dec (i < n) → get_or l i 0 ≡ get_or l' i 0
    go i (yes h) = r.each i h ∙ sym (q.each i h)
    go i (no h) = r.rest i (omega arith) ∙ sym (q.rest i (omega arith))

-- rows of no entries have none
some_entry : (h m i : ℕ) → i < h * m → 0 < m
some_entry h zero i k = absurd (omega arith)
some_entry h (suc m) i k = omega arith

-- grids with the same values are the same
grid_one : {h m size : ℕ} {v : ℕ → ℕ → ℕ} {l l' : List ℕ} → Grid h m size v l → Grid h m size v l' → l ≡ l'
grid_one {h} {m} {l = l} {l' = l'} r q = ext_get_or 0 l l' (r.long ∙ sym q.long) (λ i k. go i (dec_lt i (h * m)))
  where
    go : (i : ℕ) → Dec (i < h * m) → get_or l i 0 ≡ get_or l' i 0
    go i (yes k) =
        let p = some_entry h m i k in
        let y : i / m < h = (div-lt_iff_lt-mul p).1 k in
        let u : i % m < m = mod-lt i p in
        subst (λ j. get_or l j 0 ≡ get_or l' j 0) (div-add-mod' i m) (r.each (i / m) (i % m) y u ∙ sym (q.each (i / m) (i % m) y u))
    go i (no k) = r.rest i (omega arith) ∙ sym (q.rest i (omega arith))

-- the four arrays are the same
abbrev Same : (acts go lens lefts acts' go' lens' lefts' : List ℕ) → Type 0
Same acts go lens lefts acts' go' lens' lefts' = (acts ≡ acts') × (go ≡ go') × (lens ≡ lens') × (lefts ≡ lefts')

-- a table has one list of look-ups of each kind
look_ups_one : {t : Table} {a b : ℕ} {acts go lens lefts acts' go' lens' lefts' : List ℕ} → LookUps t a b acts go lens lefts → LookUps t a b acts' go' lens' lefts' →
    Same acts go lens lefts acts' go' lens' lefts'
look_ups_one p q = (grid_one p.act q.act, grid_one p.goes q.goes, row_one p.right q.right, row_one p.left q.left)

-- two outcomes with the same answer leave the same arrays
same_answer : {ns acts go lens lefts acts' go' lens' lefts' acts'' go'' lens'' lefts'' : List ℕ} (r : Bool) →
    Looked ns acts go lens lefts acts' go' lens' lefts' r → Looked ns acts go lens lefts acts'' go'' lens'' lefts'' r →
    Same acts' go' lens' lefts' acts'' go'' lens'' lefts''
same_answer true p q = look_ups_one (p.built refl) (q.built refl)
same_answer false p q = let (a, b, c, d) = p.kept refl in let (e, f, g, h) = q.kept refl in (a ∙ sym e, b ∙ sym f, c ∙ sym g, d ∙ sym h)

-- any two outcomes are equal
pub unique : (κs : Lfts 5) (a : _) (r s : Bool) (e f : _) → L.Learnt κs a r e → L.Learnt κs a s f →
    (r ≡ s) × Same e.1.0.now e.1.1.0.now e.1.1.1.0.now e.1.1.1.1.0.now f.1.0.now f.1.1.0.now f.1.1.1.0.now f.1.1.1.1.0.now
unique κs a r s e f p q = let z = p.told ∙ sym q.told in (z, same_answer r p (subst (λ b. L.Learnt κs a b f) (sym z) q))
