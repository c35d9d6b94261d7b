-- The first token: the empty forest is extended by the one-node trees of the token's row, which are those of `long`.
use mathlib.Core.Path.{◌≡◌, ◌∙◌, refl, ap, subst, subst⁻¹}
use mathlib.Core.List.{List}
use Prim.Native.Nat.{ℕ, suc, ◌+◌, ◌*◌, ◌≤◌}
use native.Mathlib.Omega.{arith}
use lib.Dec.{eqb}
use lib.ListN.{length}
use Rattle.theory.specs.Table.{Table, count}
use Rattle.theory.proofs.Table.Facts.{facts}
use Rattle.theory.specs.Forest as Of
use Rattle.theory.specs.Forest.{Forest, nothing, join, long}
use Rattle.forest.specs.Words.{at}
use Rattle.forest.specs.Rows.{row_of, meant, Row}
use Rattle.forest.specs.Longs.{leaves}
use Rattle.forest.specs.Held.{Becomes, SomeExtend, Extends}
use Rattle.forest.specs.Starts.{emptied, CanStart, Started}
use Rattle.forest.proofs.Holding.{beyond_then}
use Rattle.forest.proofs.Reading.{emptied-held, held_none}
use Rattle.forest.proofs.Leaves.{leaves-long}
use Rattle.forest.proofs.Lookups.{row_length, go_row, row_end}

-- no tree has no node
pub size-nothing : Of.size nothing ≡ 0
unfolding Of.size
size-nothing = omega arith

-- to join to nothing changes nothing
pub join-onto_nothing : (F : Forest) → join nothing F ≡ F
unfolding join
join-onto_nothing F = refl

module _ {w go : List ℕ} {C m : ℕ} {t : Table} {a : ℕ} (K : CanStart w go C m t a) where
  -- the rows of all symbols lie within the go targets
  rows_all : suc (t.grammar.terms + t.grammar.nonterms) * m ≤ length go
  rows_all = subst⁻¹ (λ (k : ℕ). suc (t.grammar.terms + t.grammar.nonterms) * k ≤ length go) K.table.states K.goes.all

  -- the token's too
  pub start_end : a * m + m ≤ length go
  start_end = row_end m a (suc (t.grammar.terms + t.grammar.nonterms)) (length go) (omega (arith, K.token)) rows_all

  -- the part is the token's row
  its_row : Row (row_of go m a) (count t) t a
  its_row = go_row t (facts K.table.passes) go K.goes m a K.table.states (omega (arith, K.token))

  -- with an entry for each state
  row_len : length (row_of go m a) ≡ count t
  row_len = row_length t (facts K.table.passes) go m a (suc (t.grammar.terms + t.grammar.nonterms)) (omega (arith, K.token)) rows_all ∙ K.table.states

  -- the room is emptied first
  emptied-first : (v : List ℕ) → v ≡ emptied w → Becomes w v C nothing
  emptied-first v e = subst⁻¹ (λ (l : List ℕ). Becomes w l C nothing) e (emptied-held w C K.nodes K.words)

  module _ {row v : List ℕ} (is-row : row ≡ row_of go m a) (empty : v ≡ emptied w) where
    -- then extended
    pub start_extend : SomeExtend v row
    start_extend = subst⁻¹ (λ (l : List ℕ). SomeExtend v l) is-row
        (record { C = C; F = nothing; held = (emptied-first v empty).held; room = omega (arith, size-nothing, row_len, K.room) })

    -- the room holds the one-node trees of the token
    pub held_long : (u : List ℕ) → Extends v row u → Becomes w u C (long t a)
    held_long u X =
        let O = emptied-first v empty in
        let B = subst (λ (l : List ℕ). Extends v l u) is-row X C nothing O.held (omega (arith, size-nothing, row_len, K.room)) in
        let q = join-onto_nothing (leaves (meant (row_of go m a)) 0 (length (row_of go m a)))
        ∙ leaves-long (row_of go m a) (count t) t a K.table.passes.fits its_row row_len in
        subst (λ (z : Forest). Becomes w u C z) q (record { held = B.held; beyond = beyond_then w v u C O.beyond B.beyond })

    -- what `start` leaves
    pub started : {u : List ℕ} {x : ℕ} → Extends v row u → x ≡ at u 0 1 → Started w u C t a (eqb x 0) 0
    started {u} {x} X q =
        let B = held_long u X in
        record {
          becomes = B;
          told = ap (λ (i : ℕ). eqb i 0) q ∙ held_none B.held;
          none_made = refl;
        }
