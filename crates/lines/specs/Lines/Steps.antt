-- `lines_at` line by line, as a loop goes: what the next count and the next line's numbers make of it.
use Rattle.std.specs.Prelude.{ℕ, zero, suc, ◌≤◌, ◌<◌, ◌≡◌, refl, true, false, List, [], ◌∷◌, length, take, drop}
use Rattle.std.proofs.Common.{arith, ap, ◌∙◌, length-append, length-drop, le-leb}
use Rattle.std.proofs.Math.Option.{Option, none, some}
use Rattle.std.proofs.lemmas.Bool.{lt-leb}
use Rattle.lines.specs.Basics.{impossible}
use Rattle.lines.specs.Lines.{Draft, is_end, accept, Cut, cut, Lined, lines_from, lines_at}
use Rattle.lines.specs.Lines.Numbers.{cut-whole}

-- what comes after a line is shorter
cut-shorter : (ns xs rest : List ℕ) → cut ns ≡ Cut.whole xs rest → length rest < length ns
cut-shorter ns xs rest p = let e = ap (λ (l : List ℕ). length l) (cut-whole ns xs rest p) ∙ ap suc (length-append xs rest) in omega arith

-- any two fuels above the count of numbers are as good
pub lines_fuel : (j k line : ℕ) (d : Draft) (ns : List ℕ) → length ns < j → length ns < k → lines_from j line d ns ≡ lines_from k line d ns
unfolding lines_from
lines_fuel zero k line d ns p q = impossible (omega arith)
lines_fuel (suc j) zero line d ns p q = impossible (omega arith)
lines_fuel (suc j) (suc k) line d ns p q = first (cut ns) refl (λ e rest. lines_fuel j k (suc line) e rest)
  where
    first : (c : Cut) → cut ns ≡ c → ((e : Draft) (rest : List ℕ) → length rest < j → length rest < k → lines_from j (suc line) e rest ≡ lines_from k (suc line) e rest) →
        lines_from (suc j) line d ns ≡ lines_from (suc k) line d ns
    first Cut.nothing r ih = rw (r, lines_from) refl
    first Cut.short r ih = rw (r, lines_from) refl
    first (Cut.whole xs rest) r ih = taken (accept d xs) refl
      where
        taken : (o : Option Draft) → accept d xs ≡ o → lines_from (suc j) line d ns ≡ lines_from (suc k) line d ns
        taken none s = rw (r, lines_from) (rw s refl)
        taken (some e) s = let l = cut-shorter ns xs rest r in rw (r, lines_from) (rw s (ih e rest (omega arith) (omega arith)))

-- all lines were taken
pub at_end : (line : ℕ) (d : Draft) → is_end d.due ≡ true → lines_at line d [] ≡ Lined.fine d
unfolding lines_from cut
at_end line d p = rw (p, lines_from) refl

-- a line is missing
pub at_missing : (line : ℕ) (d : Draft) → is_end d.due ≡ false → lines_at line d [] ≡ Lined.unfit line
unfolding lines_from cut
at_missing line d p = rw (p, lines_from) refl

-- a count that is larger than what is left
cut_short : (n : ℕ) (ns : List ℕ) → length ns < n → cut (n ∷ ns) ≡ Cut.short
unfolding cut
cut_short n ns h = rw (lt-leb n (length ns) h, cut) refl

-- a count that is not larger
cut-long : (n : ℕ) (ns : List ℕ) → n ≤ length ns → cut (n ∷ ns) ≡ Cut.whole (take n ns) (drop n ns)
unfolding cut
cut-long n ns h = rw (le-leb n (length ns) h, cut) refl

-- the count is larger than what is left
pub at_short : (line : ℕ) (d : Draft) (n : ℕ) (ns : List ℕ) → length ns < n → lines_at line d (n ∷ ns) ≡ Lined.unfit line
unfolding lines_from
at_short line d n ns h = rw (cut_short n ns h, lines_from) refl

-- the line does not fit
pub at_unfit : (line : ℕ) (d : Draft) (n : ℕ) (ns : List ℕ) → n ≤ length ns → accept d (take n ns) ≡ none → lines_at line d (n ∷ ns) ≡ Lined.unfit line
unfolding lines_from
at_unfit line d n ns h p = rw (cut-long n ns h, lines_from) (rw p refl)

-- the line fits
pub at_fit : (line : ℕ) (d e : Draft) (n : ℕ) (ns : List ℕ) → n ≤ length ns → accept d (take n ns) ≡ some e →
    lines_at line d (n ∷ ns) ≡ lines_at (suc line) e (drop n ns)
unfolding lines_from
at_fit line d e n ns h p =
    let l = length-drop n ns in
    rw (cut-long n ns h, lines_from) (rw p (lines_fuel (suc (length ns)) (suc (length (drop n ns))) (suc line) e (drop n ns) (omega arith) (omega arith)))
