-- Numbers that are read are lines that run: `read_numbers` finds `fine` exactly on the numbers of lines that fit each in its turn.
use Rattle.std.specs.Prelude.{ℕ, zero, suc, ◌≤◌, ◌<◌, ◌≡◌, refl, Bool, true, false, List, [], ◌∷◌, ◌++◌, length, take, drop, leb}
use Rattle.std.proofs.Common.{arith, sym, ap, ◌∙◌, subst, length-append, take-append-drop, length-take-le, leb-true, le-leb}
use Rattle.std.proofs.lemmas.Bool.{false≢true}
use Rattle.std.proofs.Math.Option.{Option, none, some}
use Rattle.std.proofs.Math.Seq.{take-append_seam, drop-append_seam}
use Rattle.lines.specs.Limits.{max_numbers}
use Rattle.lines.specs.Lines.{Due, Draft, start, is_end, fits, next, accept, Cut, cut, Lined, lines_from, read_numbers, flat, chopped, lines, Runs, ends, takes}
use Rattle.lines.specs.Basics.{never, impossible}

-- ---- the first line of numbers

-- a whole line: its count, its numbers, and the rest
pub cut-whole : (ns xs rest : List ℕ) → cut ns ≡ Cut.whole xs rest → ns ≡ length xs ∷ (xs ++ rest)
unfolding cut
cut-whole [] xs rest e = never cc
cut-whole (n ∷ ns) xs rest e = at (leb n (length ns)) refl
  where
    at : (b : Bool) → leb n (length ns) ≡ b → n ∷ ns ≡ length xs ∷ (xs ++ rest)
    at false p = let h : ◌≡◌ {A = Cut} Cut.short (Cut.whole xs rest) = rw (p, cut) at e in never cc
    at true p =
        let h : ◌≡◌ {A = Cut} (Cut.whole (take n ns) (drop n ns)) (Cut.whole xs rest) = rw (p, cut) at e in
        let x : take n ns ≡ xs = cc in
        let y : drop n ns ≡ rest = cc in
        let l = length-take-le n ns (leb-true n (length ns) p) in
        rw (← x, ← y, l, take-append-drop n ns) refl

-- nothing is left
pub cut-nothing : (ns : List ℕ) → cut ns ≡ Cut.nothing → ns ≡ []
unfolding cut
cut-nothing [] e = refl
cut-nothing (n ∷ ns) e = at (leb n (length ns)) refl
  where
    at : (b : Bool) → leb n (length ns) ≡ b → n ∷ ns ≡ []
    at false p = let h : ◌≡◌ {A = Cut} Cut.short Cut.nothing = rw (p, cut) at e in never cc
    at true p =
        let h : ◌≡◌ {A = Cut} (Cut.whole (take n ns) (drop n ns)) Cut.nothing = rw (p, cut) at e in
        never cc

-- a count and as many numbers are a whole line
pub cut_line_law : (l rest : List ℕ) → cut (length l ∷ (l ++ rest)) ≡ Cut.whole l rest
unfolding cut
cut_line_law l rest =
    let h : length l ≤ length (l ++ rest) = simp length-append (omega arith) in
    rw (le-leb (length l) (length (l ++ rest)) h, cut) (rw (take-append_seam l rest, drop-append_seam l rest) refl)

-- ---- accepted lines

-- what is accepted fits, and the draft is the next one
pub accept-says : (d e : Draft) (l : List ℕ) → accept d l ≡ some e → (fits d l ≡ true) × (next d l ≡ e)
unfolding accept
accept-says d e l a = at (fits d l) refl
  where
    at : (b : Bool) → fits d l ≡ b → (fits d l ≡ true) × (next d l ≡ e)
    at true p = let h : ◌≡◌ {A = Option Draft} (some (next d l)) (some e) = rw (p, accept) at a in (p, cc)
    at false p = let h : ◌≡◌ {A = Option Draft} none (some e) = rw (p, accept) at a in never cc

-- what fits is accepted
pub accept-holds : (d : Draft) (l : List ℕ) → fits d l ≡ true → accept d l ≡ some (next d l)
unfolding accept
accept-holds d l p = rw (p, accept) refl

-- what is not accepted does not fit
pub accept-none : (d : Draft) (l : List ℕ) → accept d l ≡ none → fits d l ≡ false
unfolding accept
accept-none d l a = at (fits d l) refl
  where
    at : (b : Bool) → fits d l ≡ b → fits d l ≡ false
    at true p = let h : ◌≡◌ {A = Option Draft} (some (next d l)) none = rw (p, accept) at a in never cc
    at false p = p

-- what does not fit is not accepted
pub accept-refuses : (d : Draft) (l : List ℕ) → fits d l ≡ false → accept d l ≡ none
unfolding accept
accept-refuses d l p = rw (p, accept) refl

-- where a line fits one is due
pub fits-due : (d : Draft) (l : List ℕ) → fits d l ≡ true → is_end d.due ≡ false
unfolding fits is_end
fits-due d l e = at d.due refl
  where
    at : (w : Due) → d.due ≡ w → is_end d.due ≡ false
    at Due.terms p = rw p refl
    at Due.nonterms p = rw p refl
    at Due.rules p = rw p refl
    at Due.rule p = rw p refl
    at Due.states p = rw p refl
    at Due.state p = rw p refl
    at Due.item p = rw p refl
    at Due.go p = rw p refl
    at Due.end p = absurd (false≢true (rw (p, fits) at e))

-- ---- numbers to lines

-- at the end of the numbers: no line is due, and the draft stays
end_says : (d e : Draft) (b : Bool) (line : ℕ) → elim b as (λ x. Lined) [ true ↦ Lined.fine d | false ↦ Lined.unfit line ] ≡ Lined.fine e → (b ≡ true) × (d ≡ e)
end_says d e true line h = (refl, cc)
end_says d e false line h = never cc

-- numbers that are read are the numbers of lines that run
pub lines_run : (k line : ℕ) (d : Draft) (ns : List ℕ) (e : Draft) → lines_from k line d ns ≡ Lined.fine e →
    (ls : List (List ℕ)) × (ns ≡ flat ls) × Runs d ls e
unfolding lines_from flat
lines_run zero line d ns e h = never cc
lines_run (suc k) line d ns e h = at (cut ns) refl (λ f rest. lines_run k (suc line) f rest e)
  where
    at : (c : Cut) → cut ns ≡ c → ((f : Draft) (rest : List ℕ) → lines_from k (suc line) f rest ≡ Lined.fine e → (ls : List (List ℕ)) × (rest ≡ flat ls) × Runs f ls e) →
        (ls : List (List ℕ)) × (ns ≡ flat ls) × Runs d ls e
    at Cut.nothing p ih =
        let (q, s) = end_says d e (is_end d.due) line (rw (p, lines_from) at h) in
        ([], cut-nothing ns p, subst (λ f. Runs d [] f) s (ends q))
    at Cut.short p ih =
        let g : ◌≡◌ {A = Lined} (Lined.unfit line) (Lined.fine e) = rw (p, lines_from) at h in
        never cc
    at (Cut.whole xs rest) p ih = after (accept d xs) refl
      where
        after : (o : Option Draft) → accept d xs ≡ o → (ls : List (List ℕ)) × (ns ≡ flat ls) × Runs d ls e
        after none q = let g : ◌≡◌ {A = Lined} (Lined.unfit line) (Lined.fine e) = rw q at (rw (p, lines_from) at h) in never cc
        after (some f) q =
            let (ls, s, r) = ih f rest (rw q at (rw (p, lines_from) at h)) in
            let (y, x) = accept-says d f xs q in
            (xs ∷ ls, cut-whole ns xs rest p ∙ ap (λ (l : List ℕ). length xs ∷ (xs ++ l)) s, takes y (subst (λ c. Runs c ls e) (sym x) r))

-- ---- lines to numbers

-- the numbers of lines that run are read
pub run_lines : {d e : Draft} {ls : List (List ℕ)} → Runs d ls e → (k line : ℕ) → length ls < k → lines_from k line d (flat ls) ≡ Lined.fine e
unfolding lines_from flat cut
run_lines r zero line h = impossible (omega arith)
run_lines (ends p) (suc k) line h = rw (p, lines_from) refl
run_lines (takes {d = d} {e = e} {l = l} {ls = ls} p r) (suc k) line h =
    rw (cut_line_law l (flat ls), lines_from) (rw (accept-holds d l p) (run_lines r k (suc line) (omega arith)))

-- as many lines as numbers, at most
pub flat-long : (ls : List (List ℕ)) → length ls ≤ length (flat ls)
unfolding flat
flat-long [] = omega arith
flat-long (l ∷ ls) = let h = flat-long ls in simp length-append (omega arith)

-- the lines of the numbers of lines, with enough turns
pub chopped-flat : (k : ℕ) (ls : List (List ℕ)) → length ls ≤ k → chopped k (flat ls) ≡ ls
unfolding chopped flat cut
chopped-flat zero [] h = refl
chopped-flat zero (l ∷ ls) h = impossible (omega arith)
chopped-flat (suc k) [] h = refl
chopped-flat (suc k) (l ∷ ls) h = rw (cut_line_law l (flat ls), chopped) (ap (λ (x : List (List ℕ)). l ∷ x) (chopped-flat k ls (omega arith)))

-- the lines of the numbers of lines are these lines
pub lines-flat : (ls : List (List ℕ)) → lines (flat ls) ≡ ls
unfolding lines
lines-flat ls = chopped-flat (length (flat ls)) ls (flat-long ls)

-- ---- both ways

-- all numbers of a table that is read
pub read_runs : (ns : List ℕ) (e : Draft) → read_numbers ns ≡ Lined.fine e → (ls : List (List ℕ)) × (ns ≡ flat ls) × Runs start ls e × (length ns ≤ max_numbers)
unfolding read_numbers
read_runs ns e h = at (leb (length ns) max_numbers) refl
  where
    at : (b : Bool) → leb (length ns) max_numbers ≡ b → (ls : List (List ℕ)) × (ns ≡ flat ls) × Runs start ls e × (length ns ≤ max_numbers)
    at true p = let (ls, s, r) = lines_run (suc (length ns)) 0 start ns e (rw (p, read_numbers) at h) in (ls, s, r, leb-true (length ns) max_numbers p)
    at false p =
        let g : ◌≡◌ {A = Lined} Lined.over (Lined.fine e) = rw (p, read_numbers) at h in
        never cc

-- all lines that run, not over the limit, are read
pub runs_read : {e : Draft} {ls : List (List ℕ)} → Runs start ls e → length (flat ls) ≤ max_numbers → read_numbers (flat ls) ≡ Lined.fine e
unfolding read_numbers
runs_read {e} {ls} r h =
    rw (le-leb (length (flat ls)) max_numbers h, read_numbers) (run_lines r (suc (length (flat ls))) 0 (let g = flat-long ls in omega arith))
