-- All numbers have an outcome of the check, and only one: that of `check_outcome`.
use Rattle.std.specs.Prelude.{ℕ, zero, suc, ◌+◌, ◌-◌, ◌≤◌, ◌<◌, ◌≡◌, refl, Bool, true, false, List, [], ◌∷◌, ◌++◌, length, take, drop, leb}
use Rattle.std.proofs.Common.{arith, sym, ap, ◌∙◌, subst, append_assoc, length-append, leb-true, leb-false, le-leb}
use Rattle.std.proofs.Math.Option.{Option, none, some}
use Rattle.std.proofs.lemmas.Bool.{lt-leb}
use Rattle.theory.specs.Table.{Table}
use Rattle.lines.specs.Basics.{never, impossible}
use Rattle.lines.specs.Limits.{max_numbers}
use Rattle.lines.specs.Lines.{Draft, Front, here, then, start, is_end, fits, next, accept, Cut, cut, Lined, lines_from, read_numbers, flat, table_of}
use Rattle.lines.specs.Lines.Numbers.{cut-whole, cut-nothing, cut_line_law, accept-says, accept-none, accept-holds, accept-refuses, flat-long}
use Rattle.lines.specs.Ranges.{FitLines, finished}
use Rattle.lines.specs.Ranges.Fitting.{read_fits, read_fit, fits_read, ranges_fit}
use Rattle.table.specs.Checks.{Answer}
use Rattle.table.specs.Run.{checks}
use Rattle.table.specs.Run.Right.{checks-right}
use Rattle.table.specs.Run.Computed.{only as only-answer}
use Rattle.table.specs.Check.{Check}
use Rattle.table.specs.Check.{UnfitLine, missing, ends_early, no_fit, Stops, Gets, Checks, told, check_outcome}

-- ---- what is told of lines that do not fit is so

-- what a reading from a draft and a line number on tells
Told : Draft → List ℕ → ℕ → Lined → Type 0
Told d ns at Lined.over = ⊥
Told d ns at (Lined.unfit n) = (i : ℕ) × (n ≡ at + i) × Stops d ns i
Told d ns at (Lined.fine e) = Unit {0}

-- the due line itself does not fit
stop : (d : Draft) (ns : List ℕ) (at : ℕ) → UnfitLine d ns → (i : ℕ) × (at ≡ at + i) × Stops d ns i
unfolding flat
stop d ns at h = (0, omega arith, record { before = []; draft = d; rest = ns; in_order = here; line = refl; numbers = refl; refused = h })

-- what is told after one more line is told from before it
told_more : (d : Draft) (ns xs rest : List ℕ) (at : ℕ) → ns ≡ length xs ∷ (xs ++ rest) → fits d xs ≡ true → (r : Lined) → Told (next d xs) rest (suc at) r → Told d ns at r
unfolding Told flat
told_more d ns xs rest at p f Lined.over t = t
told_more d ns xs rest at p f (Lined.unfit n) (i, e, h) = (
  suc i,
  omega arith,
  record {
    before = xs ∷ h.before;
    draft = h.draft;
    rest = h.rest;
    in_order = then f h.in_order;
    line = ap suc h.line;
    numbers = p ∙ ap (λ (x : List ℕ). length xs ∷ (xs ++ x)) h.numbers ∙ ap (λ (x : List ℕ). length xs ∷ x) (sym (append_assoc xs (flat h.before) h.rest));
    refused = h.refused;
  },
)
told_more d ns xs rest at p f (Lined.fine e) t = tt

-- a count above what is left
cut-early : (d : Draft) (ns : List ℕ) → cut ns ≡ Cut.short → UnfitLine d ns
unfolding cut
cut-early d [] p = never cc
cut-early d (n ∷ ns) p = at (leb n (length ns)) refl
  where
    at : (b : Bool) → leb n (length ns) ≡ b → UnfitLine d (n ∷ ns)
    at true q = let h : ◌≡◌ {A = Cut} (Cut.whole (take n ns) (drop n ns)) Cut.short = rw (q, cut) at p in never cc
    at false q = ends_early n ns refl (leb-false n (length ns) q)

-- what reading tells of lines that do not fit is so
tell : (k at : ℕ) (d : Draft) (ns : List ℕ) → length ns < k → Told d ns at (lines_from k at d ns)
unfolding lines_from Told
tell zero at d ns l = impossible (omega arith)
tell (suc k) at d ns l = first (cut ns) refl (λ f rest. tell k (suc at) f rest)
  where
    first : (c : Cut) → cut ns ≡ c → ((f : Draft) (rest : List ℕ) → length rest < k → Told f rest (suc at) (lines_from k (suc at) f rest)) →
        Told d ns at (lines_from (suc k) at d ns)
    first Cut.nothing p ih = ended (is_end d.due) refl
      where
        ended : (b : Bool) → is_end d.due ≡ b → Told d ns at (lines_from (suc k) at d ns)
        ended true e = rw (p, lines_from) (rw e tt)
        ended false e = rw (p, lines_from) (rw e (stop d ns at (missing (cut-nothing ns p) e)))
    first Cut.short p ih = rw (p, lines_from) (stop d ns at (cut-early d ns p))
    first (Cut.whole xs rest) p ih = taken (accept d xs) refl
      where
        taken : (o : Option Draft) → accept d xs ≡ o → Told d ns at (lines_from (suc k) at d ns)
        taken none r = rw (p, lines_from) (rw r (stop d ns at (no_fit xs rest (cut-whole ns xs rest p) (accept-none d xs r))))
        taken (some f) r =
            let (y, z) = accept-says d f xs r in
            let e = ap (λ (u : List ℕ). length u) (cut-whole ns xs rest p) ∙ ap suc (length-append xs rest) in
            rw (p, lines_from) (rw r (told_more d ns xs rest at (cut-whole ns xs rest p) y (lines_from k (suc at) f rest)
            (subst (λ c. Told c rest (suc at) (lines_from k (suc at) f rest)) (sym z) (ih f rest (omega arith)))))

-- ---- what is so is told

-- lines in order are read, and the rest is left
front_reads : {d e : Draft} {ls : List (List ℕ)} → Front d ls e → (f k at : ℕ) (rest : List ℕ) → f ≡ k + length ls →
    lines_from f at d (flat ls ++ rest) ≡ lines_from k (at + length ls) e rest
unfolding lines_from flat
front_reads (here {d = d}) f k at rest p =
    let x : f ≡ k = omega arith in
    let y : at ≡ at + 0 = omega arith in
    λ i. lines_from (x i) (y i) d rest
front_reads (then q r) zero k at rest p = impossible (omega arith)
front_reads (then {d = d} {e = e} {l = l} {ls = ls} q r) (suc f) k at rest p =
    let y : suc at + length ls ≡ at + suc (length ls) = omega arith in
    rw (append_assoc l (flat ls) rest)
    (rw (cut_line_law l (flat ls ++ rest), lines_from)
    (rw (accept-holds d l q) (front_reads r f k (suc at) rest (omega arith) ∙ (λ i. lines_from k (y i) e rest))))

-- a line that does not fit is told
unfit-reads : (d : Draft) (ns : List ℕ) → UnfitLine d ns → (k at : ℕ) → lines_from (suc k) at d ns ≡ Lined.unfit at
unfolding lines_from cut
unfit-reads d ns (missing p e) k at = rw p (rw (e, lines_from) refl)
unfit-reads d ns (ends_early n more p h) k at = rw p (rw (lt-leb n (length more) h, lines_from, cut) refl)
unfit-reads d ns (no_fit xs more p f) k at = rw p (rw (cut_line_law xs more, lines_from) (rw (accept-refuses d xs f) refl))

-- a line that does not fit, after others that do, is told
stops_read : (ns : List ℕ) (n : ℕ) → length ns ≤ max_numbers → Stops start ns n → read_numbers ns ≡ Lined.unfit n
unfolding read_numbers
stops_read ns n o s =
    let l = ap (λ (x : List ℕ). length x) s.numbers ∙ length-append (flat s.before) s.rest in
    let h = flat-long s.before in
    rw (le-leb (length ns) max_numbers o, read_numbers)
    (ap (λ (x : List ℕ). lines_from (suc (length ns)) 0 start x) s.numbers ∙
    (front_reads s.in_order (suc (length ns)) (suc (length ns - length s.before)) 0 s.rest (omega arith) ∙
    (unfit-reads s.draft s.rest s.refused (length ns - length s.before) (0 + length s.before) ∙ ap (λ (x : ℕ). Lined.unfit x) (let c = s.line in omega arith))))

-- ---- the theorems

-- of numbers that are a table's, with an answer, the program tells that answer
pub got : (ns : List ℕ) (t : Table) (a : Answer) → Gets ns t a → (read_numbers ns ≡ Lined.fine (finished t)) × (checks t ≡ a)
got ns t a (f, c) = (fits_read ns t f, only-answer t (ranges_fit t f.in_range) c)

-- numbers are those of one table at most
pub one_table : {ns : List ℕ} {t u : Table} → FitLines ns t → FitLines ns u → t ≡ u
one_table {ns} {t} {u} f g =
    let e : Lined.fine (finished t) ≡ Lined.fine (finished u) = sym (fits_read ns t f) ∙ fits_read ns u g in
    let z : finished t ≡ finished u = cc in
    ap table_of z

-- the program tells the answer of a table
got_outcome : (ns : List ℕ) (t : Table) (a : Answer) → Gets ns t a → check_outcome ns ≡ told t a
unfolding check_outcome
got_outcome ns t a g = let (p, q) = got ns t a g in rw (p, check_outcome) (rw q refl)

-- the relation allows no other outcome
pub only : (ns : List ℕ) (o : Check) → Checks ns o → check_outcome ns ≡ o
unfolding check_outcome read_numbers told
only ns o (Checks.over h) = rw (lt-leb (length ns) max_numbers h, check_outcome, read_numbers) refl
only ns o (Checks.unfit n l s) = rw (stops_read ns n l s, check_outcome) refl
only ns o (Checks.unreduced t v g) = got_outcome ns t (Answer.not-reduced v) g
only ns o (Checks.ringed t v g) = got_outcome ns t (Answer.ring v) g
only ns o (Checks.broken t k s g) = got_outcome ns t (Answer.broken k s) g
only ns o (Checks.passes t g) = got_outcome ns t Answer.passes g

-- any two outcomes that the relation allows are equal
pub unique : (ns : List ℕ) (o o' : Check) → Checks ns o → Checks ns o' → o ≡ o'
unique ns o o' c c' = sym (only ns o c) ∙ only ns o' c'

-- what was read is a table that has the program's answer
pub gets : (ns : List ℕ) (d : Draft) → read_numbers ns ≡ Lined.fine d → Gets ns (table_of d) (checks (table_of d))
gets ns d e = ((read_fits ns d e).0, checks-right (table_of d) (read_fit ns d e))

-- the relation by the answer
pub by_answer : (ns : List ℕ) (t : Table) (a : Answer) → Gets ns t a → Checks ns (told t a)
unfolding told
by_answer ns t Answer.passes g = Checks.passes t g
by_answer ns t (Answer.not-reduced v) g = Checks.unreduced t v g
by_answer ns t (Answer.ring v) g = Checks.ringed t v g
by_answer ns t (Answer.broken k s) g = Checks.broken t k s g

-- where not all is read, either there are too many numbers or lines do not fit
pub unread : (ns : List ℕ) → (r : Lined) → read_numbers ns ≡ r → (r ≡ Lined.over → max_numbers < length ns) × ((n : ℕ) → r ≡ Lined.unfit n → (length ns ≤ max_numbers) × Stops start ns n)
unfolding read_numbers Told
unread ns r e = at (leb (length ns) max_numbers) refl
  where
    at : (b : Bool) → leb (length ns) max_numbers ≡ b → (r ≡ Lined.over → max_numbers < length ns) × ((n : ℕ) → r ≡ Lined.unfit n → (length ns ≤ max_numbers) × Stops start ns n)
    at true p =
        let h : Told start ns 0 r = subst (λ x. Told start ns 0 x) (rw (p, read_numbers) at e) (tell (suc (length ns)) 0 start ns (omega arith)) in (
          (λ q. absurd (subst (λ x. Told start ns 0 x) q h)),
          (λ n q. let (i, u, s) = subst (λ x. Told start ns 0 x) q h in let z : i ≡ n = omega arith in (leb-true (length ns) max_numbers p, subst (λ x. Stops start ns x) z s)),
        )
    at false p =
        let h : Lined.over ≡ r = rw (p, read_numbers) at e in
        ((λ q. leb-false (length ns) max_numbers p), (λ n q. never cc))

-- the relation holds of the program's outcome: there is one of all numbers
pub holds : (ns : List ℕ) → Checks ns (check_outcome ns)
unfolding check_outcome
holds ns = at (read_numbers ns) refl
  where
    at : (r : Lined) → read_numbers ns ≡ r → Checks ns (check_outcome ns)
    at Lined.over p = rw (p, check_outcome) (Checks.over ((unread ns Lined.over p).0 refl))
    at (Lined.unfit n) p = let (l, s) = (unread ns (Lined.unfit n) p).1 n refl in rw (p, check_outcome) (Checks.unfit n l s)
    at (Lined.fine d) p = rw (p, check_outcome) (by_answer ns (table_of d) (checks (table_of d)) (gets ns d p))
