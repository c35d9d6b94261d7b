-- Every sheet has an outcome by the relation, and only one: that of `outcome`.
use Rattle.std.specs.Prelude.{ℕ, zero, suc, ◌+◌, ◌-◌, ◌≤◌, ◌<◌, ◌≡◌, refl, Bool, true, false, List, [], ◌∷◌, ◌++◌, length, leb}
use Rattle.std.proofs.Common.{arith, sym, ap, ◌∙◌, subst, append_assoc, append-nil, length-append, leb-true, leb-false, le-leb}
use Rattle.std.proofs.Math.Option.{Option, none, some}
use Rattle.std.proofs.lemmas.Bool.{lt-leb}
use Rattle.theory.specs.Table.{Table}
use Rattle.lines.specs.Basics.{All, all_nil, all_cons, all_head, all_tail, never, impossible}
use Rattle.lines.specs.Lines.{Draft, start, is_end, fits, next, accept, Cut, flat, table_of, Front, here, then}
use Rattle.lines.specs.Lines.Numbers.{accept-says, accept-none, accept-holds, accept-refuses, fits-due, flat-long}
use Rattle.lines.specs.Ranges.{lines_of, finished}
use Rattle.lines.specs.Ranges.Fitting.{read_fits}
use Rattle.sheet.specs.Sheet.{newline, due_line, cut_line, Read, sheet_from, sheet_at, read_sheet, outcome, print_line, print_from, print, Short, NoLf}
use Rattle.lines.specs.Limits.{max_bytes}
use Rattle.sheet.specs.Sheet.Forms.{due_print, print_due, due_due, due_short, cut_print, cut-nothing, cut-whole, cut_line-nolf, cut_short_nolf, nolf_cut, nolf_short}
use Rattle.sheet.specs.Sheet.Exact.{print-read, table_read, print_long}
use Rattle.sheet.specs.Reads.{BadLine, missing, extra, no_lf, no_form, UnfitLine, no_fit, Stops, SheetOf, Reads}

-- ---- what the reader tells is so

-- what a reading from a draft and a line number on tells
Told : Draft → List ℕ → ℕ → Read → Type 0
Told d bs at Read.over = ⊥
Told d bs at (Read.bad n) = (i : ℕ) × (n ≡ at + i) × Stops BadLine d bs i
Told d bs at (Read.unfit n) = (i : ℕ) × (n ≡ at + i) × Stops UnfitLine d bs i
Told d bs at (Read.good ns e) = Unit {0}

-- a line that is refused, at once
stop : (P : Draft → List ℕ → Type 0) (d : Draft) (bs : List ℕ) (at : ℕ) → P d bs → (i : ℕ) × (at ≡ at + i) × Stops P d bs i
unfolding print_from
stop P d bs at h =
    (0, omega arith, record { before = []; draft = d; rest = bs; in_order = here; in_form = all_nil Short; count = refl; bytes = refl; refused = h })

-- one line more in front
more : (P : Draft → List ℕ → Type 0) (d : Draft) (bs xs rest : List ℕ) (i : ℕ) → bs ≡ print_line d.due xs ++ (newline ∷ rest) → Short xs →
    fits d xs ≡ true → Stops P (next d xs) rest i → Stops P d bs (suc i)
unfolding print_from
more P d bs xs rest i p s f h = record {
  before = xs ∷ h.before;
  draft = h.draft;
  rest = h.rest;
  in_order = then f h.in_order;
  in_form = all_cons Short s h.in_form;
  count = ap suc h.count;
  bytes =
      p ∙ ap (λ (x : List ℕ). print_line d.due xs ++ (newline ∷ x)) h.bytes ∙
      sym (append_assoc (print_line d.due xs) (newline ∷ print_from (next d xs) h.before) h.rest);
  refused = h.refused;
}

told_more : (d : Draft) (bs xs rest : List ℕ) (at : ℕ) → bs ≡ print_line d.due xs ++ (newline ∷ rest) → Short xs → fits d xs ≡ true →
    (r : Read) → Told (next d xs) rest (suc at) r → Told d bs at r
unfolding Told
told_more d bs xs rest at p s f Read.over t = t
told_more d bs xs rest at p s f (Read.bad n) (i, e, h) = (suc i, omega arith, more BadLine d bs xs rest i p s f h)
told_more d bs xs rest at p s f (Read.unfit n) (i, e, h) = (suc i, omega arith, more UnfitLine d bs xs rest i p s f h)
told_more d bs xs rest at p s f (Read.good ns e) t = tt

-- a whole line that is not in its form, or extra
bad_line : (d : Draft) (bs l rest : List ℕ) → cut_line bs ≡ Cut.whole l rest → due_line d.due l ≡ none → BadLine d bs
bad_line d bs l rest p q = at (is_end d.due) refl bs (cut-whole bs l rest p)
  where
    at : (b : Bool) → is_end d.due ≡ b → (cs : List ℕ) → cs ≡ l ++ (newline ∷ rest) → BadLine d cs
    at true e [] u = let z = ap (λ (x : List ℕ). length x) u ∙ length-append l (newline ∷ rest) in impossible (omega arith)
    at true e (c ∷ cs) u = extra c cs refl e
    at false e cs u = no_form l rest u (cut_line-nolf bs l rest p) (λ xs s v. none-some xs (sym q ∙ (ap (due_line d.due) v ∙ due_print d.due xs e s)))
      where
        none-some : (xs : List ℕ) → ◌≡◌ {A = Option (List ℕ)} none (some xs) → ⊥
        none-some xs e = never cc

-- bytes without LF
short-line : (d : Draft) (bs : List ℕ) → cut_line bs ≡ Cut.short → BadLine d bs
unfolding cut_line
short-line d [] p = never cc
short-line d (b ∷ bs) p = no_lf b bs refl (cut_short_nolf (b ∷ bs) p)

tell : (k at : ℕ) (acc : List ℕ) (d : Draft) (bs : List ℕ) → length bs < k → Told d bs at (sheet_from k at acc d bs)
unfolding sheet_from Told
tell zero at acc d bs l = impossible (omega arith)
tell (suc k) at acc d bs l = first (cut_line bs) refl (λ acc f rest. tell k (suc at) acc f rest)
  where
    first : (c : Cut) → cut_line bs ≡ c → ((acc : List ℕ) (f : Draft) (rest : List ℕ) → length rest < k → Told f rest (suc at) (sheet_from k (suc at) acc f rest)) →
        Told d bs at (sheet_from (suc k) at acc d bs)
    first Cut.nothing p ih = ended (is_end d.due) refl
      where
        ended : (b : Bool) → is_end d.due ≡ b → Told d bs at (sheet_from (suc k) at acc d bs)
        ended true e = rw (p, sheet_from) (rw e tt)
        ended false e = rw (p, sheet_from) (rw e (stop BadLine d bs at (missing (cut-nothing bs p) e)))
    first Cut.short p ih = rw (p, sheet_from) (stop BadLine d bs at (short-line d bs p))
    first (Cut.whole x rest) p ih = due (due_line d.due x) refl
      where
        its : (xs : List ℕ) → due_line d.due x ≡ some xs → bs ≡ print_line d.due xs ++ (newline ∷ rest)
        its xs q = cut-whole bs x rest p ∙ ap (λ (y : List ℕ). y ++ (newline ∷ rest)) (print_due d.due x xs q)

        due : (o : Option (List ℕ)) → due_line d.due x ≡ o → Told d bs at (sheet_from (suc k) at acc d bs)
        due none q = rw (p, sheet_from) (rw q (stop BadLine d bs at (bad_line d bs x rest p q)))
        due (some xs) q = taken (accept d xs) refl
          where
            taken : (o : Option Draft) → accept d xs ≡ o → Told d bs at (sheet_from (suc k) at acc d bs)
            taken none r =
                rw (p, sheet_from) (rw q (rw r (stop UnfitLine d bs at (no_fit xs rest (its xs q) (due_due d.due x xs q) (due_short d.due x xs q) (accept-none d xs r)))))
            taken (some f) r =
                let (y, z) = accept-says d f xs r in
                let e = ap (λ (u : List ℕ). length u) (its xs q) ∙ length-append (print_line d.due xs) (newline ∷ rest) in
                rw (p, sheet_from) (rw q (rw r
                (told_more d bs xs rest at (its xs q) (due_short d.due x xs q) y (sheet_from k (suc at) (acc ++ (length xs ∷ xs)) f rest)
                (subst (λ c. Told c rest (suc at) (sheet_from k (suc at) (acc ++ (length xs ∷ xs)) f rest)) (sym z) (ih (acc ++ (length xs ∷ xs)) f rest (omega arith))))))

-- a reading of lines never tells of too many bytes
pub never_over : (bs : List ℕ) → sheet_at 0 [] start bs ≡ Read.over → ⊥
unfolding Told
never_over bs e = subst (Told start bs 0) e (tell (suc (length bs)) 0 [] start bs (omega arith))

-- ---- what is so is told

-- lines in order are read, and the rest is left
front_reads : {d e : Draft} {ls : List (List ℕ)} → Front d ls e → All Short ls → (f k at : ℕ) (acc rest : List ℕ) → f ≡ k + length ls →
    sheet_from f at acc d (print_from d ls ++ rest) ≡ sheet_from k (at + length ls) (acc ++ flat ls) e rest
unfolding sheet_from print_from flat
front_reads (here {d = d}) a f k at acc rest p =
    let x : f ≡ k = omega arith in
    let y : at ≡ at + 0 = omega arith in
    λ i. sheet_from (x i) (y i) (sym (append-nil acc) i) d rest
front_reads (then q r) a zero k at acc rest p = impossible (omega arith)
front_reads (then {d = d} {e = e} {l = l} {ls = ls} q r) a (suc f) k at acc rest p =
    let y : suc at + length ls ≡ at + suc (length ls) = omega arith in
    rw (append_assoc (print_line d.due l) (newline ∷ print_from (next d l) ls) rest)
    (rw (cut_print d.due l (print_from (next d l) ls ++ rest) (all_head Short a), sheet_from)
    (rw (due_print d.due l (fits-due d l q) (all_head Short a))
    (rw (accept-holds d l q)
    (front_reads r (all_tail Short a) f k (suc at) (acc ++ (length l ∷ l)) rest (omega arith) ∙
    (λ i. sheet_from k (y i) (append_assoc acc (length l ∷ l) (flat ls) i) e rest)))))

-- a bad line is told
pub bad-reads : (d : Draft) (bs : List ℕ) → BadLine d bs → (k at : ℕ) (acc : List ℕ) → sheet_from (suc k) at acc d bs ≡ Read.bad at
unfolding sheet_from cut_line due_line
bad-reads d bs (missing p e) k at acc = rw p (rw (e, sheet_from) refl)
bad-reads d bs (extra b bs' p e) k at acc = rw p (first (cut_line (b ∷ bs')) refl)
  where
    first : (c : Cut) → cut_line (b ∷ bs') ≡ c → sheet_from (suc k) at acc d (b ∷ bs') ≡ Read.bad at
    first Cut.nothing q = let z = cut-nothing (b ∷ bs') q in never cc
    first Cut.short q = rw (q, sheet_from) refl
    first (Cut.whole l rest) q = rw (q, sheet_from) (rw (e, due_line) refl)
bad-reads d bs (no_lf b bs' p n) k at acc = rw p (rw (nolf_short b bs' (subst NoLf p n), sheet_from) refl)
bad-reads d bs (no_form l rest p n h) k at acc = rw p (due (due_line d.due l) refl)
  where
    due : (o : Option (List ℕ)) → due_line d.due l ≡ o → sheet_from (suc k) at acc d (l ++ (newline ∷ rest)) ≡ Read.bad at
    due none q = rw (nolf_cut l rest n, sheet_from) (rw q refl)
    due (some xs) q = absurd (h xs (due_short d.due l xs q) (print_due d.due l xs q))

pub unfit-reads : (d : Draft) (bs : List ℕ) → UnfitLine d bs → (k at : ℕ) (acc : List ℕ) → sheet_from (suc k) at acc d bs ≡ Read.unfit at
unfolding sheet_from
unfit-reads d bs (no_fit xs rest p e s f) k at acc =
    rw p (rw (cut_print d.due xs rest s, sheet_from) (rw (due_print d.due xs e s) (rw (accept-refuses d xs f) refl)))

-- a refusal after lines in order
pub stops_read : (P : Draft → List ℕ → Type 0) (r : ℕ → Read) → ((d : Draft) (bs : List ℕ) → P d bs → (k at : ℕ) (acc : List ℕ) → sheet_from (suc k) at acc d bs ≡ r at) →
    (bs : List ℕ) (n : ℕ) → length bs ≤ max_bytes → Stops P start bs n → read_sheet bs ≡ r n
unfolding read_sheet
stops_read P r each bs n o s =
    let l = ap (λ (x : List ℕ). length x) s.bytes ∙ length-append (print_from start s.before) s.rest in
    let g = print_long start s.before in
    let h = flat-long s.before in
    rw (le-leb (length bs) max_bytes o, read_sheet)
    (ap (λ (x : List ℕ). sheet_from (suc (length bs)) 0 [] start x) s.bytes ∙
    (front_reads s.in_order s.in_form (suc (length bs)) (suc (length bs - length s.before)) 0 [] s.rest (omega arith) ∙
    (each s.draft s.rest s.refused (length bs - length s.before) (0 + length s.before) (flat s.before) ∙ ap r (let c = s.count in omega arith))))

-- the sheet of a table is read
pub sheet_read : (bs : List ℕ) (t : Table) → SheetOf bs t → read_sheet bs ≡ Read.good (flat (lines_of t)) (finished t)
sheet_read bs t s =
    subst (λ x. read_sheet x ≡ Read.good (flat (lines_of t)) (finished t)) (sym s.printed)
    (table_read t s.in_range (subst (λ (x : List ℕ). length x ≤ max_bytes) s.printed s.not_over))

-- ---- the theorems

-- the relation allows no other outcome
pub only : (bs : List ℕ) (room : ℕ) (o : ℕ × ℕ) → Reads bs room o → outcome bs room ≡ o
unfolding outcome read_sheet
only bs room o (Reads.over h) = rw (lt-leb (length bs) max_bytes h, outcome) refl
only bs room o (Reads.bad n l s) = rw (stops_read BadLine (λ x. Read.bad x) bad-reads bs n l s, outcome) refl
only bs room o (Reads.unfit n l s) = rw (stops_read UnfitLine (λ x. Read.unfit x) unfit-reads bs n l s, outcome) refl
only bs room o (Reads.short t s h) = rw (sheet_read bs t s, outcome) (rw (lt-leb (length (flat (lines_of t))) room h) refl)
only bs room o (Reads.good t s h) = rw (sheet_read bs t s, outcome) (rw (le-leb (length (flat (lines_of t))) room h) refl)

-- any two outcomes that the relation allows are equal
pub unique : (bs : List ℕ) (room : ℕ) (o o' : ℕ × ℕ) → Reads bs room o → Reads bs room o' → o ≡ o'
unique bs room o o' r r' = sym (only bs room o r) ∙ only bs room o' r'

told_reads : (bs : List ℕ) (room : ℕ) → length bs ≤ max_bytes → (r : Read) → read_sheet bs ≡ r → Told start bs 0 r → Reads bs room (outcome bs room)
unfolding outcome Told
told_reads bs room l Read.over p t = absurd t
told_reads bs room l (Read.bad n) p (i, e, s) =
    let q : i ≡ n = omega arith in
    rw (p, outcome) (Reads.bad n l (subst (λ x. Stops BadLine start bs x) q s))
told_reads bs room l (Read.unfit n) p (i, e, s) =
    let q : i ≡ n = omega arith in
    rw (p, outcome) (Reads.unfit n l (subst (λ x. Stops UnfitLine start bs x) q s))
told_reads bs room l (Read.good ns d) p t = at (leb (length ns) room) refl
  where
    its : ns ≡ flat (lines_of (table_of d))
    its = (read_fits ns d (print-read bs ns d p).1).0.its_numbers

    sheet : SheetOf bs (table_of d)
    sheet = record {
      in_range = (read_fits ns d (print-read bs ns d p).1).0.in_range;
      printed = sym (print-read bs ns d p).0 ∙ ap print its;
      not_over = l;
    }

    at : (b : Bool) → leb (length ns) room ≡ b → Reads bs room (outcome bs room)
    at true e =
        rw (p, outcome) (rw e (subst (λ x. Reads bs room (0, length x)) (sym its)
        (Reads.good (table_of d) sheet (subst (λ (x : List ℕ). length x ≤ room) its (leb-true (length ns) room e)))))
    at false e =
        rw (p, outcome) (rw e (subst (λ x. Reads bs room (13, length x)) (sym its)
        (Reads.short (table_of d) sheet (subst (λ (x : List ℕ). room < length x) its (leb-false (length ns) room e)))))

-- the relation holds of the executable outcome: there is one for every sheet and every slice
pub reads : (bs : List ℕ) (room : ℕ) → Reads bs room (outcome bs room)
unfolding outcome read_sheet
reads bs room = at (leb (length bs) max_bytes) refl
  where
    at : (b : Bool) → leb (length bs) max_bytes ≡ b → Reads bs room (outcome bs room)
    at true p = told_reads bs room (leb-true (length bs) max_bytes p) (read_sheet bs) refl (rw (p, read_sheet) (tell (suc (length bs)) 0 [] start bs (omega arith)))
    at false p = rw (p, outcome) (Reads.over (leb-false (length bs) max_bytes p))
