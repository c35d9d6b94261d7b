-- The reader finds a table exactly on the sheets that are printed: with numbers ns it answers exactly if the lines of ns fit and the bytes are
-- `print ns`.
use Rattle.std.specs.Prelude.{ℕ, zero, suc, ◌≤◌, ◌<◌, ◌≡◌, refl, Bool, true, false, ◌↔◌, List, [], ◌∷◌, ◌++◌, length, leb}
use Rattle.std.proofs.Common.{arith, sym, ap, ◌∙◌, subst, append_assoc, append-nil, length-append, leb-true, le-leb}
use Rattle.std.proofs.Math.Option.{Option, none, some}
use Rattle.theory.specs.Table.{Table, Fits}
use Rattle.lines.specs.Basics.{All, all_head, all_tail, never, impossible}
use Rattle.lines.specs.Lines.{is_end, Draft, start, next, accept, Cut, Lined, read_numbers, flat, table_of, Runs, ends, takes}
use Rattle.lines.specs.Lines.Numbers.{accept-says, accept-holds, fits-due, read_runs, runs_read, lines-flat, flat-long}
use Rattle.lines.specs.Ranges.{InRange, FitLines, lines_of, finished}
use Rattle.lines.specs.Ranges.Exact.{run_table, table_run}
use Rattle.lines.specs.Ranges.Fitting.{read_fits, read_fit}
use Rattle.lines.specs.Ranges.Small.{lines_small}
use Rattle.sheet.specs.Sheet.{newline, due_line, cut_line, Read, sheet_from, read_sheet, print_line, print_from, print, Short}
use Rattle.lines.specs.Limits.{max_bytes}
use Rattle.sheet.specs.Sheet.Forms.{numbers_long, due_print, print_due, cut_print, cut-nothing, cut-whole}

-- ---- from the reader to lines

end_says : (ns ms : List ℕ) (d e : Draft) (b : Bool) (at : ℕ) → elim b as (λ x. Read) [ true ↦ Read.good ns d | false ↦ Read.bad at ] ≡ Read.good ms e →
    (b ≡ true) × (ns ≡ ms) × (d ≡ e)
end_says ns ms d e true at h = (refl, cc, cc)
end_says ns ms d e false at h = never cc

-- what the reader found from a draft on: lines that run, of which the bytes are the print and the numbers are added
pub record Found (acc : List ℕ) (d : Draft) (bs ns : List ℕ) (e : Draft) : Type 0 where
  pub its_lines : List (List ℕ)
  pub its_bytes : bs ≡ print_from d its_lines
  pub its_numbers : ns ≡ acc ++ flat its_lines
  pub its_run : Runs d its_lines e

-- one line more
found_more : (acc : List ℕ) (d : Draft) (bs ns : List ℕ) (e : Draft) (l rest xs : List ℕ) (f : Draft) → cut_line bs ≡ Cut.whole l rest →
    due_line d.due l ≡ some xs → accept d xs ≡ some f → Found (acc ++ (length xs ∷ xs)) f rest ns e → Found acc d bs ns e
unfolding print_from flat
found_more acc d bs ns e l rest xs f p q r i =
    let (y, x) = accept-says d f xs r in
    record {
      its_lines = xs ∷ i.its_lines;
      its_bytes =
          cut-whole bs l rest p ∙
          (λ j. print_due d.due l xs q j ++ (newline ∷ (i.its_bytes ∙ ap (λ c. print_from c i.its_lines) (sym x)) j));
      its_numbers = i.its_numbers ∙ append_assoc acc (length xs ∷ xs) (flat i.its_lines);
      its_run = takes y (subst (λ c. Runs c i.its_lines e) (sym x) i.its_run);
    }

pub found : (k at : ℕ) (acc : List ℕ) (d : Draft) (bs ns : List ℕ) (e : Draft) → sheet_from k at acc d bs ≡ Read.good ns e → Found acc d bs ns e
unfolding sheet_from print_from flat
found zero at acc d bs ns e h = never cc
found (suc k) at acc d bs ns e h = first (cut_line bs) refl (λ acc f rest. found k (suc at) acc f rest ns e)
  where
    first : (c : Cut) → cut_line bs ≡ c → ((acc : List ℕ) (f : Draft) (rest : List ℕ) → sheet_from k (suc at) acc f rest ≡ Read.good ns e → Found acc f rest ns e) →
        Found acc d bs ns e
    first Cut.nothing p ih =
        let (q, s, u) = end_says acc ns d e (is_end d.due) at (rw (p, sheet_from) at h) in
        record {
          its_lines = [];
          its_bytes = cut-nothing bs p;
          its_numbers = sym s ∙ sym (append-nil acc);
          its_run = subst (λ f. Runs d [] f) u (ends q);
        }
    first Cut.short p ih = let g : ◌≡◌ {A = Read} (Read.bad at) (Read.good ns e) = rw (p, sheet_from) at h in never cc
    first (Cut.whole l rest) p ih = due (due_line d.due l) refl
      where
        due : (o : Option (List ℕ)) → due_line d.due l ≡ o → Found acc d bs ns e
        due none q = let g : ◌≡◌ {A = Read} (Read.bad at) (Read.good ns e) = rw q at (rw (p, sheet_from) at h) in never cc
        due (some xs) q = taken (accept d xs) refl
          where
            taken : (o : Option Draft) → accept d xs ≡ o → Found acc d bs ns e
            taken none r = let g : ◌≡◌ {A = Read} (Read.unfit at) (Read.good ns e) = rw r at (rw q at (rw (p, sheet_from) at h)) in never cc
            taken (some f) r = found_more acc d bs ns e l rest xs f p q r (ih (acc ++ (length xs ∷ xs)) f rest (rw r at (rw q at (rw (p, sheet_from) at h))))

-- ---- from lines to the reader

run_sheet : {d e : Draft} {ls : List (List ℕ)} → Runs d ls e → All Short ls → (k at : ℕ) (acc : List ℕ) → length ls < k →
    sheet_from k at acc d (print_from d ls) ≡ Read.good (acc ++ flat ls) e
unfolding sheet_from print_from flat cut_line
run_sheet r a zero at acc h = impossible (omega arith)
run_sheet (ends {d = d} p) a (suc k) at acc h = rw (p, sheet_from) (ap (λ (x : List ℕ). Read.good x d) (sym (append-nil acc)))
run_sheet (takes {d = d} {e = e} {l = l} {ls = ls} p r) a (suc k) at acc h =
    rw (cut_print d.due l (print_from (next d l) ls) (all_head Short a), sheet_from)
    (rw (due_print d.due l (fits-due d l p) (all_head Short a))
    (rw (accept-holds d l p)
    (run_sheet r (all_tail Short a) k (suc at) (acc ++ (length l ∷ l)) (omega arith) ∙
    ap (λ (x : List ℕ). Read.good x e) (append_assoc acc (length l ∷ l) (flat ls)))))

-- a sheet is at least as long as its numbers
pub print_long : (d : Draft) (ls : List (List ℕ)) → length (flat ls) ≤ length (print_from d ls)
unfolding print_from flat print_line
print_long d [] = omega arith
print_long d (l ∷ ls) = let h = print_long (next d l) ls in let k = numbers_long l in simp length-append (omega arith)

-- the numbers of lines that run from the start are short
run_short : {e : Draft} {ls : List (List ℕ)} → Runs start ls e → All Short ls
run_short r =
    let (t, q, h, u) = run_table r in
    subst (λ x. All Short x) (sym q) (λ l m n i. let s = lines_small t h l m n i in omega arith)

pub print-flat : (ls : List (List ℕ)) → print (flat ls) ≡ print_from start ls
unfolding print
print-flat ls = ap (λ (x : List (List ℕ)). print_from start x) (lines-flat ls)

-- ---- the theorems

-- the sheet of numbers whose lines fit is read, and gives these numbers
pub read_print : (ns : List ℕ) (d : Draft) → read_numbers ns ≡ Lined.fine d → length (print ns) ≤ max_bytes → read_sheet (print ns) ≡ Read.good ns d
unfolding read_sheet
read_print ns d e o =
    let (ls, p, r, _) = read_runs ns d e in
    let b : print ns ≡ print_from start ls = ap print p ∙ print-flat ls in
    let f = flat-long ls in
    let g = print_long start ls in
    rw (le-leb (length (print ns)) max_bytes o, read_sheet)
    (rw b (run_sheet r (run_short r) (suc (length (print_from start ls))) 0 [] (omega arith) ∙ ap (λ (x : List ℕ). Read.good x d) (sym p)))

-- a sheet that is read is the print of its numbers, whose lines fit
pub print-read : (bs ns : List ℕ) (d : Draft) → read_sheet bs ≡ Read.good ns d → (print ns ≡ bs) × (read_numbers ns ≡ Lined.fine d) × (length bs ≤ max_bytes)
unfolding read_sheet
print-read bs ns d e = at (leb (length bs) max_bytes) refl
  where
    at : (b : Bool) → leb (length bs) max_bytes ≡ b → (print ns ≡ bs) × (read_numbers ns ≡ Lined.fine d) × (length bs ≤ max_bytes)
    at false p = let g : ◌≡◌ {A = Read} Read.over (Read.good ns d) = rw (p, read_sheet) at e in never cc
    at true p =
        let o = leb-true (length bs) max_bytes p in
        let i = found (suc (length bs)) 0 [] start bs ns d (rw (p, read_sheet) at e) in
        let ls : List (List ℕ) = i.its_lines in
        let g = print_long start ls in
        let l = ap (λ (x : List ℕ). length x) i.its_bytes in (
          ap print i.its_numbers ∙ print-flat ls ∙ sym i.its_bytes,
          rw i.its_numbers (runs_read i.its_run (omega arith)),
          o,
        )

-- both at once
pub exact : (bs ns : List ℕ) (d : Draft) → (read_sheet bs ≡ Read.good ns d) ↔ ((print ns ≡ bs) × (read_numbers ns ≡ Lined.fine d) × (length bs ≤ max_bytes))
exact bs ns d = (
  print-read bs ns d,
  λ h. subst (λ x. read_sheet x ≡ Read.good ns d) h.0 (read_print ns d h.1 (subst (λ (x : List ℕ). length x ≤ max_bytes) (sym h.0) h.2)),
)

-- the table of a sheet that is read: it fits, and the numbers are those of its lines
pub read_table : (bs ns : List ℕ) (d : Draft) → read_sheet bs ≡ Read.good ns d → FitLines ns (table_of d) × Fits (table_of d)
read_table bs ns d e = let r = (print-read bs ns d e).1 in ((read_fits ns d r).0, read_fit ns d r)

-- the sheet of a table within the ranges, if it is no more than 60,000 bytes, is read and gives that table
pub table_read : (t : Table) → InRange t → length (print (flat (lines_of t))) ≤ max_bytes →
    read_sheet (print (flat (lines_of t))) ≡ Read.good (flat (lines_of t)) (finished t)
table_read t h o =
    let l = print_long start (lines_of t) in
    let e = ap (λ (x : List ℕ). length x) (print-flat (lines_of t)) in
    read_print (flat (lines_of t)) (finished t) (runs_read (table_run t h) (omega arith)) o
