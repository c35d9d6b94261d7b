-- Sizes of sheets: a sheet has as many LFs as lines, and at least twice as many bytes as numbers. So no number of a table lacks room where the
-- numbers are at least half the bytes.
use Rattle.std.specs.Prelude.{ℕ, suc, ◌*◌, ◌≤◌, ◌≡◌, refl, false, ◌⊎◌, List, [], ◌∷◌, ◌++◌, length, eqb, cond, count_by}
use Rattle.std.proofs.Common.{arith, sym, ap, ◌∙◌, inl, inr, length-append, ne_eqb}
use Rattle.std.proofs.lemmas.Bool.{false≢true}
use Rattle.std.proofs.lemmas.List.Sums.{sum_by-cons}
use mathlib.Core.List.Memᴰ.{head as Mem·head}
use mathlib.Core.List.Memᴰ.{tail as Mem·tail}
use Rattle.theory.specs.Table.{Table}
use Rattle.lines.specs.Basics.{All, all_head, all_tail}
use Rattle.lines.specs.Limits.{max_bytes}
use Rattle.lines.specs.Lines.{Due, Draft, start, key, is_end, next, flat, Runs, ends, takes}
use Rattle.lines.specs.Lines.Numbers.{fits-due}
use Rattle.lines.specs.Ranges.{lines_of}
use Rattle.lines.specs.Ranges.Exact.{table_run}
use Rattle.lines.specs.Ranges.Small.{lines_small}
use Rattle.sheet.specs.Sheet.{newline, unwords, print_numbers, print_line, print_from, Short, NoLf}
use Rattle.sheet.specs.Sheet.Numerals.{digits-some}
use Rattle.sheet.specs.Sheet.Forms.{cut_print, cut_line-nolf}
use Rattle.sheet.specs.Sheet.Exact.{print-flat}
use Rattle.sheet.specs.Reads.{SheetOf}
use Rattle.input.specs.Box.{Box, small_box, large_box, Input, numbers_of}

-- the number of LFs
abbrev pub line_count : List ℕ → ℕ
line_count bs = count_by (λ b. eqb b newline) bs

-- ---- lines

-- a line's LF is its only one
count_line : (l rest : List ℕ) → NoLf l → line_count (l ++ (newline ∷ rest)) ≡ suc (line_count rest)
count_line [] rest n = let h = sum_by-cons (λ b. cond (eqb b newline) 1 0) newline rest in omega arith
count_line (c ∷ l) rest n =
    let h = sum_by-cons (λ b. cond (eqb b newline) 1 0) c (l ++ (newline ∷ rest)) in
    let k = rw (ne_eqb c newline (n c (Mem·head refl))) at h in
    omega (arith, count_line l rest (λ x m. n x (Mem·tail m)))

count_lines : (d : Draft) (ls : List (List ℕ)) → All Short ls → line_count (print_from d ls) ≡ length ls
unfolding print_from
count_lines d [] h = refl
count_lines d (l ∷ ls) h =
    let s = all_head Short h in
    let n = cut_line-nolf (print_line d.due l ++ (newline ∷ [])) (print_line d.due l) [] (cut_print d.due l [] s) in
    count_line (print_line d.due l) (print_from (next d l) ls) n ∙ ap suc (count_lines (next d l) ls (all_tail Short h))

-- the sheet of a table has as many LFs as lines
pub sheet-lines : (sheet : List ℕ) (t : Table) → SheetOf sheet t → line_count sheet ≡ length (lines_of t)
sheet-lines sheet t s =
    ap line_count (s.printed ∙ print-flat (lines_of t)) ∙
    count_lines start (lines_of t) (λ l m x k. let w = lines_small t s.in_range l m x k in omega arith)

-- ---- numbers

numbers_twice : (ns : List ℕ) → 2 * length ns ≤ suc (length (print_numbers ns))
unfolding print_numbers unwords
numbers_twice [] = omega arith
numbers_twice (n ∷ []) = let k = digits-some n in omega arith
numbers_twice (n ∷ (m ∷ ns)) = let h = numbers_twice (m ∷ ns) in let k = digits-some n in simp length-append (omega arith)

key-long : (w : Due) → is_end w ≡ false → 2 ≤ length (key w)
unfolding key is_end
key-long Due.terms e = omega arith
key-long Due.nonterms e = omega arith
key-long Due.rules e = omega arith
key-long Due.rule e = omega arith
key-long Due.states e = omega arith
key-long Due.state e = omega arith
key-long Due.item e = omega arith
key-long Due.go e = omega arith
key-long Due.end e = absurd (false≢true (sym e))

lines_twice : {d e : Draft} {ls : List (List ℕ)} → Runs d ls e → 2 * length (flat ls) ≤ length (print_from d ls)
unfolding flat print_from print_line
lines_twice (ends p) = omega arith
lines_twice (takes {d = d} {l = l} {ls = ls} f r) =
    let h = lines_twice r in
    let n = numbers_twice l in
    let k = key-long d.due (fits-due d l f) in
    simp length-append (omega arith)

-- the sheet of a table has at least twice as many bytes as the table has numbers
pub sheet-twice : (sheet : List ℕ) (t : Table) → SheetOf sheet t → 2 * length (numbers_of t) ≤ length sheet
sheet-twice sheet t s =
    let e = ap (λ (x : List ℕ). length x) (s.printed ∙ print-flat (lines_of t)) in
    let h = lines_twice (table_run t s.in_range) in
    omega arith

-- ---- room for the numbers

-- the numbers are at least half the bytes, of an input or of a sheet
abbrev pub Roomy : Box → Type 0
Roomy b = (b.bytes ≤ 2 * b.numbers) ⊎ (max_bytes ≤ 2 * b.numbers)

pub small_roomy : Roomy small_box
unfolding small_box
small_roomy = inl (omega arith)

pub large_roomy : Roomy large_box
unfolding large_box
large_roomy = inr (omega arith)

-- then the numbers of every table have room whose sheet is in an input
pub always_room : {b : Box} {bs sheet last : List ℕ} → Roomy b → Input b bs sheet last → (t : Table) → SheetOf sheet t →
    length (numbers_of t) ≤ b.numbers
always_room {b} {bs} {sheet} {last} r i t s = at r
  where
    twice : 2 * length (numbers_of t) ≤ length sheet
    twice = sheet-twice sheet t s

    at : Roomy b → length (numbers_of t) ≤ b.numbers
    at (inl h) =
        let q = ap (λ (x : List ℕ). length x) i.its_lines.joined ∙ length-append sheet last in
        omega (arith, twice, i.not_over)
    at (inr h) = omega (arith, twice, s.not_over)
