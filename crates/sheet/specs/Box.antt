-- The small box sheet of document 01, its literal bytes: it is read, its numbers are these, and its table is the theory's box table.
use Rattle.std.specs.Prelude.{ℕ, ◌≤◌, ◌≡◌, refl, List, [], ◌∷◌, length}
use Prim.Native.String.{String}
use Rattle.std.proofs.Common.{le-leb}
use Rattle.theory.specs.Example.Box.{box}
use Rattle.lines.specs.Ranges.{finished}
use Rattle.sheet.specs.Sheet.{Read, read_sheet, outcome, in_front, slice_after}
use Rattle.sheet.specs.Quoted.{text}
use Rattle.sheet.specs.Reads.{ReadsInto}
use Rattle.sheet.specs.Reads.Slices.{computed}

-- the lines of the sheet, without the tail line
unfoldable pub box_lines : List String
box_lines =
    "terms=3" ∷
    "nonterms=3" ∷
    "rules=5" ∷
    "rule=4 0 5 1" ∷
    "rule=5 5 6" ∷
    "rule=5 6" ∷
    "rule=6 2" ∷
    "rule=6 4" ∷
    "states=9" ∷
    "state=2 2" ∷
    "item=5 0 3" ∷
    "item=0 0 0 1 2 3" ∷
    "go=0 1" ∷
    "go=4 2" ∷
    "state=6 5" ∷
    "item=0 1 0 1 2 3" ∷
    "item=1 0 0 1 2" ∷
    "item=2 0 0 1 2" ∷
    "item=3 0 0 1 2" ∷
    "item=4 0 0 1 2" ∷
    "item=0 0 0 1 2 3" ∷
    "go=0 1" ∷
    "go=2 3" ∷
    "go=4 4" ∷
    "go=5 5" ∷
    "go=6 6" ∷
    "state=1 0" ∷
    "item=5 1 3" ∷
    "state=1 0" ∷
    "item=3 1 0 1 2" ∷
    "state=1 0" ∷
    "item=4 1 0 1 2" ∷
    "state=5 5" ∷
    "item=0 2 0 1 2 3" ∷
    "item=1 1 0 1 2" ∷
    "item=3 0 0 1 2" ∷
    "item=4 0 0 1 2" ∷
    "item=0 0 0 1 2 3" ∷
    "go=0 1" ∷
    "go=1 7" ∷
    "go=2 3" ∷
    "go=4 4" ∷
    "go=6 8" ∷
    "state=1 0" ∷
    "item=2 1 0 1 2" ∷
    "state=1 0" ∷
    "item=0 3 0 1 2 3" ∷
    "state=1 0" ∷
    "item=1 2 0 1 2" ∷ []

-- the sheet
unfoldable pub box_sheet : List ℕ
unfolding text box_lines
box_sheet = text box_lines

-- for each line the count of its numbers, then the numbers
unfoldable pub box_numbers : List ℕ
box_numbers =
    1 ∷ 3 ∷
    1 ∷ 3 ∷
    1 ∷ 5 ∷
    4 ∷ 4 ∷ 0 ∷ 5 ∷ 1 ∷
    3 ∷ 5 ∷ 5 ∷ 6 ∷
    2 ∷ 5 ∷ 6 ∷
    2 ∷ 6 ∷ 2 ∷
    2 ∷ 6 ∷ 4 ∷
    1 ∷ 9 ∷
    2 ∷ 2 ∷ 2 ∷
    3 ∷ 5 ∷ 0 ∷ 3 ∷
    6 ∷ 0 ∷ 0 ∷ 0 ∷ 1 ∷ 2 ∷ 3 ∷
    2 ∷ 0 ∷ 1 ∷
    2 ∷ 4 ∷ 2 ∷
    2 ∷ 6 ∷ 5 ∷
    6 ∷ 0 ∷ 1 ∷ 0 ∷ 1 ∷ 2 ∷ 3 ∷
    5 ∷ 1 ∷ 0 ∷ 0 ∷ 1 ∷ 2 ∷
    5 ∷ 2 ∷ 0 ∷ 0 ∷ 1 ∷ 2 ∷
    5 ∷ 3 ∷ 0 ∷ 0 ∷ 1 ∷ 2 ∷
    5 ∷ 4 ∷ 0 ∷ 0 ∷ 1 ∷ 2 ∷
    6 ∷ 0 ∷ 0 ∷ 0 ∷ 1 ∷ 2 ∷ 3 ∷
    2 ∷ 0 ∷ 1 ∷
    2 ∷ 2 ∷ 3 ∷
    2 ∷ 4 ∷ 4 ∷
    2 ∷ 5 ∷ 5 ∷
    2 ∷ 6 ∷ 6 ∷
    2 ∷ 1 ∷ 0 ∷
    3 ∷ 5 ∷ 1 ∷ 3 ∷
    2 ∷ 1 ∷ 0 ∷
    5 ∷ 3 ∷ 1 ∷ 0 ∷ 1 ∷ 2 ∷
    2 ∷ 1 ∷ 0 ∷
    5 ∷ 4 ∷ 1 ∷ 0 ∷ 1 ∷ 2 ∷
    2 ∷ 5 ∷ 5 ∷
    6 ∷ 0 ∷ 2 ∷ 0 ∷ 1 ∷ 2 ∷ 3 ∷
    5 ∷ 1 ∷ 1 ∷ 0 ∷ 1 ∷ 2 ∷
    5 ∷ 3 ∷ 0 ∷ 0 ∷ 1 ∷ 2 ∷
    5 ∷ 4 ∷ 0 ∷ 0 ∷ 1 ∷ 2 ∷
    6 ∷ 0 ∷ 0 ∷ 0 ∷ 1 ∷ 2 ∷ 3 ∷
    2 ∷ 0 ∷ 1 ∷
    2 ∷ 1 ∷ 7 ∷
    2 ∷ 2 ∷ 3 ∷
    2 ∷ 4 ∷ 4 ∷
    2 ∷ 6 ∷ 8 ∷
    2 ∷ 1 ∷ 0 ∷
    5 ∷ 2 ∷ 1 ∷ 0 ∷ 1 ∷ 2 ∷
    2 ∷ 1 ∷ 0 ∷
    6 ∷ 0 ∷ 3 ∷ 0 ∷ 1 ∷ 2 ∷ 3 ∷
    2 ∷ 1 ∷ 0 ∷
    5 ∷ 1 ∷ 2 ∷ 0 ∷ 1 ∷ 2 ∷ []

-- the sheet is read, and gives these numbers and this table
pub box-sheet : read_sheet box_sheet ≡ Read.good box_numbers (finished box)
unfolding read_sheet box_sheet box_numbers box
box-sheet = refl

-- in any slice with room for them
pub box_reads : (before : List ℕ) → length box_numbers ≤ length before → ReadsInto box_sheet before (0, length box_numbers) (in_front box_numbers before)
unfolding outcome slice_after
box_reads before h =
    let b = le-leb (length box_numbers) (length before) h in
    computed box_sheet before (0, length box_numbers) (in_front box_numbers before)
    (rw (box-sheet, outcome) (rw b refl)) (rw (box-sheet, slice_after) (rw b refl))

-- how many they are
pub box_count : length box_numbers ≡ 205
unfolding box_numbers
box_count = refl
