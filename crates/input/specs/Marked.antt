-- Document 01's marked tails P1 to P12 and its other numbers: one list of cases, and one theorem.
use Rattle.std.specs.Prelude.{ℕ, suc, ◌≡◌, Bool, true, false, List, [], ◌∷◌, ◌++◌, replicate}
use Prim.Native.String.{String}
use Rattle.std.proofs.Math.Option.{none, some}
use Rattle.sheet.specs.Sheet.{newline, print_numbers, after}
use Rattle.sheet.specs.Quoted.{ascii, text}
use Rattle.sheet.specs.Box.{box_lines as box}
use Rattle.sheet.specs.Tail.{tail_line}
use Rattle.judge.specs.declared.Judgement.{Judgement}
use Rattle.input.specs.Box.{small_box, Boxes}

-- ---- sheets

-- the one text is the other
unfoldable pub same : String → String → Bool
unfolding ascii after
same l k = elim (after (ascii l) (ascii k)) [ none ↦ false | some more ↦ elim more [ [] ↦ true | b ∷ bs ↦ false ] ]

-- the lines with one of them made another
unfoldable pub made : String → String → List String → List String
unfolding same
made old new [] = []
made old new (l ∷ ls) = elim (same l old) [ true ↦ new ∷ made old new ls | false ↦ l ∷ made old new ls ]

-- how often a line stands among them
unfoldable pub times : String → List String → ℕ
unfolding same
times l [] = 0
times l (k ∷ ks) = elim (same l k) [ true ↦ suc (times l ks) | false ↦ times l ks ]

-- the smallest sheet that passes
unfoldable pub tiny : List String
tiny =
    "terms=1" ∷
    "nonterms=1" ∷
    "rules=1" ∷
    "rule=2 0" ∷
    "states=3" ∷
    "state=2 2" ∷
    "item=1 0 1" ∷
    "item=0 0 1" ∷
    "go=0 1" ∷
    "go=2 2" ∷
    "state=1 0" ∷
    "item=0 1 1" ∷
    "state=1 0" ∷
    "item=1 1 1" ∷ []

-- a sheet that passes, with four states: the start symbol is two tokens
unfoldable pub pair : List String
pair =
    "terms=1" ∷
    "nonterms=1" ∷
    "rules=1" ∷
    "rule=2 0 0" ∷
    "states=4" ∷
    "state=2 2" ∷
    "item=1 0 1" ∷
    "item=0 0 1" ∷
    "go=0 1" ∷
    "go=2 2" ∷
    "state=1 1" ∷
    "item=0 1 1" ∷
    "go=0 3" ∷
    "state=1 0" ∷
    "item=1 1 1" ∷
    "state=1 0" ∷
    "item=0 2 1" ∷ []

-- ---- the cases

-- an input and what comes back
pub record Case : Type 0 where
  pub input : List ℕ
  pub back : Judgement

-- an input; answer, value and steps
abbrev pub gives : List ℕ → ℕ → ℕ → ℕ → Case
gives bs a v k = record { input = bs; back = record { answer = a; value = v; steps = k } }

-- a sheet and a last line; answer, value and steps
unfoldable pub case : List String → String → ℕ → ℕ → ℕ → Case
unfolding text
case ls tail = gives (text (ls ++ (tail ∷ [])))

-- a sheet and a tail of one token so many times; answer, value and steps
unfoldable pub many : List String → ℕ → ℕ → ℕ → ℕ → ℕ → Case
unfolding text print_numbers
many ls n x = gives (text ls ++ tail_line (replicate n x))

-- the cases
unfoldable pub cases : List Case
unfolding box made tiny pair case many
cases =
    -- P1 to P9, in order
    case box "tail=" 0 0 0 ∷
    case box "tail=0" 0 1 0 ∷
    case box "tail=2 1" 0 2 3 ∷
    case box "tail=0 1" 1 1 0 ∷
    case box "tail=1 1" 0 2 4 ∷
    case box "tail=1 2 1" 0 3 6 ∷
    case box "tail=0 2 1" 0 3 2 ∷
    case box "tail=0 2 1 0" 0 4 6 ∷
    case box "tail=3" 31 0 0 ∷
    -- P10 to P12, in order
    case (made "go=1 7" "go=1 8" box) "tail=2 1" 22 0 0 ∷
    case (made "item=3 1 0 1 2" "item=3 1 0 1" box) "tail=2 1" 22 0 0 ∷
    case (made "item=5 1 3" "item=5 1 0 3" box) "tail=2 1" 22 0 0 ∷
    -- a wider set still passes
    case (made "item=3 1 0 1 2" "item=3 1 0 1 2 3" box) "tail=2 1" 0 2 3 ∷
    -- 111 tokens fit, 112 do not
    many box 111 2 0 111 221 ∷
    many box 112 2 32 8208 0 ∷
    -- no tail line: the last line is the tail line whatever it is
    gives (text tiny) 11 13 0 ∷
    -- a line after the tail line, or bytes without LF after it
    gives (text (tiny ++ ("tail=0" ∷ "tail=0" ∷ []))) 11 14 0 ∷
    gives (text (tiny ++ ("tail=0" ∷ [])) ++ ascii "0") 11 14 0 ∷
    -- no LF at the end, after a good sheet and after a bad one
    gives (text tiny ++ ascii "tail=0") 11 14 0 ∷
    gives (text (made "terms=1" "terms=0" tiny) ++ ascii "tail=0") 12 0 0 ∷
    -- no byte, or one LF alone
    gives [] 11 0 0 ∷
    gives (newline ∷ []) 11 0 0 ∷
    -- within the tail line form before range, and the whole line before the table check
    case tiny "tail=65536 00" 11 14 0 ∷
    case tiny "tail=65536" 12 14 0 ∷
    case (made "go=2 2" "go=2 1" tiny) "tail=65536" 12 14 0 ∷
    case (made "go=2 2" "go=2 1" tiny) "tail=65535" 22 0 0 ∷
    case tiny "tail=65535" 31 0 0 ∷
    -- 16,000 bytes, and one more
    gives (replicate 16000 newline) 11 0 0 ∷
    gives (replicate 16001 newline) 10 0 0 ∷
    -- a tail that takes every word of the room, and one token more
    many pair 254 0 1 2 0 ∷
    many pair 255 0 32 8224 0 ∷
    -- the most tokens that any table has room for, and that the program takes
    many tiny 339 0 1 1 0 ∷
    many tiny 340 0 32 8208 0 ∷
    many tiny 400 0 32 9648 0 ∷
    many tiny 401 0 30 400 0 ∷ []

-- ---- the theorem

-- the case's outcome is that of its input, and no other is
pub record Right (c : Case) : Type 0 where
  pub so : Boxes small_box c.input c.back
  pub no_other : (j : Judgement) → Boxes small_box c.input j → j ≡ c.back
